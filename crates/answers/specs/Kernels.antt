-- How large the numbers are that are said of a kernel: a refusal's number and offset, how many instructions there are; and
-- that long words only are never too many. Assumes nothing.
use Rattle.std.specs.Prelude.{Bool, true, false, cond, List, [], ◌∷◌, ◌⊎◌, ◌≡◌, eqb, ltb, length}
use Rattle.std.proofs.lemmas.Bool.{false≢true}
use Rattle.std.proofs.Common.{inl, inr, sym, ◌∙◌, arith}
use Rattle.std.proofs.Math.Option.{Option, none, some, none-ne-some}
use Rattle.std.proofs.Math.Path.{refl}
use Prim.Native.Nat.{ℕ, zero, suc, ◌+◌, ◌*◌, ◌/◌, ◌<◌, ◌≤◌}
use borrow.Author.Tests.{ltb-true, leb-true}
use Rattle.paper.specs.Limits.{dictionary_bytes, kernel_bytes, instruction_limit}
use Rattle.paper.specs.Dictionary.{Dictionary, dictionary_of, in_range}
use Rattle.paper.specs.Kernel.{Instr, Forms, long_only, Judged, refused, passed, judge_at, Parsed, bad, good, prepend, enter, walk, parse}
use Rattle.paper.specs.Jump.{targets_of, targets_land, first_astray, astray, with_jumps, fetch}
use Rattle.paper.specs.Calls.{sized, judged_kernel, accepted}
use Rattle.laws.specs.Places.{here, there, at, fetch-there}
use Rattle.laws.specs.Judged.{Passed, as_long, as_short, judge_passed}
use Rattle.answers.specs.Judging.{Modest, modest_number, modest_above, judged_modest}
use Rattle.laws.specs.Truth.{both_true}

-- Every instruction starts at a byte before `end`.
unfoldable pub Inside : ℕ → List Instr → Type 0
Inside end [] = Unit {0}
Inside end (i ∷ k) = (8 * i.place < end) × Inside end k

-- A kernel is refused with 1 to 12, or with 17.
abbrev pub KernelNo : ℕ → Type 0
KernelNo number = ((0 < number) × (number ≤ 12)) ⊎ (number ≡ 17)

-- What is said of a kernel: such a number and an offset up to `end`; or at most n instructions, which start before `end`.
unfoldable pub Near : ℕ → ℕ → Parsed → Type 0
Near end n (bad number offset) = KernelNo number × (offset ≤ end)
Near end n (good k) = (length k ≤ n) × Inside end k

-- How that is said of a refusal, and what it says of one and of a kernel.
pub near_bad : (end n number offset : ℕ) → KernelNo number → offset ≤ end → Near end n (bad number offset)
unfolding Near
near_bad end n number offset h g = (h, g)

pub near_refused : (end n number offset : ℕ) → Near end n (bad number offset) → (number ≤ 17) × (offset ≤ end)
unfolding Near
near_refused end n number offset h = (at_most h.0, h.1)
  where
    at_most : KernelNo number → number ≤ 17
    at_most (inl low) = omega (arith, low.1)
    at_most (inr last) = omega arith

pub near_number : (end n number offset : ℕ) → Near end n (bad number offset) → KernelNo number
unfolding Near
near_number end n number offset h = h.0

pub near_few : (end n : ℕ) (k : List Instr) → Near end n (good k) → length k ≤ n
unfolding Near
near_few end n k h = h.0

-- No instruction at all; a choice; one instruction more.
near_none : (end n : ℕ) → Near end n (good [])
unfolding Near Inside
near_none end n = (omega arith, tt)

near_cond : (end n : ℕ) (b : Bool) (x y : Parsed) → (b ≡ true → Near end n x) → Near end n y → Near end n (cond b x y)
near_cond end n true x y h g = h refl
near_cond end n false x y h g = g

near_prepend : (end n : ℕ) (i : Instr) (q : Parsed) → 8 * i.place < end → Near end n q → Near end (suc n) (prepend i q)
unfolding Near Inside
near_prepend end n i (bad number offset) h g = g
near_prepend end n i (good k) h g = (omega (arith, g.0), (h, g.1))

-- ---- the walk

module _ (judge : ℕ → Judged) (end : ℕ) (modest : (from : ℕ) → Modest (judge from)) where
  -- One instruction and what follows it.
  near_enter : (n from : ℕ) (v : Judged) → Modest v → from < end → ((m : ℕ) → Near end n (walk judge end n m))
      → Near end (suc n) (enter from v (walk judge end n))
  near_enter n from (refused number) m h ih =
      let few = modest_number number m in near_bad end (suc n) number from (inl (modest_above number m, omega arith)) (omega arith)
  near_enter n from (passed size w) m h ih =
      near_prepend end n (record { place = from / 8; size = size; word = w }) _ (omega arith) (ih (from + 8 * size))

  -- The walk names no byte past the end, and lists no more instructions than it may.
  near_walk : (n from : ℕ) → Near end n (walk judge end n from)
  unfolding walk
  near_walk zero from =
      near_cond end zero (ltb from end) (bad 17 from) (good [])
      (λ e. near_bad end zero 17 from (inr refl) (let h = ltb-true from end e in omega arith)) (near_none end zero)
  near_walk (suc n) from =
      near_cond end (suc n) (ltb from end) (enter from (judge from) (walk judge end n)) (good [])
      (λ e. near_enter n from (judge from) (modest from) (ltb-true from end e) (near_walk n)) (near_none end (suc n))

-- ---- the jumps

-- A branch that leads nowhere is named by the byte at which it starts.
near_astray : (end n : ℕ) (k rest : List Instr) → Near end n (good k) → Inside end rest → Near end n (astray k (first_astray k rest))
unfolding first_astray Inside
near_astray end n k [] h g = h
near_astray end n k (i ∷ rest) h g = go (targets_land k (targets_of i)) (near_astray end n k rest h g.1)
  where
    go : (b : Bool) → Near end n (astray k (first_astray k rest)) → Near end n (astray k (cond b (first_astray k rest) (some (8 * i.place))))
    go true later = later
    go false later = near_bad end n 12 (8 * i.place) (inl (omega arith, omega arith)) (omega (arith, g.0))

pub near_inside : (end n : ℕ) (k : List Instr) → Near end n (good k) → Inside end k
unfolding Near
near_inside end n k h = h.1

-- An instruction of such a kernel starts before the end.
fetched_inside : (end : ℕ) (k : List Instr) (p : ℕ) (i : Instr) → Inside end k → fetch k p ≡ some i → 8 * p < end
unfolding Inside fetch
fetched_inside end [] p i g e = absurd (none-ne-some i e)
fetched_inside end (j ∷ k) p i g e =
    elim (at j p) [
      | here h ↦ omega (arith, g.0)
      | there h ↦ fetched_inside end k p i g.1 (sym (fetch-there j k p h) ∙ e)
    ]

pub near_fetched : (end n : ℕ) (k : List Instr) (p : ℕ) (i : Instr) → Near end n (good k) → fetch k p ≡ some i → 8 * p < end
near_fetched end n k p i h e = fetched_inside end k p i (near_inside end n k h) e

-- So a kernel with its jumps judged is as near.
near_jumps : (end n : ℕ) (q : Parsed) → Near end n q → Near end n (with_jumps q)
unfolding with_jumps
near_jumps end n (bad number offset) h = h
near_jumps end n (good k) h = near_astray end n k k h (near_inside end n k h)

-- ---- a kernel as it is lent

-- A kernel of the right size is at most as long as the longest.
pub sized_most : (dictionary kernel : List ℕ) → sized dictionary kernel ≡ true → length kernel ≤ kernel_bytes
sized_most dictionary kernel e = leb-true (length kernel) kernel_bytes (both_true (eqb (length dictionary) dictionary_bytes) _ e).1

-- 2, 17 and 3 to 12 of a kernel of any length.
pub judged_near : (forms : Forms) (dictionary kernel : List ℕ) → Near (length kernel) instruction_limit (judged_kernel forms dictionary kernel)
unfolding judged_kernel parse
judged_near forms dictionary kernel =
    let D = dictionary_of dictionary in
    near_cond (length kernel) instruction_limit (in_range D) _ (bad 2 0)
    (λ _. near_jumps (length kernel) instruction_limit _
    (near_walk (judge_at forms D kernel) (length kernel) (judged_modest forms D kernel) instruction_limit 0))
    (near_bad (length kernel) instruction_limit 2 0 (inl (omega arith, omega arith)) (omega arith))

-- What lies before an end lies before a later one.
inside_more : (end more : ℕ) (k : List Instr) → end ≤ more → Inside end k → Inside more k
unfolding Inside
inside_more end more [] h g = g
inside_more end more (i ∷ k) h g = (omega (arith, g.0), inside_more end more k h g.1)

pub near_more : (end more n : ℕ) (q : Parsed) → end ≤ more → Near end n q → Near more n q
unfolding Near
near_more end more n (bad number offset) h g = (g.0, omega (arith, g.1))
near_more end more n (good k) h g = (g.0, inside_more end more k h g.1)

-- 1 too: an offset is at most the longest kernel's length, and there are at most as many instructions as a kernel may have.
pub accepted_near : (forms : Forms) (dictionary kernel : List ℕ) → Near kernel_bytes instruction_limit (accepted forms dictionary kernel)
unfolding accepted
accepted_near forms dictionary kernel =
    near_cond kernel_bytes instruction_limit (sized dictionary kernel) _ (bad 1 0)
    (λ e. near_more (length kernel) kernel_bytes instruction_limit _ (sized_most dictionary kernel e) (judged_near forms dictionary kernel))
    (near_bad kernel_bytes instruction_limit 1 0 (inl (omega arith, omega arith)) (omega arith))

-- ---- a kernel of long words

-- It is not refused with 17.
unfoldable pub Few : Parsed → Type 0
Few (bad number offset) = number ≡ 17 → ⊥
Few (good k) = Unit {0}

pub few_number : (number offset : ℕ) → Few (bad number offset) → number ≡ 17 → ⊥
unfolding Few
few_number number offset h = h

few_bad : (number offset : ℕ) → (number ≡ 17 → ⊥) → Few (bad number offset)
unfolding Few
few_bad number offset h = h

few_good : (k : List Instr) → Few (good k)
unfolding Few
few_good k = tt

few_cond : (b : Bool) (x y : Parsed) → (b ≡ true → Few x) → Few y → Few (cond b x y)
few_cond true x y h g = h refl
few_cond false x y h g = g

few_prepend : (i : Instr) (q : Parsed) → Few q → Few (prepend i q)
few_prepend i (bad number offset) h = few_bad number offset (few_number number offset h)
few_prepend i (good k) h = few_good (i ∷ k)

-- A walk over instructions of two places each that may take as many as the bytes have room for.
module _ (judge : ℕ → Judged) (end : ℕ) (modest : (from : ℕ) → Modest (judge from))
    (two : (from size w : ℕ) → from < end → judge from ≡ passed size w → size ≡ 2) where
  few_enter : (n from : ℕ) (v : Judged) → judge from ≡ v → Modest v → from < end → end ≤ from + 16 * suc n
      → ((m : ℕ) → end ≤ m + 16 * n → Few (walk judge end n m)) → Few (enter from v (walk judge end n))
  few_enter n from (refused number) e m h room ih = let low = modest_number number m in few_bad number from (λ z. omega arith)
  few_enter n from (passed size w) e m h room ih =
      let long = two from size w h e in
      few_prepend (record { place = from / 8; size = size; word = w }) _ (ih (from + 8 * size) (omega arith))

  few_walk : (n from : ℕ) → end ≤ from + 16 * n → Few (walk judge end n from)
  unfolding walk
  few_walk zero from room =
      few_cond (ltb from end) (bad 17 from) (good []) (λ e. let h = ltb-true from end e in absurd (omega arith)) (few_good [])
  few_walk (suc n) from room =
      few_cond (ltb from end) (enter from (judge from) (walk judge end n)) (good [])
      (λ e. few_enter n from (judge from) refl (modest from) (ltb-true from end e) room (few_walk n)) (few_good [])

few_jumps : (q : Parsed) → Few q → Few (with_jumps q)
unfolding with_jumps
few_jumps (bad number offset) h = h
few_jumps (good k) h = go (first_astray k k)
  where
    go : (o : Option ℕ) → Few (astray k o)
    go none = few_good k
    go (some from) = few_bad 12 from (λ z. omega arith)

-- A long word takes two places.
long_two : (D : Dictionary) (kernel : List ℕ) (from size w : ℕ) → from < length kernel → judge_at long_only D kernel from ≡ passed size w → size ≡ 2
long_two D kernel from size w h e = go size w (judge_passed long_only D kernel from h size w e)
  where
    go : (size w : ℕ) → Passed long_only D kernel from size w → size ≡ 2
    go size w (as_long room form listed legal) = refl
    go size w (as_short room form listed plain takes legal) = absurd (false≢true takes)

-- As many long words as a kernel may have fill the longest kernel.
pub long_few : (dictionary kernel : List ℕ) → Few (accepted long_only dictionary kernel)
unfolding accepted judged_kernel parse
long_few dictionary kernel =
    let D = dictionary_of dictionary in
    few_cond (sized dictionary kernel) _ (bad 1 0)
    (λ e.
    let most = sized_most dictionary kernel e in
    few_cond (in_range D) _ (bad 2 0)
    (λ _. few_jumps _
    (few_walk (judge_at long_only D kernel) (length kernel) (judged_modest long_only D kernel) (long_two D kernel) instruction_limit 0 (omega arith)))
    (few_bad 2 0 (λ z. omega arith)))
    (few_bad 1 0 (λ z. omega arith))
