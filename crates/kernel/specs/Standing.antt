-- Instructions as they stand in a kernel's bytes: what a walk that accepts has gone over, and what is at each place. Assumes nothing.
use Rattle.std.specs.Prelude.{Bool}
use Rattle.std.proofs.Math.Bool.{true, false, cond}
use mathlib.Core.List.{List, [], ◌∷◌}
use Rattle.std.proofs.Math.Option.{some, none-ne-some, some-injective}
use Rattle.std.proofs.Math.Path.{◌≡◌, refl, ap, subst}
use Rattle.std.proofs.Common.{sym, ◌∙◌, arith}
use Prim.Native.Nat.{ℕ, zero, suc, ◌+◌, ◌*◌, ◌/◌, ◌%◌, ◌<◌, ◌≤◌}
use Rattle.std.proofs.Math.Dec.{ltb}
use Rattle.std.proofs.Math.ListN.{length}
use borrow.Author.Tests.{ltb-true, ltb-false}
use Rattle.paper.specs.Bits.{number_at}
use Rattle.paper.specs.Dictionary.{Dictionary}
use Rattle.paper.specs.Expand.{is_short, expand}
use Rattle.paper.specs.Kernel.{Instr, Forms, Judged, refused, passed, judge_at, Parsed, bad, good, prepend, enter, walk}
use Rattle.paper.specs.Jump.{fetch}
use Rattle.laws.specs.Judged.{Passed, as_long, as_short, judge_passed}
use Rattle.laws.specs.Places.{here, there, at, fetch-here, fetch-there}

-- ---- one instruction's size and word, by its first eight bytes

abbrev pub size_at : List ℕ → ℕ → ℕ
size_at kernel from = cond (is_short (number_at kernel from 8)) 1 2

abbrev pub word_at : Dictionary → List ℕ → ℕ → ℕ
word_at D kernel from = cond (is_short (number_at kernel from 8)) (expand D (number_at kernel from 8)) (number_at kernel from 16)

-- Its bytes are all there.
abbrev pub Whole : List ℕ → ℕ → Type 0
Whole kernel from = from + 8 * size_at kernel from ≤ length kernel

one_or_two : (t : Bool) → (0 < cond t 1 2) × (cond t 1 2 ≤ 2)
one_or_two true = (omega arith, omega arith)
one_or_two false = (omega arith, omega arith)

pub size_some : (kernel : List ℕ) (from : ℕ) → 0 < size_at kernel from
size_some kernel from = (one_or_two (is_short (number_at kernel from 8))).0

-- These are its size and its word.
pub record Fetches (D : Dictionary) (kernel : List ℕ) (from size w : ℕ) : Type 0 where
  pub some : 0 < size
  pub few : size ≤ 2
  pub size_is : size ≡ size_at kernel from
  pub word-is : w ≡ word_at D kernel from

module _ (D : Dictionary) (kernel : List ℕ) (from : ℕ) where
  -- As the code finds them.
  pub fetches_short : (w : ℕ) → is_short (number_at kernel from 8) ≡ true → w ≡ expand D (number_at kernel from 8) → Fetches D kernel from 1 w
  fetches_short w s e = record { some = omega arith; few = omega arith; size_is = rw s; word-is = rw s e }

  pub fetches_long : (w : ℕ) → is_short (number_at kernel from 8) ≡ false → w ≡ number_at kernel from 16 → Fetches D kernel from 2 w
  fetches_long w s e = record { some = omega arith; few = omega arith; size_is = rw s; word-is = rw s e }

  pub short_room : Whole kernel from → from + 8 ≤ length kernel
  short_room h = omega (arith, size_some kernel from)

  pub long_room : is_short (number_at kernel from 8) ≡ false → Whole kernel from → from + 16 ≤ length kernel
  long_room s h = let e : size_at kernel from ≡ 2 = rw s in omega arith

-- What is known of an instruction that passed.
pub record Fits (D : Dictionary) (kernel : List ℕ) (from size w : ℕ) : Type 0 where
  pub some : 0 < size
  pub few : size ≤ 2
  pub room : from + 8 * size ≤ length kernel
  pub size_is : size_at kernel from ≡ size
  pub word-is : word_at D kernel from ≡ w

pub fits : (forms : Forms) (D : Dictionary) (kernel : List ℕ) (from size w : ℕ) → from < length kernel
    → judge_at forms D kernel from ≡ passed size w → Fits D kernel from size w
fits forms D kernel from size w inside e = go (judge_passed forms D kernel from inside size w e)
  where
    go : {size w : ℕ} → Passed forms D kernel from size w → Fits D kernel from size w
    go (as_long room form listed legal) =
        record { some = omega arith; few = omega arith; room = omega arith; size_is = rw form; word-is = rw form }
    go (as_short room form listed plain takes legal) =
        record { some = omega arith; few = omega arith; room = omega arith; size_is = rw form; word-is = rw form }

-- ---- instructions one after the other

-- The instructions k are those that stand in the bytes from `from` to the end, each of which passes.
unfoldable pub Stands : Forms → Dictionary → List ℕ → ℕ → List Instr → Type 0
Stands forms D kernel from [] = from ≡ length kernel
Stands forms D kernel from (i ∷ k) =
    (from < length kernel)
    × (i.place ≡ from / 8)
    × (judge_at forms D kernel from ≡ passed i.size i.word)
    × Stands forms D kernel (from + 8 * i.size) k

prepend-good : (i : Instr) (q : Parsed) (k : List Instr) → prepend i q ≡ good k → (r : List Instr) × (q ≡ good r) × (i ∷ r ≡ k)
prepend-good i (bad n o) k e = let z : ◌≡◌ {A = ℕ} 0 1 = cc in absurd (omega arith)
prepend-good i (good r) k e = (r, refl, cc)

module _ (forms : Forms) (D : Dictionary) (kernel : List ℕ) where
  nothing_left : (from : ℕ) → from ≤ length kernel → length kernel ≤ from → (k : List Instr) → good [] ≡ good k → Stands forms D kernel from k
  unfolding Stands
  nothing_left from le ge k e =
      let s : [] ≡ k = cc in subst (λ (k : List Instr). Stands forms D kernel from k) s (omega arith)

  -- A walk that accepts has gone over such instructions.
  pub walk-stands : (n from : ℕ) → from ≤ length kernel → (k : List Instr) → walk (judge_at forms D kernel) (length kernel) n from ≡ good k
      → Stands forms D kernel from k
  unfolding walk Stands
  walk-stands zero from le k e = go (ltb from (length kernel)) refl e
    where
      go : (t : Bool) → ltb from (length kernel) ≡ t → cond t (bad 17 from) (good []) ≡ good k → Stands forms D kernel from k
      go true h e = let z : ◌≡◌ {A = ℕ} 0 1 = cc in absurd (omega arith)
      go false h e = nothing_left from le (ltb-false _ _ h) k e
  walk-stands (suc n) from le k e = go (ltb from (length kernel)) refl (judge_at forms D kernel from) refl (walk-stands n) e
    where
      go : (t : Bool) → ltb from (length kernel) ≡ t → (v : Judged) → judge_at forms D kernel from ≡ v
          → ((m : ℕ) → m ≤ length kernel → (r : List Instr) → walk (judge_at forms D kernel) (length kernel) n m ≡ good r → Stands forms D kernel m r)
          → cond t (enter from v (walk (judge_at forms D kernel) (length kernel) n)) (good []) ≡ good k → Stands forms D kernel from k
      go false h v j ih e = nothing_left from le (ltb-false _ _ h) k e
      go true h (refused x) j ih e = let z : ◌≡◌ {A = ℕ} 0 1 = cc in absurd (omega arith)
      go true h (passed size w) j ih e =
          let lt = ltb-true _ _ h in
          let f = fits forms D kernel from size w lt j in
          let i : Instr = record { place = from / 8; size = size; word = w } in
          let q = prepend-good i (walk (judge_at forms D kernel) (length kernel) n (from + 8 * size)) k e in
          subst (λ (k : List Instr). Stands forms D kernel from k) q.2 (lt, refl, j, ih (from + 8 * size) f.room q.0 q.1)

  -- ---- a second walk, instruction by instruction

  -- At the end none is left.
  pub stands_end : (from : ℕ) (k : List Instr) → Stands forms D kernel from k → length kernel ≤ from → k ≡ []
  unfolding Stands
  stands_end from [] s h = refl
  stands_end from (i ∷ k) s h = absurd (omega (arith, s.0))

-- Before the end there is a next one, and `later` are those after it.
pub record Next (forms : Forms) (D : Dictionary) (kernel : List ℕ) (from : ℕ) (k : List Instr) : Type 0 where
  pub instr : Instr
  pub later : List Instr
  pub split : k ≡ instr ∷ later
  pub place : instr.place ≡ from / 8
  pub passes : judge_at forms D kernel from ≡ passed instr.size instr.word
  pub fit : Fits D kernel from instr.size instr.word
  pub stands : Stands forms D kernel (from + 8 * instr.size) later

module _ (forms : Forms) (D : Dictionary) (kernel : List ℕ) where
  pub stands_next : (from : ℕ) (k : List Instr) → Stands forms D kernel from k → from < length kernel → Next forms D kernel from k
  unfolding Stands
  stands_next from [] s h = absurd (omega (arith, s))
  stands_next from (i ∷ k) s h =
      record {
        instr = i;
        later = k;
        split = refl;
        place = s.1;
        passes = s.2;
        fit = fits forms D kernel from i.size i.word h s.2;
        stands = s.3;
      }

  -- ---- what stands at a place

  pub stands-fetch : (from : ℕ) → from % 8 ≡ 0 → (k : List Instr) → Stands forms D kernel from k → (p : ℕ) (i : Instr) → fetch k p ≡ some i
      → (8 * p < length kernel) × (i.place ≡ p) × (judge_at forms D kernel (8 * p) ≡ passed i.size i.word)
  unfolding Stands fetch
  stands-fetch from aligned [] s p i e = absurd (none-ne-some i e)
  stands-fetch from aligned (j ∷ k) s p i e =
      elim (at j p) [
        | here h ↦
            let same : j ≡ i = some-injective j i (sym (fetch-here j k p h) ∙ e) in
            let from_is : from ≡ 8 * p = omega (arith, s.1) in
            subst (λ (x : Instr). (8 * p < length kernel) × (x.place ≡ p) × (judge_at forms D kernel (8 * p) ≡ passed x.size x.word)) same
            (omega (arith, s.0), h, ap (judge_at forms D kernel) (sym from_is) ∙ s.2)
        | there h ↦ stands-fetch (from + 8 * j.size) (omega arith) k s.3 p i (sym (fetch-there j k p h) ∙ e)
      ]

-- Some instructions stand in the whole of the bytes.
pub record Standing (D : Dictionary) (kernel : List ℕ) : Type 0 where
  pub forms : Forms
  pub instrs : List Instr
  pub stands : Stands forms D kernel 0 instrs
