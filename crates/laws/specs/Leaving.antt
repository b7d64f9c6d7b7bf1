-- What 02 §9 added, exactly: an instruction is judged and acts as it did, or it has one of the two opcodes that were not listed, and was 4. So a kernel without
-- them is judged, packed, unpacked and run as it was. Assumes nothing.
use Rattle.std.specs.Prelude.{Bool, true, false, not, cond, ◌||◌, List, [], map, ◌⊎◌, ◌≡◌, eqb, ltb, length}
use Rattle.std.proofs.Common.{true≢false, sym, ◌∙◌, eqb-true}
use Rattle.std.proofs.Math.Logic.{inl, inr}
use Rattle.std.proofs.Math.Option.{Option, none, some}
use Rattle.std.proofs.Math.Path.{refl, ap}
use Prim.Native.Nat.{ℕ, zero, suc, ◌+◌, ◌-◌, ◌*◌, ◌/◌}
use Rattle.paper.specs.Bits.{number_at}
use Rattle.paper.specs.Limits.{instruction_limit}
use Rattle.paper.specs.Word.{opcode}
use Rattle.paper.specs.Dictionary.{Dictionary, dictionary_of, in_range}
use Rattle.paper.specs.Expand.{is_short, expand}
use Rattle.paper.specs.Shorten.{shorten}
use Rattle.paper.specs.Operation.{Operation, unlisted, operation_of, operation, is_listed, is_branch}
use Rattle.paper.specs.Legal.{reserved_set, refusal_of}
use Rattle.paper.specs.Kernel.{Instr, Forms, long_and_short, long_only, takes_short, Judged, refused, passed, judge_short, judge_long, judge_at, Parsed, bad, good, prepend, enter, walk, parse}
use Rattle.paper.specs.Jump.{with_jumps, fetch}
use Rattle.paper.specs.Machine.{State, Ways, wake, perform, step_at, ways_of, step_on, step}
use Rattle.paper.specs.Calls.{refusal, sized, judged_kernel, accepted, checked_as, relaid, pack_call}
use Rattle.laws.specs.Expand.{expand-opcode}
use Rattle.laws.specs.Walk.{Each}
use Rattle.laws.specs.Otherwise.{judge_word_by, parse_by, judged_kernel_by, accepted_by, check_call_by, pack_call_by, step_on_by, step_by}
use Rattle.laws.specs.Adding.{not-passed, word_passed, accepted_brings, each_fetched, Stays, stays_same}
use Rattle.laws.specs.LeavingBefore.{former_operation_of, former_operation, former_reserved, former_refusal, former_short, former_long, former_judge, former_step}

-- ---- one word

-- A word has one of the two opcodes.
abbrev pub Leaves : ℕ → Type 0
Leaves w = (opcode w ≡ 0x28) ⊎ (opcode w ≡ 0x29)

-- Its operation is the one that it was, or it has one of the two opcodes, and was not listed.
pub operation_either : (w : ℕ) → (former_operation w ≡ operation w) ⊎ (Leaves w × (former_operation w ≡ unlisted))
unfolding former_operation_of operation_of
operation_either w = go (opcode w) (eqb (opcode w) 0x28) refl (eqb (opcode w) 0x29) refl
  where
    go : (n : ℕ) (a : Bool) → eqb n 0x28 ≡ a → (b : Bool) → eqb n 0x29 ≡ b
        → (former_operation_of n ≡ operation_of n) ⊎ (((n ≡ 0x28) ⊎ (n ≡ 0x29)) × (former_operation_of n ≡ unlisted))
    go n true e b f = let q : n ≡ 0x28 = eqb-true n 0x28 e in inr (inl q, ap former_operation_of q)
    go n false e true f = let q : n ≡ 0x29 = eqb-true n 0x29 f in inr (inr q, ap former_operation_of q)
    go n false e false f = inl (rw (e, f))

module _ (w : ℕ) (same : former_operation w ≡ operation w) where
  -- Where the operation is the same, the word is judged as it was,
  pub refusal_former : former_refusal w ≡ refusal_of w
  unfolding former_refusal former_reserved refusal_of reserved_set
  refusal_former = rw same

  -- and acts as it did.
  pub step_former : (here : ℕ) (ways : Ways) (s : State) → former_step w here ways s ≡ step_at w here ways s
  unfolding former_step
  step_former here ways s = ap (λ (o : Operation). perform o w ways s.store (map (wake here) s.channels)) same

-- ---- the instruction at a byte

-- The word that starts there, short or long.
abbrev pub word_at : List ℕ → ℕ → ℕ
word_at kernel from = cond (is_short (number_at kernel from 8)) (number_at kernel from 8) (number_at kernel from 16)

-- A long word is judged as it was, or was 4 for one of the two opcodes;
long_either : (w : ℕ) → (former_long w ≡ judge_long w) ⊎ ((former_long w ≡ refused 4) × Leaves w)
unfolding former_long judge_long
long_either w = elim (operation_either w) [ inl e ↦ inl (rw (e, refusal_former w e)) | inr u ↦ inr (rw u.1 refl, u.0) ]

-- so is a short one,
short_either : (forms : Forms) (D : Dictionary) (s : ℕ) → (former_short forms D s ≡ judge_short forms D s) ⊎ ((former_short forms D s ≡ refused 4) × Leaves s)
unfolding former_short judge_short
short_either forms D s =
    elim (operation_either s) [
      | inl e ↦
          let f : former_operation (expand D s) ≡ operation (expand D s) = ap former_operation_of (expand-opcode D s) ∙ e ∙ sym (ap operation_of (expand-opcode D s)) in
          inl (rw (e, refusal_former (expand D s) f))
      | inr u ↦ inr (rw u.1 refl, u.0)
    ]

-- and what stands at a byte.
pub judged_either : (forms : Forms) (D : Dictionary) (kernel : List ℕ) (from : ℕ)
    → (former_judge forms D kernel from ≡ judge_at forms D kernel from) ⊎ ((former_judge forms D kernel from ≡ refused 4) × Leaves (word_at kernel from))
unfolding former_judge judge_at
judged_either forms D kernel from = go (ltb (length kernel - from) 8) (is_short (number_at kernel from 8)) (ltb (length kernel - from) 16)
  where
    s : ℕ
    s = number_at kernel from 8

    w : ℕ
    w = number_at kernel from 16

    go : (a b c : Bool)
        → (cond a (refused 3) (cond b (former_short forms D s) (cond c (refused 3) (former_long w))) ≡ cond a (refused 3) (cond b (judge_short forms D s) (cond c (refused 3) (judge_long w))))
        ⊎ ((cond a (refused 3) (cond b (former_short forms D s) (cond c (refused 3) (former_long w))) ≡ refused 4) × Leaves (cond b s w))
    go true b c = inl refl
    go false true c = short_either forms D s
    go false false true = inl refl
    go false false false = long_either w

-- ---- a kernel

-- Two judgements of which the first, where it is another, is 4 with Q: then so are two walks.
module _ (judge judge' : ℕ → Judged) (end : ℕ) (Q : ℕ → Type 0) (either : (from : ℕ) → (judge from ≡ judge' from) ⊎ ((judge from ≡ refused 4) × Q from)) where
  -- Refused as 4, at an instruction with Q.
  abbrev Four : Parsed → Type 0
  Four q = (at : ℕ) × (q ≡ bad 4 at) × Q at

  -- The walks say the same, or the first one says that.
  walk_either : (n from : ℕ) → (walk judge end n from ≡ walk judge' end n from) ⊎ Four (walk judge end n from)
  unfolding walk
  walk_either zero from = inl refl
  walk_either (suc n) from = go (ltb from end) (judge' from) (either from) (λ m. walk_either n m)
    where
      entered : (v : Judged) → ((m : ℕ) → (walk judge end n m ≡ walk judge' end n m) ⊎ Four (walk judge end n m))
          → (enter from v (walk judge end n) ≡ enter from v (walk judge' end n)) ⊎ Four (enter from v (walk judge end n))
      entered (refused x) rest = inl refl
      entered (passed size w) rest =
          let i : Instr = record { place = from / 8; size = size; word = w } in
          elim (rest (from + 8 * size)) [ inl e ↦ inl (ap (prepend i) e) | inr f ↦ inr (f.0, ap (prepend i) f.1, f.2) ]

      go : (t : Bool) (v : Judged) → (judge from ≡ v) ⊎ ((judge from ≡ refused 4) × Q from)
          → ((m : ℕ) → (walk judge end n m ≡ walk judge' end n m) ⊎ Four (walk judge end n m))
          → (cond t (enter from (judge from) (walk judge end n)) (good []) ≡ cond t (enter from v (walk judge' end n)) (good []))
          ⊎ Four (cond t (enter from (judge from) (walk judge end n)) (good []))
      go false v e rest = inl refl
      go true v (inl e) rest = rw e (entered v rest)
      go true v (inr f) rest = inr (from, ap (λ (u : Judged). enter from u (walk judge end n)) f.0, f.1)

module _ (forms : Forms) (dictionary kernel : List ℕ) where
  -- It is judged as it was, or was refused as 4 at an instruction with one of the two opcodes.
  pub accepted_either : (accepted_by former_judge forms dictionary kernel ≡ accepted forms dictionary kernel)
      ⊎ ((at : ℕ) × (accepted_by former_judge forms dictionary kernel ≡ bad 4 at) × Leaves (word_at kernel at))
  unfolding accepted_by judged_kernel_by parse_by accepted judged_kernel parse with_jumps
  accepted_either =
      go (sized dictionary kernel) (in_range D)
      (walk_either (former_judge forms D kernel) (judge_at forms D kernel) (length kernel) (λ at. Leaves (word_at kernel at)) (judged_either forms D kernel) instruction_limit 0)
    where
      D : Dictionary
      D = dictionary_of dictionary

      former : Parsed
      former = walk (former_judge forms D kernel) (length kernel) instruction_limit 0

      now : Parsed
      now = walk (judge_at forms D kernel) (length kernel) instruction_limit 0

      go : (a b : Bool) → (former ≡ now) ⊎ ((at : ℕ) × (former ≡ bad 4 at) × Leaves (word_at kernel at))
          → (cond a (cond b (with_jumps former) (bad 2 0)) (bad 1 0) ≡ cond a (cond b (with_jumps now) (bad 2 0)) (bad 1 0))
          ⊎ ((at : ℕ) × (cond a (cond b (with_jumps former) (bad 2 0)) (bad 1 0) ≡ bad 4 at) × Leaves (word_at kernel at))
      go false b e = inl refl
      go true false e = inl refl
      go true true (inl e) = inl (ap with_jumps e)
      go true true (inr f) = inr (f.0, ap with_jumps f.1, f.2)

  -- So a kernel that was not refused as 4 for one of them is judged as it was.
  pub accepted_former : ((at : ℕ) → accepted_by former_judge forms dictionary kernel ≡ bad 4 at → Leaves (word_at kernel at) → ⊥)
      → accepted forms dictionary kernel ≡ accepted_by former_judge forms dictionary kernel
  accepted_former others = elim accepted_either [ inl e ↦ sym e | inr f ↦ absurd (others f.0 f.1 f.2) ]

-- ---- its steps

-- What passed had a listed operation, a long word
long_listed : (v size w : ℕ) → former_long v ≡ passed size w → is_listed (former_operation w) ≡ true
unfolding former_long
long_listed v size w = go (is_listed (former_operation v)) refl
  where
    go : (t : Bool) → is_listed (former_operation v) ≡ t → cond (not t) (refused 4) (judge_word_by former_refusal 2 v) ≡ passed size w
        → is_listed (former_operation w) ≡ true
    go false h e = not-passed 4 size w e
    go true h e = ap (λ (x : ℕ). is_listed (former_operation x)) (sym (word_passed former_refusal 2 v size w e).2) ∙ h

-- and a short one,
short_listed : (forms : Forms) (D : Dictionary) (s size w : ℕ) → former_short forms D s ≡ passed size w → is_listed (former_operation w) ≡ true
unfolding former_short
short_listed forms D s size w = go (is_listed (former_operation s)) refl (is_branch (former_operation s) || not (takes_short forms))
  where
    go : (t : Bool) → is_listed (former_operation s) ≡ t → (b : Bool)
        → cond (not t) (refused 4) (cond b (refused 5) (judge_word_by former_refusal 1 (expand D s))) ≡ passed size w → is_listed (former_operation w) ≡ true
    go false h b e = not-passed 4 size w e
    go true h true e = not-passed 5 size w e
    go true h false e =
        ap (λ (x : ℕ). is_listed (former_operation x)) (sym (word_passed former_refusal 1 (expand D s) size w e).2)
        ∙ ap (λ (n : ℕ). is_listed (former_operation_of n)) (expand-opcode D s) ∙ h

-- and so the operation that it has.
passed-operation : (forms : Forms) (D : Dictionary) (kernel : List ℕ) (from size w : ℕ) → former_judge forms D kernel from ≡ passed size w
    → former_operation w ≡ operation w
unfolding former_judge
passed-operation forms D kernel from size w e =
    kept (operation_either w) (go (ltb (length kernel - from) 8) (is_short (number_at kernel from 8)) (ltb (length kernel - from) 16) e)
  where
    kept : (former_operation w ≡ operation w) ⊎ (Leaves w × (former_operation w ≡ unlisted)) → is_listed (former_operation w) ≡ true → former_operation w ≡ operation w
    kept (inl f) h = f
    kept (inr u) h = absurd (true≢false (sym h ∙ ap is_listed u.1))

    go : (a b c : Bool)
        → cond a (refused 3) (cond b (former_short forms D (number_at kernel from 8)) (cond c (refused 3) (former_long (number_at kernel from 16)))) ≡ passed size w
        → is_listed (former_operation w) ≡ true
    go true b c f = not-passed 3 size w f
    go false true c f = short_listed forms D (number_at kernel from 8) size w f
    go false false true f = not-passed 3 size w f
    go false false false f = long_listed (number_at kernel from 16) size w f

-- So an accepted kernel's step is the one that it was.
steps_former : (dictionary kernel : List ℕ) (k : List Instr) → accepted_by former_judge long_and_short dictionary kernel ≡ good k → (s : State)
    → step k s ≡ step_by former_judge former_step k s
unfolding step_on_by step_on
steps_former dictionary kernel k e s = go (fetch k s.place) refl
  where
    each : Each (λ _ _ w. former_operation w ≡ operation w) k
    each =
        accepted_brings former_judge long_and_short dictionary kernel k e (λ w. former_operation w ≡ operation w)
        (passed-operation long_and_short (dictionary_of dictionary) kernel)

    go : (o : Option Instr) → fetch k s.place ≡ o → step_on o s ≡ step_on_by former_judge former_step o s
    go none f = refl
    go (some i) f = sym (step_former i.word (each_fetched (λ w. former_operation w ≡ operation w) k s.place each i f) i.place (ways_of i) s)

-- ---- calls

-- check, unpack, step and run of a kernel that was not refused as 4 for one of the two opcodes answer, and leave, what they did;
pub leaving_stays : (dictionary kernel : List ℕ) → ((at : ℕ) → check_call_by former_judge dictionary kernel ≡ refusal 4 at → Leaves (word_at kernel at) → ⊥)
    → Stays former_judge former_step dictionary kernel
unfolding check_call_by
leaving_stays dictionary kernel others =
    stays_same former_judge former_step dictionary kernel (accepted_former long_and_short dictionary kernel (λ at e. others at (ap checked_as e)))
    (steps_former dictionary kernel)

-- so does pack.
pub leaving_packs : (dictionary kernel out : List ℕ)
    → ((at : ℕ) → (pack_call_by former_judge dictionary kernel out).answer ≡ refusal 4 at → Leaves (word_at kernel at) → ⊥)
    → pack_call dictionary kernel out ≡ pack_call_by former_judge dictionary kernel out
unfolding pack_call pack_call_by
leaving_packs dictionary kernel out others =
    ap (relaid (shorten (dictionary_of dictionary)) out)
    (accepted_former long_only dictionary kernel (λ at e. others at (ap (λ (q : Parsed). (relaid (shorten (dictionary_of dictionary)) out q).answer) e)))
