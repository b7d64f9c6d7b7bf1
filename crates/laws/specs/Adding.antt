-- Where the paper's rules only add to others: what the others accept is accepted, as the same instructions, and is checked, packed, unpacked and run as it was.
-- Assumes nothing.
use Rattle.std.specs.Prelude.{Bool, ◌||◌, ◌⊎◌, ◌≡◌, eqb, length}
use Rattle.std.proofs.Math.Bool.{true, false, not, cond}
use mathlib.Core.List.{List, [], ◌∷◌}
use Rattle.std.proofs.Math.Logic.{inl, inr}
use Rattle.std.proofs.Math.Option.{Option, none, some, some-ne-none}
use Rattle.std.proofs.Math.Path.{refl, sym, ap}
use Rattle.std.proofs.Common.{◌∙◌, arith, eqb-true, eq-eqb}
use Prim.Native.Nat.{ℕ, zero, suc, ◌+◌, ◌-◌, ◌*◌, ◌/◌}
use Rattle.std.proofs.Math.Dec.{ltb}
use Rattle.paper.specs.Bits.{number_at}
use Rattle.paper.specs.Limits.{instruction_limit}
use Rattle.paper.specs.Dictionary.{Dictionary, dictionary_of, in_range}
use Rattle.paper.specs.Expand.{is_short, expand}
use Rattle.paper.specs.Shorten.{shorten}
use Rattle.paper.specs.Operation.{operation, is_listed, is_branch}
use Rattle.paper.specs.Legal.{refusal_of}
use Rattle.paper.specs.Kernel.{Instr, Forms, long_and_short, long_only, takes_short, Judged, refused, passed, judge_short, judge_long, judge_at, Parsed, bad, good, enter, walk, parse}
use Rattle.paper.specs.Jump.{fetch, with_jumps, first_astray, astray}
use Rattle.paper.specs.Machine.{State, Ways, ways_of, step_at, step_on, step, stops, run_with, run}
use Rattle.paper.specs.State.{state_of, state_legal}
use Rattle.paper.specs.Calls.{refusal, Changed, unchanged, on_state, sized, judged_kernel, accepted, checked_as, check_call, relaid, pack_call, unpack_call}
use Rattle.paper.specs.Calls.{stepped_as, step_call, ran_as, run_call}
use Rattle.laws.specs.Walk.{Each, prepend-good}
use Rattle.laws.specs.Otherwise.{Judgement, judge_word_by, judge_short_by, judge_long_by, judge_at_by, parse_by, judged_kernel_by, accepted_by, check_call_by, pack_call_by, unpack_call_by, step_on_by, step_by, run_by, step_call_by, run_call_by}

-- ---- what a walk that accepts has gone over

-- No refusal of a kernel is a list of instructions.
not_good {ℓ} : {A : Type ℓ} (n from : ℕ) (k : List Instr) → bad n from ≡ good k → A
not_good n from k e = let z : ◌≡◌ {A = ℕ} 0 1 = cc in absurd (omega arith)

-- A walk from byte `from` that passes the instructions of a list, one after the other, to the end.
data Passes (judge : ℕ → Judged) (end : ℕ) : ℕ → ℕ → List Instr → Type 0 where
  ended : {n from : ℕ} → ltb from end ≡ false → Passes judge end n from []
  passing : {n from size w : ℕ} {k : List Instr} → ltb from end ≡ true → judge from ≡ passed size w → Passes judge end n (from + 8 * size) k
      → Passes judge end (suc n) from (record { place = from / 8; size = size; word = w } ∷ k)

module _ (judge : ℕ → Judged) (end : ℕ) where
  -- A walk that accepts is one,
  walk_passes : (n from : ℕ) (k : List Instr) → walk judge end n from ≡ good k → Passes judge end n from k
  unfolding walk
  walk_passes zero from k = go (ltb from end) refl
    where
      go : (t : Bool) → ltb from end ≡ t → cond t (bad 17 from) (good []) ≡ good k → Passes judge end zero from k
      go true h e = not_good 17 from k e
      go false h e = let s : [] ≡ k = cc in rw (← s) (ended h)
  walk_passes (suc n) from k = go (ltb from end) refl (judge from) refl (λ m r. walk_passes n m r)
    where
      go : (t : Bool) → ltb from end ≡ t → (v : Judged) → judge from ≡ v
          → ((m : ℕ) (r : List Instr) → walk judge end n m ≡ good r → Passes judge end n m r)
          → cond t (enter from v (walk judge end n)) (good []) ≡ good k → Passes judge end (suc n) from k
      go false h v j ih e = let s : [] ≡ k = cc in rw (← s) (ended h)
      go true h (refused x) j ih e = not_good x from k e
      go true h (passed size w) j ih e =
          let q = prepend-good (record { place = from / 8; size = size; word = w }) (walk judge end n (from + 8 * size)) k e in
          rw q.2 (passing h j (ih (from + 8 * size) q.0 q.1))

  -- and each such walk accepts.
  walk-ended : (n from : ℕ) → ltb from end ≡ false → walk judge end n from ≡ good []
  unfolding walk
  walk-ended zero from h = rw h
  walk-ended (suc n) from h = rw h

  passes_walk : {n from : ℕ} {k : List Instr} → Passes judge end n from k → walk judge end n from ≡ good k
  unfolding walk
  passes_walk {n} {from} (ended h) = walk-ended n from h
  passes_walk (passing h j p) = rw (h, j, passes_walk p)

-- Where one judgement passes a word with P, the other does too: then an accepting walk over such words is one of both.
module _ (judge judge' : ℕ → Judged) (end : ℕ) (P : ℕ → Type 0)
    (carries : (from size w : ℕ) → judge from ≡ passed size w → P w → judge' from ≡ passed size w) where
  passes_carried : {n from : ℕ} {k : List Instr} → Passes judge end n from k → Each (λ _ _ w. P w) k → Passes judge' end n from k
  unfolding Each
  passes_carried (ended h) a = ended h
  passes_carried {n} {from} (passing {size} {w} h j p) a = passing h (carries from size w j a.0) (passes_carried p a.1)

-- What passing brings of one word, it brings of each.
passes_each : (judge : ℕ → Judged) (end : ℕ) (P : ℕ → Type 0) → ((from size w : ℕ) → judge from ≡ passed size w → P w)
    → {n from : ℕ} {k : List Instr} → Passes judge end n from k → Each (λ _ _ w. P w) k
unfolding Each
passes_each judge end P brings (ended h) = tt
passes_each judge end P brings {n} {from} (passing {size} {w} h j p) = (brings from size w j, passes_each judge end P brings p)

-- ---- one instruction, by two rules

-- No refusal of a word is a pass.
pub not-passed {ℓ} : {A : Type ℓ} (n size w : ℕ) → refused n ≡ passed size w → A
not-passed n size w e = let z : ◌≡◌ {A = ℕ} 0 1 = cc in absurd (omega arith)

-- A word that passes has the rule's 0, and is the one that went in.
pub word_passed : (rule : ℕ → ℕ) (n v size w : ℕ) → judge_word_by rule n v ≡ passed size w → (rule v ≡ 0) × (passed n v ≡ passed size w) × (v ≡ w)
word_passed rule n v size w = go (eqb (rule v) 0) refl
  where
    go : (t : Bool) → eqb (rule v) 0 ≡ t → cond t (passed n v) (refused (rule v)) ≡ passed size w → (rule v ≡ 0) × (passed n v ≡ passed size w) × (v ≡ w)
    go true h e = (eqb-true (rule v) 0 h, e, cc)
    go false h e = not-passed (rule v) size w e

-- What stands at a byte is refused whatever the rule for words says, or it is judged as one word by that rule.
module _ (forms : Forms) (D : Dictionary) (kernel : List ℕ) (from : ℕ) where
  abbrev Either : ((ℕ → ℕ) → Judged) → Type 0
  Either judged = ((n : ℕ) × ((rule : ℕ → ℕ) → judged rule ≡ refused n)) ⊎ ((n v : ℕ) × ((rule : ℕ → ℕ) → judged rule ≡ judge_word_by rule n v))

  -- So it is with a long word,
  long_either : (w : ℕ) → Either (λ rule. judge_long_by rule w)
  unfolding judge_long_by
  long_either w = go (is_listed (operation w)) refl
    where
      go : (t : Bool) → is_listed (operation w) ≡ t → Either (λ rule. cond (not (is_listed (operation w))) (refused 4) (judge_word_by rule 2 w))
      go false h = inl (4, λ rule. rw h)
      go true h = inr (2, w, λ rule. rw h)

  -- with a short one,
  short_either : (s : ℕ) → Either (λ rule. judge_short_by rule forms D s)
  unfolding judge_short_by
  short_either s = go (is_listed (operation s)) refl (is_branch (operation s) || not (takes_short forms)) refl
    where
      go : (t : Bool) → is_listed (operation s) ≡ t → (b : Bool) → (is_branch (operation s) || not (takes_short forms)) ≡ b
          → Either (λ rule. cond (not (is_listed (operation s))) (refused 4) (cond (is_branch (operation s) || not (takes_short forms)) (refused 5) (judge_word_by rule 1 (expand D s))))
      go false h b q = inl (4, λ rule. rw h)
      go true h true q = inl (5, λ rule. rw (h, q))
      go true h false q = inr (1, expand D s, λ rule. rw (h, q))

  -- and with what stands there.
  at_either : Either (λ rule. judge_at_by rule forms D kernel from)
  unfolding judge_at_by
  at_either = go (ltb (length kernel - from) 8) refl (is_short (number_at kernel from 8)) refl (ltb (length kernel - from) 16) refl
    where
      go : (a : Bool) → ltb (length kernel - from) 8 ≡ a → (b : Bool) → is_short (number_at kernel from 8) ≡ b → (c : Bool) → ltb (length kernel - from) 16 ≡ c
          → Either (λ rule. cond a (refused 3) (cond b (judge_short_by rule forms D (number_at kernel from 8)) (cond c (refused 3) (judge_long_by rule (number_at kernel from 16)))))
      go true p b q c r = inl (3, λ rule. refl)
      go false p true q c r = short_either (number_at kernel from 8)
      go false p false q true r = inl (3, λ rule. refl)
      go false p false q false r = long_either (number_at kernel from 16)

  -- What passes has the rule's 0;
  at_passed : (rule : ℕ → ℕ) (size w : ℕ) → judge_at_by rule forms D kernel from ≡ passed size w → rule w ≡ 0
  at_passed rule size w e =
      elim at_either [
        | inl x ↦ not-passed x.0 size w (sym (x.1 rule) ∙ e)
        | inr x ↦ let q = word_passed rule x.0 x.1 size w (sym (x.2 rule) ∙ e) in ap rule (sym q.2) ∙ q.0
      ]

  -- and passes by every rule that lets the word pass too.
  at_carried : (rule rule' : ℕ → ℕ) (size w : ℕ) → judge_at_by rule forms D kernel from ≡ passed size w → (rule w ≡ 0 → rule' w ≡ 0)
      → judge_at_by rule' forms D kernel from ≡ passed size w
  at_carried rule rule' size w e f =
      elim at_either [
        | inl x ↦ not-passed x.0 size w (sym (x.1 rule) ∙ e)
        | inr x ↦
            let q = word_passed rule x.0 x.1 size w (sym (x.2 rule) ∙ e) in
            let z : rule' x.1 ≡ 0 = ap rule' q.2 ∙ f (ap rule (sym q.2) ∙ q.0) in
            x.2 rule' ∙ ap (λ (t : Bool). cond t (passed x.0 x.1) (refused (rule' x.1))) (eq-eqb (rule' x.1) 0 z) ∙ q.1
      ]

-- ---- a kernel, by two rules

-- Jumps are judged of what has parsed.
jumps_parsed : (q : Parsed) (k : List Instr) → with_jumps q ≡ good k → q ≡ good k
unfolding with_jumps
jumps_parsed (bad n from) k e = e
jumps_parsed (good l) k e = go (first_astray l l) e
  where
    go : (o : Option ℕ) → astray l o ≡ good k → good l ≡ good k
    go none e = e
    go (some from) e = not_good 12 from k e

module _ (judge : Judgement) (forms : Forms) (dictionary kernel : List ℕ) (k : List Instr) where
  abbrev D : Dictionary
  D = dictionary_of dictionary

  -- What it takes to be accepted.
  accepted_parts : accepted_by judge forms dictionary kernel ≡ good k
      → (sized dictionary kernel ≡ true) × (in_range D ≡ true) × (with_jumps (parse_by judge forms D kernel) ≡ good k)
  unfolding accepted_by judged_kernel_by
  accepted_parts = go (sized dictionary kernel) refl (in_range D) refl
    where
      go : (a : Bool) → sized dictionary kernel ≡ a → (b : Bool) → in_range D ≡ b
          → cond a (cond b (with_jumps (parse_by judge forms D kernel)) (bad 2 0)) (bad 1 0) ≡ good k
          → (sized dictionary kernel ≡ true) × (in_range D ≡ true) × (with_jumps (parse_by judge forms D kernel) ≡ good k)
      go false p b q e = not_good 1 0 k e
      go true p false q e = not_good 2 0 k e
      go true p true q e = (p, q, e)

  -- A walk over its instructions accepts,
  parsed_passes : accepted_by judge forms dictionary kernel ≡ good k → Passes (judge forms D kernel) (length kernel) instruction_limit 0 k
  unfolding parse_by
  parsed_passes e =
      walk_passes (judge forms D kernel) (length kernel) instruction_limit 0 k (jumps_parsed (parse_by judge forms D kernel) k (accepted_parts e).2)

  -- and each word has what passing brings.
  pub accepted_brings : accepted_by judge forms dictionary kernel ≡ good k → (P : ℕ → Type 0)
      → ((from size w : ℕ) → judge forms D kernel from ≡ passed size w → P w) → Each (λ _ _ w. P w) k
  accepted_brings e P brings = passes_each (judge forms D kernel) (length kernel) P brings (parsed_passes e)

module _ (rule : ℕ → ℕ) (forms : Forms) (dictionary kernel : List ℕ) (k : List Instr) where
  -- By a rule in the place of 6 to 11, each word of what is accepted has the rule's 0;
  pub accepted_each : accepted_by (judge_at_by rule) forms dictionary kernel ≡ good k → Each (λ _ _ w. rule w ≡ 0) k
  accepted_each e =
      accepted_brings (judge_at_by rule) forms dictionary kernel k e (λ w. rule w ≡ 0) (λ from. at_passed forms (dictionary_of dictionary) kernel from rule)

  -- and a rule that lets these words pass too accepts the same instructions.
  pub accepted_carried : accepted_by (judge_at_by rule) forms dictionary kernel ≡ good k → (rule' : ℕ → ℕ) → Each (λ _ _ w. rule w ≡ 0 → rule' w ≡ 0) k
      → accepted_by (judge_at_by rule') forms dictionary kernel ≡ good k
  unfolding accepted_by judged_kernel_by parse_by
  accepted_carried e rule' a =
      let D : Dictionary = dictionary_of dictionary in
      let p = accepted_parts (judge_at_by rule) forms dictionary kernel k e in
      let parsed : parse_by (judge_at_by rule) forms D kernel ≡ good k = jumps_parsed (parse_by (judge_at_by rule) forms D kernel) k p.2 in
      let carried : parse_by (judge_at_by rule') forms D kernel ≡ good k =
      passes_walk (judge_at_by rule' forms D kernel) (length kernel)
      (passes_carried (judge_at_by rule forms D kernel) (judge_at_by rule' forms D kernel) (length kernel) (λ w. rule w ≡ 0 → rule' w ≡ 0)
      (λ from. at_carried forms D kernel from rule rule') (parsed_passes (judge_at_by rule) forms dictionary kernel k e) a) in
      rw (p.0, p.1) (ap with_jumps (carried ∙ sym parsed) ∙ p.2)

-- ---- a kernel that is judged alike, and acts alike if it is accepted

-- check, unpack, step and run answer, and leave, what they do by another judgement and another step.
pub record Stays (judge : Judgement) (act : ℕ → ℕ → Ways → State → State) (dictionary kernel : List ℕ) : Type 0 where
  pub check : check_call dictionary kernel ≡ check_call_by judge dictionary kernel
  pub unpack : (out : List ℕ) → unpack_call dictionary kernel out ≡ unpack_call_by judge dictionary kernel out
  pub step : (registers bytes : List ℕ) → step_call dictionary kernel registers bytes ≡ step_call_by judge act dictionary kernel registers bytes
  pub run : (budget : ℕ) (registers bytes : List ℕ)
      → run_call dictionary kernel budget registers bytes ≡ run_call_by judge act dictionary kernel budget registers bytes

-- What is done with an accepted kernel's instructions is what is done with those that are there.
on_same : (registers bytes : List ℕ) (f g : List Instr → State → Changed) (q : Parsed) → ((k : List Instr) → q ≡ good k → (s : State) → f k s ≡ g k s)
    → on_state registers bytes f q ≡ on_state registers bytes g q
on_same registers bytes f g (bad number offset) e = refl
on_same registers bytes f g (good k) e =
    ap (λ (c : Changed). cond (state_legal k registers bytes) c (unchanged (refusal 15 0) registers bytes)) (e k refl (state_of registers bytes))

module _ (judge : Judgement) (act : ℕ → ℕ → Ways → State → State) (dictionary kernel : List ℕ)
    (same : accepted long_and_short dictionary kernel ≡ accepted_by judge long_and_short dictionary kernel)
    (acts : (k : List Instr) → accepted_by judge long_and_short dictionary kernel ≡ good k → (s : State) → step k s ≡ step_by judge act k s) where
  -- The kernel's own judgement, without the sizes, is the same where these are right.
  judged_same : sized dictionary kernel ≡ true → judged_kernel long_and_short dictionary kernel ≡ judged_kernel_by judge long_and_short dictionary kernel
  unfolding accepted accepted_by
  judged_same e = rw e at same

  -- So is what is done with it.
  done_same : (registers bytes : List ℕ) (f g : List Instr → State → Changed)
      → ((k : List Instr) → ((s : State) → step k s ≡ step_by judge act k s) → (s : State) → f k s ≡ g k s) → sized dictionary kernel ≡ true
      → on_state registers bytes f (judged_kernel long_and_short dictionary kernel) ≡ on_state registers bytes g (judged_kernel_by judge long_and_short dictionary kernel)
  unfolding accepted_by
  done_same registers bytes f g alike e =
      ap (on_state registers bytes f) (judged_same e)
      ∙ on_same registers bytes f g (judged_kernel_by judge long_and_short dictionary kernel) (λ k q. alike k (acts k (rw e q)))

  -- So are the calls.
  pub stays_same : Stays judge act dictionary kernel
  unfolding check_call check_call_by unpack_call unpack_call_by step_call step_call_by run_call run_call_by
  stays_same =
      record {
        check = ap checked_as same;
        unpack = λ out. ap (relaid (λ _. none) out) same;
        step = λ registers bytes. stepped registers bytes (sized dictionary kernel) refl;
        run = λ budget registers bytes. ran budget registers bytes (sized dictionary kernel) refl;
      }
    where
      stepped : (registers bytes : List ℕ) (t : Bool) → sized dictionary kernel ≡ t → step_call dictionary kernel registers bytes ≡ step_call_by judge act dictionary kernel registers bytes
      stepped registers bytes false e = rw e
      stepped registers bytes true e =
          rw (done_same registers bytes (λ k s. stepped_as (stops k s) registers bytes s (step k s)) (λ k s. stepped_as (stops k s) registers bytes s (step_by judge act k s))
          (λ k q s. ap (stepped_as (stops k s) registers bytes s) (q s)) e)

      ran : (budget : ℕ) (registers bytes : List ℕ) (t : Bool) → sized dictionary kernel ≡ t → run_call dictionary kernel budget registers bytes ≡ run_call_by judge act dictionary kernel budget registers bytes
      ran budget registers bytes false e = rw e
      ran budget registers bytes true e =
          rw (done_same registers bytes (λ k s. ran_as (run k budget s)) (λ k s. ran_as (run_by judge act k budget s))
          (λ k q s. ap (λ (f : State → State). ran_as (run_with (stops k) f budget s)) (λ i t. q t i)) e)

-- ---- rules that only add

-- The paper's rules only add to these: a word that has their 0 is accepted, and its step is theirs.
pub record Adds (rule : ℕ → ℕ) (act : ℕ → ℕ → Ways → State → State) : Type 0 where
  pub accepts : (w : ℕ) → rule w ≡ 0 → refusal_of w ≡ 0
  pub acts : (w : ℕ) → rule w ≡ 0 → (here : ℕ) (ways : Ways) (s : State) → act w here ways s ≡ step_at w here ways s

-- What holds of each word of a kernel holds of the one at a place.
pub each_fetched : (P : ℕ → Type 0) (k : List Instr) (p : ℕ) → Each (λ _ _ w. P w) k → (i : Instr) → fetch k p ≡ some i → P i.word
unfolding Each fetch
each_fetched P [] p a i e = absurd (some-ne-none i (sym e))
each_fetched P (j ∷ k) p a i e = go (eqb j.place p) (each_fetched P k p a.1 i) e
  where
    go : (t : Bool) → (fetch k p ≡ some i → P i.word) → cond t (some j) (fetch k p) ≡ some i → P i.word
    go true later e = let s : j ≡ i = cc in rw (← s) a.0
    go false later e = later e

-- What follows for a word follows for each.
pub each_map : (P Q : ℕ → Type 0) → ((w : ℕ) → P w → Q w) → (k : List Instr) → Each (λ _ _ w. P w) k → Each (λ _ _ w. Q w) k
unfolding Each
each_map P Q f [] a = tt
each_map P Q f (i ∷ k) a = (f i.word a.0, each_map P Q f k a.1)

module _ (rule : ℕ → ℕ) (act : ℕ → ℕ → Ways → State → State) (adds : Adds rule act) where
  -- A kernel that these rules accept makes the same steps by the paper's, and the same runs.
  module _ (k : List Instr) (each : Each (λ _ _ w. rule w ≡ 0) k) where
    pub steps_same : (s : State) → step_by (judge_at_by rule) act k s ≡ step k s
    unfolding step_on_by step_on
    steps_same s = go (fetch k s.place) refl
      where
        go : (o : Option Instr) → fetch k s.place ≡ o → step_on_by (judge_at_by rule) act o s ≡ step_on o s
        go none e = refl
        go (some i) e = adds.acts i.word (each_fetched (λ w. rule w ≡ 0) k s.place each i e) i.place (ways_of i) s

    pub runs_same : (n : ℕ) (s : State) → run_by (judge_at_by rule) act k n s ≡ run k n s
    runs_same n s = ap (λ (f : State → State). run_with (stops k) f n s) (λ i s. steps_same s i)

  -- What these rules accept is accepted, as the same instructions.
  pub accepted_stays : (forms : Forms) (dictionary kernel : List ℕ) (k : List Instr) → accepted_by (judge_at_by rule) forms dictionary kernel ≡ good k
      → accepted forms dictionary kernel ≡ good k
  unfolding judge_short_by judge_long_by judge_at_by parse_by judged_kernel_by accepted_by judge_short judge_long judge_at parse judged_kernel accepted
  accepted_stays forms dictionary kernel k e =
      accepted_carried rule forms dictionary kernel k e refusal_of
      (each_map (λ w. rule w ≡ 0) (λ w. rule w ≡ 0 → refusal_of w ≡ 0) (λ w h _. adds.accepts w h) k (accepted_each rule forms dictionary kernel k e))

  -- check, unpack, step and run of a kernel that these rules accept answer, and leave, what they do by them.
  pub stays : (dictionary kernel : List ℕ) (k : List Instr) → accepted_by (judge_at_by rule) long_and_short dictionary kernel ≡ good k
      → Stays (judge_at_by rule) act dictionary kernel
  stays dictionary kernel k e =
      stays_same (judge_at_by rule) act dictionary kernel (accepted_stays long_and_short dictionary kernel k e ∙ sym e)
      (λ l f s. sym (steps_same l (accepted_each rule long_and_short dictionary kernel l f) s))

  -- So does pack of a kernel of long words.
  pub pack_stays : (dictionary kernel : List ℕ) (k : List Instr) → accepted_by (judge_at_by rule) long_only dictionary kernel ≡ good k
      → (out : List ℕ) → pack_call dictionary kernel out ≡ pack_call_by (judge_at_by rule) dictionary kernel out
  unfolding pack_call pack_call_by
  pack_stays dictionary kernel k e out =
      ap (relaid (shorten (dictionary_of dictionary)) out) (accepted_stays long_only dictionary kernel k e ∙ sym e)
