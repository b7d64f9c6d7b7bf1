-- What 02 §2 added, exactly: a word with PredCtrl 0 or 1 is judged and acts as it did, what is answered otherwise was 7, and so every kernel that was accepted
-- is accepted and runs as it did. Assumes nothing.
use Rattle.std.specs.Prelude.{Bool, not, cond, ◌&&◌, ◌||◌, List, map, ◌⊎◌, ◌≡◌, ℕ, zero, suc, ◌+◌, ◌%◌, ◌≤◌, ◌<◌, eqb, ltb, leb}
use Rattle.std.proofs.Math.Bool.{true, false}
use Rattle.std.proofs.Common.{true≢false, sym, ◌∙◌, arith, leb-true, le-leb, lt-ltb, le-ltb, eqb-true}
use Rattle.std.proofs.Math.Logic.{inl, inr}
use Rattle.std.proofs.Math.Path.{refl, ap}
use Rattle.paper.specs.Bits.{bit}
use Rattle.paper.specs.Word.{access_mode, acc_wr_ctrl, exec_size, pred_ctrl}
use Rattle.paper.specs.Operation.{Plain, jmpi, Operation, plain, nop, branch, unlisted, operation, traits}
use Rattle.paper.specs.Store.{Store}
use Rattle.paper.specs.Enable.{chosen_flag, group_of, any_bit, all_bits, group_start, vote, predicate, holds}
use Rattle.paper.specs.Effect.{effect}
use Rattle.paper.specs.Legal.{reserved_set, quarter_served, predicate_served, control_served, plain_served, own_needs, branch_served}
use Rattle.paper.specs.Legal.{own_rule_broken, operand_rule_broken, or_else, later, refusal_of}
use Rattle.paper.specs.Kernel.{Instr, Forms, judge_short, judge_long, judge_at, good, parse}
use Rattle.paper.specs.Machine.{Channel, State, Ways, is_awake, wake, pass, perform, step_at}
use Rattle.paper.specs.Calls.{judged_kernel, accepted}
use Rattle.laws.specs.Truth.{both_true}
use Rattle.laws.specs.Walk.{Each}
use Rattle.laws.specs.Otherwise.{judge_short_by, judge_long_by, judge_at_by, parse_by, judged_kernel_by, accepted_by}
use Rattle.laws.specs.Adding.{accepted_carried, each_map, Adds}
use Rattle.laws.specs.VotesBefore.{control_served_before, own_rule_broken_before, plain_served_before, branch_served_before, operand_rule_broken_before, later_before, refusal_before, holds_before, effect_by, pass_by, perform_by, step_at_by, step_ours, step_at_before}

-- ---- PredCtrl 0 and 1

-- Below PredCtrl 4 a channel is a group of its own, and votes by its bit.
pub vote_alone : (control flag m : ℕ) → control < 4 → vote control flag m ≡ bit flag m
unfolding vote group_of any_bit all_bits
vote_alone control flag m h = rw (lt-ltb control 4 h) (go (eqb (control % 2) 0))
  where
    alone : group_start 1 m + 0 ≡ m
    alone = omega arith

    go : (t : Bool) → cond t (bit flag (group_start 1 m + 0)) (bit flag (group_start 1 m + 0)) ≡ bit flag m
    go true = ap (bit flag) alone
    go false = ap (bit flag) alone

-- What is 0 or 1 is not 1 where it is 0.
one_of_two : (n : ℕ) → n ≤ 1 → not (eqb n 1) ≡ eqb n 0
one_of_two zero h = refl
one_of_two (suc zero) h = refl
one_of_two (suc (suc n)) h = absurd (omega arith)

module _ (w : ℕ) (single : pred_ctrl w ≤ 1) where
  -- The predicate is the one that it was,
  pub holds_before_lem : (st : Store) (m : ℕ) → holds_before w st m ≡ holds w st m
  unfolding holds_before holds predicate
  holds_before_lem st m = rw (vote_alone (pred_ctrl w) (chosen_flag w st) m (omega arith))

  -- and so is the step.
  pub step_before : (here : ℕ) (ways : Ways) (s : State) → step_at_before w here ways s ≡ step_at w here ways s
  step_before here ways s =
      ap (λ (f : Store → ℕ → Bool). step_at_by f w here ways s) (λ i st m. holds_before_lem st m i) ∙ step_ours w here ways s

  -- 7, 8 and all that is built on them are as they were.
  control_before : (compares saturates : Bool) → control_served_before compares saturates w ≡ control_served compares saturates w
  unfolding control_served_before control_served
  control_before compares saturates = rw (le-leb (pred_ctrl w) 1 single)

  own_rule_before : (p : Plain) → own_rule_broken_before p w ≡ own_rule_broken p w
  unfolding own_rule_broken_before
  own_rule_before Plain.sel = one_of_two (pred_ctrl w) single
  own_rule_before Plain.mov = refl
  own_rule_before Plain.not = refl
  own_rule_before Plain.and = refl
  own_rule_before Plain.or = refl
  own_rule_before Plain.xor = refl
  own_rule_before Plain.shr = refl
  own_rule_before Plain.shl = refl
  own_rule_before Plain.asr = refl
  own_rule_before Plain.cmp = refl
  own_rule_before Plain.add = refl
  own_rule_before Plain.mul = refl
  own_rule_before Plain.avg = refl

  operand_rule_before : (p : Plain) → operand_rule_broken_before p w ≡ operand_rule_broken p w
  unfolding operand_rule_broken_before operand_rule_broken
  operand_rule_before p = rw (own_rule_before p)

  later_before_lem : (o : Operation) → later_before o w ≡ later o w
  unfolding later_before later plain_served_before plain_served branch_served_before branch_served
  later_before_lem (plain p) = rw (control_before (traits p).compares (traits p).saturates, operand_rule_before p)
  later_before_lem nop = refl
  later_before_lem (branch b) = rw (control_before false false)
  later_before_lem unlisted = refl

  -- The word is judged as it was.
  pub refusal_before_lem : refusal_before w ≡ refusal_of w
  unfolding refusal_before refusal_of
  refusal_before_lem = ap (or_else (reserved_set w) 6) (later_before_lem (operation w))

-- ---- other codes

module _ (w : ℕ) (over : leb (pred_ctrl w) 1 ≡ false) where
  -- No other code was served.
  control_refused : (compares saturates : Bool) → control_served_before compares saturates w ≡ false
  unfolding control_served_before
  control_refused compares saturates =
      rw over (fourth (eqb (access_mode w) 0) (eqb (acc_wr_ctrl w) 0) (leb (exec_size w) 4) (quarter_served w))
    where
      fourth : (a b c d : Bool) → (a && (b && (c && (d && false)))) ≡ false
      fourth false b c d = refl
      fourth true false c d = refl
      fourth true true false d = refl
      fourth true true true false = refl
      fourth true true true true = refl

  -- So what is neither nop nor unlisted was refused, as 6 or 7.
  later_refused : (o : Operation) → (later_before o w ≡ 7) ⊎ ((o ≡ nop) ⊎ (o ≡ unlisted))
  unfolding later_before plain_served_before branch_served_before
  later_refused (plain p) = inl (rw (control_refused (traits p).compares (traits p).saturates))
  later_refused nop = inr (inl refl)
  later_refused (branch b) = inl (rw (control_refused false false))
  later_refused unlisted = inr (inr refl)

-- What is answered otherwise now was refused as 7.
pub changed_were_seven : (w : ℕ) → (refusal_before w ≡ refusal_of w) ⊎ (refusal_before w ≡ 7)
unfolding refusal_before refusal_of later_before later
changed_were_seven w = go (leb (pred_ctrl w) 1) refl
  where
    idle : (o : Operation) → (o ≡ nop) ⊎ (o ≡ unlisted) → later_before o w ≡ later o w
    idle o (inl e) = rw e
    idle o (inr e) = rw e

    seven : (r : Bool) → (later_before (operation w) w ≡ 7) ⊎ ((operation w ≡ nop) ⊎ (operation w ≡ unlisted))
        → (or_else r 6 (later_before (operation w) w) ≡ or_else r 6 (later (operation w) w)) ⊎ (or_else r 6 (later_before (operation w) w) ≡ 7)
    seven true c = inl refl
    seven false (inl e) = inr e
    seven false (inr e) = inl (idle (operation w) e)

    go : (t : Bool) → leb (pred_ctrl w) 1 ≡ t
        → (or_else (reserved_set w) 6 (later_before (operation w) w) ≡ or_else (reserved_set w) 6 (later (operation w) w))
        ⊎ (or_else (reserved_set w) 6 (later_before (operation w) w) ≡ 7)
    go true e = inl (refusal_before_lem w (leb-true (pred_ctrl w) 1 e))
    go false e = seven (reserved_set w) (later_refused w e (operation w))

-- ---- kernels

-- What does nothing does so with any predicate.
abbrev Idle : ℕ → Type 0
Idle w = (operation w ≡ nop) ⊎ (operation w ≡ unlisted)

idle_store : (w : ℕ) (holding : Store → ℕ → Bool) (awake : List Bool) (st : Store) → Idle w → effect_by holding w awake st ≡ effect w awake st
unfolding effect_by effect
idle_store w holding awake st (inl o) = rw (o, effect_by, effect)
idle_store w holding awake st (inr o) = rw (o, effect_by, effect)

-- So does its step.
idle_acts : (w here : ℕ) (ways : Ways) (s : State) → Idle w → step_at_before w here ways s ≡ step_at w here ways s
unfolding step_at_by perform_by perform
idle_acts w here ways s idle = go idle
  where
    cs : List Channel
    cs = map (wake here) s.channels

    passing : pass_by (holds_before w) w ways s.store cs ≡ pass w ways s.store cs
    passing = λ i. record { store = idle_store w (holds_before w) (map is_awake cs) s.store idle i; channels = cs; place = ways.next }

    go : Idle w → perform_by (holds_before w) (operation w) w ways s.store cs ≡ perform (operation w) w ways s.store cs
    go (inl o) = rw o passing
    go (inr o) = rw o passing

-- A word that was accepted acts as it did: its PredCtrl is 0 or 1, or it does nothing.
accepted_acts : (w : ℕ) → refusal_before w ≡ 0 → (here : ℕ) (ways : Ways) (s : State) → step_at_before w here ways s ≡ step_at w here ways s
unfolding refusal_before
accepted_acts w e here ways s = go (leb (pred_ctrl w) 1) refl
  where
    refused : (r : Bool) → or_else r 6 7 ≡ 0 → ⊥
    refused true z = let n : ◌≡◌ {A = ℕ} 6 0 = z in omega arith
    refused false z = let n : ◌≡◌ {A = ℕ} 7 0 = z in omega arith

    done : (later_before (operation w) w ≡ 7) ⊎ Idle w → step_at_before w here ways s ≡ step_at w here ways s
    done (inl q) = absurd (refused (reserved_set w) (ap (or_else (reserved_set w) 6) (sym q) ∙ e))
    done (inr q) = idle_acts w here ways s q

    go : (t : Bool) → leb (pred_ctrl w) 1 ≡ t → step_at_before w here ways s ≡ step_at w here ways s
    go true q = step_before w (leb-true (pred_ctrl w) 1 q) here ways s
    go false q = done (later_refused w q (operation w))

-- The rules with votes only add to the rules before: what these accepted is accepted, as the same instructions, and makes the same steps and runs
-- (`accepted_stays`, `steps_same`, `runs_same`, `stays` of Adding).
pub votes_add : Adds refusal_before step_at_before
votes_add =
    record {
      accepts = λ w e. elim (changed_were_seven w) [ inl q ↦ sym q ∙ e | inr q ↦ let n : ◌≡◌ {A = ℕ} 7 0 = sym q ∙ e in absurd (omega arith) ];
      acts = accepted_acts;
    }

-- And a kernel of words with PredCtrl 0 or 1 that is accepted was accepted.
pub single_accepted : (forms : Forms) (dictionary kernel : List ℕ) (k : List Instr) → accepted forms dictionary kernel ≡ good k
    → Each (λ _ _ w. pred_ctrl w ≤ 1) k → accepted_by (judge_at_by refusal_before) forms dictionary kernel ≡ good k
unfolding judge_short_by judge_long_by judge_at_by parse_by judged_kernel_by accepted_by judge_short judge_long judge_at parse judged_kernel accepted
single_accepted forms dictionary kernel k e a =
    accepted_carried refusal_of forms dictionary kernel k e refusal_before (each_map (λ w. pred_ctrl w ≤ 1) _ (λ w h z. refusal_before_lem w h ∙ z) k a)

-- A vote takes two channels or more.
more_than_one : (control : ℕ) → 4 ≤ control → leb (group_of control) 1 ≡ false
unfolding group_of
more_than_one control h = rw (le-ltb control 4 h) (go (ltb control 6) (ltb control 8) (ltb control 10))
  where
    go : (a b c : Bool) → (let g : ℕ = cond a 2 (cond b 4 (cond c 8 16)) in leb g 1) ≡ false
    go true b c = refl
    go false true c = refl
    go false false true = refl
    go false false false = refl

-- jmpi stays with PredCtrl 0 and 1: its size is 1, and a larger group is not served.
pub jmpi_single : (w : ℕ) → branch_served jmpi w ≡ true → pred_ctrl w ≤ 1
unfolding branch_served control_served
jmpi_single w e =
    let a = both_true (control_served false false w) (own_needs jmpi w) e in
    let b = both_true (eqb (access_mode w) 0) _ a.0 in
    let c = both_true (eqb (acc_wr_ctrl w) 0) _ b.1 in
    let d = both_true (leb (exec_size w) 4) _ c.1 in
    let f = both_true (quarter_served w) _ d.1 in
    let g = both_true (predicate_served w) _ f.1 in
    let size : exec_size w ≡ 0 = eqb-true (exec_size w) 0 (both_true (eqb (exec_size w) 0) _ a.1).0 in
    go (leb (pred_ctrl w) 1) refl (rw size at g.0)
  where
    go : (t : Bool) → leb (pred_ctrl w) 1 ≡ t → (t || ((leb 4 (pred_ctrl w) && leb (pred_ctrl w) 11) && leb (group_of (pred_ctrl w)) 1)) ≡ true → pred_ctrl w ≤ 1
    go true h z = leb-true (pred_ctrl w) 1 h
    go false h z =
        let p = both_true (leb 4 (pred_ctrl w) && leb (pred_ctrl w) 11) _ z in
        let q = both_true (leb 4 (pred_ctrl w)) _ p.0 in
        absurd (true≢false (sym p.1 ∙ more_than_one (pred_ctrl w) (leb-true 4 (pred_ctrl w) q.0)))
