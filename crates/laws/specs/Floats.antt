-- What 02 §8 added, exactly: a word without a float among its operands is judged and acts as it did; what is answered otherwise was 7. So every kernel that was
-- accepted is accepted and runs as it did. Assumes nothing.
use Rattle.std.specs.Prelude.{Bool, true, false, List, map, ◌⊎◌, ◌≡◌, refl, ℕ}
use Rattle.std.proofs.lemmas.Bool.{false≢true}
use Rattle.std.proofs.Common.{inl, inr, sym, ap, ◌∙◌, arith}
use Rattle.paper.specs.Operation.{Operation, plain, nop, branch, unlisted, operation}
use Rattle.paper.specs.Store.{Store}
use Rattle.paper.specs.Address.{settled}
use Rattle.paper.specs.Effect.{plain_effect, effect}
use Rattle.paper.specs.Legal.{reserved_set, uses_floats, or_else, later, refusal_of}
use Rattle.paper.specs.Kernel.{Instr, Forms, judge_short, judge_long, judge_at, good, parse}
use Rattle.paper.specs.Calls.{judged_kernel, accepted}
use Rattle.paper.specs.Machine.{Channel, State, Ways, wake, is_awake, pass, perform, step_at}
use Rattle.laws.specs.Walk.{Each}
use Rattle.laws.specs.Otherwise.{judge_short_by, judge_long_by, judge_at_by, parse_by, judged_kernel_by, accepted_by}
use Rattle.laws.specs.Adding.{accepted_carried, each_map, Adds}
use Rattle.laws.specs.Regions.{legal_plain}
use Rattle.laws.specs.SettledLegal.{floats_same}
use Rattle.laws.specs.FloatsBefore.{whole_later, whole_refusal, whole_plain_effect, whole_effect, whole_pass, whole_perform, whole_step}
use Rattle.laws.specs.FloatWords.{plain_before, new_was_seven}
use Rattle.laws.specs.FloatActs.{effect_before}

-- A word of this operation has a float among its operands.
abbrev pub float_in : Operation → ℕ → Bool
float_in (plain p) w = uses_floats p w
float_in nop w = false
float_in (branch b) w = false
float_in unlisted w = false

-- The word has one.
abbrev pub has_float : ℕ → Bool
has_float w = float_in (operation w) w

-- What has one was 7.
later_seven : (o : Operation) (w : ℕ) → float_in o w ≡ true → whole_later o w ≡ 7
later_seven (plain p) w e = new_was_seven p w e
later_seven nop w e = absurd (false≢true e)
later_seven (branch b) w e = absurd (false≢true e)
later_seven unlisted w e = absurd (false≢true e)

-- A word that has none is judged as it was,
pub refusal_before : (w : ℕ) → has_float w ≡ false → whole_refusal w ≡ refusal_of w
unfolding whole_refusal refusal_of whole_later later
refusal_before w old = ap (or_else (reserved_set w) 6) (go (operation w) old)
  where
    go : (o : Operation) → float_in o w ≡ false → whole_later o w ≡ later o w
    go (plain p) e = plain_before p w e
    go nop e = refl
    go (branch b) e = refl
    go unlisted e = refl

-- has, if it is accepted, the effect that it had,
pub acts_before : (w : ℕ) → has_float w ≡ false → refusal_of w ≡ 0 → (awake : List Bool) (st : Store) → whole_effect w awake st ≡ effect w awake st
unfolding whole_effect effect
acts_before w old accepted awake st = go (operation w) refl old
  where
    was : Operation → Store
    was o = elim o [ plain p ↦ whole_plain_effect p (settled p st.addresses w) awake st | nop ↦ st | branch b ↦ st | unlisted ↦ st ]

    is : Operation → Store
    is o = elim o [ plain p ↦ plain_effect p (settled p st.addresses w) awake st | nop ↦ st | branch b ↦ st | unlisted ↦ st ]

    go : (o : Operation) → operation w ≡ o → float_in o w ≡ false → was o ≡ is o
    go (plain p) q e =
        effect_before p (settled p st.addresses w) (floats_same st.addresses p w (legal_plain p w q accepted) ∙ e) awake st
    go nop q e = refl
    go (branch b) q e = refl
    go unlisted q e = refl

-- and makes the step that it made.
pub step_before : (w : ℕ) → has_float w ≡ false → refusal_of w ≡ 0 → (here : ℕ) (ways : Ways) (s : State) → whole_step w here ways s ≡ step_at w here ways s
unfolding whole_perform perform
step_before w old accepted here ways s = go (operation w)
  where
    cs : List Channel
    cs = map (wake here) s.channels

    passes : whole_pass w ways s.store cs ≡ pass w ways s.store cs
    passes = λ i. record { store = acts_before w old accepted (map is_awake cs) s.store i; channels = cs; place = ways.next }

    go : (o : Operation) → whole_perform o w ways s.store cs ≡ perform o w ways s.store cs
    go (plain p) = passes
    go nop = passes
    go (branch b) = refl
    go unlisted = passes

-- What is answered otherwise now was refused as 7.
pub changed_were_seven : (w : ℕ) → (whole_refusal w ≡ refusal_of w) ⊎ (whole_refusal w ≡ 7)
unfolding whole_refusal refusal_of
changed_were_seven w = go (has_float w) refl
  where
    seven : (r : Bool) → reserved_set w ≡ r → whole_later (operation w) w ≡ 7
        → (or_else (reserved_set w) 6 (whole_later (operation w) w) ≡ or_else (reserved_set w) 6 (later (operation w) w))
        ⊎ (or_else (reserved_set w) 6 (whole_later (operation w) w) ≡ 7)
    seven true h e = inl (rw h)
    seven false h e = inr (rw h e)

    go : (t : Bool) → has_float w ≡ t
        → (or_else (reserved_set w) 6 (whole_later (operation w) w) ≡ or_else (reserved_set w) 6 (later (operation w) w))
        ⊎ (or_else (reserved_set w) 6 (whole_later (operation w) w) ≡ 7)
    go false e = inl (refusal_before w e)
    go true e = seven (reserved_set w) refl (later_seven (operation w) w e)

-- What was accepted has no float.
pub accepted_whole : (w : ℕ) → whole_refusal w ≡ 0 → has_float w ≡ false
unfolding whole_refusal
accepted_whole w z = go (has_float w) refl
  where
    refused : (r : Bool) → or_else r 6 7 ≡ 0 → ⊥
    refused true z = let n : ◌≡◌ {A = ℕ} 6 0 = z in omega arith
    refused false z = let n : ◌≡◌ {A = ℕ} 7 0 = z in omega arith

    go : (t : Bool) → has_float w ≡ t → has_float w ≡ false
    go false e = e
    go true e = absurd (refused (reserved_set w) (ap (or_else (reserved_set w) 6) (sym (later_seven (operation w) w e)) ∙ z))

-- The rules with floats only add to the rules before: what these accepted is accepted, as the same instructions, and makes the same steps and runs (Adding).
pub floats_add : Adds whole_refusal whole_step
floats_add =
    record {
      accepts = λ w e. sym (refusal_before w (accepted_whole w e)) ∙ e;
      acts = λ w e. step_before w (accepted_whole w e) (sym (refusal_before w (accepted_whole w e)) ∙ e);
    }

-- And a kernel of words without floats, if it is accepted, was accepted.
pub whole_accepted : (forms : Forms) (dictionary kernel : List ℕ) (k : List Instr) → accepted forms dictionary kernel ≡ good k
    → Each (λ _ _ w. has_float w ≡ false) k → accepted_by (judge_at_by whole_refusal) forms dictionary kernel ≡ good k
unfolding judge_short_by judge_long_by judge_at_by parse_by judged_kernel_by accepted_by judge_short judge_long judge_at parse judged_kernel accepted
whole_accepted forms dictionary kernel k e a =
    accepted_carried refusal_of forms dictionary kernel k e whole_refusal (each_map (λ w. has_float w ≡ false) _ (λ w h z. refusal_before w h ∙ z) k a)
