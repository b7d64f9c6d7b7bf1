-- Where a0 may stand, and what 02 §7 added, exactly: a word that uses neither a0 nor an address is judged and acts as it did, and no address stops it; what is answered
-- otherwise was 7. Assumes nothing.
use Rattle.std.specs.Prelude.{Bool, true, false, not, ◌||◌, List, map, ◌⊎◌, ◌≡◌, refl, ℕ}
use Rattle.std.proofs.lemmas.Bool.{false≢true}
use Rattle.std.proofs.Common.{inl, inr, sym, ap, ◌∙◌, arith}
use Rattle.paper.specs.Word.{dst_is_a0, src_is_a0}
use Rattle.paper.specs.Operation.{Plain, Operation, plain, nop, branch, unlisted, operation, traits, sources, is_mov}
use Rattle.paper.specs.Store.{Store}
use Rattle.paper.specs.Address.{settled, address_broken, address_stops}
use Rattle.paper.specs.Effect.{plain_effect, effect}
use Rattle.paper.specs.Legal.{any_of, reserved_set, control_served, dst_served, src_served, uses_a0, moves_words, uses_floats, floats_served, plain_served, or_else, later, refusal_of}
use Rattle.paper.specs.Kernel.{Instr, Forms, judge_short, judge_long, judge_at, good, parse}
use Rattle.paper.specs.Calls.{judged_kernel, accepted}
use Rattle.paper.specs.Machine.{Channel, State, Ways, wake, is_awake, pass, perform, step_at}
use Rattle.laws.specs.Walk.{Each}
use Rattle.laws.specs.Otherwise.{judge_short_by, judge_long_by, judge_at_by, parse_by, judged_kernel_by, accepted_by}
use Rattle.laws.specs.Adding.{accepted_carried, each_map, Adds}
use Rattle.laws.specs.Regions.{LegalPlain, legal_plain}
use Rattle.laws.specs.Truth.{both_true}
use Rattle.laws.specs.AddressesBefore.{direct_later, direct_refusal, direct_plain_effect, direct_effect, direct_pass, direct_perform, direct_step}
use Rattle.laws.specs.DirectWords.{new_operand, plain_before, new_was_seven}
use Rattle.laws.specs.DirectActs.{effect_before, settled_before, whole}

-- ---- a0 is moved

-- Of the operations only mov is mov.
is_mov_lem : (p : Plain) → is_mov p ≡ true → p ≡ Plain.mov
is_mov_lem Plain.mov e = refl
is_mov_lem Plain.sel e = absurd (false≢true e)
is_mov_lem Plain.not e = absurd (false≢true e)
is_mov_lem Plain.and e = absurd (false≢true e)
is_mov_lem Plain.or e = absurd (false≢true e)
is_mov_lem Plain.xor e = absurd (false≢true e)
is_mov_lem Plain.shr e = absurd (false≢true e)
is_mov_lem Plain.shl e = absurd (false≢true e)
is_mov_lem Plain.asr e = absurd (false≢true e)
is_mov_lem Plain.cmp e = absurd (false≢true e)
is_mov_lem Plain.add e = absurd (false≢true e)
is_mov_lem Plain.mul e = absurd (false≢true e)
is_mov_lem Plain.avg e = absurd (false≢true e)

-- A legal word whose destination is a0 is a mov.
pub only_mov : (p : Plain) (w : ℕ) → LegalPlain p w → dst_is_a0 w ≡ true → p ≡ Plain.mov
unfolding plain_served uses_a0 moves_words
only_mov p w legal e =
    let a = both_true (control_served (traits p).compares (traits p).saturates w) _ legal.served in
    let b = both_true (dst_served w) _ a.1 in
    let c = both_true (not (any_of (λ x. not (src_served w x)) (sources p))) _ b.1 in
    let moves : (not (dst_is_a0 w || any_of (λ x. src_is_a0 x w) (sources p)) || moves_words p w) ≡ true = (both_true _ (not (uses_floats p w) || floats_served p w) c.1).0 in
    is_mov_lem p (both_true (is_mov p) _ (rw e at moves)).0

-- ---- any word

-- A reserved bit is 6 before all that follows.
six : (w : ℕ) → reserved_set w ≡ true → refusal_of w ≡ 6
unfolding refusal_of
six w h = rw h

-- A word of this operation uses what is new: it has operands, and one of them is by address or is a0.
abbrev pub new_in : Operation → ℕ → Bool
new_in (plain p) w = new_operand p w
new_in nop w = false
new_in (branch b) w = false
new_in unlisted w = false

-- The word uses what is new.
abbrev pub uses_new : ℕ → Bool
uses_new w = new_in (operation w) w

-- What uses it was 7.
later_seven : (o : Operation) (w : ℕ) → new_in o w ≡ true → direct_later o w ≡ 7
later_seven (plain p) w e = new_was_seven p w e
later_seven nop w e = absurd (false≢true e)
later_seven (branch b) w e = absurd (false≢true e)
later_seven unlisted w e = absurd (false≢true e)

-- A word that does not is judged as it was,
pub refusal_before : (w : ℕ) → uses_new w ≡ false → direct_refusal w ≡ refusal_of w
unfolding direct_refusal refusal_of direct_later later
refusal_before w old = ap (or_else (reserved_set w) 6) (go (operation w) old)
  where
    go : (o : Operation) → new_in o w ≡ false → direct_later o w ≡ later o w
    go (plain p) e = plain_before p w e
    go nop e = refl
    go (branch b) e = refl
    go unlisted e = refl

-- has the effect that it had,
pub acts_before : (w : ℕ) → uses_new w ≡ false → (awake : List Bool) (st : Store) → direct_effect w awake st ≡ effect w awake st
unfolding direct_effect effect
acts_before w old awake st = go (operation w) old
  where
    was : Operation → Store
    was o = elim o [ plain p ↦ direct_plain_effect p w awake st | nop ↦ st | branch b ↦ st | unlisted ↦ st ]

    is : Operation → Store
    is o = elim o [ plain p ↦ plain_effect p (settled p st.addresses w) awake st | nop ↦ st | branch b ↦ st | unlisted ↦ st ]

    go : (o : Operation) → new_in o w ≡ false → was o ≡ is o
    go (plain p) e = effect_before p w e awake st ∙ ap (λ (v : ℕ). plain_effect p v awake st) (sym (settled_before p w e st.addresses))
    go nop e = refl
    go (branch b) e = refl
    go unlisted e = refl

-- makes the step that it made,
pub step_before : (w : ℕ) → uses_new w ≡ false → (here : ℕ) (ways : Ways) (s : State) → direct_step w here ways s ≡ step_at w here ways s
unfolding direct_perform perform
step_before w old here ways s = go (operation w)
  where
    cs : List Channel
    cs = map (wake here) s.channels

    passes : direct_pass w ways s.store cs ≡ pass w ways s.store cs
    passes = λ i. record { store = acts_before w old (map is_awake cs) s.store i; channels = cs; place = ways.next }

    go : (o : Operation) → direct_perform o w ways s.store cs ≡ perform o w ways s.store cs
    go (plain p) = passes
    go nop = passes
    go (branch b) = refl
    go unlisted = passes

-- and is stopped by no address, if it is accepted.
pub never_stops : (w : ℕ) → uses_new w ≡ false → refusal_of w ≡ 0 → (addresses : List ℕ) → address_stops addresses w ≡ false
unfolding address_stops
never_stops w old accepted addresses = go (operation w) refl old
  where
    stops : Operation → Bool
    stops o = elim o [ plain p ↦ address_broken p addresses w | nop ↦ false | branch b ↦ false | unlisted ↦ false ]

    go : (o : Operation) → operation w ≡ o → new_in o w ≡ false → stops o ≡ false
    go (plain p) q e = whole p w e addresses (legal_plain p w q accepted)
    go nop q e = refl
    go (branch b) q e = refl
    go unlisted q e = refl

-- What is answered otherwise now was refused as 7.
pub changed_were_seven : (w : ℕ) → (direct_refusal w ≡ refusal_of w) ⊎ (direct_refusal w ≡ 7)
unfolding direct_refusal
changed_were_seven w = go (uses_new w) refl
  where
    seven : (r : Bool) → reserved_set w ≡ r → direct_later (operation w) w ≡ 7
        → (or_else (reserved_set w) 6 (direct_later (operation w) w) ≡ refusal_of w) ⊎ (or_else (reserved_set w) 6 (direct_later (operation w) w) ≡ 7)
    seven true h e = inl (rw h (sym (six w h)))
    seven false h e = inr (rw h e)

    go : (t : Bool) → uses_new w ≡ t
        → (or_else (reserved_set w) 6 (direct_later (operation w) w) ≡ refusal_of w) ⊎ (or_else (reserved_set w) 6 (direct_later (operation w) w) ≡ 7)
    go false e = inl (refusal_before w e)
    go true e = seven (reserved_set w) refl (later_seven (operation w) w e)

-- What was accepted uses nothing new.
pub accepted_old : (w : ℕ) → direct_refusal w ≡ 0 → uses_new w ≡ false
unfolding direct_refusal
accepted_old w z = go (uses_new w) refl
  where
    refused : (r : Bool) → or_else r 6 7 ≡ 0 → ⊥
    refused true z = let n : ◌≡◌ {A = ℕ} 6 0 = z in omega arith
    refused false z = let n : ◌≡◌ {A = ℕ} 7 0 = z in omega arith

    go : (t : Bool) → uses_new w ≡ t → uses_new w ≡ false
    go false e = e
    go true e = absurd (refused (reserved_set w) (ap (or_else (reserved_set w) 6) (sym (later_seven (operation w) w e)) ∙ z))

-- The rules with addresses only add to the rules before: what these accepted is accepted, as the same instructions, and makes the same steps and runs (Adding).
pub addresses_add : Adds direct_refusal direct_step
addresses_add =
    record {
      accepts = λ w e. sym (refusal_before w (accepted_old w e)) ∙ e;
      acts = λ w e. step_before w (accepted_old w e);
    }

-- And a kernel of words that use nothing new, if it is accepted, was accepted.
pub old_accepted : (forms : Forms) (dictionary kernel : List ℕ) (k : List Instr) → accepted forms dictionary kernel ≡ good k
    → Each (λ _ _ w. uses_new w ≡ false) k → accepted_by (judge_at_by direct_refusal) forms dictionary kernel ≡ good k
unfolding judge_short_by judge_long_by judge_at_by parse_by judged_kernel_by accepted_by judge_short judge_long judge_at parse judged_kernel accepted
old_accepted forms dictionary kernel k e a =
    accepted_carried refusal_of forms dictionary kernel k e direct_refusal (each_map (λ w. uses_new w ≡ false) _ (λ w h z. refusal_before w h ∙ z) k a)
