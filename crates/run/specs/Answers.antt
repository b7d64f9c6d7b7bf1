-- The calls' cases in the code's order. Assumes nothing.
use Rattle.std.specs.Prelude.{Bool, true, false, cond, ◌&&◌, ◌⊎◌, ◌≡◌, ℕ, ◌*◌, ◌/◌, ◌<◌, ◌≤◌, eqb, length}
use Rattle.std.proofs.Common.{inl, inr, sym, ◌∙◌, subst, arith, length-drop}
use mathlib.Core.List.{List, ◌++◌}
use Rattle.std.proofs.Math.Option.{Option, none, some}
use Rattle.std.proofs.Math.Path.{refl, ap}
use Rattle.std.proofs.Math.ListN.{take, take-append-drop}
use borrow.Author.Tests.{eqb-true, eq-eqb, ne_eqb, lt-ltb, le-ltb}
use Rattle.paper.specs.Limits.{address_bytes, register_bytes, state_length, budget_limit}
use Rattle.paper.specs.Kernel.{Instr, long_and_short, good}
use Rattle.paper.specs.Jump.{lands}
use Rattle.paper.specs.Machine as paper
use Rattle.paper.specs.Machine.{stops, or_spent, step, run}
use Rattle.laws.specs.Runs.{more, run-zero, run_on}
use Rattle.paper.specs.Store.{Store}
use Rattle.paper.specs.State.{addresses_in, state_of, state_legal, state_lands, waits_land, all_three, channels_in, state_bytes}
use Rattle.paper.specs.Calls.{sized, judged_kernel, accepted, Changed, unchanged, all_sized, on_state, stopped_as, stepped_as, step_call, ran_as, run_call}
use Rattle.laws.specs.Same.{state_names}
use Rattle.laws.specs.Lasting.{lands_before}
use Rattle.laws.specs.Demands.{Ready, run_ready, step_ready}
use Rattle.std.specs.Prelude as std
use Rattle.std.specs.Prelude.{Result, Ok, Err}
use Rattle.words.specs.declared.refusal.Refusal.TheVariants.{WrongSize, BudgetOver, BadState, BadAddress}
use Rattle.words.specs.declared.answer.Verdict.{Verdict}
use Rattle.words.specs.declared.answer.Verdict.TheVariants.{Accepted, Ended, Spent}
use Rattle.words.specs.declared.answer.Refused.{Refused}
use Rattle.words.specs.Answer.{Answer, verdict_number, answer_is, Left, accepting, refused_at}
use Rattle.kernel.specs.Marks.{Said, marked, Says, says_refused, says_instrs}
use Rattle.kernel.specs.Accepting.{accepted_kernel}
use Rattle.machine.specs.declared.step.Stand.{Stand}
use Rattle.machine.specs.Steps.{Shows}
use Rattle.machine.specs.Ends.{Inside}
use Rattle.run.specs.Landing.{legal_by, legal_same, waits_lands}
use Rattle.run.specs.declared.running.Outcome.{Outcome}
use Rattle.run.specs.Running.{Running, running_end, running_either}
use Rattle.run.specs.declared.call.Call.{Call}
use Rattle.run.specs.declared.call.Call.TheVariants.{Step, Run}
use Rattle.run.specs.Kernels.{instructions, MarksLand, Takes, runnable}
use Rattle.run.specs.Opening.{Blank}
use Rattle.run.specs.Lent.{lent_whole, whole_lent}
use Rattle.run.specs.Outcomes.{verdict_is, Ends, one_step, no_step}
use Rattle.laws.specs.Truth.{both_true}

-- No run whose budget is spent says 22.
never : (o : Option ℕ) → or_spent o ≡ 22 → ⊥
never none e = let z : ◌≡◌ {A = ℕ} 21 22 = e in omega arith
never (some v) e = go (eqb v 20) e
  where
    go : (t : Bool) → ◌≡◌ {A = ℕ} (cond t 20 21) 22 → ⊥
    go true e = let z : ◌≡◌ {A = ℕ} 20 22 = e in omega arith
    go false e = let z : ◌≡◌ {A = ℕ} 21 22 = e in omega arith

-- ---- 1

-- All that is lent has its size.
pub record Sizes (dictionary kernel registers bytes : List ℕ) : Type 0 where
  pub all : all_sized dictionary kernel registers bytes ≡ true
  pub right : sized dictionary kernel ≡ true
  pub registers-are : length registers ≡ register_bytes
  pub state-is : length bytes ≡ state_length

module _ (dictionary kernel registers bytes : List ℕ) where
  -- What the paper's test of all the sizes tells.
  pub sizes_of : all_sized dictionary kernel registers bytes ≡ true → Sizes dictionary kernel registers bytes
  sizes_of e =
      let p = both_true (sized dictionary kernel) (eqb (length registers) register_bytes && eqb (length bytes) state_length) e in
      let q = both_true (eqb (length registers) register_bytes) (eqb (length bytes) state_length) p.1 in
      record { all = e; right = p.0; registers-are = eqb-true _ _ q.0; state-is = eqb-true _ _ q.1 }

  pub sizes_right : sized dictionary kernel ≡ true → length registers ≡ register_bytes → length bytes ≡ state_length → Sizes dictionary kernel registers bytes
  sizes_right h e f = record { all = rw (h, eq-eqb _ _ e, eq-eqb _ _ f); right = h; registers-are = e; state-is = f }

  -- Something has not.
  pub unsized_kernel : sized dictionary kernel ≡ false → all_sized dictionary kernel registers bytes ≡ false
  unsized_kernel h = rw h

  module _ (h : sized dictionary kernel ≡ true) where
    pub unsized_registers : (length registers ≡ register_bytes → ⊥) → all_sized dictionary kernel registers bytes ≡ false
    unsized_registers n = rw (h, ne_eqb _ _ n)

    pub unsized_state : length registers ≡ register_bytes → (length bytes ≡ state_length → ⊥) → all_sized dictionary kernel registers bytes ≡ false
    unsized_state e n = rw (h, eq-eqb _ _ e, ne_eqb _ _ n)

-- ---- the kernel's refusals, and 15

-- The kernel is accepted, and the state is legal in it.
pub record Lawful (dictionary kernel registers bytes : List ℕ) : Type 0 where
  pub accepts : accepted long_and_short dictionary kernel ≡ good (instructions dictionary kernel)
  pub judged : judged_kernel long_and_short dictionary kernel ≡ good (instructions dictionary kernel)
  pub legal : state_legal (instructions dictionary kernel) registers bytes ≡ true

-- All that is lent to an accepted kernel has its size, the state is legal in it, and the marks are its.
pub record Allowed (dictionary kernel marks registers bytes : List ℕ) : Type 0 where
  pub sizes : Sizes dictionary kernel registers bytes
  pub lawful : Lawful dictionary kernel registers bytes
  pub marked : MarksLand dictionary kernel marks

-- Where a run stands that begins at a state's bytes: there is a mask for each place of the kernel and for its end.
pub record Stood (kernel registers bytes here : List ℕ) (s : Stand) : Type 0 where
  pub shows : Shows registers (addresses_in bytes) here s (state_of registers bytes)
  pub flag0 : s.flags.flag0 < 65536
  pub flag1 : s.flags.flag1 < 65536
  pub room : length kernel < 8 * length here
  pub few : length here ≤ 65536

pub stood : (kernel registers bytes before here : List ℕ) (s : Stand) → Blank kernel before → Shows registers (addresses_in bytes) here s (state_of registers bytes)
    → (s.flags.flag0 < 65536) × (s.flags.flag1 < 65536) × (length here ≡ length before) → Stood kernel registers bytes here s
stood kernel registers bytes before here s blank shows h =
    record { shows = shows; flag0 = h.0; flag1 = h.1; room = omega (arith, blank.room, h.2); few = omega (arith, blank.few, h.2) }

-- What is said of a kernel and a state: the refusal that any call on them answers, or that they are lawful.
abbrev pub Admits : List ℕ → List ℕ → List ℕ → List ℕ → List ℕ → Result (Unit {0}) Refused → Type 0
Admits dictionary kernel registers bytes marks (Err f) =
    (go : List Instr → paper.State → Changed)
    → on_state registers bytes go (judged_kernel long_and_short dictionary kernel) ≡ unchanged (answer_is (Err f)) registers bytes
Admits dictionary kernel registers bytes marks (Ok fine) = Lawful dictionary kernel registers bytes × MarksLand dictionary kernel marks

module _ (dictionary kernel bytes : List ℕ) (right : sized dictionary kernel ≡ true)
    (marks : List ℕ) (said : Said) (says : Says (accepted long_and_short dictionary kernel) said marks) where
  judged_is : judged_kernel long_and_short dictionary kernel ≡ accepted long_and_short dictionary kernel
  unfolding accepted
  judged_is = rw right

  pub admits_refused : (f : Refused) → said ≡ Err f → (registers : List ℕ) → Admits dictionary kernel registers bytes marks (Err f)
  admits_refused f e registers go =
      let p = says_refused (accepted long_and_short dictionary kernel) said marks says f e in
      rw p.1 (ap (on_state registers bytes go) (judged_is ∙ p.0))

  module _ (count : ℕ) (told : said ≡ Ok count) where
    is_good : accepted long_and_short dictionary kernel ≡ good (instructions dictionary kernel)
    unfolding instructions
    is_good = (says_instrs (accepted long_and_short dictionary kernel) said marks says count told).0

    marks_land : MarksLand dictionary kernel marks
    unfolding instructions
    marks_land = (says_instrs (accepted long_and_short dictionary kernel) said marks says count told).1

    legal_is : (registers : List ℕ) → legal_by (marked marks) bytes ≡ state_legal (instructions dictionary kernel) registers bytes
    legal_is registers = legal_same (marked marks) (instructions dictionary kernel) marks_land registers bytes

    pub admits_illegal : legal_by (marked marks) bytes ≡ false → (registers : List ℕ) → Admits dictionary kernel registers bytes marks (Err (refused_at BadState 0))
    admits_illegal l registers go = rw (judged_is ∙ is_good, sym (legal_is registers) ∙ l)

    pub admits_fine : legal_by (marked marks) bytes ≡ true → (registers : List ℕ) → Admits dictionary kernel registers bytes marks (Ok tt)
    admits_fine l registers = (record { accepts = is_good; judged = judged_is ∙ is_good; legal = sym (legal_is registers) ∙ l }, marks_land)

-- ---- one way for both calls

-- A step, or a run.
abbrev pub call_of : Call → List ℕ → List ℕ → List ℕ → List ℕ → Changed
call_of Step dictionary kernel registers bytes = step_call dictionary kernel registers bytes
call_of (Run budget) dictionary kernel registers bytes = run_call dictionary kernel budget registers bytes

-- The steps that it may make.
abbrev pub budget_of : Call → ℕ
budget_of Step = 1
budget_of (Run budget) = budget

-- ---- the calls, in the code's order

module _ (dictionary kernel registers bytes : List ℕ) where
  pub step_size : all_sized dictionary kernel registers bytes ≡ false → Left (step_call dictionary kernel registers bytes) (Err (refused_at WrongSize 0)) registers bytes
  unfolding step_call
  step_size h = rw h (refl, refl, refl)

  pub run_size : (budget : ℕ) → all_sized dictionary kernel registers bytes ≡ false
      → Left (run_call dictionary kernel budget registers bytes) (Err (refused_at WrongSize 0)) registers bytes
  unfolding run_call
  run_size budget h = rw h (refl, refl, refl)

module _ (dictionary kernel registers bytes : List ℕ) (sizes : Sizes dictionary kernel registers bytes) where
  pub run_limit : (budget : ℕ) → budget_limit < budget → Left (run_call dictionary kernel budget registers bytes) (Err (refused_at BudgetOver 0)) registers bytes
  unfolding run_call
  run_limit budget h = rw (sizes.all, lt-ltb _ _ h) (refl, refl, refl)

  module _ (marks : List ℕ) (o : Result (Unit {0}) Refused) (admits : Admits dictionary kernel registers bytes marks o) where
    module _ (f : Refused) (e : o ≡ Err f) where
      barred : (go : List Instr → paper.State → Changed)
          → on_state registers bytes go (judged_kernel long_and_short dictionary kernel) ≡ unchanged (answer_is (Err f)) registers bytes
      barred = subst (λ (o : Result (Unit {0}) Refused). Admits dictionary kernel registers bytes marks o) e admits

      -- A step of what is refused, and a run of it, answer that refusal and change nothing.
      pub step_barred : Left (step_call dictionary kernel registers bytes) (Err f) registers bytes
      unfolding step_call
      step_barred = rw (sizes.all, barred (λ k s. stepped_as (stops k s) registers bytes s (step k s))) (refl, refl, refl)

      pub run_barred : (budget : ℕ) → budget ≤ budget_limit → Left (run_call dictionary kernel budget registers bytes) (Err f) registers bytes
      unfolding run_call
      run_barred budget h = rw (sizes.all, le-ltb _ _ h, barred (λ k s. ran_as (run k budget s))) (refl, refl, refl)

      pub call_barred : (call : Call) → budget_of call ≤ budget_limit → Left (call_of call dictionary kernel registers bytes) (Err f) registers bytes
      call_barred Step h = step_barred
      call_barred (Run budget) h = run_barred budget h

    pub lawful : (fine : Unit {0}) → o ≡ Ok fine → Lawful dictionary kernel registers bytes × MarksLand dictionary kernel marks
    lawful fine e = subst (λ (o : Result (Unit {0}) Refused). Admits dictionary kernel registers bytes marks o) e admits

-- Of an accepted kernel and a legal state.
module _ (dictionary kernel registers bytes : List ℕ) (sizes : Sizes dictionary kernel registers bytes) (law : Lawful dictionary kernel registers bytes) where
  abbrev k : List Instr
  k = instructions dictionary kernel

  ready : Ready dictionary kernel registers bytes k
  ready = record { sizes = sizes.all; judged = law.judged; legal = law.legal }

  legal_parts : (all_three bytes 16 ≡ true) × (state_lands k (state_of registers bytes) ≡ true)
  unfolding state_legal
  legal_parts = both_true (all_three bytes 16) (state_lands k (state_of registers bytes)) law.legal

  -- Each channel is one of the three.
  pub legal_three : all_three bytes 16 ≡ true
  legal_three = legal_parts.0

  pub taken : Takes dictionary kernel
  taken = accepted_kernel long_and_short dictionary kernel k law.accepts

  module _ (here : List ℕ) (blank : Blank kernel here) where
    lands_inside : (p : ℕ) → lands k p ≡ true → p < length here
    lands_inside p e = omega (arith, lands_before k taken.sound.laid p e, taken.ends, blank.room)

    -- Channels that wait do so inside the masks.
    pub waits_inside : Inside (length here) (channels_in bytes 0 16)
    unfolding state_of
    waits_inside n p h e =
        lands_inside p
        (waits_lands k (channels_in bytes 0 16) (both_true (lands k (state_of registers bytes).place) (waits_land k (channels_in bytes 0 16)) legal_parts.1).1 n p e)

  -- The step and the run from where the state stands.
  module _ (here : List ℕ) (s : Stand) (stands : Stood kernel registers bytes here s) where
    sixteen : length (addresses_in bytes) ≡ address_bytes
    sixteen = length-drop 42 bytes ∙ omega (arith, sizes.state-is)

    pub opened : Running k registers (addresses_in bytes) here s (state_of registers bytes)
    opened =
        record {
          runs = runnable dictionary kernel taken;
          lasts =
              record {
                holding =
                    record {
                      store = rw (← stands.shows.store) (record { bytes = sizes.registers-are; flag0 = stands.flag0; flag1 = stands.flag1; addresses = sixteen });
                      count = stands.shows.posted.sixteen;
                    };
                naming = state_names k taken.sound (state_of registers bytes) legal_parts.1;
              };
          shows = stands.shows;
          room = omega (arith, taken.ends, stands.room);
          few = stands.few;
        }

    -- A step at the end,
    pub step_end : s.place ≡ length kernel / 8 → Left (step_call dictionary kernel registers bytes) (Ok (record { verdict = Ended; count = 0 })) registers bytes
    unfolding step_call
    step_end h =
        rw (sizes.all, law.judged, law.legal, running_end k registers (addresses_in bytes) here s (state_of registers bytes) opened (omega (arith, h, taken.ends))) (refl, refl, refl)

    module _ (registers' addresses' here' : List ℕ) (out : Outcome) (ends : Ends k 1 (state_of registers bytes) registers' addresses' here' out) (away : s.place ≡ length kernel / 8 → ⊥) where
      -- What stops a step away from the end is a broken address.
      stops_away : (stops k (state_of registers bytes) ≡ none) ⊎ (stops k (state_of registers bytes) ≡ some 22)
      stops_away = running_either k registers (addresses_in bytes) here s (state_of registers bytes) opened (λ e. away (omega (arith, e, taken.ends)))

      -- a step away from it, which is a run of one, is made if its verdict is not 22,
      pub step_made : (verdict_is out.verdict ≡ 22 → ⊥) → (bytes' : List ℕ) → bytes' ≡ state_bytes ends.0
          → Left (step_call dictionary kernel registers bytes) (accepting 0) registers' bytes'
      step_made fine bytes' wrote = go stops_away
        where
          go : (stops k (state_of registers bytes) ≡ none) ⊎ (stops k (state_of registers bytes) ≡ some 22) → Left (step_call dictionary kernel registers bytes) (accepting 0) registers' bytes'
          go (inl on) =
              let same : ends.0 ≡ step k (state_of registers bytes) = one_step k (state_of registers bytes) on (verdict_is out.verdict) out.steps ends.0 ends.2 in
              rw (step_ready dictionary kernel registers bytes k ready on, ← same) (refl, ap (λ (st : Store). st.registers) ends.1.shows.store, wrote)
          go (inr off) = absurd (fine (no_step k (state_of registers bytes) 22 off (verdict_is out.verdict) out.steps ends.0 ends.2).0)

      -- and else nothing changes.
      pub step_astray : verdict_is out.verdict ≡ 22 → (bytes' : List ℕ) → bytes' ≡ take 42 bytes ++ addresses'
          → Left (step_call dictionary kernel registers bytes) (Err (record { refusal = BadAddress; offset = 8 * out.stand.place; count = std.Some 0 })) registers' bytes'
      unfolding step_call state_of
      step_astray stopped bytes' wrote = go stops_away
        where
          go : (stops k (state_of registers bytes) ≡ none) ⊎ (stops k (state_of registers bytes) ≡ some 22)
              → Left (step_call dictionary kernel registers bytes) (Err (record { refusal = BadAddress; offset = 8 * out.stand.place; count = std.Some 0 })) registers' bytes'
          go (inl on) =
              let v = ap (λ (o : paper.Outcome). o.verdict) (ends.2 ∙ run_on (stops k) (step k) 0 (state_of registers bytes) on ∙ ap more (run-zero (stops k) (step k) (step k (state_of registers bytes)))) in
              absurd (never (stops k (step k (state_of registers bytes))) (sym v ∙ stopped))
          go (inr off) =
              let still = (no_step k (state_of registers bytes) 22 off (verdict_is out.verdict) out.steps ends.0 ends.2).1 in
              let same = ends.1.shows.store ∙ ap (λ (t : paper.State). t.store) still in
              let place = ends.1.shows.place ∙ ap (λ (t : paper.State). t.place) still in
              rw (sizes.all, law.judged, law.legal, off, place) (
                refl,
                ap (λ (st : Store). st.registers) same,
                wrote ∙ ap (λ (l : List ℕ). take 42 bytes ++ l) (ap (λ (st : Store). st.addresses) same) ∙ take-append-drop 42 bytes,
              )

    -- a run.
    pub run_made : (budget : ℕ) → budget ≤ budget_limit → (registers' addresses' here' bytes' : List ℕ) (out : Outcome)
        → (ends : Ends k budget (state_of registers bytes) registers' addresses' here' out) → bytes' ≡ state_bytes ends.0
        → (answer : Answer) → answer_is answer ≡ stopped_as (verdict_is out.verdict) out.stand.place out.steps
        → Left (run_call dictionary kernel budget registers bytes) answer registers' bytes'
    run_made budget h registers' addresses' here' bytes' out ends wrote answer is =
        rw (run_ready dictionary kernel registers bytes k ready budget h, ← ends.2)
        (is ∙ ap (λ (p : ℕ). stopped_as (verdict_is out.verdict) p out.steps) ends.1.shows.place, ap (λ (st : Store). st.registers) ends.1.shows.store, wrote)

-- A run that a verdict ends is not stopped by a broken address.
pub told_fine : (v : Verdict) → verdict_number v ≡ 22 → ⊥
told_fine Accepted e = let z : ◌≡◌ {A = ℕ} 0 22 = e in omega arith
told_fine Ended e = let z : ◌≡◌ {A = ℕ} 20 22 = e in omega arith
told_fine Spent e = let z : ◌≡◌ {A = ℕ} 21 22 = e in omega arith

-- How a run's outcome is told.
module _ (o : std.Option Verdict) (place steps : ℕ) where
  pub told_astray : o ≡ std.None → answer_is (Err (record { refusal = BadAddress; offset = 8 * place; count = std.Some steps })) ≡ stopped_as (verdict_is o) place steps
  told_astray e = rw e

  pub told_verdict : (v : Verdict) → o ≡ std.Some v → answer_is (Ok (record { verdict = v; count = steps })) ≡ stopped_as (verdict_is o) place steps
  told_verdict v e = rw (e, ne_eqb _ _ (told_fine v))

-- A run begins where a legal state stands, with what is lent of its bytes.
pub begins : {dictionary kernel marks registers bytes before here : List ℕ} {s : Stand} → Allowed dictionary kernel marks registers bytes → Blank kernel before
    → Shows registers (addresses_in bytes) here s (state_of registers bytes) → (s.flags.flag0 < 65536) × (s.flags.flag1 < 65536) × (length here ≡ length before)
    → Running (instructions dictionary kernel) registers (lent_whole bytes) here s (state_of registers bytes)
begins {dictionary} {kernel} {marks} {registers} {bytes} {before} {here} {s} a blank shows h =
    whole_lent bytes a.sizes.state-is (instructions dictionary kernel) registers here s (state_of registers bytes)
    (opened dictionary kernel registers bytes a.sizes a.lawful here s (stood kernel registers bytes before here s blank shows h))
