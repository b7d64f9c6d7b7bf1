-- A kernel that was accepted before 02 §7 is stepped and run as it was: with the first 42 bytes of the state as the bench did then, never with 22, and a0's bytes stay;
-- and a start leaves what it left, and zeros. Assumes nothing.
use Rattle.std.specs.Prelude.{Bool, true, false, not, cond, ◌≡◌, eqb, ltb, length, take, drop, replicate}
use Rattle.std.proofs.Math.Bool.{◌&&◌}
use mathlib.Core.List.{List, [], ◌∷◌, ◌++◌, map}
use Rattle.std.proofs.Math.Option.{Option, none, some}
use Rattle.std.proofs.Math.Path.{refl, sym, ap₂}
use Rattle.std.proofs.Common.{ap, ◌∙◌, arith, take-append-drop, length-take-le, eq-eqb, ne_eqb}
use Prim.Native.Nat.{ℕ, zero, suc, ◌+◌, ◌*◌, ◌<◌, ◌≤◌}
use Rattle.paper.specs.Bits.{bytes_of}
use Rattle.paper.specs.Limits.{register_bytes, address_bytes, state_length, budget_limit}
use Rattle.paper.specs.Operation.{Branch, jmpi, if, else, endif, while, break, cont, Operation, plain, nop, branch, unlisted, operation}
use Rattle.paper.specs.Store.{Store}
use Rattle.paper.specs.Enable.{holds, enabled}
use Rattle.paper.specs.Kernel.{Instr, long_and_short, good}
use Rattle.paper.specs.Jump.{fetch}
use Rattle.paper.specs.Machine.{Channel, State, Ways, wake, is_awake, park, each, someone, act, ways_of, step, stops_on, stops, or_spent, Outcome, run, start}
use Rattle.paper.specs.State.{half, channel_in, one_of_three, channels_in, all_three, state_lands, addresses_in, state_of, state_legal, state_bytes}
use Rattle.paper.specs.Calls.{Answer, verdict, refusal, refusal_with, Changed, unchanged, sized, judged_kernel, start_call, all_sized, stopped_as, stepped_as, step_call, ran_as, run_call}
use Rattle.laws.specs.Adding.{each_fetched, accepted_each, accepted_stays, steps_same}
use Rattle.laws.specs.Bytes.{number_at-append}
use Rattle.laws.specs.Otherwise.{judged_kernel_by, accepted_by, step_on_by, step_by}
use Rattle.laws.specs.Packing.{accepted_parts}
use Rattle.laws.specs.Rename.{cond-ap}
use Rattle.laws.specs.Runs.{run-zero, run_stop, run_on, run-carried}
use Rattle.laws.specs.Walk.{Each}
use Rattle.laws.specs.AddressesBefore.{direct_channel_stores, direct_registers_after, direct_finds, direct_compared_flag, direct_plain_effect, direct_effect, direct_pass, direct_perform, direct_step, direct_refusal}
use Rattle.laws.specs.AddressesBefore.{direct_state_length, direct_state_of, direct_state_legal, direct_state_bytes, direct_start_call, direct_judge, direct_stops_on, direct_stops, direct_run, direct_all_sized, direct_stepped_as, direct_step_call, direct_ran_as, direct_run_call}
use Rattle.laws.specs.Addresses.{accepted_old, never_stops, addresses_add}

-- ---- a0 put into a state

-- The store with these bytes in a0,
abbrev pub store_with : List ℕ → Store → Store
store_with a st = record { registers = st.registers; flag0 = st.flag0; flag1 = st.flag1; addresses = a }

-- and the state.
abbrev pub state_with : List ℕ → State → State
state_with a s = record { store = store_with a s.store; channels = s.channels; place = s.place }

module _ (a : List ℕ) where
  -- What an instruction did has nothing to do with it.
  effect_with : (w : ℕ) (awake : List Bool) (st : Store) → direct_effect w awake (store_with a st) ≡ store_with a (direct_effect w awake st)
  unfolding direct_effect direct_plain_effect direct_registers_after direct_channel_stores direct_compared_flag direct_finds enabled holds
  effect_with w awake st = go (operation w)
    where
      was : Operation → Store → Store
      was o s = elim o [ plain p ↦ direct_plain_effect p w awake s | nop ↦ s | branch b ↦ s | unlisted ↦ s ]

      go : (o : Operation) → was o (store_with a st) ≡ store_with a (was o st)
      go (plain p) = refl
      go nop = refl
      go (branch b) = refl
      go unlisted = refl

  -- Nor has what a branch does,
  branch_with : (b : Branch) (w : ℕ) (ways : Ways) (st : Store) (cs : List Channel) → act b w ways (store_with a st) cs ≡ state_with a (act b w ways st cs)
  unfolding act holds
  branch_with if w ways st cs = refl
  branch_with else w ways st cs = refl
  branch_with endif w ways st cs = refl
  branch_with while w ways st cs =
      sym (cond-ap (state_with a) (someone (λ n c. is_awake c && holds w st n) 0 cs)
      (record { store = st; channels = each (λ n. park (not (holds w st n)) ways.next) 0 cs; place = ways.jump })
      (record { store = st; channels = cs; place = ways.next }))
  branch_with break w ways st cs = refl
  branch_with cont w ways st cs = refl
  branch_with jmpi w ways st cs = refl

  -- and so what a step did.
  step_with : (w here : ℕ) (ways : Ways) (s : State) → direct_step w here ways (state_with a s) ≡ state_with a (direct_step w here ways s)
  unfolding direct_perform
  step_with w here ways s = go (operation w)
    where
      cs : List Channel
      cs = map (wake here) s.channels

      passes : direct_pass w ways (store_with a s.store) cs ≡ state_with a (direct_pass w ways s.store cs)
      passes = λ i. record { store = effect_with w (map is_awake cs) s.store i; channels = cs; place = ways.next }

      go : (o : Operation) → direct_perform o w ways (store_with a s.store) cs ≡ state_with a (direct_perform o w ways s.store cs)
      go (plain p) = passes
      go nop = passes
      go (branch b) = branch_with b w ways s.store cs
      go unlisted = passes

  -- The state's bytes end with it.
  bytes_with : (s : State) → state_bytes (state_with a s) ≡ direct_state_bytes s ++ a
  unfolding state_bytes direct_state_bytes bytes_of
  bytes_with s = refl

  module _ (k : List Instr) (each : Each (λ _ _ w. direct_refusal w ≡ 0) k) where
    -- A kernel that was accepted makes the steps that it made,
    steps_with : (s : State) → state_with a (step_by direct_judge direct_step k s) ≡ step k (state_with a s)
    unfolding step_on_by
    steps_with s = sym (go (fetch k s.place)) ∙ steps_same direct_refusal direct_step addresses_add k each (state_with a s)
      where
        go : (o : Option Instr) → step_on_by direct_judge direct_step o (state_with a s) ≡ state_with a (step_on_by direct_judge direct_step o s)
        go none = refl
        go (some i) = step_with i.word i.place (ways_of i) s

    -- and only the end stops it.
    stops_with : (s : State) → stops k (state_with a s) ≡ direct_stops k s
    stops_with s = go (fetch k s.place) refl
      where
        go : (o : Option Instr) → fetch k s.place ≡ o → stops_on o a ≡ direct_stops_on o
        go none e = refl
        go (some i) e =
            let z = each_fetched (λ w. direct_refusal w ≡ 0) k s.place each i e in
            let old = accepted_old i.word z in
            ap (λ (t : Bool). cond t (some 22) none) (never_stops i.word old (addresses_add.accepts i.word z) a)

    -- So a run is the run that it was.
    runs_with : (n : ℕ) (s : State)
        → (let o = direct_run k n s in record { verdict = o.verdict; steps = o.steps; state = state_with a o.state }) ≡ run k n (state_with a s)
    runs_with n s =
        run-carried (state_with a) (direct_stops k) (stops k) (step_by direct_judge direct_step k) (step k) (λ _. Unit {0}) (λ _ _. tt)
        (λ s _. stops_with s) (λ s _. steps_with s) n s tt

-- ---- the state that is lent

-- The state of then: the first 42 bytes of a state.
abbrev pub former_bytes : List ℕ → List ℕ
former_bytes bytes = take direct_state_length bytes

module _ (bytes : List ℕ) (long : length bytes ≡ state_length) where
  -- A state has 42 bytes before a0's.
  former-length : length (former_bytes bytes) ≡ direct_state_length
  former-length = let h : 42 ≤ length bytes = omega (arith, long) in length-take-le 42 bytes h

  -- These hold every number of the state but a0's:
  half_same : (from : ℕ) → from + 2 ≤ 42 → half bytes from ≡ half (former_bytes bytes) from
  half_same from h =
      ap (λ (l : List ℕ). half l from) (sym (take-append-drop 42 bytes))
      ∙ number_at-append 2 (former_bytes bytes) (drop 42 bytes) from (omega (arith, former-length))

  -- each channel,
  channel_same : (n : ℕ) → n < 16 → channel_in bytes n ≡ channel_in (former_bytes bytes) n
  unfolding channel_in
  channel_same n h = rw (half_same 8 (omega arith), half_same 6 (omega arith), half_same (10 + 2 * n) (omega arith))

  -- and whether it is one of the three,
  three_same : (n : ℕ) → n < 16 → one_of_three bytes n ≡ one_of_three (former_bytes bytes) n
  unfolding one_of_three
  three_same n h = rw (half_same 8 (omega arith), half_same 6 (omega arith), half_same (10 + 2 * n) (omega arith))

  -- all channels,
  channels_same : (n c : ℕ) → n + c ≤ 16 → channels_in bytes n c ≡ channels_in (former_bytes bytes) n c
  unfolding channels_in
  channels_same n zero h = refl
  channels_same n (suc c) h = ap₂ ◌∷◌ (channel_same n (omega arith)) (channels_same (suc n) c (omega arith))

  -- and whether all are.
  all_three_same : (n : ℕ) → n ≤ 16 → all_three bytes n ≡ all_three (former_bytes bytes) n
  unfolding all_three
  all_three_same zero h = refl
  all_three_same (suc n) h = ap₂ ◌&&◌ (all_three_same n (omega arith)) (three_same n (omega arith))

  -- So the state is what they write, with a0's bytes,
  state_same : (registers : List ℕ) → state_of registers bytes ≡ state_with (addresses_in bytes) (direct_state_of registers (former_bytes bytes))
  unfolding state_of direct_state_of
  state_same registers = λ i. record {
    store = record { registers = registers; flag0 = half_same 0 (omega arith) i; flag1 = half_same 2 (omega arith) i; addresses = addresses_in bytes };
    channels = channels_same 0 16 (omega arith) i;
    place = half_same 4 (omega arith) i;
  }

  -- and is legal where that is.
  legal_same : (k : List Instr) (registers : List ℕ) → state_legal k registers bytes ≡ direct_state_legal k registers (former_bytes bytes)
  unfolding state_legal direct_state_legal
  legal_same k registers = ap₂ ◌&&◌ (all_three_same 16 (omega arith)) (ap (state_lands k) (state_same registers))

-- ---- the calls

-- What a call of then left, with a0's bytes as they are.
abbrev pub and_addresses : List ℕ → Changed → Changed
and_addresses a c = record { answer = c.answer; registers = c.registers; state = c.state ++ a }

-- An answer at the end, or of a run that no address stops, says nothing of a place.
verdict_only : (number place steps : ℕ) → (number ≡ 22 → ⊥) → stopped_as number place steps ≡ verdict number steps
verdict_only number place steps h = ap (λ (t : Bool). cond t (refusal_with 22 (8 * place) steps) (verdict number steps)) (ne_eqb number 22 h)

-- Then a run said 20 or 21.
former-verdict : (k : List Instr) (n : ℕ) (s : State) → (direct_run k n s).verdict ≡ 22 → ⊥
former-verdict k zero s e = go (fetch k s.place) (sym (ap (λ (o : Outcome). o.verdict) (run-zero (direct_stops k) (step_by direct_judge direct_step k) s)) ∙ e)
  where
    go : (o : Option Instr) → or_spent (direct_stops_on o) ≡ 22 → ⊥
    go none q = let z : ◌≡◌ {A = ℕ} 20 22 = q in omega arith
    go (some i) q = let z : ◌≡◌ {A = ℕ} 21 22 = q in omega arith
former-verdict k (suc n) s e = go (fetch k s.place) refl (former-verdict k n (step_by direct_judge direct_step k s))
  where
    next : State → State
    next = step_by direct_judge direct_step k

    go : (o : Option Instr) → fetch k s.place ≡ o → ((direct_run k n (next s)).verdict ≡ 22 → ⊥) → ⊥
    go none q later =
        let z : ◌≡◌ {A = ℕ} 20 22 = sym (ap (λ (o : Outcome). o.verdict) (run_stop (direct_stops k) next n s 20 (ap direct_stops_on q))) ∙ e in omega arith
    go (some i) q later = later (sym (ap (λ (o : Outcome). o.verdict) (run_on (direct_stops k) next n s (ap direct_stops_on q))) ∙ e)

-- A start leaves what it left, and zeros in a0.
pub start_stays : (mask flag0 flag1 : ℕ) (bytes : List ℕ) → length bytes ≡ state_length
    → start_call mask flag0 flag1 bytes
    ≡ (let former = direct_start_call mask flag0 flag1 (former_bytes bytes) in record { answer = former.answer; output = former.output ++ replicate address_bytes 0 })
unfolding start_call direct_start_call
start_stays mask flag0 flag1 bytes long =
    rw (eq-eqb (length bytes) state_length long, eq-eqb (length (former_bytes bytes)) direct_state_length (former-length bytes long))
    (λ i. record { answer = verdict 0 0; output = bytes_with (replicate address_bytes 0) (start (record { registers = []; flag0 = flag0; flag1 = flag1; addresses = [] }) mask) i })

module _ (dictionary kernel : List ℕ) (k : List Instr) (taken : accepted_by direct_judge long_and_short dictionary kernel ≡ good k)
    (registers bytes : List ℕ) (long : length bytes ≡ state_length) where
  -- a0 as it is lent,
  abbrev a : List ℕ
  a = addresses_in bytes

  -- and the state of then.
  abbrev former : List ℕ
  former = former_bytes bytes

  -- Each word was accepted.
  each_old : Each (λ _ _ w. direct_refusal w ≡ 0) k
  each_old = accepted_each direct_refusal long_and_short dictionary kernel k taken

  -- The kernel's instructions are k now,
  now : (sized dictionary kernel ≡ true) × (judged_kernel long_and_short dictionary kernel ≡ good k)
  now = accepted_parts dictionary kernel k (accepted_stays direct_refusal direct_step addresses_add long_and_short dictionary kernel k taken)

  -- and were k then.
  then : judged_kernel_by direct_judge long_and_short dictionary kernel ≡ good k
  unfolding accepted_by
  then = rw now.0 at taken

  -- What is lent is the state of then, and a0,
  whole : former ++ a ≡ bytes
  whole = take-append-drop 42 bytes

  -- and so is the state that it writes.
  begins : state_of registers bytes ≡ state_with a (direct_state_of registers former)
  begins = state_same bytes long registers

  -- A step from there,
  stepped : stepped_as (stops k (state_of registers bytes)) registers bytes (state_of registers bytes) (step k (state_of registers bytes))
      ≡ and_addresses a (direct_stepped_as (direct_stops k (direct_state_of registers former)) registers former (step_by direct_judge direct_step k (direct_state_of registers former)))
  stepped =
      let s = direct_state_of registers former in
      ap (λ (t : State). stepped_as (stops k t) registers bytes t (step k t)) begins
      ∙ (λ i. stepped_as (stops_with a k each_old s i) registers (sym whole i) (state_with a s) (sym (steps_with a k each_old s) i))
      ∙ go (fetch k s.place) s
    where
      go : (o : Option Instr) (s : State)
          → stepped_as (direct_stops_on o) registers (former ++ a) (state_with a s) (state_with a (step_by direct_judge direct_step k s))
          ≡ and_addresses a (direct_stepped_as (direct_stops_on o) registers former (step_by direct_judge direct_step k s))
      go none s = refl
      go (some i) s =
          λ j. record {
            answer = verdict 0 0;
            registers = (step_by direct_judge direct_step k s).store.registers;
            state = bytes_with a (step_by direct_judge direct_step k s) j;
          }

  -- and a run.
  ran : (budget : ℕ) → ran_as (run k budget (state_of registers bytes)) ≡ and_addresses a (direct_ran_as (direct_run k budget (direct_state_of registers former)))
  ran budget =
      let s = direct_state_of registers former in
      let o = direct_run k budget s in
      ap (λ (t : State). ran_as (run k budget t)) begins
      ∙ ap ran_as (sym (runs_with a k each_old budget s))
      ∙ (λ i. record {
        answer = verdict_only o.verdict o.state.place o.steps (former-verdict k budget s) i;
        registers = o.state.store.registers;
        state = bytes_with a o.state i;
      })

  -- A choice between what is done and what is left as it was.
  or_left : (b : Bool) (c d : Changed) (x : Answer) → c ≡ and_addresses a d
      → cond b c (unchanged x registers bytes) ≡ and_addresses a (cond b d (unchanged x registers former))
  or_left true c d x e = e
  or_left false c d x e = λ i. record { answer = x; registers = registers; state = sym whole i }

  -- 1 of all that is lent.
  all_same : all_sized dictionary kernel registers bytes ≡ direct_all_sized dictionary kernel registers former
  all_same =
      ap (λ (t : Bool). sized dictionary kernel && (eqb (length registers) register_bytes && t))
      (eq-eqb (length bytes) state_length long ∙ sym (eq-eqb (length former) direct_state_length (former-length bytes long)))

  -- A step does with the first 42 bytes what it did, and leaves a0's.
  pub step_stays : step_call dictionary kernel registers bytes ≡ and_addresses a (direct_step_call dictionary kernel registers former)
  unfolding step_call direct_step_call
  step_stays =
      rw (now.1, then, all_same, legal_same bytes long k registers)
      (or_left (direct_all_sized dictionary kernel registers former) _ _ (refusal 1 0)
      (or_left (direct_state_legal k registers former) _ _ (refusal 15 0) stepped))

  -- So does a run.
  pub run_stays : (budget : ℕ) → run_call dictionary kernel budget registers bytes ≡ and_addresses a (direct_run_call dictionary kernel budget registers former)
  unfolding run_call direct_run_call
  run_stays budget =
      rw (now.1, then, all_same, legal_same bytes long k registers) (go (direct_all_sized dictionary kernel registers former) (ltb budget_limit budget))
    where
      left : (x : Answer) → unchanged x registers bytes ≡ and_addresses a (unchanged x registers former)
      left x = λ i. record { answer = x; registers = registers; state = sym whole i }

      done : Changed
      done = cond (direct_state_legal k registers former) (ran_as (run k budget (state_of registers bytes))) (unchanged (refusal 15 0) registers bytes)

      did : Changed
      did = cond (direct_state_legal k registers former) (direct_ran_as (direct_run k budget (direct_state_of registers former))) (unchanged (refusal 15 0) registers former)

      go : (t u : Bool)
          → cond (not t) (unchanged (refusal 1 0) registers bytes) (cond u (unchanged (refusal 16 0) registers bytes) done)
          ≡ and_addresses a (cond (not t) (unchanged (refusal 1 0) registers former) (cond u (unchanged (refusal 16 0) registers former) did))
      go false u = left (refusal 1 0)
      go true true = left (refusal 16 0)
      go true false = or_left (direct_state_legal k registers former) _ _ (refusal 15 0) (ran budget)
