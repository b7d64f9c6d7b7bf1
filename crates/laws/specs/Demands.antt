-- The demands over bytes and calls: what is ready for a run stays so, and a run is one step and then a shorter run. Assumes nothing.
-- That packing and then unpacking gives the kernel back is in proofs/DemandsHold.
use Rattle.std.specs.Prelude.{Bool, true, false, cond, ◌&&◌, List, ◌≡◌, refl, ℕ, zero, suc, ◌*◌, ◌^◌, ◌<◌, ◌≤◌, eqb, length}
use Rattle.std.proofs.Math.Option.{none}
use Rattle.std.proofs.Common.{sym, ap, ◌∙◌, arith}
use borrow.Author.Tests.{eq-eqb, le-ltb}
use Rattle.paper.specs.Limits.{register_bytes, state_length, budget_limit}
use Rattle.paper.specs.Store.{Store}
use Rattle.paper.specs.Kernel.{Instr, long_and_short, good}
use Rattle.paper.specs.Jump.{end_of}
use Rattle.paper.specs.Machine.{State, step, stops, run, start_from, start}
use Rattle.paper.specs.State.{state_of, state_legal, state_lands, all_three, state_bytes}
use Rattle.paper.specs.Calls.{Answer, verdict, refusal, refusal_with, judged_kernel, sized, fresh_store, start_call, all_sized, changed_to, stopped_as, step_call, ran_as, run_call}
use Rattle.laws.specs.Names.{Sound}
use Rattle.laws.specs.Runs.{run_on}
use Rattle.laws.specs.Same.{start-lands, state_names}
use Rattle.laws.specs.StateBytes.{length-state_bytes, state_three, state_back}
use Rattle.laws.specs.Lasting.{Lasting, state_lands_lem, step_lasting, lasting_storable}

-- ---- what is lent to a run that is not refused

-- Sizes are right, the kernel is accepted as k, and the state is legal.
pub record Ready (dictionary kernel registers bytes : List ℕ) (k : List Instr) : Type 0 where
  pub sizes : all_sized dictionary kernel registers bytes ≡ true
  pub judged : judged_kernel long_and_short dictionary kernel ≡ good k
  pub legal : state_legal k registers bytes ≡ true

-- Then a run's outcome is that of the machine from the state that is lent.
pub run_ready : (dictionary kernel registers bytes : List ℕ) (k : List Instr) → Ready dictionary kernel registers bytes k
    → (budget : ℕ) → budget ≤ budget_limit → run_call dictionary kernel budget registers bytes ≡ ran_as (run k budget (state_of registers bytes))
unfolding run_call
run_ready dictionary kernel registers bytes k r budget le =
    rw (r.sizes, le-ltb budget_limit budget le, r.judged, r.legal)

-- And so is a step's, where nothing stops it.
pub step_ready : (dictionary kernel registers bytes : List ℕ) (k : List Instr) → Ready dictionary kernel registers bytes k
    → stops k (state_of registers bytes) ≡ none
    → step_call dictionary kernel registers bytes ≡ changed_to (verdict 0 0) (step k (state_of registers bytes))
unfolding step_call
step_ready dictionary kernel registers bytes k r e = rw (r.sizes, r.judged, r.legal, e)

-- ---- a stored state

true-and-true : (a b : Bool) → a ≡ true → b ≡ true → (a && b) ≡ true
true-and-true a b p q = rw (p, q)

-- An answer with one step more.
abbrev pub step_more : Answer → Answer
step_more (verdict number count) = verdict number (suc count)
step_more (refusal number offset) = refusal number offset
step_more (refusal_with number offset count) = refusal_with number offset (suc count)

more_stopped : (number place steps : ℕ) → step_more (stopped_as number place steps) ≡ stopped_as number place (suc steps)
more_stopped number place steps = go (eqb number 22)
  where
    go : (t : Bool) → step_more (cond t (refusal_with 22 (8 * place) steps) (verdict number steps)) ≡ cond t (refusal_with 22 (8 * place) (suc steps)) (verdict number (suc steps))
    go true = refl
    go false = refl

-- What a sound kernel's lasting state leaves in the lent bytes is legal again, and is that state.
module _ (dictionary kernel : List ℕ) (k : List Instr) (sound : Sound k) (near : end_of k < 2 ^ 16)
    (sizes : sized dictionary kernel ≡ true) (judged : judged_kernel long_and_short dictionary kernel ≡ good k) where
  pub stored_back : (s : State) → Lasting k register_bytes s → state_of s.store.registers (state_bytes s) ≡ s
  stored_back s l = state_back s (lasting_storable k sound.laid near register_bytes s l)

  pub stored_ready : (s : State) → Lasting k register_bytes s → Ready dictionary kernel s.store.registers (state_bytes s) k
  unfolding state_legal
  stored_ready s l =
      let st = lasting_storable k sound.laid near register_bytes s l in
      record {
        sizes = rw (sizes, eq-eqb (length s.store.registers) register_bytes l.holding.store.bytes, eq-eqb (length (state_bytes s)) state_length (length-state_bytes s st.sixteen st.addresses));
        judged = judged;
        legal = true-and-true (all_three (state_bytes s) 16) (state_lands k (state_of s.store.registers (state_bytes s))) (state_three s st)
            (ap (state_lands k) (stored_back s l) ∙ state_lands_lem k s l.naming);
      }

  -- A run of one step more is the step, and then the run from what the step leaves.
  pub run_steps : (s : State) → Lasting k register_bytes s → stops k s ≡ none → (n : ℕ) → suc n ≤ budget_limit
      → let one = step_call dictionary kernel s.store.registers (state_bytes s) in
      let rest = run_call dictionary kernel n one.registers one.state in
      run_call dictionary kernel (suc n) s.store.registers (state_bytes s)
      ≡ record { answer = step_more rest.answer; registers = rest.registers; state = rest.state }
  run_steps s l e n le =
      let r = stored_ready s l in
      let b = stored_back s l in
      let l' = step_lasting k sound register_bytes s l in
      let one : step_call dictionary kernel s.store.registers (state_bytes s) ≡ changed_to (verdict 0 0) (step k s) =
      step_ready dictionary kernel s.store.registers (state_bytes s) k r (ap (stops k) b ∙ e) ∙ ap (λ (x : State). changed_to (verdict 0 0) (step k x)) b in
      let rest : run_call dictionary kernel n (step k s).store.registers (state_bytes (step k s)) ≡ ran_as (run k n (step k s)) =
      run_ready dictionary kernel (step k s).store.registers (state_bytes (step k s)) k (stored_ready (step k s) l') n (omega arith)
      ∙ ap (λ (x : State). ran_as (run k n x)) (stored_back (step k s) l') in
      let whole : run_call dictionary kernel (suc n) s.store.registers (state_bytes s) ≡ ran_as (run k (suc n) s) =
      run_ready dictionary kernel s.store.registers (state_bytes s) k r (suc n) le ∙ ap (λ (x : State). ran_as (run k (suc n) x)) b in
      let o = run k n (step k s) in
      whole ∙ ap ran_as (run_on (stops k) (step k) n s e)
      ∙ (λ i. changed_to (sym (more_stopped o.verdict o.state.place o.steps) i) o.state) ∙ rw (one, rest)

-- ---- the start

-- A start's state.
abbrev pub begun : List ℕ → ℕ → ℕ → ℕ → State
begun registers flag0 flag1 mask = start (fresh_store registers flag0 flag1) mask

start-length : (mask n c : ℕ) → length (start_from mask n c) ≡ c
unfolding start_from
start-length mask n zero = refl
start-length mask n (suc c) = ap suc (start-length mask (suc n) c)

pub start_lasting : (k : List Instr) → Sound k → (registers : List ℕ) (flag0 flag1 mask : ℕ) → length registers ≡ register_bytes
    → flag0 < 2 ^ 16 → flag1 < 2 ^ 16 → Lasting k register_bytes (begun registers flag0 flag1 mask)
start_lasting k sound registers flag0 flag1 mask l a b =
    let st : Store = fresh_store registers flag0 flag1 in
    record {
      holding = record { store = record { bytes = l; flag0 = a; flag1 = b; addresses = refl }; count = start-length mask 0 16 };
      naming = state_names k sound (start st mask) (start-lands k sound st mask);
    }

-- The bytes that a start leaves do not depend on the registers.
pub start_bytes : (registers : List ℕ) (flag0 flag1 mask : ℕ) (bytes : List ℕ) → length bytes ≡ state_length
    → (start_call mask flag0 flag1 bytes).output ≡ state_bytes (begun registers flag0 flag1 mask)
unfolding start_call state_bytes
start_bytes registers flag0 flag1 mask bytes l = rw (eq-eqb (length bytes) state_length l)
