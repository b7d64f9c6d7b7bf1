-- Steps and runs of the calls, from any registers and state that are lent: what they leave, how a run goes on from a step, and what one that is not made says of a run.
-- Assumes nothing.
use Rattle.std.specs.Prelude.{Bool, cond, ◌&&◌, List, [], ◌∷◌, ◌⊎◌, ◌≡◌, ℕ, zero, suc, ◌-◌, ◌*◌, ◌<◌, ◌≤◌, eqb, length}
use Rattle.std.proofs.Math.Bool.{true, false}
use Rattle.std.proofs.Common.{inl, inr, sym, ◌∙◌, arith}
use Rattle.std.proofs.Math.Option.{Option, none, some, none-ne-some, some-injective}
use Rattle.std.proofs.Math.Path.{refl, ap}
use Rattle.std.proofs.Math.ListN.{length-drop}
use Rattle.std.proofs.Math.Pow.{are_bytes}
use borrow.Author.Tests.{eqb-true, le-ltb}
use Rattle.paper.specs.Limits.{register_bytes, state_length, budget_limit, instruction_limit, last_place}
use Rattle.paper.specs.Kernel.{Instr, long_and_short, Parsed, bad, good}
use Rattle.paper.specs.Jump.{end_of, fetch}
use Rattle.paper.specs.Address.{address_stops}
use Rattle.paper.specs.Machine.{State, step, stops, stops_on, or_spent, run}
use Rattle.paper.specs.State.{half, channels_in, state_of, all_three, state_lands, state_legal, state_bytes}
use Rattle.paper.specs.Bits.{bytes_of}
use Rattle.paper.specs.Calls.{Answer, refusal, refusal_with, verdict, Changed, unchanged, changed_to, sized, all_sized, judged_kernel, accepted, on_state, stopped_as, stepped_as, step_call, ran_as, run_call, number_of, offset_of, count_of}
use Rattle.laws.specs.Bytes.{bytes_append, bytes_drop, bytes_bytes_of}
use Rattle.laws.specs.AddressBytes.{step_bytes, run_bytes}
use Rattle.laws.specs.Truth.{both_true}
use Rattle.laws.specs.Halfwords.{halves, half_less}
use Rattle.laws.specs.Runs.{still, run-zero, run_stop}
use Rattle.laws.specs.Same.{state_names}
use Rattle.laws.specs.StateBytes.{numbers_of, state_halves, bytes_back}
use Rattle.laws.specs.Lasting.{Lasting, step_lasting, run_lasting}
use Rattle.laws.specs.Relay.{AllSane}
use Rattle.laws.specs.Packing.{Kernel, kernel_of_lem, kernel_near}
use Rattle.laws.specs.Demands.{Ready, run_ready, step_ready, stored_back, stored_ready, step_more, run_steps}
use Rattle.answers.specs.Kernels.{Near, near_refused, near_number, judged_near}
use Rattle.promises.specs.Results.{no_zero}

-- A state's bytes are bytes.
halves_bytes : (vs : List ℕ) → are_bytes (halves vs) ≡ true
unfolding halves
halves_bytes [] = refl
halves_bytes (v ∷ vs) = bytes_append (bytes_of 2 v) (halves vs) (bytes_bytes_of 2 v) (halves_bytes vs)

pub state_bytes_lem : (s : State) → are_bytes s.store.addresses ≡ true → are_bytes (state_bytes s) ≡ true
state_bytes_lem s b = ap are_bytes (state_halves s) ∙ bytes_append (halves (numbers_of s)) s.store.addresses (halves_bytes (numbers_of s)) b

-- A run that counts one step more than another, and answers and leaves what that one does.
pub record More (whole rest : Changed) : Type 0 where
  pub number : number_of whole.answer ≡ number_of rest.answer
  pub offset : offset_of whole.answer ≡ offset_of rest.answer
  pub count : count_of whole.answer ≡ suc (count_of rest.answer)
  pub same_registers : whole.registers ≡ rest.registers
  pub same_state : whole.state ≡ rest.state

-- So one is that has `step_more` of the other's answer, which is that of a run.
more_of : (whole rest : Changed) (number place steps : ℕ) → rest.answer ≡ stopped_as number place steps
    → whole ≡ record { answer = step_more rest.answer; registers = rest.registers; state = rest.state } → More whole rest
more_of whole rest number place steps e w =
    let a : whole.answer ≡ step_more rest.answer = ap (λ (c : Changed). c.answer) w in
    record {
      number = ap number_of a ∙ (kept rest.answer).0;
      offset = ap offset_of a ∙ (kept rest.answer).1;
      count = ap count_of a ∙ ap (λ (x : Answer). count_of (step_more x)) e ∙ counted (eqb number 22) ∙ ap (λ (x : Answer). suc (count_of x)) (sym e);
      same_registers = ap (λ (c : Changed). c.registers) w;
      same_state = ap (λ (c : Changed). c.state) w;
    }
  where
    kept : (x : Answer) → (number_of (step_more x) ≡ number_of x) × (offset_of (step_more x) ≡ offset_of x)
    kept (verdict n c) = (refl, refl)
    kept (refusal n at) = (refl, refl)
    kept (refusal_with n at c) = (refl, refl)

    counted : (t : Bool)
        → (let x : Answer = cond t (refusal_with 22 (8 * place) steps) (verdict number steps) in count_of (step_more x) ≡ suc (count_of x))
    counted true = refl
    counted false = refl

-- Sixteen channels are read.
channels_length : (bytes : List ℕ) (n c : ℕ) → length (channels_in bytes n c) ≡ c
unfolding channels_in
channels_length bytes n zero = refl
channels_length bytes n (suc c) = ap suc (channels_length bytes (suc n) c)

module _ (dictionary kernel registers bytes : List ℕ) (right : are_bytes kernel ≡ true) (small : are_bytes bytes ≡ true) where
  abbrev lent : State
  lent = state_of registers bytes

  module _ (k : List Instr) (r : Ready dictionary kernel registers bytes k) where
    -- The kernel that is lent,
    abbrev sizes : (sized dictionary kernel ≡ true) × ((eqb (length registers) register_bytes && eqb (length bytes) state_length) ≡ true)
    sizes = both_true (sized dictionary kernel) _ r.sizes

    pub lent-accepted : accepted long_and_short dictionary kernel ≡ good k
    unfolding accepted
    lent-accepted = rw sizes.0 r.judged

    kernel_lent : Kernel long_and_short dictionary kernel k
    kernel_lent = kernel_of_lem long_and_short dictionary kernel right k lent-accepted

    -- whose instructions are legal words,
    pub lent_sane : AllSane k
    lent_sane = kernel_lent.sane

    -- the sizes,
    pub buffers : (length registers ≡ register_bytes) × (length bytes ≡ state_length)
    buffers =
        let b = both_true (eqb (length registers) register_bytes) _ sizes.1 in
        (eqb-true (length registers) register_bytes b.0, eqb-true (length bytes) state_length b.1)

    -- and the state.
    pub legal_parts : (all_three bytes 16 ≡ true) × (state_lands k lent ≡ true)
    unfolding state_legal
    legal_parts = both_true (all_three bytes 16) (state_lands k lent) r.legal

    -- What is lent is the state's own writing,
    bytes_lent : state_bytes lent ≡ bytes
    bytes_lent = bytes_back registers bytes buffers.1 small legal_parts.0

    -- and the state lasts.
    lasting_lent : Lasting k register_bytes lent
    unfolding state_of
    lasting_lent =
        record {
          holding =
              record {
                store =
                    record {
                      bytes = buffers.0;
                      flag0 = half_less bytes 0 small;
                      flag1 = half_less bytes 2 small;
                      addresses = length-drop 42 bytes ∙ ap (λ (n : ℕ). n - 42) buffers.1;
                    };
                count = channels_length bytes 0 16;
              };
          naming = state_names k kernel_lent.sound lent legal_parts.1;
        }

    -- An answer that leaves the state as it was read leaves what was lent.
    unchanged-lent : (a : Answer) → changed_to a lent ≡ unchanged a registers bytes
    unfolding state_of
    unchanged-lent a = λ i. record { answer = a; registers = registers; state = bytes_lent i }

    -- a0 is bytes,
    addresses_lent : are_bytes lent.store.addresses ≡ true
    unfolding state_of
    addresses_lent = bytes_drop 42 bytes small

    -- and the state that a run leaves is bytes.
    pub run_leaves_bytes : (budget : ℕ) → budget ≤ budget_limit → are_bytes (run_call dictionary kernel budget registers bytes).state ≡ true
    run_leaves_bytes budget le =
        rw (run_ready dictionary kernel registers bytes k r budget le)
        (state_bytes_lem (run k budget lent).state (run_bytes k budget lent addresses_lent))

    -- What a run leaves is as ready for the next.
    pub run_leaves_ready : (budget : ℕ) → budget ≤ budget_limit
        → let c = run_call dictionary kernel budget registers bytes in Ready dictionary kernel c.registers c.state k
    run_leaves_ready budget le =
        let near : end_of k ≤ last_place = kernel_near long_and_short dictionary kernel k kernel_lent in
        let after = run_lasting k kernel_lent.sound register_bytes budget lent lasting_lent in
        rw (run_ready dictionary kernel registers bytes k r budget le)
        (stored_ready dictionary kernel k kernel_lent.sound (omega arith) sizes.0 r.judged (run k budget lent).state after)

    -- Read again, it is the state that the machine's run comes to.
    pub run_leaves : (budget : ℕ) → budget ≤ budget_limit
        → let c = run_call dictionary kernel budget registers bytes in state_of c.registers c.state ≡ (run k budget lent).state
    run_leaves budget le =
        let near : end_of k ≤ last_place = kernel_near long_and_short dictionary kernel k kernel_lent in
        let after = run_lasting k kernel_lent.sound register_bytes budget lent lasting_lent in
        rw (run_ready dictionary kernel registers bytes k r budget le)
        (stored_back dictionary kernel k kernel_lent.sound (omega arith) sizes.0 r.judged (run k budget lent).state after)

    -- What a step leaves, read again, is the state that the machine's step comes to.
    pub step_leaves : stops k lent ≡ none
        → let c = step_call dictionary kernel registers bytes in state_of c.registers c.state ≡ step k lent
    step_leaves e =
        let near : end_of k ≤ last_place = kernel_near long_and_short dictionary kernel k kernel_lent in
        let after = step_lasting k kernel_lent.sound register_bytes lent lasting_lent in
        rw (step_ready dictionary kernel registers bytes k r e)
        (stored_back dictionary kernel k kernel_lent.sound (omega arith) sizes.0 r.judged (step k lent) after)

    -- It is as ready for the next,
    step_leaves_ready : stops k lent ≡ none
        → let c = step_call dictionary kernel registers bytes in Ready dictionary kernel c.registers c.state k
    step_leaves_ready e =
        let near : end_of k ≤ last_place = kernel_near long_and_short dictionary kernel k kernel_lent in
        let after = step_lasting k kernel_lent.sound register_bytes lent lasting_lent in
        rw (step_ready dictionary kernel registers bytes k r e)
        (stored_ready dictionary kernel k kernel_lent.sound (omega arith) sizes.0 r.judged (step k lent) after)

    -- and it is bytes.
    pub step_leaves_bytes : stops k lent ≡ none → are_bytes (step_call dictionary kernel registers bytes).state ≡ true
    step_leaves_bytes e =
        rw (step_ready dictionary kernel registers bytes k r e) (state_bytes_lem (step k lent) (step_bytes k lent addresses_lent))

    -- One step more is the step and then the run.
    pub run-suc : stops k lent ≡ none → (n : ℕ) → suc n ≤ budget_limit
        → let one = step_call dictionary kernel registers bytes in
        More (run_call dictionary kernel (suc n) registers bytes) (run_call dictionary kernel n one.registers one.state)
    unfolding state_of
    run-suc e n le =
        let one = step_call dictionary kernel registers bytes in
        let near : end_of k ≤ last_place = kernel_near long_and_short dictionary kernel k kernel_lent in
        let law = run_steps dictionary kernel k kernel_lent.sound (omega arith) sizes.0 r.judged lent lasting_lent e n le in
        let o = run k n (state_of one.registers one.state) in
        let made : run_call dictionary kernel n one.registers one.state ≡ ran_as o =
        run_ready dictionary kernel one.registers one.state k (step_leaves_ready e) n (omega arith) in
        more_of (run_call dictionary kernel (suc n) registers bytes) (run_call dictionary kernel n one.registers one.state)
        o.verdict o.state.place o.steps (ap (λ (c : Changed). c.answer) made) (rw bytes_lent at law)

-- At the end a run stops at once, whatever its budget,
run_ended : (k : List Instr) (s : State) → stops k s ≡ some 20 → (n : ℕ) → run k n s ≡ still 20 s
run_ended k s e zero = run-zero (stops k) (step k) s ∙ ap (λ (o : Option ℕ). still (or_spent o) s) e
run_ended k s e (suc n) = run_stop (stops k) (step k) n s 20 e

-- and at a broken address one with a budget does.
run_astray : (k : List Instr) (s : State) → stops k s ≡ some 22 → (n : ℕ) → 0 < n → run k n s ≡ still 22 s
run_astray k s e zero h = absurd (omega arith)
run_astray k s e (suc n) h = run_stop (stops k) (step k) n s 22 e

-- With no budget a run makes no step, and short of the end it says 21.
run_spent : (k : List Instr) (s : State) (o : Option ℕ) → stops k s ≡ o → or_spent o ≡ 21 → run k 0 s ≡ still 21 s
run_spent k s o e v = run-zero (stops k) (step k) s ∙ ap (λ (q : Option ℕ). still (or_spent q) s) e ∙ ap (λ (n : ℕ). still n s) v

-- A state stops with 20 or with 22.
stops_says : (k : List Instr) (s : State) (v : ℕ) → stops k s ≡ some v → (v ≡ 20) ⊎ (v ≡ 22)
stops_says k s v e = go (fetch k s.place) e
  where
    by : (t : Bool) → cond t (some 22) none ≡ some v → (v ≡ 20) ⊎ (v ≡ 22)
    by true q = inr (sym (some-injective 22 v q))
    by false q = absurd (none-ne-some v q)

    go : (o : Option Instr) → stops_on o s.store.addresses ≡ some v → (v ≡ 20) ⊎ (v ≡ 22)
    go none q = inl (sym (some-injective 20 v q))
    go (some i) q = by (address_stops s.store.addresses i.word) q

-- What a step that answers 0 says: nothing is refused, and the state does not stand at the end.
pub record Goes (dictionary kernel registers bytes : List ℕ) : Type 0 where
  pub instrs : List Instr
  pub ready : Ready dictionary kernel registers bytes instrs
  pub on : stops instrs (state_of registers bytes) ≡ none

-- What a step that answers 22 says: nothing is refused, and the state stands at a broken address.
pub record Halts (dictionary kernel registers bytes : List ℕ) : Type 0 where
  pub instrs : List Instr
  pub ready : Ready dictionary kernel registers bytes instrs
  pub at : stops instrs (state_of registers bytes) ≡ some 22

-- What a step that is answered by anything but 0 says of a run: that the run changes as little and answers the same, unless it has no budget for 22. 22 names the byte of
-- its instruction.
pub record Follows (dictionary kernel registers bytes : List ℕ) (budget : ℕ) (one : Changed) : Type 0 where
  pub goes : number_of one.answer ≡ 0 → Goes dictionary kernel registers bytes
  pub stands : (number_of one.answer ≡ 0 → ⊥) → (number_of one.answer ≡ 22 → 0 < budget) → run_call dictionary kernel budget registers bytes ≡ one
  pub none : count_of one.answer ≡ 0
  pub halts : number_of one.answer ≡ 22 → Halts dictionary kernel registers bytes
  pub names : number_of one.answer ≡ 22 → offset_of one.answer ≡ 8 * half bytes 4

module _ (dictionary kernel registers bytes : List ℕ) (right : are_bytes kernel ≡ true) (small : are_bytes bytes ≡ true)
    (budget : ℕ) (le : budget ≤ budget_limit) where
  abbrev stepper : List Instr → State → Changed
  stepper k s = stepped_as (stops k s) registers bytes s (step k s)

  abbrev begins : State
  begins = state_of registers bytes

  -- A refusal of what is lent.
  follows_no : (number offset : ℕ) → (number ≡ 0 → ⊥) → (number ≡ 22 → ⊥)
      → run_call dictionary kernel budget registers bytes ≡ unchanged (refusal number offset) registers bytes
      → Follows dictionary kernel registers bytes budget (unchanged (refusal number offset) registers bytes)
  follows_no number offset first other e =
      record { goes = λ z. absurd (first z); stands = λ _ _. e; none = refl; halts = λ z. absurd (other z); names = λ z. absurd (other z) }

  -- An accepted kernel and a legal state: a step, the end or a broken address.
  follows_ready : (k : List Instr) → Ready dictionary kernel registers bytes k
      → Follows dictionary kernel registers bytes budget (stepper k begins)
  unfolding state_of
  follows_ready k r = go (stops k begins) refl
    where
      ran : (v : ℕ) → run k budget begins ≡ still v begins
          → run_call dictionary kernel budget registers bytes ≡ unchanged (stopped_as v begins.place 0) registers bytes
      ran v e =
          run_ready dictionary kernel registers bytes k r budget le ∙ ap ran_as e
          ∙ unchanged-lent dictionary kernel registers bytes right small k r (stopped_as v begins.place 0)

      go : (o : Option ℕ) → stops k begins ≡ o → Follows dictionary kernel registers bytes budget (stepped_as o registers bytes begins (step k begins))
      go none e = record {
        goes = λ _. record { instrs = k; ready = r; on = e };
        stands = λ n. absurd (n refl);
        none = refl;
        halts = λ z. absurd (omega arith);
        names = λ z. absurd (omega arith);
      }
      go (some v) e = by (stops_says k begins v e)
        where
          by : (v ≡ 20) ⊎ (v ≡ 22) → Follows dictionary kernel registers bytes budget (unchanged (stopped_as v begins.place 0) registers bytes)
          by (inl q) = rw q (record {
            goes = λ z. absurd (omega arith);
            stands = λ _ _. ran 20 (run_ended k begins (e ∙ ap some q) budget);
            none = refl;
            halts = λ z. absurd (omega arith);
            names = λ z. absurd (omega arith);
          })
          by (inr q) = rw q (record {
            goes = λ z. absurd (omega arith);
            stands = λ _ h. ran 22 (run_astray k begins (e ∙ ap some q) budget (h refl));
            none = refl;
            halts = λ _. record { instrs = k; ready = r; at = e ∙ ap some q };
            names = λ _. refl;
          })

  -- An accepted kernel and any state: 15 too.
  follows_good : (k : List Instr) → all_sized dictionary kernel registers bytes ≡ true → judged_kernel long_and_short dictionary kernel ≡ good k
      → Follows dictionary kernel registers bytes budget (on_state registers bytes stepper (good k))
  unfolding run_call
  follows_good k sizes judged = go (state_legal k registers bytes) refl
    where
      go : (b : Bool) → state_legal k registers bytes ≡ b
          → Follows dictionary kernel registers bytes budget (cond b (stepper k begins) (unchanged (refusal 15 0) registers bytes))
      go true e = follows_ready k (record { sizes = sizes; judged = judged; legal = e })
      go false e = follows_no 15 0 (λ z. omega arith) (λ z. omega arith) (rw (sizes, le-ltb budget_limit budget le, judged, e))

  -- Any kernel of a right size.
  follows_judged : all_sized dictionary kernel registers bytes ≡ true
      → Follows dictionary kernel registers bytes budget (on_state registers bytes stepper (judged_kernel long_and_short dictionary kernel))
  unfolding run_call
  follows_judged sizes = go (judged_kernel long_and_short dictionary kernel) refl (judged_near long_and_short dictionary kernel)
    where
      go : (q : Parsed) → judged_kernel long_and_short dictionary kernel ≡ q → Near (length kernel) instruction_limit q
          → Follows dictionary kernel registers bytes budget (on_state registers bytes stepper q)
      go (good k) e h = follows_good k sizes e
      go (bad number offset) e h =
          let few = (near_refused (length kernel) instruction_limit number offset h).0 in
          follows_no number offset (λ z. no_zero number (near_number (length kernel) instruction_limit number offset h) z) (λ z. omega arith)
          (rw (sizes, le-ltb budget_limit budget le, e))

  -- Any sizes.
  pub follows : Follows dictionary kernel registers bytes budget (step_call dictionary kernel registers bytes)
  unfolding step_call run_call
  follows = go (all_sized dictionary kernel registers bytes) refl
    where
      go : (b : Bool) → all_sized dictionary kernel registers bytes ≡ b
          → Follows dictionary kernel registers bytes budget
          (cond b (on_state registers bytes stepper (judged_kernel long_and_short dictionary kernel)) (unchanged (refusal 1 0) registers bytes))
      go true e = follows_judged e
      go false e = follows_no 1 0 (λ z. omega arith) (λ z. omega arith) (rw e)

-- With no budget, where a step is made or an address is broken, a run says 21 and changes nothing.
module _ (dictionary kernel registers bytes : List ℕ) (right : are_bytes kernel ≡ true) (small : are_bytes bytes ≡ true) where
  pub spends_none : (k : List Instr) → Ready dictionary kernel registers bytes k → (o : Option ℕ) → stops k (state_of registers bytes) ≡ o → or_spent o ≡ 21
      → run_call dictionary kernel 0 registers bytes ≡ unchanged (verdict 21 0) registers bytes
  spends_none k r o e v =
      run_ready dictionary kernel registers bytes k r 0 (omega arith)
      ∙ ap ran_as (run_spent k (state_of registers bytes) o e v)
      ∙ unchanged-lent dictionary kernel registers bytes right small k r (verdict 21 0)
