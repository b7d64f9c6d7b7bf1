-- Demand 3 holds: a run is the steps that it counts, and a long kernel and its packed form run alike. Assumes nothing.
use Rattle.std.specs.Prelude.{true, List, ◌≡◌, ℕ, suc, ◌*◌, ◌<◌, ◌≤◌}
use Rattle.std.proofs.Common.{inl, inr, sym, ap, ◌∙◌, arith}
use Rattle.std.proofs.Math.Pow.{are_bytes}
use Rattle.paper.specs.Limits.{budget_limit}
use Rattle.paper.specs.State.{half}
use Rattle.paper.specs.Calls.{as_number, Changed, step_call, run_call, number_of, offset_of, count_of}
use Rattle.laws.specs.Calls.{step-unchanged}
use Rattle.contracts.specs.Contracts.{number_in, offset_in, count_in, CheckPromise, StepPromise, RunPromise}
use Rattle.promises.specs.Stepping.{follows, run-suc}
use Rattle.promises.specs.Making.{run_made}
use Rattle.promises.specs.Promises.{RunVerdict, WasSteps, Begun, Demand3}
use Rattle.promises.specs.OutcomesHold.{answers}
use Rattle.promises.specs.PackingHolds.{check_counts}
use Rattle.promises.proofs.AlikeHolds.{after_verdict, start_legal, packed_alike, unpacked_alike}

-- ---- a run is single steps

module _ (dictionary kernel registers state : List ℕ) (right : are_bytes kernel ≡ true) (small : are_bytes state ≡ true) where
  -- Every run is the steps that it counts.
  pub run_was_steps : (budget : ℕ) → budget ≤ budget_limit → (r : ℕ) (registers' state' : List ℕ)
      → RunPromise dictionary kernel budget registers state r registers' state'
      → WasSteps dictionary kernel budget registers state r registers' state'
  run_was_steps budget le r registers' state' p =
      let t = answers.run dictionary kernel budget registers state r registers' state' p in
      let m = run_made dictionary kernel right budget le registers state small in
      let after : step_call dictionary kernel registers' state' ≡ (let c = run_call dictionary kernel budget registers state in step_call dictionary kernel c.registers c.state) =
      (λ i. step_call dictionary kernel (p.1 i) (p.2 i)) in
      let told = answers.step dictionary kernel registers' state' in
      let number : (a : ℕ) (registers'' state'' : List ℕ) → StepPromise dictionary kernel registers' state' a registers'' state''
      → number_in a ≡ (let c = run_call dictionary kernel budget registers state in number_of (step_call dictionary kernel c.registers c.state).answer) =
      λ a registers'' state'' q. (told a registers'' state'' q).number ∙ ap (λ (x : Changed). number_of x.answer) after in
      record {
        steps = rw (t.count, p.1, p.2) m.steps;
        within = rw t.count m.within;
        ended = λ e a registers'' state'' q. number a registers'' state'' q ∙ m.ended (sym t.number ∙ e);
        spent = λ e. t.count ∙ m.spent (sym t.number ∙ e);
        short = λ e a registers'' state'' q.
            let n = number a registers'' state'' q in
            elim (m.short (sym t.number ∙ e)) [ inl z ↦ inl (n ∙ z) | inr z ↦ inr (n ∙ z) ];
        left = λ e. rw t.count (m.left (sym t.number ∙ e));
        astray = λ e a registers'' state'' q.
            let z = m.astray (sym t.number ∙ e) in (
              number a registers'' state'' q ∙ z.0,
              (told a registers'' state'' q).offset ∙ ap (λ (x : Changed). offset_of x.answer) after ∙ z.1 ∙ sym t.offset,
            );
        names = λ e. t.offset ∙ m.names (sym t.number ∙ e) ∙ ap (λ (l : List ℕ). 8 * half l 4) (sym p.2);
      }

  module _ (a : ℕ) (registers₁ state₁ : List ℕ) (one : StepPromise dictionary kernel registers state a registers₁ state₁) where
    -- Where a step answers 0, a run of n + 1 steps is that step and then the run of n from what the step left.
    run_one_more : number_in a ≡ 0 → (n : ℕ) → suc n ≤ budget_limit
        → (b : ℕ) (registers₂ state₂ : List ℕ) → RunPromise dictionary kernel n registers₁ state₁ b registers₂ state₂
        → (c : ℕ) (registers₃ state₃ : List ℕ) → RunPromise dictionary kernel (suc n) registers state c registers₃ state₃
        → (number_in c ≡ number_in b) × (offset_in c ≡ offset_in b) × (count_in c ≡ suc (count_in b)) × (registers₃ ≡ registers₂) × (state₃ ≡ state₂)
    run_one_more zero n le b registers₂ state₂ rest c registers₃ state₃ whole =
        let f = follows dictionary kernel registers state right small n (omega arith) in
        let g = f.goes (sym (answers.step dictionary kernel registers state a registers₁ state₁ one).number ∙ zero) in
        let law = run-suc dictionary kernel registers state right small g.instrs g.ready g.on n le in
        let from : run_call dictionary kernel n registers₁ state₁
        ≡ run_call dictionary kernel n (step_call dictionary kernel registers state).registers (step_call dictionary kernel registers state).state =
        (λ i. run_call dictionary kernel n (one.1 i) (one.2 i)) in
        let t = answers.run dictionary kernel n registers₁ state₁ b registers₂ state₂ rest in
        let u = answers.run dictionary kernel (suc n) registers state c registers₃ state₃ whole in (
          u.number ∙ law.number ∙ sym (t.number ∙ ap (λ (x : Changed). number_of x.answer) from),
          u.offset ∙ law.offset ∙ sym (t.offset ∙ ap (λ (x : Changed). offset_of x.answer) from),
          u.count ∙ law.count ∙ ap suc (sym (t.count ∙ ap (λ (x : Changed). count_of x.answer) from)),
          whole.1 ∙ law.same_registers ∙ sym (rest.1 ∙ ap (λ (x : Changed). x.registers) from),
          whole.2 ∙ law.same_state ∙ sym (rest.2 ∙ ap (λ (x : Changed). x.state) from),
        )

    -- Where a step answers anything else, 20 at the end, 22 or a refusal, a run with any budget up to 1,000,000, of 22 one above 0, answers the same and changes nothing.
    run_no_more : (number_in a ≡ 0 → ⊥) → (budget : ℕ) → budget ≤ budget_limit → (number_in a ≡ 22 → 0 < budget) → (r : ℕ) (registers' state' : List ℕ)
        → RunPromise dictionary kernel budget registers state r registers' state' → (r ≡ a) × (registers' ≡ registers) × (state' ≡ state)
    run_no_more other budget le more r registers' state' p =
        let t = answers.step dictionary kernel registers state a registers₁ state₁ one in
        let no : number_of (step_call dictionary kernel registers state).answer ≡ 0 → ⊥ = λ e. other (t.number ∙ e) in
        let law = (follows dictionary kernel registers state right small budget le).stands no (λ e. more (t.number ∙ e)) in
        let u = step-unchanged dictionary kernel registers state no in (
          p.0 ∙ ap (λ (x : Changed). as_number x.answer) law ∙ sym one.0,
          p.1 ∙ ap (λ (x : Changed). x.registers) law ∙ u.same_registers,
          p.2 ∙ ap (λ (x : Changed). x.state) law ∙ u.same_state,
        )

-- ---- from a start

-- What check accepts, runs.
accepted_runs : (state registers : List ℕ) → Begun state registers → (dictionary kernel : List ℕ) → are_bytes kernel ≡ true
    → (c : ℕ) → CheckPromise dictionary kernel c → number_in c ≡ 0 → (budget : ℕ) → budget ≤ budget_limit
    → (r : ℕ) (registers' state' : List ℕ) → RunPromise dictionary kernel budget registers state r registers' state' → RunVerdict (number_in r)
accepted_runs state registers b dictionary kernel right c checked zero =
    let g = check_counts dictionary kernel c checked zero in
    after_verdict dictionary kernel right g.instrs g.are registers state
    (start_legal dictionary kernel right g.instrs g.are state registers b)

-- ---- the demand

pub demand_3 : Demand3
demand_3 =
    record {
      was_steps = λ dictionary kernel registers state right small. run_was_steps dictionary kernel registers state right small;
      one_more = λ dictionary kernel registers state right small a registers₁ state₁ one.
          run_one_more dictionary kernel registers state right small a registers₁ state₁ one;
      no_more = λ dictionary kernel registers state right small a registers₁ state₁ one.
          run_no_more dictionary kernel registers state right small a registers₁ state₁ one;
      runs = accepted_runs;
      alike = λ dictionary kernel out right p out' pack zero. packed_alike dictionary kernel out right p out' pack zero;
      alike_unpacked = λ dictionary kernel out right p out' unpack zero. unpacked_alike dictionary kernel out right p out' unpack zero;
    }
