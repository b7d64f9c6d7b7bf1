-- A run is as many steps as it says, each by the call itself, from any registers and state that are lent. Assumes nothing.
use Rattle.std.specs.Prelude.{Bool, true, false, List, ◌⊎◌, ◌≡◌, refl, ℕ, zero, suc, ◌*◌, ◌<◌, ◌≤◌, eqb}
use Rattle.std.proofs.lemmas.Bool.{false≢true, eqb-false}
use Rattle.std.proofs.Common.{inl, inr, sym, ap, ◌∙◌, arith, eqb-true}
use Rattle.std.proofs.Math.Option.{none, some}
use Rattle.std.proofs.Math.Pow.{are_bytes}
use Rattle.paper.specs.Limits.{budget_limit}
use Rattle.paper.specs.State.{half}
use Rattle.paper.specs.Calls.{verdict, Changed, unchanged, step_call, run_call, number_of, offset_of, count_of}
use Rattle.laws.specs.Calls.{step-unchanged}
use Rattle.answers.specs.Numbers.{step_numbers}
use Rattle.answers.specs.Small.{number_back}
use Rattle.answers.specs.Calls.{step_fine}
use Rattle.promises.specs.Promises.{Steps, nothing, onward}
use Rattle.promises.specs.Stepping.{follows, spends_none, step_leaves_bytes, run-suc}

-- What a run within its budget says: it is as many steps as it counts, no more than the budget; where it says 20, a further step says 20; where it
-- says 21, the whole budget is spent and a further step would be made or say 22; where it says 22, budget is left, a further step says 22 at the same byte, and
-- that is the byte of the instruction at the state's place.
pub record Made (dictionary kernel : List ℕ) (budget : ℕ) (registers bytes : List ℕ) (c : Changed) : Type 0 where
  pub steps : Steps dictionary kernel (count_of c.answer) registers bytes c.registers c.state
  pub within : count_of c.answer ≤ budget
  pub ended : number_of c.answer ≡ 20 → number_of (step_call dictionary kernel c.registers c.state).answer ≡ 20
  pub spent : number_of c.answer ≡ 21 → count_of c.answer ≡ budget
  pub short : number_of c.answer ≡ 21
      → (let a = (step_call dictionary kernel c.registers c.state).answer in (number_of a ≡ 0) ⊎ (number_of a ≡ 22))
  pub left : number_of c.answer ≡ 22 → count_of c.answer < budget
  pub astray : number_of c.answer ≡ 22
      → (let a = (step_call dictionary kernel c.registers c.state).answer in (number_of a ≡ 22) × (offset_of a ≡ offset_of c.answer))
  pub names : number_of c.answer ≡ 22 → offset_of c.answer ≡ 8 * half c.state 4

-- A step never says 21.
step_not_21 : (dictionary kernel registers bytes : List ℕ) → number_of (step_call dictionary kernel registers bytes).answer ≡ 21 → ⊥
step_not_21 dictionary kernel registers bytes e =
    false≢true (sym (ap step_numbers e) ∙ (step_fine dictionary kernel registers bytes).listed)

-- A budget of 0 is within the limit.
no_budget : 0 ≤ budget_limit
no_budget = omega arith

module _ (dictionary kernel : List ℕ) (right : are_bytes kernel ≡ true) where
  -- A run that answers what a step does makes none.
  made_none : (budget : ℕ) → budget ≤ budget_limit → (registers bytes : List ℕ) → are_bytes bytes ≡ true
      → (let one = step_call dictionary kernel registers bytes in one.registers ≡ registers → one.state ≡ bytes → (number_of one.answer ≡ 22 → 0 < budget)
      → Made dictionary kernel budget registers bytes one)
  made_none budget le registers bytes small a b more =
      let f = follows dictionary kernel registers bytes right small budget le in
      record {
        steps = rw (f.none, a, b) nothing;
        within = omega (arith, f.none);
        ended = λ z. rw (a, b) z;
        spent = λ z. absurd (step_not_21 dictionary kernel registers bytes z);
        short = λ z. absurd (step_not_21 dictionary kernel registers bytes z);
        left = λ z. rw f.none (more z);
        astray = λ z. rw (a, b) (z, refl);
        names = λ z. rw b (f.names z);
      }

  -- Where a step is not made, neither is one by a run.
  made_still : (budget : ℕ) → budget ≤ budget_limit → (registers bytes : List ℕ) → are_bytes bytes ≡ true
      → (number_of (step_call dictionary kernel registers bytes).answer ≡ 0 → ⊥)
      → (number_of (step_call dictionary kernel registers bytes).answer ≡ 22 → 0 < budget)
      → Made dictionary kernel budget registers bytes (run_call dictionary kernel budget registers bytes)
  made_still budget le registers bytes small n more =
      let f = follows dictionary kernel registers bytes right small budget le in
      let u = step-unchanged dictionary kernel registers bytes n in
      rw (f.stands n more) (made_none budget le registers bytes small u.same_registers u.same_state more)

  -- A run that has no budget, and says 21.
  made_spent : (registers bytes : List ℕ)
      → run_call dictionary kernel 0 registers bytes ≡ unchanged (verdict 21 0) registers bytes
      → (let a = (step_call dictionary kernel registers bytes).answer in (number_of a ≡ 0) ⊎ (number_of a ≡ 22))
      → Made dictionary kernel 0 registers bytes (run_call dictionary kernel 0 registers bytes)
  made_spent registers bytes e s =
      rw e (record {
        steps = nothing;
        within = omega arith;
        ended = λ w. absurd (omega arith);
        spent = λ _. refl;
        short = λ _. s;
        left = λ w. absurd (omega arith);
        astray = λ w. absurd (omega arith);
        names = λ w. absurd (omega arith);
      })

  -- With no budget,
  made_zero : (registers bytes : List ℕ) → are_bytes bytes ≡ true
      → Made dictionary kernel 0 registers bytes (run_call dictionary kernel 0 registers bytes)
  made_zero registers bytes small =
      go (eqb (number_of (step_call dictionary kernel registers bytes).answer) 0) refl (eqb (number_of (step_call dictionary kernel registers bytes).answer) 22) refl
    where
      go : (b : Bool) → eqb (number_of (step_call dictionary kernel registers bytes).answer) 0 ≡ b
          → (c : Bool) → eqb (number_of (step_call dictionary kernel registers bytes).answer) 22 ≡ c
          → Made dictionary kernel 0 registers bytes (run_call dictionary kernel 0 registers bytes)
      go true e c f =
          let z = eqb-true _ 0 e in
          let g = (follows dictionary kernel registers bytes right small 0 no_budget).goes z in
          made_spent registers bytes (spends_none dictionary kernel registers bytes right small g.instrs g.ready none g.on refl) (inl z)
      go false e true f =
          let z = eqb-true _ 22 f in
          let h = (follows dictionary kernel registers bytes right small 0 no_budget).halts z in
          made_spent registers bytes (spends_none dictionary kernel registers bytes right small h.instrs h.ready (some 22) h.at refl) (inr z)
      go false e false f = made_still 0 no_budget registers bytes small (eqb-false _ 0 e) (λ z. absurd (eqb-false _ 22 f z))

  -- with one step more than a budget for which it is known,
  made_suc : (n : ℕ) → suc n ≤ budget_limit
      → ((registers bytes : List ℕ) → are_bytes bytes ≡ true → Made dictionary kernel n registers bytes (run_call dictionary kernel n registers bytes))
      → (registers bytes : List ℕ) → are_bytes bytes ≡ true
      → Made dictionary kernel (suc n) registers bytes (run_call dictionary kernel (suc n) registers bytes)
  made_suc n le known registers bytes small = go (eqb (number_of (step_call dictionary kernel registers bytes).answer) 0) refl
    where
      go : (b : Bool) → eqb (number_of (step_call dictionary kernel registers bytes).answer) 0 ≡ b
          → Made dictionary kernel (suc n) registers bytes (run_call dictionary kernel (suc n) registers bytes)
      go false e = made_still (suc n) le registers bytes small (eqb-false _ 0 e) (λ _. omega arith)
      go true e =
          let one = step_call dictionary kernel registers bytes in
          let z = eqb-true (number_of one.answer) 0 e in
          let g = (follows dictionary kernel registers bytes right small (suc n) le).goes z in
          let rest = known one.registers one.state (step_leaves_bytes dictionary kernel registers bytes right small g.instrs g.ready g.on) in
          let m = run-suc dictionary kernel registers bytes right small g.instrs g.ready g.on n le in
          record {
            steps =
                rw (m.count, m.same_registers, m.same_state)
                (onward (refl, refl, refl) (number_back one.answer (step_fine dictionary kernel registers bytes).small ∙ z) rest.steps);
            within = omega (arith, m.count, rest.within);
            ended = λ w. rw (m.same_registers, m.same_state) (rest.ended (sym m.number ∙ w));
            spent = λ w. m.count ∙ ap suc (rest.spent (sym m.number ∙ w));
            short = λ w. rw (m.same_registers, m.same_state) (rest.short (sym m.number ∙ w));
            left = λ w. let h = rest.left (sym m.number ∙ w) in omega (arith, m.count);
            astray = λ w. rw (m.same_registers, m.same_state, m.offset) (rest.astray (sym m.number ∙ w));
            names = λ w. rw (m.same_state, m.offset) (rest.names (sym m.number ∙ w));
          }

  -- and so with any budget that is not refused.
  pub run_made : (budget : ℕ) → budget ≤ budget_limit → (registers bytes : List ℕ) → are_bytes bytes ≡ true
      → Made dictionary kernel budget registers bytes (run_call dictionary kernel budget registers bytes)
  run_made zero le = made_zero
  run_made (suc n) le = made_suc n le (run_made n (omega arith))
