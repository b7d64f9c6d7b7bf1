-- A run's outcome as the code has it, and what is left of a run from where its loop stands. Assumes nothing.
use Rattle.std.specs.Prelude.{List, ◌≡◌, refl, ℕ, zero, suc, ◌+◌, ◌-◌, ◌<◌}
use Rattle.std.proofs.Math.Option.{Option, none, some}
use Rattle.std.proofs.Common.{sym, ap, ◌∙◌, arith}
use Rattle.paper.specs.Kernel.{Instr}
use Rattle.paper.specs.Machine as paper
use Rattle.paper.specs.Machine.{stops, or_spent, step, run}
use Rattle.laws.specs.Runs.{still, run-zero, run_stop, run_on}
use Rattle.std.specs.Prelude as std
use Rattle.words.specs.declared.answer.Verdict.{Verdict}
use Rattle.words.specs.Answer.{verdict_number}
use Rattle.run.specs.declared.running.Outcome.{Outcome}
use Rattle.run.specs.Running.{Running}

-- An outcome after n steps more.
abbrev pub after : ℕ → paper.Outcome → paper.Outcome
after n o = record { verdict = o.verdict; steps = n + o.steps; state = o.state }

-- The outcome of a run that stops after n steps with verdict v.
abbrev pub ended : ℕ → ℕ → paper.State → paper.Outcome
ended v n s = record { verdict = v; steps = n; state = s }

-- The number of how a run ends, which is 22 at a broken address.
abbrev pub verdict_is : std.Option Verdict → ℕ
verdict_is (std.Some v) = verdict_number v
verdict_is std.None = 22

-- A run's outcome: where it stands is a state of the kernel's, and with it the outcome is the paper's.
abbrev pub Ends : List Instr → ℕ → paper.State → List ℕ → List ℕ → List ℕ → Outcome → Type 0
Ends k budget whole registers addresses here r =
    (u : paper.State) × Running k registers addresses here r.stand u × (ended (verdict_is r.verdict) r.steps u ≡ run k budget whole)

-- The whole run comes to what is left of it from state s, n steps being made.
abbrev pub Leads : List Instr → ℕ → paper.State → ℕ → paper.State → Type 0
Leads k budget whole n s = run k budget whole ≡ after n (run k (budget - n) s)

-- Outcomes that differ in how their steps are summed.
summed : (o : paper.Outcome) (n m : ℕ) → n ≡ m → ended o.verdict n o.state ≡ ended o.verdict m o.state
summed o n m e = λ i. record { verdict = o.verdict; steps = e i; state = o.state }

pub leads_start : (k : List Instr) (budget : ℕ) (whole : paper.State) → Leads k budget whole 0 whole
leads_start k budget whole =
    let b : budget ≡ budget - 0 = omega arith in
    ap (λ (n : ℕ). run k n whole) b ∙ summed (run k (budget - 0) whole) (run k (budget - 0) whole).steps (0 + (run k (budget - 0) whole).steps) (omega arith)

module _ (k : List Instr) (budget : ℕ) (whole : paper.State) (n : ℕ) (s : paper.State) (leads : Leads k budget whole n s) where
  -- At the end a run stops, with budget left or none.
  at_end : (m : ℕ) → stops k s ≡ some 20 → run k m s ≡ still 20 s
  at_end zero e = run-zero (stops k) (step k) s ∙ ap (λ (o : Option ℕ). still (or_spent o) s) e
  at_end (suc m) e = run_stop (stops k) (step k) m s 20 e

  pub leads_end : stops k s ≡ some 20 → ended 20 n s ≡ run k budget whole
  leads_end e = sym (leads ∙ ap (after n) (at_end (budget - n) e) ∙ summed (still 20 s) (n + 0) n (omega arith))

  -- Another verdict stops it where budget is left.
  pub leads_stopped : n < budget → (v : ℕ) → stops k s ≡ some v → ended v n s ≡ run k budget whole
  leads_stopped h v e =
      let m : budget - n ≡ suc (budget - (n + 1)) = omega arith in
      sym (leads ∙ ap (λ (m : ℕ). after n (run k m s)) m ∙ ap (after n) (run_stop (stops k) (step k) (budget - (n + 1)) s v e) ∙ summed (still v s) (n + 0) n (omega arith))

  -- The budget is spent, away from the end.
  pub leads_spent : or_spent (stops k s) ≡ 21 → n ≡ budget → ended 21 budget s ≡ run k budget whole
  leads_spent away e =
      let z : budget - n ≡ 0 = omega arith in
      let spent : run k 0 s ≡ still 21 s = run-zero (stops k) (step k) s ∙ ap (λ (v : ℕ). still v s) away in
      sym (leads ∙ ap (λ (m : ℕ). after n (run k m s)) z ∙ ap (after n) spent ∙ summed (still 21 s) (n + 0) budget (omega arith))

  module _ (on : stops k s ≡ none) where
    -- One step more.
    pub leads_on : n < budget → (t : paper.State) → t ≡ step k s → Leads k budget whole (n + 1) t
    leads_on h t e =
        let m : budget - n ≡ suc (budget - (n + 1)) = omega arith in
        let rest = run k (budget - (n + 1)) (step k s) in
        leads ∙ ap (λ (m : ℕ). after n (run k m s)) m ∙ ap (after n) (run_on (stops k) (step k) (budget - (n + 1)) s on)
        ∙ summed rest (n + suc rest.steps) (n + 1 + rest.steps) (omega arith)
        ∙ ap (λ (t : paper.State). after (n + 1) (run k (budget - (n + 1)) t)) (sym e)

-- A run of one step that nothing stops comes to the state after that step;
pub one_step : (k : List Instr) (t : paper.State) → stops k t ≡ none → (v n : ℕ) (u : paper.State) → ended v n u ≡ run k 1 t → u ≡ step k t
one_step k t on v n u e =
    ap (λ (o : paper.Outcome). o.state) (e ∙ leads_on k 1 t 0 t (leads_start k 1 t) on (omega arith) (step k t) refl)
    ∙ ap (λ (o : paper.Outcome). o.state) (run-zero (stops k) (step k) (step k t))

-- one that is stopped comes to where it was, with the verdict that stops it.
pub no_step : (k : List Instr) (t : paper.State) (w : ℕ) → stops k t ≡ some w → (v n : ℕ) (u : paper.State) → ended v n u ≡ run k 1 t → (v ≡ w) × (u ≡ t)
no_step k t w on v n u e =
    let r : ended v n u ≡ still w t = e ∙ run_stop (stops k) (step k) 0 t w on in
    (ap (λ (o : paper.Outcome). o.verdict) r, ap (λ (o : paper.Outcome). o.state) r)
