-- Test by test. Assumes nothing.
use mathlib.Core.Path.{sym, ap, ◌∙◌}
use Prim.Native.Nat.{ℕ}
use lib.Dec.{eqb}
use borrow.Author.Tests.{eq-eqb, ne_eqb}
use Rattle.paper.specs.Operation.{is_listed}
use Rattle.judge.specs.Verdicts.{passes_by}
use Rattle.listing.specs.Reading.{taken_short, taken_unlisted, taken_judged}
use Rattle.listing.proofs.taken.word_taken.Goals as goal

pub returns-then-cmpt_ctrl-eq1 : goal.returns-then-cmpt_ctrl-eq1
returns-then-cmpt_ctrl-eq1 c = taken_short _ (ap (λ (x : ℕ). eqb x 1) (sym c.cmpt_ctrl.ensures.0) ∙ eq-eqb _ _ c.if-cmpt_ctrl-eq1.true)

pub returns-then-not-is_listed : goal.returns-then-not-is_listed
returns-then-not-is_listed c =
    taken_unlisted _ (ap (λ (x : ℕ). eqb x 1) (sym c.cmpt_ctrl.ensures.0) ∙ ne_eqb _ _ c.if-cmpt_ctrl-eq1.false)
    (sym (c.is_listed.ensures ∙ ap is_listed c.operation.ensures) ∙ c.if-not-is_listed.true)

pub returns : goal.returns
returns c =
    taken_judged _ (ap (λ (x : ℕ). eqb x 1) (sym c.cmpt_ctrl.ensures.0) ∙ ne_eqb _ _ c.if-cmpt_ctrl-eq1.false)
    (sym (c.is_listed.ensures ∙ ap is_listed c.operation.ensures) ∙ c.if-not-is_listed.false) _
    (c.is_ok.ensures.value ∙ passes_by c.judge.result ∙ ap (λ (x : ℕ). eqb x 0) c.judge.ensures)
