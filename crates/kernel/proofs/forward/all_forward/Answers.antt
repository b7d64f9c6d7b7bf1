-- The next instruction goes back, or leaves the answer to those after it. Assumes nothing.
use mathlib.Core.Path.{sym, ap, ◌∙◌}
use Rattle.paper.specs.Forward.{forward}
use Rattle.kernel.proofs.Jumping.{forward-none, forward_not, forward_on}
use Rattle.kernel.proofs.forward.all_forward.Goals as goal

pub returns-then-not-leads_forward : goal.returns-then-not-leads_forward
returns-then-not-leads_forward c =
    sym (forward_not _ _ (sym c.leads_forward.ensures ∙ c.if-not-leads_forward.true)) ∙ ap forward (sym c.in-Some.ensures.steps.0) ∙ c.loop-i.invariant

pub loop-i-preserved : goal.loop-i-preserved
loop-i-preserved c =
    sym (forward_on _ _ (sym c.leads_forward.ensures ∙ c.if-not-leads_forward.false)) ∙ ap forward (sym c.in-Some.ensures.steps.0) ∙ c.loop-i.invariant

pub returns : goal.returns
returns c = sym forward-none ∙ ap forward (sym c.in-None.ensures.steps.0) ∙ c.loop-i.invariant
