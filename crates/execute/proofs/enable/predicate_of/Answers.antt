-- Without a predicate it holds of every channel. Assumes nothing.
use mathlib.Core.Path.{sym, ◌∙◌}
use Rattle.paper.specs.Enable.{predicate, of_bits}
use Rattle.lanes.specs.Masks.{predicate_mask}
use Rattle.execute.proofs.enable.predicate_of.Goals as goal

pub returns-then-pred_ctrl-eq0 : goal.returns-then-pred_ctrl-eq0
unfolding predicate_mask predicate of_bits
returns-then-pred_ctrl-eq0 c = rw (sym c.pred_ctrl.ensures.0 ∙ c.if-pred_ctrl-eq0.true)
