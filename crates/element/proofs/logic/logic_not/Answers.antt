-- A number has the lowest bits of what it stands for (`ex-complement`). Assumes nothing.
use Rattle.element.proofs.Operations.{ex-complement}
use Rattle.element.proofs.logic.logic_not.Goals as goal

pub returns : goal.returns
returns c = ex-complement c.args.a
