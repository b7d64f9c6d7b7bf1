-- The arm of a shift; written out, so that the refusal of a shift by another float names the two floats. Assumes nothing.
use Rattle.std.proofs.Common.{sym, ap}
use Rattle.placement.specs.declared.Order.{Order}
use Rattle.placement.specs.Orders.{answered}
use Rattle.placement.proofs.answer.Goals as goal

pub returns-in-Shift : goal.returns-in-Shift
returns-in-Shift c = sym (ap (λ (o : Order). answered o c.args.x c.args.y) c.in-Shift.is)
