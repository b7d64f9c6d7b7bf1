-- Numbers have the lowest bits of what they stand for (`ex-logic`). Assumes nothing.
use lib.Bits.{bit_or}
use Rattle.element.proofs.Operations.{ex-logic}
use Rattle.element.proofs.logic.logic_or.Goals as goal

pub returns : goal.returns
returns c = ex-logic bit_or c.args.a c.args.b
