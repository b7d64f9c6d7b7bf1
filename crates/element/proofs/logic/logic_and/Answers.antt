-- Numbers have the lowest bits of what they stand for (`ex-logic`). Assumes nothing.
use lib.Bits.{bit_and}
use Rattle.element.proofs.Operations.{ex-logic}
use Rattle.element.proofs.logic.logic_and.Goals as goal

pub returns : goal.returns
returns c = ex-logic bit_and c.args.a c.args.b
