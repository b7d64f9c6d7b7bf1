-- Numbers have the lowest bits of what they stand for (`ex-logic`). Assumes nothing.
use lib.Bits.{bit_xor}
use Rattle.element.proofs.Operations.{ex-logic}
use Rattle.element.proofs.logic.logic_xor.Goals as goal

pub returns : goal.returns
returns c = ex-logic bit_xor c.args.a c.args.b
