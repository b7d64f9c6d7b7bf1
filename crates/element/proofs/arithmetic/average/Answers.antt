-- The sum with 1 is halved, and so is its base, whose other half is put back (`ex-average`). Assumes nothing.
use native.Mathlib.Omega.{arith}
use Rattle.element.proofs.Operations.{ex-average}
use Rattle.element.proofs.arithmetic.average.Goals as goal

pub returns : goal.returns
returns c = ex-average c.args.a c.args.b (omega arith) (omega arith)
