-- Half of each base leaves one base in the sum (`ex-add`). Assumes nothing.
use native.Mathlib.Omega.{arith}
use Rattle.element.proofs.Operations.{ex-add}
use Rattle.element.proofs.arithmetic.add.Goals as goal

pub returns : goal.returns
returns c = ex-add c.args.a c.args.b (omega arith) (omega arith)
