-- Numbers as far above 2^63 as v is below stand for its negative (`ex_neg`). Assumes nothing.
use native.Mathlib.Omega.{arith}
use Rattle.element.proofs.Operations.{ex_neg}
use Rattle.element.proofs.modifier.negated.Goals as goal

pub returns : goal.returns
returns c = (ex_neg c.args.v (omega arith) (omega arith), λ k near. omega arith)
