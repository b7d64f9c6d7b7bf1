-- The factors are taken over the base 2^16, where no product wraps, and the product is put over 2^63 (`ex_multiply`). Assumes nothing.
use native.Mathlib.Omega.{arith}
use Prim.Native.Nat.{◌-◌}
use Rattle.element.proofs.Operations.{ex_multiply}
use Rattle.element.proofs.arithmetic.multiply.Goals as goal

pub returns : goal.returns
returns c =
    let x = c.args.a - 9223372036854710272 in
    let y = c.args.b - 9223372036854710272 in
    ex_multiply c.args.a c.args.b x y (omega arith) (omega arith) (omega arith)
