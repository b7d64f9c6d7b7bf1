-- The two numbers handed to `between` stand for the ends of the range (`ex_clamp`). Assumes nothing.
use native.Mathlib.Omega.{arith}
use Rattle.element.proofs.Types.{ex_clamp, sign_most, sign_ones}
use Rattle.element.proofs.value.clamp.Goals as goal

pub overflow_sub-s : goal.overflow_sub-s
overflow_sub-s c = omega (arith, sign_most c.args.kind)

pub overflow_sub-most : goal.overflow_sub-most
overflow_sub-most c = omega (arith, sign_ones c.args.kind c.requires)

pub returns : goal.returns
returns c =
    let x = c.args in
    rw (c.between.ensures, c.sign-s.ensures, c.ones-most.ensures) (ex_clamp x.kind x.v c.requires)
