-- Flipping the sign bit of a pattern adds it or takes it away (`ex_load`). Assumes nothing.
use native.Mathlib.Omega.{arith}
use Rattle.element.proofs.Types.{ex_load, load_near, load_fits, sign_most}
use Rattle.element.proofs.value.load.Goals as goal

pub overflow_sub-result : goal.overflow_sub-result
overflow_sub-result c = omega (arith, sign_most c.args.kind)

pub overflow_add-result : goal.overflow_add-result
overflow_add-result c =
    let x = c.args in
    rw c.sign-s.ensures (record { fits = load_fits x.kind x.pattern c.requires.0 c.requires.1 })

pub returns : goal.returns
returns c =
    let x = c.args in
    rw c.sign-s.ensures (ex_load x.kind x.pattern c.requires.0 c.requires.1, load_near x.kind x.pattern c.requires.0 c.requires.1)
