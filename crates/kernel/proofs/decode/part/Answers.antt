-- A decoded instruction's bytes lie in the kernel; a refusal's part is empty. Assumes nothing.
use mathlib.Core.Path.{sym, ap, ◌∙◌}
use native.Mathlib.Omega.{arith}
use Rattle.kernel.specs.Answers.{decoded_is, part_none, part_some, part_fits}
use Rattle.kernel.proofs.decode.part.Goals as goal

pub overflow_mul-from : goal.overflow_mul-from
overflow_mul-from c =
    let f = part_fits _ _ _ _ _ (sym c.decode.ensures.value ∙ ap decoded_is c.in-Ok.is) in
    omega (arith, f)

pub overflow_mul-result : goal.overflow_mul-result
overflow_mul-result c =
    let f = part_fits _ _ _ _ _ (sym c.decode.ensures.value ∙ ap decoded_is c.in-Ok.is) in
    omega (arith, f)

pub overflow_add-result : goal.overflow_add-result
overflow_add-result c =
    let f = part_fits _ _ _ _ _ (sym c.decode.ensures.value ∙ ap decoded_is c.in-Ok.is) in
    omega (arith, f)

pub slice_bounds-result-end-in-Ok : goal.slice_bounds-result-end-in-Ok
slice_bounds-result-end-in-Ok c =
    let f = part_fits _ _ _ _ _ (sym c.decode.ensures.value ∙ ap decoded_is c.in-Ok.is) in
    omega (arith, f)

pub returns-in-Err : goal.returns-in-Err
returns-in-Err c = part_none _ _ _ _ _ (sym c.decode.ensures.value ∙ ap decoded_is c.in-Err.is)

pub returns-in-Ok : goal.returns-in-Ok
returns-in-Ok c = part_some _ _ _ _ _ (sym c.decode.ensures.value ∙ ap decoded_is c.in-Ok.is)
