-- The answer of what was decoded. Assumes nothing.
use mathlib.Core.Path.{sym, ap, ◌∙◌}
use native.Mathlib.Omega.{arith}
use Rattle.std.proofs.lemmas.Result.{err_from_is_err_and}
use Rattle.kernel.specs.Answers.{decoded_is, size_as, part_fits}
use Rattle.kernel.proofs.decode.decode_size.Goals as goal

pub returns-in_err-f : goal.returns-in_err-f
returns-in_err-f c =
    let p = err_from_is_err_and c.from_residual.result c.from_residual.ensures.1 in
    rw (p.1, p.2, rw c.in_err-f.was at c.decode.ensures.uncounted) (size_as _ _ _ _ (sym c.decode.ensures.value ∙ ap decoded_is c.in_err-f.was))

pub overflow_mul-f : goal.overflow_mul-f
overflow_mul-f c =
    let f = part_fits _ _ _ _ _ (sym c.decode.ensures.value ∙ ap decoded_is c.in_ok-f.was) in
    omega (arith, f)

pub returns : goal.returns
returns c = rw c.accepted.ensures (size_as _ _ _ _ (sym c.decode.ensures.value ∙ ap decoded_is c.in_ok-f.was))
