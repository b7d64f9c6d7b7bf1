-- What is said of the kernel as a whole is the answer. Assumes nothing.
use Rattle.std.proofs.lemmas.Result.{err_from_is_err_and}
use Rattle.kernel.specs.Answers.{check_says}
use Rattle.kernel.proofs.check.check.Goals as goal

pub returns-in_err-accept : goal.returns-in_err-accept
returns-in_err-accept c =
    let p = err_from_is_err_and c.from_residual.result c.from_residual.ensures.1 in
    rw (p.1, p.2) (check_says _ _ _ _ c.accept.ensures _ c.in_err-accept.was)

pub returns : goal.returns
returns c = rw c.accepted.ensures (check_says _ _ _ _ c.accept.ensures _ c.in_ok-accept.was)
