-- The tests are the call's, in its order; the marks are the places that land. Assumes nothing.
use mathlib.Core.Path.{sym, ◌∙◌}
use Rattle.std.proofs.lemmas.Result.{err_from_is_err_and}
use Rattle.run.specs.Answers.{admits_refused, admits_illegal, admits_fine}
use Rattle.run.proofs.calls.admit.Goals as goal

pub returns-in_err-accept : goal.returns-in_err-accept
returns-in_err-accept c =
    let p = err_from_is_err_and c.from_residual.result c.from_residual.ensures.1 in
    rw (p.1, p.2) (admits_refused _ _ _ c.requires _ _ c.accept.ensures _ c.in_err-accept.was)

pub returns-then-not-is_legal : goal.returns-then-not-is_legal
returns-then-not-is_legal c =
    rw c.into.ensures (admits_illegal _ _ _ c.requires _ _ c.accept.ensures _ c.in_ok-accept.was (sym c.is_legal.ensures ∙ c.if-not-is_legal.true))

pub returns : goal.returns
returns c = admits_fine _ _ _ c.requires _ _ c.accept.ensures _ c.in_ok-accept.was (sym c.is_legal.ensures ∙ c.if-not-is_legal.false)
