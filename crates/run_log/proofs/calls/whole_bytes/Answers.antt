-- What is said of the records is the answer. Assumes nothing.
use mathlib.Core.Path.{sym, ◌∙◌}
use Rattle.std.proofs.lemmas.Result.{err_from_is_err_and}
use Rattle.run_log.specs.Calls.{read_says}
use Rattle.run_log.proofs.calls.whole_bytes.Goals as goal

pub returns-in_err-records_of : goal.returns-in_err-records_of
returns-in_err-records_of c =
    let p = err_from_is_err_and c.from_residual.result c.from_residual.ensures.1 in
    rw (p.1, p.2) (read_says _ _ _ (sym c.records_of.ensures.is ∙ c.in_err-records_of.was))

pub returns : goal.returns
returns c = rw c.accepted.ensures (read_says _ _ _ (sym c.records_of.ensures.is ∙ c.in_ok-records_of.was))
