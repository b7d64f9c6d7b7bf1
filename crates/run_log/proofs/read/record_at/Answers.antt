-- Six lines, one after another; nothing more is read after one that is not there. Assumes nothing.
use Rattle.std.proofs.lemmas.Result.{err_from_is_err_and}
use Rattle.paper.specs.Log.{item_at, record_at}
use Rattle.run_log.specs.Rooms.{stop, next, last}
use Rattle.run_log.proofs.read.record_at.Goals as goal

pub returns-in_err-verdict : goal.returns-in_err-verdict
unfolding record_at item_at
returns-in_err-verdict c =
    let p = err_from_is_err_and c.from_residual.result c.from_residual.ensures.1 in
    rw (p.1, p.2) (stop _ _ _ _ _ c.in_err-verdict.ensures)

pub returns-in_err-steps : goal.returns-in_err-steps
unfolding record_at item_at
returns-in_err-steps c =
    let p = err_from_is_err_and c.from_residual-in_err-steps.result c.from_residual-in_err-steps.ensures.1 in
    rw (p.1, p.2) (next _ _ _ _ _ _ c.in_ok-verdict.ensures (stop _ _ _ _ _ c.in_err-steps.ensures))

pub returns-in_err-place : goal.returns-in_err-place
unfolding record_at item_at
returns-in_err-place c =
    let p = err_from_is_err_and c.from_residual-in_err-place.result c.from_residual-in_err-place.ensures.1 in
    rw (p.1, p.2) (next _ _ _ _ _ _ c.in_ok-verdict.ensures (next _ _ _ _ _ _ c.in_ok-steps.ensures (stop _ _ _ _ _ c.in_err-place.ensures)))

pub returns-in_err-awake : goal.returns-in_err-awake
unfolding record_at item_at
returns-in_err-awake c =
    let p = err_from_is_err_and c.from_residual-in_err-awake.result c.from_residual-in_err-awake.ensures.1 in
    rw (p.1, p.2) (next _ _ _ _ _ _ c.in_ok-verdict.ensures (next _ _ _ _ _ _ c.in_ok-steps.ensures (next _ _ _ _ _ _ c.in_ok-place.ensures (stop _ _ _ _ _ c.in_err-awake.ensures))))

pub returns-in_err-end : goal.returns-in_err-end
unfolding record_at item_at
returns-in_err-end c =
    let p = err_from_is_err_and c.from_residual-in_err-end.result c.from_residual-in_err-end.ensures.1 in
    rw (p.1, p.2) (next _ _ _ _ _ _ c.in_ok-verdict.ensures (next _ _ _ _ _ _ c.in_ok-steps.ensures (next _ _ _ _ _ _ c.in_ok-place.ensures (next _ _ _ _ _ _ c.in_ok-awake.ensures (stop _ _ _ _ _ c.in_err-end.ensures)))))

pub returns : goal.returns
unfolding record_at item_at
returns c = next _ _ _ _ _ _ c.in_ok-verdict.ensures (next _ _ _ _ _ _ c.in_ok-steps.ensures (next _ _ _ _ _ _ c.in_ok-place.ensures (next _ _ _ _ _ _ c.in_ok-awake.ensures (next _ _ _ _ _ _ c.in_ok-end.ensures (last _ _ _ _ c.exactly_at-2.ensures)))))
