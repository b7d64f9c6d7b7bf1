-- By the state's size. Assumes nothing.
use mathlib.Core.Path.{ap, ◌∙◌, subst}
use Rattle.words.specs.Answer.{Wrote}
use Rattle.paper.specs.Calls.{Written}
use Rattle.paper.specs.Log.{log_append_call}
use Rattle.run_log.specs.Calls.{run_unsized, run_is}
use Rattle.run_log.proofs.calls.append_run.Goals as goal

pub returns-then-state-ne-STATE_LENGTH : goal.returns-then-state-ne-STATE_LENGTH
returns-then-state-ne-STATE_LENGTH c =
    rw c.into.ensures
    (let a = c.args in
    run_unsized a.log.now a.count a.answer a.state.now c.if-state-ne-STATE_LENGTH.true)

pub returns : goal.returns
returns c =
    let a = c.args in
    let z = c.append in
    subst (λ (w : Written). Wrote w z.result z.new.log)
    (ap (log_append_call a.log.now a.count) c.entry_of.ensures ∙ run_is a.log.now a.count a.answer a.state.now c.if-state-ne-STATE_LENGTH.false)
    z.ensures
