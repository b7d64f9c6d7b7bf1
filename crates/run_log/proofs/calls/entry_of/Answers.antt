-- Place and awake mask are read. Assumes nothing.
use Rattle.std.proofs.Common.{◌∙◌}
use Rattle.run_log.specs.Calls.{entry_is}
use Rattle.run_log.proofs.calls.entry_of.Goals as goal

pub returns : goal.returns
returns c =
    let a = c.args in
    entry_is a.answer a.state.now c.read2-place.result c.read2-mask.result c.from.result c.read2-place.ensures.0 c.read2-mask.ensures.0 (c.from.ensures ∙ c.count_awake.ensures)
