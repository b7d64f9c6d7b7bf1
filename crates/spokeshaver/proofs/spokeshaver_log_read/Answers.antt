-- The callee's answer as a number. Assumes nothing.
use mathlib.Core.Path.{sym, ap, ◌∙◌}
use Rattle.paper.specs.Calls.{as_number}
use Rattle.answers.specs.Small.{small_as}
use Rattle.answers.specs.Logs.{log_read_fine}
use Rattle.spokeshaver.proofs.spokeshaver_log_read.Goals as goal

pub number_of-requires : goal.number_of-requires
number_of-requires c = small_as _ _ (sym c.whole_bytes.ensures) (log_read_fine _ _).small

pub returns : goal.returns
returns c = c.number_of.ensures ∙ ap as_number c.whole_bytes.ensures
