-- What is said of the records is the part. Assumes nothing.
use mathlib.Core.Path.{sym}
use Rattle.run_log.specs.Calls.{part_says}
use Rattle.run_log.proofs.calls.whole.Goals as goal

pub returns-in-Ok : goal.returns-in-Ok
returns-in-Ok c = part_says _ _ _ (sym c.in-Ok.ensures.is)

pub returns-in-Err : goal.returns-in-Err
returns-in-Err c = part_says _ _ _ (sym c.in-Err.ensures.is)
