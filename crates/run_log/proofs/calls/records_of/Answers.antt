-- By the buffer's size and what was read. Assumes nothing.
use mathlib.Core.Path.{sym, ◌∙◌}
use Rattle.run_log.specs.Calls.{part_length, records_unsized, records_are, records_inside}
use Rattle.run_log.proofs.calls.records_of.Goals as goal

pub returns-then-not-sized-clause-is : goal.returns-then-not-sized-clause-is
returns-then-not-sized-clause-is c = records_unsized _ _ (sym c.sized.ensures ∙ c.if-not-sized.true)

pub slice_bounds-read-end : goal.slice_bounds-read-end
slice_bounds-read-end c = part_length _ _ (sym c.sized.ensures ∙ c.if-not-sized.false)

pub returns-clause-is : goal.returns-clause-is
returns-clause-is c = rw c.ok_or.ensures.value (records_are _ _ _ (sym c.sized.ensures ∙ c.if-not-sized.false) c.read.ensures.0)

pub returns-clause-inside : goal.returns-clause-inside
returns-clause-inside c = rw c.ok_or.ensures.value (records_inside _ _ c.read.result c.read.ensures.1)
