-- The tests are the definition's. Assumes nothing.
use mathlib.Core.Path.{sym}
use Rattle.kernel.specs.Marks.{marked_inside, marked_past}
use Rattle.kernel.proofs.jumps.is_marked.Goals as goal

pub returns-then-place : goal.returns-then-place
returns-then-place c = sym (marked_past _ _ c.if-place.true)

pub returns : goal.returns
returns c = sym (marked_inside _ _ c.if-place.false)
