-- Where the predicate masks, its own 16 bits are left; where it does not, all ones. Assumes nothing.
use mathlib.Core.Path.{sym}
use Rattle.paper.specs.Enable.{of_bits}
use Rattle.laws.specs.Masks.{of_bits-mod}
use Rattle.lanes.specs.Masks.{passed_mask}
use Rattle.lanes.proofs.mask.passed.Goals as goal

pub returns-then-masks : goal.returns-then-masks
unfolding passed_mask
returns-then-masks c = rw c.if-masks.true (sym (of_bits-mod c.args.predicate 16))

pub returns-else-masks : goal.returns-else-masks
unfolding passed_mask of_bits
returns-else-masks c = rw c.if-masks.false
