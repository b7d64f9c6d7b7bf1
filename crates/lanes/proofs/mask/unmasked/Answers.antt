-- WECtrl 1 gives all ones; else the mask's own 16 bits. Assumes nothing.
use mathlib.Core.Path.{sym}
use borrow.Author.Tests.{ne_eqb}
use Rattle.paper.specs.Enable.{of_bits}
use Rattle.laws.specs.Masks.{of_bits-mod}
use Rattle.lanes.specs.Masks.{unmasked_mask}
use Rattle.lanes.proofs.mask.unmasked.Goals as goal

pub returns-then-force-eq1 : goal.returns-then-force-eq1
unfolding unmasked_mask of_bits
returns-then-force-eq1 c = rw c.if-force-eq1.true

pub returns-else-force-eq1 : goal.returns-else-force-eq1
unfolding unmasked_mask
returns-else-force-eq1 c = simp (ne_eqb _ _ c.if-force-eq1.false) (sym (of_bits-mod c.args.awake 16))
