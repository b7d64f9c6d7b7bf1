-- Products first, then sums from the left, as the formula has them. Assumes nothing.
use mathlib.Core.Path.{refl}
use Rattle.placement.proofs.placed.Goals as goal

pub returns : goal.returns
returns c = refl
