-- Each pattern is that of the float in its place. Assumes nothing.
use mathlib.Core.Path.{refl}
use Rattle.placement.proofs.patterns.Point.to_bits.Goals as goal

pub returns : goal.returns
returns c = rw (c.pattern_of.ensures, c.pattern_of-2.ensures) refl
