-- Each pattern is that of the float in its place. Assumes nothing.
use mathlib.Core.Path.{refl}
use Rattle.placement.proofs.patterns.Placement.to_bits.Goals as goal

pub returns : goal.returns
returns c = rw (c.pattern_of.ensures, c.pattern_of-2.ensures, c.pattern_of-3.ensures, c.pattern_of-4.ensures, c.pattern_of-5.ensures, c.pattern_of-6.ensures) refl
