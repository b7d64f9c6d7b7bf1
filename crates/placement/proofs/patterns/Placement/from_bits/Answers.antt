-- Each float is that of the pattern in its place. Assumes nothing.
use mathlib.Core.Path.{refl}
use Rattle.placement.proofs.patterns.Placement.from_bits.Goals as goal

pub returns : goal.returns
returns c = rw (c.float_of.ensures, c.float_of-2.ensures, c.float_of-3.ensures, c.float_of-4.ensures, c.float_of-5.ensures, c.float_of-6.ensures) refl
