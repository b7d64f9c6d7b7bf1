-- The ones of a number of 16 bits are its set bits, counted. Assumes nothing.
use Rattle.lanes.specs.BitLaws.{ones-bits}
use Rattle.lanes.proofs.mask.count_awake.Goals as goal

pub returns : goal.returns
returns c = ones-bits c.args.mask 16 c.ranges.mask.fits
