-- One bit, shifted into its place. Assumes nothing.
use lib.Pow.{pow_pos}
use Rattle.short.specs.SetLaws.{one_shifted}
use Rattle.short.proofs.sets.power.Goals as goal

pub returns : goal.returns
returns c = let e = one_shifted c.args.width 64 c.requires in (e, rw e (pow_pos c.args.width))
