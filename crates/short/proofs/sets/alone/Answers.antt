-- One bit, shifted into its place. Assumes nothing.
use Rattle.short.specs.SetLaws.{one_shifted}
use Rattle.short.proofs.sets.alone.Goals as goal

pub returns : goal.returns
returns c = let e = one_shifted c.args.i 32 c.requires in e
