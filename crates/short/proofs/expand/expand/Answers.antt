-- The five numbers are those that `expand_low` and `expand_high` read, and the halves are laid out by their rows. Assumes nothing.
use Prim.Native.Nat.{◌/◌, ◌%◌}
use native.Mathlib.Nat.{zero-add}
use Rattle.paper.specs.Expand.{expand, expand_low, expand_high}
use Rattle.short.proofs.expand.expand.Goals as goal

pub returns : goal.returns
unfolding expand expand_low expand_high
returns c = cc (zero-add (c.args.s / 256 % 32))
