-- The loop's invariant: what is left from channel n on has the answer. Its measure: the channels left. Assumes nothing.
use mathlib.Core.Path.{◌≡◌}
use Prim.Native.Nat.{◌≤◌}
use Rattle.kernel.specs.Marks.{marked}
use Rattle.machine.specs.Channels.{channels_is}
use Rattle.run.specs.Landing.{waits_by, waits_from}
use Rattle.run.proofs.legal.all_rest.Given as goal

abbrev pub invariant-loop-n : goal.invariant-loop-n
invariant-loop-n l = (l.n ≤ 16) × (waits_by (marked l.marks) (channels_is l.channels) ≡ waits_from (marked l.marks) l.channels l.n)
