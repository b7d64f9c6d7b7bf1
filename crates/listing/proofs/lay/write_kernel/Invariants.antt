-- The loop's invariant: the bytes of the instructions before `place` are written. The measure is what is left of the text. Assumes nothing.
use mathlib.Core.Path.{◌≡◌}
use Prim.Native.Nat.{◌-◌, ◌≤◌}
use lib.ListN.{length}
use Rattle.listing.specs.Laying.{Laying}
use Rattle.listing.proofs.lay.write_kernel.Given as goal

abbrev pub invariant-loop-from : goal.invariant-loop-from
invariant-loop-from l = (l.from ≤ length l.text) × (length l.out ≡ length l.initial.out) × Laying l.dictionary l.text l.initial.out l.out l.place l.from

abbrev pub decreases-loop-from : goal.decreases-loop-from
decreases-loop-from l = length l.text - l.from
