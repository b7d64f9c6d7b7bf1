-- The loop's invariant: the channels that wait at the places passed are found. Assumes nothing.
use mathlib.Core.List.{List}
use mathlib.Core.Path.{◌≡◌}
use Prim.Native.Nat.{◌≤◌}
use lib.ListN.{length}
use Rattle.paper.specs.Machine.{Channel}
use Rattle.machine.specs.Posts.{Posted}
use Rattle.machine.specs.Posting.{Found}
use Rattle.machine.proofs.posting.channels_from.Given as goal

abbrev pub invariant-loop-p : goal.invariant-loop-p
invariant-loop-p l = (l.p ≤ length l.here) × (length l.places ≡ 16) × ((cs : List Channel) → Posted l.up l.here cs → Found cs l.p l.waiting l.places)
