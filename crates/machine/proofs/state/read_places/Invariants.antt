-- The loop's invariant: the places of the channels passed are read, and each has 16 bits. Its measure: the channels left. Assumes nothing.
use mathlib.Core.Path.{◌≡◌}
use Prim.Native.Nat.{ℕ, ◌≤◌, ◌<◌}
use lib.ListN.{length}
use Rattle.paper.specs.State.{waiting_place}
use Rattle.lanes.specs.Values.{values}
use Rattle.machine.proofs.state.read_places.Given as goal

abbrev pub invariant-loop-n : goal.invariant-loop-n
invariant-loop-n l = (l.n ≤ 16) × (length l.places ≡ 16) × (l.places ≡ values (waiting_place l.bytes) l.n) × ((k : ℕ) → k < l.n → waiting_place l.bytes k < 65536)
