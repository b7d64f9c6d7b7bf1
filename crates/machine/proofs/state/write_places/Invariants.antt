-- The loop's invariant: the places passed are stored. Its measure: the places left. Assumes nothing.
use mathlib.Core.Path.{◌≡◌}
use Prim.Native.Nat.{◌≤◌}
use lib.ListN.{length}
use Rattle.machine.specs.States.{places_put}
use Rattle.machine.proofs.state.write_places.Given as goal

abbrev pub invariant-loop-n : goal.invariant-loop-n
invariant-loop-n l = (l.n ≤ 16) × (length l.bytes ≡ length l.initial.bytes) × (l.bytes ≡ places_put l.initial.bytes l.places l.n)
