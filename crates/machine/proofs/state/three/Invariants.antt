-- The loop's invariant: the channels passed are each one of the three. Its measure: the channels left. Assumes nothing.
use mathlib.Core.Path.{◌≡◌}
use mathlib.Core.Bool.{true}
use Prim.Native.Nat.{◌≤◌}
use Rattle.paper.specs.State.{all_three}
use Rattle.machine.proofs.state.three.Given as goal

abbrev pub invariant-loop-n : goal.invariant-loop-n
invariant-loop-n l = (l.n ≤ 16) × (all_three l.bytes l.n ≡ true)
