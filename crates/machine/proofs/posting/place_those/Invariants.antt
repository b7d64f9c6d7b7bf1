-- The loop's invariant: the places of the channels passed are made. Assumes nothing.
use mathlib.Core.Path.{◌≡◌}
use mathlib.Core.Bool.{cond}
use Prim.Native.Nat.{◌≤◌}
use Rattle.paper.specs.Bits.{bit}
use Rattle.lanes.specs.Mapped.{Mapped}
use Rattle.machine.proofs.posting.place_those.Given as goal

abbrev pub invariant-loop-n : goal.invariant-loop-n
invariant-loop-n l = (l.n ≤ 16) × Mapped (λ k old new. new ≡ cond (bit l.mask k) l.place old) l.n l.initial.places l.places
