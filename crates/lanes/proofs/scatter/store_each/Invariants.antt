-- The loop's invariant: the values of the channels passed are scattered. Assumes nothing.
use mathlib.Core.Path.{◌≡◌}
use Prim.Native.Nat.{◌+◌, ◌*◌}
use lib.ListN.{get_or}
use Rattle.paper.specs.Bits.{bit}
use Rattle.paper.specs.Effect.{scattered}
use Rattle.lanes.proofs.scatter.store_each.Given as goal

abbrev pub invariant-loop-k : goal.invariant-loop-k
invariant-loop-k l =
    l.registers ≡ scattered l.initial.registers (λ k'. l.origin + k' * l.stride * l.size) l.size (bit l.enable) (λ k'. get_or l.values k' 0) l.k
