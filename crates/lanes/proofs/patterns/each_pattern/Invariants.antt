-- The loop's invariant: the patterns of the channels passed are scattered. Assumes nothing.
use mathlib.Core.Path.{◌≡◌}
use Prim.Native.Nat.{◌+◌, ◌*◌}
use lib.ListN.{get_or}
use Rattle.paper.specs.Bits.{bit}
use Rattle.paper.specs.Effect.{scattered}
use Rattle.lanes.proofs.patterns.each_pattern.Given as goal

abbrev pub invariant-loop-k : goal.invariant-loop-k
invariant-loop-k l =
    l.registers ≡ scattered l.initial.registers (λ k'. l.origin + k' * l.stride * 4) 4 (bit l.enable) (λ k'. get_or l.patterns k' 0) l.k
