-- One channel more is scattered, and its element lies inside. Assumes nothing.
use mathlib.Core.Path.{refl}
use Prim.Native.Nat.{ℕ, ◌+◌, ◌*◌}
use native.Mathlib.Numerals.{add-one}
use lib.ListN.{get_or}
use Rattle.paper.specs.Bits.{bit}
use Rattle.paper.specs.Effect.{scattered}
use Rattle.lanes.proofs.Laws.{scattered_step}
use Rattle.lanes.proofs.patterns.each_pattern.Goals as goal

pub loop-k-init : goal.loop-k-init
unfolding scattered
loop-k-init c = refl

pub loop-k-preserved : goal.loop-k-preserved
loop-k-preserved c =
    let a = c.args in
    let k : ℕ = c.loop-k.k in
    rw (add-one k)
    (scattered_step a.registers.now _ _ (λ k. a.origin + k * a.stride * 4) 4 (bit a.enable) (λ k. get_or a.patterns.now k 0) k
    c.loop-k.invariant (rw c.from-v.ensures at c.blend_channel.ensures))
