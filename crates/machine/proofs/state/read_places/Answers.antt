-- The loop's invariant: the places of the channels passed are read, and each has 16 bits. Its measure: the channels left. Assumes nothing.
use mathlib.Core.Path.{◌≡◌, refl}
use Prim.Native.Nat.{ℕ, ◌<◌}
use native.Mathlib.Omega.{arith}
use lib.ListN.{length-set}
use borrow.Author.Count.{below_more}
use Rattle.paper.specs.State.{waiting_place}
use Rattle.lanes.specs.Values.{fill, values}
use Rattle.lanes.specs.Values.{values_more}
use Rattle.machine.proofs.state.read_places.Goals as goal

pub loop-n-init : goal.loop-n-init
unfolding values fill
loop-n-init c = (omega arith, refl, refl, λ k h. absurd (omega arith))

pub loop-n-preserved : goal.loop-n-preserved
loop-n-preserved c =
    let n = c.loop-n.n in
    let inv = c.loop-n.invariant in
    let bytes = c.args.bytes.now in
    let e = c.read2.ensures in
    (omega arith, simp length-set (omega arith), values_more _ n _ _ inv.2 e.0, below_more (λ (k : ℕ). waiting_place bytes k < 65536) n inv.3 (rw e.0 at e.1))

pub returns : goal.returns
returns c =
    let inv = c.loop-n.invariant in
    let e : c.loop-n.n ≡ 16 = omega arith in
    (rw e at inv.2, rw e at inv.3)
