-- One channel more is done. Assumes nothing.
use borrow.Author.Rules.{rules}
use Prim.Native.Nat.{◌^◌, ◌<◌}
use native.Mathlib.Omega.{arith}
use Rattle.lanes.specs.Mapped.{mapped_more}
use Rattle.operands.proofs.floats.float_vector.Goals as goal

pub loop-k-preserved : goal.loop-k-preserved
loop-k-preserved c =
    let fits : c.vector_pattern.result < 2 ^ 32 = search rules in
    mapped_more _ c.loop-k.k _ _ _ (omega arith) c.loop-k.invariant (c.vector_pattern.ensures, fits)
