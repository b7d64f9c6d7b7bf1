-- One channel more is done. Assumes nothing.
use native.Mathlib.Omega.{arith}
use Rattle.lanes.specs.Mapped.{mapped_more}
use Rattle.operands.proofs.modify.modify_each.Goals as goal

pub loop-k-preserved : goal.loop-k-preserved
loop-k-preserved c = mapped_more _ c.loop-k.k _ _ _ (omega arith) c.loop-k.invariant c.modify.ensures
