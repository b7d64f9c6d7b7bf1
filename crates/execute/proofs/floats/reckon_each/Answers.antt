-- One channel more is made. Assumes nothing.
use native.Mathlib.Omega.{arith}
use Rattle.lanes.specs.Mapped.{mapped_none, mapped_more}
use Rattle.execute.specs.Floats.{Reckoned}
use Rattle.execute.proofs.floats.reckon_each.Goals as goal

pub loop-k-init : goal.loop-k-init
unfolding Reckoned
loop-k-init c = mapped_none _ _ c.told-first

pub loop-k-preserved : goal.loop-k-preserved
unfolding Reckoned
loop-k-preserved c = mapped_more _ c.loop-k.k _ _ _ (omega arith) c.loop-k.invariant c.reckoned.ensures
