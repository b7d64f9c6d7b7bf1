-- The loop's invariant: the table has the instructions below place p. Assumes nothing.
use mathlib.Core.Path.{◌≡◌}
use Prim.Native.Nat.{◌≤◌}
use lib.ListN.{length}
use Rattle.run.specs.Kernels.{instructions}
use Rattle.run.specs.Tables.{TabledTo}
use Rattle.run.proofs.accepted.Accepted.fill.Given as goal

abbrev pub invariant-loop-p : goal.invariant-loop-p
invariant-loop-p l = (l.p ≤ l.end) × TabledTo (instructions l.self.dictionary.now l.self.kernel.now) l.table l.p × (length l.table ≡ length l.initial.table)
