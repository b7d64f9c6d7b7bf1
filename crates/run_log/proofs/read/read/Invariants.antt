-- A turn reads one record. Assumes nothing.
use Rattle.std.proofs.Common.{◌≡◌, ◌-◌, ◌≤◌, length}
use Rattle.paper.specs.Log.{read_from, reading}
use Rattle.run_log.proofs.read.read.Given as goal

abbrev pub invariant-loop-runs : goal.invariant-loop-runs
invariant-loop-runs l = (read_from (length l.s - l.runs) l.s l.runs l.bytes ≡ reading l.s) × (l.bytes ≤ length l.s)
