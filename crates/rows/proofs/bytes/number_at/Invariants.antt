-- The number of the bytes that were read, the last ones first.
use Rattle.std.proofs.Common.{◌≡◌, ◌+◌, ◌-◌, ◌<◌, ◌^◌}
use Rattle.paper.specs.Bits.{number_at}
use Rattle.rows.proofs.bytes.number_at.Given as goal

abbrev pub invariant-loop-i : goal.invariant-loop-i
invariant-loop-i g l = (l.v ≡ number_at l.bytes (l.at + (g.row.SIZE - l.i)) l.i) × (l.v < 256 ^ l.i)
