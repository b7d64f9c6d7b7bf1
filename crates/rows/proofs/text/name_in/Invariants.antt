-- The loop keeps the number within seven bytes. Assumes nothing.
use Rattle.std.proofs.Common.{◌^◌, ◌<◌}
use Rattle.rows.proofs.text.name_in.Given as goal

abbrev pub invariant-loop-b : goal.invariant-loop-b
invariant-loop-b l = l.v < 2 ^ 56
