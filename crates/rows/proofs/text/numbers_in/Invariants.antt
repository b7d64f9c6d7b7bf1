-- At most four numbers are kept. Assumes nothing.
use Rattle.std.proofs.Common.{◌≤◌, length}
use Rattle.rows.proofs.text.numbers_in.Given as goal

abbrev pub invariant-loop-field : goal.invariant-loop-field
invariant-loop-field l = length l.numbers.items ≤ 4
