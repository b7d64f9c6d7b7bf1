-- What the text writes is what the rest writes after the number read so far. Assumes nothing.
use Rattle.std.proofs.Common.{◌≡◌, drop}
use Rattle.rows.specs.Text.{hex_from, number_of}
use Rattle.rows.proofs.text.number_in.Given as goal

abbrev pub invariant-loop-b : goal.invariant-loop-b
invariant-loop-b l = number_of l.text ≡ hex_from l.number (drop l.b-index l.text)
