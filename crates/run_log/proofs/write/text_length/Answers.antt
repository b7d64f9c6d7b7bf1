-- The names, the newlines and the one digit of the last line are 41 bytes. Assumes nothing.
use native.Mathlib.Omega.{arith}
use Rattle.run_log.specs.Meaning.{entry_is}
use Rattle.run_log.specs.Writing.{length_record}
use Rattle.run_log.proofs.write.text_length.Goals as goal

pub returns : goal.returns
returns c =
    let a = c.args in
    omega (arith, length_record a.run (entry_is a.e), c.width.ensures.0, c.width-2.ensures.0, c.width-3.ensures.0, c.width-4.ensures.0, c.width-5.ensures.0)
