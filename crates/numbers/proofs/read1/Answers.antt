-- One byte writes itself.
use Rattle.numbers.specs.Bytes.{one_read}
use Rattle.numbers.proofs.read1.Goals as goal

pub returns : goal.returns
returns c = rw one_read c.from.ensures
