-- The two bytes as the library puts them together.
use Rattle.std.proofs.Common.{arith}
use Rattle.numbers.specs.Bytes.{two_read}
use Rattle.numbers.proofs.read2.Goals as goal

pub returns : goal.returns
returns c = (omega (arith, two_read c.args.bytes.now c.args.from, c.from.ensures, c.from_le_bytes.ensures), omega (arith, c.from.ensures))
