-- The second number's bytes are stored where the first's end. Assumes nothing.
use mathlib.Core.Path.{refl}
use Rattle.paper.specs.Bits.{bytes_of, put_at}
use Rattle.paper.specs.Placing.{point_bytes}
use Rattle.placement.proofs.calls.point_bytes.Goals as goal

pub returns : goal.returns
unfolding point_bytes bytes_of put_at
returns c = rw (c.write-2.ensures, c.write.ensures, c.from-2.ensures, c.from.ensures) refl
