-- Each number's bytes are stored where the number before it ends. Assumes nothing.
use Rattle.std.proofs.Common.{refl}
use Rattle.paper.specs.Bits.{bytes_of, put_at}
use Rattle.placement.specs.Spots.{six_bytes}
use Rattle.placement.proofs.calls.bytes_of.Goals as goal

pub returns : goal.returns
unfolding six_bytes bytes_of put_at
returns c =
    rw (c.write-6.ensures, c.write-5.ensures, c.write-4.ensures, c.write-3.ensures, c.write-2.ensures, c.write.ensures)
    (rw (c.from-6.ensures, c.from-5.ensures, c.from-4.ensures, c.from-3.ensures, c.from-2.ensures, c.from.ensures) refl)
