-- The constant is the kernel's bytes: antt computes both. Assumes nothing.
use mathlib.Core.Path.{refl}
use Rattle.paper.specs.Bits.{bytes_of}
use Rattle.paper.specs.Assembler.{to, from0, from1, op, long}
use Rattle.paper.specs.Placing.{place_kernel}
use Rattle.placement.proofs.calls.kernel_bytes.Goals as goal

pub returns : goal.returns
unfolding place_kernel long op to from0 from1 bytes_of
returns c = refl
