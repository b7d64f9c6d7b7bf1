-- The element of a0 and AddrImm are the fields of the thirteen bits. Assumes nothing.
use mathlib.Core.Path.{refl, ap, ◌∙◌}
use Prim.Native.Nat.{ℕ, ◌*◌}
use lib.IntN.{pos, ◌+ℤ◌}
use Rattle.paper.specs.Bits.{number_at}
use Rattle.paper.specs.Jump.{signed_of}
use Rattle.distances.specs.Reach.{said_from_lem}
use Rattle.address.specs.Bytes.{in_file, told}
use Rattle.std.specs.Prelude.{None}
use Rattle.address.proofs.byte.address_of.Goals as goal

pub returns : goal.returns
returns c =
    let a = c.args in
    let base = c.read2-base.ensures.0 ∙ ap (λ (k : ℕ). number_at a.addresses.now (2 * k) 2) c.part-element.ensures.0 in
    c.moved.ensures
    ∙ said_from_lem in_file None _ _ 512 10 refl refl
    ∙ (λ i. told (pos (base i) +ℤ signed_of 10 (c.part.ensures.0 i)))
