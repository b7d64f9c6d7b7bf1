-- Shifts and `&` of a mask of 16 bits stay exact; the law of joined halves says the rest. Assumes nothing.
use mathlib.Core.Path.{refl}
use native.Mathlib.Omega.{arith}
use native.Mathlib.Nat.{lt_of_le_of_lt}
use lib.Bits.{and_le_l}
use lib.Pow.{shl_exact}
use Rattle.lanes.specs.VoteLaws.{joined_is, joined_less}
use Rattle.lanes.proofs.votes.joined.Goals as goal

pub returns : goal.returns
returns c =
    let a = c.args in
    rw (
      shl_exact 16 a.half 64 (lt_of_le_of_lt (and_le_l a.mask a.low) c.requires.mask_bound.0) (omega arith),
      joined_is a.half c.requires.mask_bound.1 a.mask a.low c.requires.mask_bound.0 c.requires.low_value.0 c.requires.low_value.1,
    )
    (refl, joined_less a.half a.mask)
