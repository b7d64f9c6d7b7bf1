-- Restricted floats, of which an immediate of type vf has four (02 §8; source document 000, 4.2.5 and table 4-2): a byte is a sign, 3 exponent bits biased by 3
-- and 4 fraction bits. 0x00 and 0x80 are zeros. A single float has 8 exponent bits biased by 127 and 23 fraction bits. Assumes nothing.
use Rattle.std.specs.Prelude.{cond, ℕ, ◌+◌, ◌-◌, ◌*◌, eqb}
use Rattle.paper.specs.Bits.{bits, ◌at◌}

abbrev pub sign_of : ℕ → ℕ
sign_of b = bits b 7 1

abbrev pub exponent_of : ℕ → ℕ
exponent_of b = bits b 4 3

abbrev pub fraction_of : ℕ → ℕ
fraction_of b = bits b 0 4

-- The 32-bit pattern of byte b's float. But for the two zeros an exponent of 0 is one like the others.
unfoldable pub restricted_float : ℕ → ℕ
restricted_float b = sign_of b at 31 + cond (eqb (bits b 0 7) 0) 0 ((exponent_of b + 127 - 3) at 23 + fraction_of b at 19)

-- What channel n reads of an immediate's four: byte n, counted from the lowest.
unfoldable pub vector_float : ℕ → ℕ → ℕ
vector_float immediate n = restricted_float (bits immediate (8 * n) 8)
