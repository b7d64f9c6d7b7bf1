-- The table of the restricted floats and its rule, proved at all 256 entries by one list that antt computes; and the numbers that they are. Assumes nothing.
use Rattle.std.specs.Prelude.{◌≡◌, ℕ, ◌+◌, ◌*◌, ◌^◌, ◌<◌, cond, List, ◌==◌, slice_index, refl}
use Rattle.std.specs.Float.{binary32}
use Rattle.std.specs.Float.Ieee.{round, to_bits}
use Rattle.paper.specs.Single.{pattern}
use Rattle.paper.specs.Restricted.{sign_of, exponent_of, fraction_of, restricted_float}
use Rattle.laws.specs.Tables.{values_from, value_at, values_agree}

-- The table: the pattern of each byte, in order.
unfoldable pub pattern_table : List ℕ
pattern_table = values_from restricted_float 0 256

-- Entry b is the pattern of byte b.
pub table_rule : (b : ℕ) → b < 256 → slice_index pattern_table b ≡ restricted_float b
unfolding pattern_table
table_rule b h = value_at restricted_float 256 b h

-- The number (16 + fraction) / 16 × 2 ^ (exponent − 3) with the byte's sign, or a zero, as a float.
unfoldable pub number_of : ℕ → ℕ
number_of b =
    pattern (round binary32 (sign_of b == 1) (cond (exponent_of b + fraction_of b == 0) 0 ((16 + fraction_of b) * 2 ^ exponent_of b)) 128)

-- Each byte's pattern is that number's, and no rounding is in it.
pub restricted_number : (b : ℕ) → b < 256 → restricted_float b ≡ number_of b
unfolding restricted_float number_of round to_bits
restricted_number = values_agree restricted_float number_of 256 refl
