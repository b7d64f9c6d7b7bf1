-- Single floats by their 32-bit patterns (02 §8). A pattern is read as a value of `Float.Ieee` of std, which has IEEE 754's binary32; an operation works on values and
-- rounds once, to nearest, ties to even, subnormal numbers kept; and the value is written as a pattern again. `to_bits` writes a NaN as 0x7FC00000. Assumes
-- nothing.
use Rattle.std.specs.Prelude.{Bool, cond, ℕ, ◌+◌, ◌%◌, ◌^◌, eqb, Float}
use Rattle.std.specs.Float.Ieee as Ieee
use Rattle.std.specs.Float.{binary32}

-- The value that a pattern writes, and the pattern that writes a value.
abbrev pub float : ℕ → Float
float x = Ieee.of_bits binary32 x

abbrev pub pattern : Float → ℕ
pattern v = Ieee.to_bits binary32 v

-- ---- operations on patterns

abbrev pub sum : ℕ → ℕ → ℕ
sum x y = pattern (Ieee.add binary32 (float x) (float y))

abbrev pub product : ℕ → ℕ → ℕ
product x y = pattern (Ieee.mul binary32 (float x) (float y))

-- What condition code c says of two floats: 1 z, 2 nz, 3 g, 4 ge, 5 l, 6 le. With a NaN only nz holds.
unfoldable pub compares_floats : ℕ → ℕ → ℕ → Bool
compares_floats c x y =
    cond (eqb c 1) (Ieee.eq (float x) (float y))
    (cond (eqb c 2) (Ieee.ne (float x) (float y))
    (cond (eqb c 3) (Ieee.lt (float y) (float x))
    (cond (eqb c 4) (Ieee.le (float y) (float x))
    (cond (eqb c 5) (Ieee.lt (float x) (float y))
    (Ieee.le (float x) (float y))))))

-- ---- source modifiers act on the sign bit: 1 absolute, 2 negated, 3 negated absolute

abbrev pub sign_bit : ℕ
sign_bit = 2 ^ 31

unfoldable pub sign_modified : ℕ → ℕ → ℕ
sign_modified m x =
    cond (eqb m 1) (x % sign_bit)
    (cond (eqb m 2) ((x + sign_bit) % 2 ^ 32)
    (cond (eqb m 3) (sign_bit + x % sign_bit)
    x))
