-- A pair of floats with what the hardware gives for it, and what it is for a list of pairs to hold: antt computes the definitions of `paper` at each, and they give the same.
-- The lists are printed by tools/float_vectors.c from the float unit of an Arm machine (Neoverse N1, rounding to nearest, subnormal numbers kept), whose head says how. Assumes nothing.
use Rattle.std.specs.Prelude.{Bool, true, ◌&&◌, List, [], ◌∷◌, ◌≡◌, ℕ, ◌+◌, ◌*◌, eqb}
use Rattle.std.specs.Float.Ieee.{add, mul, of_bits, to_bits, eq, ne, lt, le}
use Rattle.paper.specs.Enable.{digit}
use Rattle.paper.specs.Single.{sum, product, compares_floats}

-- Two patterns, the pattern of their sum and of their product, and six comparisons: bit c − 1 for condition code c, 1 z, 2 nz, 3 g, 4 ge, 5 l, 6 le.
pub data Pair : Type 0 where
  pair : ℕ → ℕ → ℕ → ℕ → ℕ → Pair

-- The six comparisons as such a number.
comparisons : ℕ → ℕ → ℕ
comparisons x y =
    digit (compares_floats 1 x y)
    + 2 * digit (compares_floats 2 x y)
    + 4 * digit (compares_floats 3 x y)
    + 8 * digit (compares_floats 4 x y)
    + 16 * digit (compares_floats 5 x y)
    + 32 * digit (compares_floats 6 x y)

right : List Pair → Bool
right [] = true
right (pair x y s p c ∷ rest) = eqb (sum x y) s && eqb (product x y) p && eqb (comparisons x y) c && right rest

-- All pairs of a list hold. To open this definition is to open all that it computes with.
unfoldable pub Hold : List Pair → Type 0
unfolding add mul of_bits to_bits eq ne lt le compares_floats comparisons right
Hold pairs = right pairs ≡ true
