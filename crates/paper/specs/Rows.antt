-- A number laid out by rows of bits, the lowest row first: how the layouts of words are written. Assumes nothing.
use Rattle.std.specs.Prelude.{List, [], ◌∷◌, ℕ, ◌+◌, ◌*◌, ◌^◌}
use Rattle.paper.specs.Bits.{bits}

-- n bits, which are those of the number x from its bit lo on.
pub data Row : Type 0 where
  row : ℕ → ℕ → ℕ → Row

-- The number whose lowest bits are the first row's, with the other rows above.
abbrev pub assemble : List Row → ℕ
assemble [] = 0
assemble (row n x lo ∷ rows) = bits x lo n + assemble rows * 2 ^ n
