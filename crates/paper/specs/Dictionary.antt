-- The dictionary: 128 numbers, 32 each for control, datatype, subregister and source. Repeats are legal. Assumes nothing.
use Rattle.std.specs.Prelude.{Bool, true, cond, ◌&&◌, List, ℕ, zero, suc, ◌+◌, ◌*◌, ◌^◌, ltb}
use Rattle.paper.specs.Bits.{number_at}

-- A dictionary as the numbers that it holds, by their place in it.
abbrev pub Dictionary : Type 0
Dictionary = ℕ → ℕ

-- The dictionary that is lent as bytes, four a number.
unfoldable pub dictionary_of : List ℕ → Dictionary
dictionary_of bytes i = number_at bytes (4 * i) 4

-- ---- the four tables, each from its first number on

abbrev pub control : Dictionary → ℕ → ℕ
control D i = D (0 + i)

abbrev pub datatype : Dictionary → ℕ → ℕ
datatype D i = D (32 + i)

abbrev pub subregister : Dictionary → ℕ → ℕ
subregister D i = D (64 + i)

abbrev pub source : Dictionary → ℕ → ℕ
source D i = D (96 + i)

-- ---- rule 2: a dictionary number is wider than its table

-- How many bits number i may have: 17, 18, 15, 12.
unfoldable pub table_width : ℕ → ℕ
table_width i = cond (ltb i 32) 17 (cond (ltb i 64) 18 (cond (ltb i 96) 15 12))

-- The first n numbers fit their tables.
unfoldable pub fit_below : Dictionary → ℕ → Bool
fit_below D zero = true
fit_below D (suc n) = fit_below D n && ltb (D n) (2 ^ table_width n)

-- All 128 do.
abbrev pub in_range : Dictionary → Bool
in_range D = fit_below D 128
