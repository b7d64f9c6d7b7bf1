-- Sets of indices, by which the first index of a number is found without going through its table. A number has three digits of six bits; for each digit
-- and each value of it stands the set of the indices whose numbers have that value there. Assumes nothing.
use Rattle.std.specs.Prelude.{Bool, cond, List, [], Option, Some, None, ◌≡◌, ℕ, ◌+◌, ◌*◌, ◌/◌, ◌%◌, ◌^◌, ◌<◌, eqb, ltb, get_or, set}
use Rattle.std.specs.Option.{IfSome}
use Rattle.std.specs.Int.Bits.{bit_and, bit_or}
use Rattle.std.specs.Int.Count.{count_trailing_zeros}
use Rattle.paper.specs.Bits.{bits}
use Rattle.paper.specs.Enable.{of_bits}
use Rattle.paper.specs.Dictionary.{Dictionary}

-- Number i of the table from number `base` on, of `width` bits.
abbrev pub entry : Dictionary → ℕ → ℕ → ℕ → ℕ
entry D base width i = D (base + i) % 2 ^ width

-- Digit j of number i of that table is v.
abbrev pub has_digit : Dictionary → ℕ → ℕ → ℕ → ℕ → ℕ → Bool
has_digit D base width j v i = eqb (bits (entry D base width i) (6 * j) 6) v

-- The sets are those of the table's first n numbers: of digit j and value v stands at 64 j + v the number whose bit i is 1 where number i has that digit.
abbrev pub Gathered : Dictionary → ℕ → ℕ → List ℕ → ℕ → Type 0
Gathered D base width sets n = (j v : ℕ) → j < 3 → v < 64 → get_or sets (64 * j + v) 0 ≡ of_bits (has_digit D base width j v) n

-- Those of one look-up, all 32 numbers.
abbrev pub Looks : Dictionary → ℕ → ℕ → ℕ → List (List ℕ) → Type 0
Looks D base width table sets = Gathered D base width (get_or sets table []) 32

-- The sets of the five look-ups: of each table, and of the subregister table by its low ten bits, which immediate form asks for.
pub record Sets (D : Dictionary) (sets : List (List ℕ)) : Type 0 where
  pub of-control : Looks D 0 17 0 sets
  pub of-datatype : Looks D 32 18 1 sets
  pub of-subregister : Looks D 64 15 2 sets
  pub of-low-ten : Looks D 64 10 3 sets
  pub of-source : Looks D 96 12 4 sets

-- Where sets are lent at all, those of one table are there.
abbrev pub Finds : Dictionary → ℕ → ℕ → ℕ → Option (List (List ℕ)) → Type 0
Finds D base width table sets = IfSome sets (Looks D base width table)

-- Where sets are lent at all, they are the dictionary's.
abbrev pub Serves : Dictionary → Option (List (List ℕ)) → Type 0
Serves D sets = IfSome sets (Sets D)

-- ---- as the code goes

-- The indices of `one` join set k.
unfoldable pub mark : List ℕ → ℕ → ℕ → List ℕ
mark sets k one = set sets k (bit_or (get_or sets k 0) one)

-- They join the three sets of number n.
unfoldable pub joined : List ℕ → ℕ → ℕ → List ℕ
joined sets n one = mark (mark (mark sets (n % 64) one) (64 + n / 64 % 64) one) (128 + n / 4096 % 64) one

-- The first index that the key's three sets have in common, or 32.
unfoldable pub first_common : List ℕ → ℕ → ℕ
first_common sets key =
    count_trailing_zeros 32 (bit_and (bit_and (get_or sets (key % 64) 0) (get_or sets (64 + key / 64 % 64) 0)) (get_or sets (128 + key / 4096 % 64) 0))

-- An index as the code answers it: none where it is 32.
unfoldable pub found : ℕ → Option ℕ
found i = cond (ltb i 32) (Some i) None
