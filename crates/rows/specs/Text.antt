-- What the text of a row means. Assumes nothing.
use Rattle.std.specs.Prelude.{ℕ, ◌+◌, ◌-◌, ◌*◌, cond, List, [], ◌∷◌, nat_le, nat_lt, Option, None, Some, unwrap_or}

-- The digit that a byte writes, 0 to 9 or a to f.
unfoldable pub digit_of : ℕ → Option ℕ
digit_of b = cond (nat_lt b 48) None (cond (nat_lt b 58) (Some (b - 48)) (cond (nat_lt b 97) None (cond (nat_lt b 103) (Some (b - 87)) None)))

-- A digit more of a number, which counts as 0 before its first digit; and how it goes on. None where that is no digit, or the number has more than 32 bits.
unfoldable pub digit_more : Option ℕ → Option ℕ → (ℕ → Option ℕ) → Option ℕ
digit_more number None rest = None
digit_more number (Some d) rest = cond (nat_le 268435456 (unwrap_or number 0)) None (rest (unwrap_or number 0 * 16 + d))

-- The number that a field writes after what is read of it, the highest digit first. A byte that is at most 32 ends the field.
unfoldable pub hex_from : Option ℕ → List ℕ → Option ℕ
hex_from number [] = number
hex_from number (b ∷ bs) = cond (nat_le b 32) number (digit_more number (digit_of b) (λ v. hex_from (Some v) bs))

-- The number that the field at the text's start writes; an empty field writes none.
abbrev pub number_of : List ℕ → Option ℕ
number_of text = hex_from None text
