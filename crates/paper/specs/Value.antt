-- Types, and the whole numbers that elements hold (the paper, "Operations"). An element's pattern is the unsigned number that its bits write;
-- its value is a whole number: `pos n` is n, `negsuc n` is −(n + 1), `sub_ℕ a b` is a − b. Assumes nothing.
use Rattle.std.specs.Prelude.{Bool, cond, ◌&&◌, ℕ, ◌-◌, ◌*◌, ◌/◌, ◌%◌, ◌^◌, ◌<◌, leb, ltb, eqb, ℤ, pos, negsuc, neg_ℤ, nat_abs}
use Rattle.std.proofs.Math.IntN.{sub_ℕ}
use Rattle.std.specs.Int.Signed.{lt_z}

-- ---- types: ud 0, d 1, uw 2, w 3, ub 4, b 5, f 7

-- Single floats. The whole number that one stands for is its pattern.
abbrev pub type_f : ℕ
type_f = 7

-- Four restricted floats: the code of an immediate only, among registers it is b's.
abbrev pub type_vf : ℕ
type_vf = 5

-- A type's bytes: the element size. Code 6 is no type's, and has none.
abbrev pub size_of : ℕ → ℕ
size_of t = cond (ltb t 2) 4 (cond (ltb t 4) 2 (cond (ltb t 6) 1 (cond (eqb t type_f) 4 0)))

-- Its bits.
abbrev pub width : ℕ → ℕ
width t = 8 * size_of t

-- The code is a type's.
abbrev pub IsType : ℕ → Type 0
IsType t = 0 < size_of t

-- It has negative whole numbers. A pattern is none: a float's sign is a bit of it.
abbrev pub is_signed : ℕ → Bool
is_signed t = ltb t 6 && eqb (t % 2) 1

-- The whole number that pattern n of type t means.
unfoldable pub value : ℕ → ℕ → ℤ
value t n = cond (is_signed t && leb (2 ^ (width t - 1)) n) (sub_ℕ n (2 ^ width t)) (pos n)

-- The least and the greatest value of a type.
unfoldable pub least : ℕ → ℤ
least t = cond (is_signed t) (neg_ℤ (pos (2 ^ (width t - 1)))) (pos 0)

unfoldable pub greatest : ℕ → ℤ
greatest t = cond (is_signed t) (pos (2 ^ (width t - 1) - 1)) (pos (2 ^ width t - 1))

-- ---- whole numbers

-- v modulo m, from 0 to m − 1.
unfoldable pub mod_z : ℤ → ℕ → ℕ
mod_z (pos a) m = a % m
mod_z (negsuc a) m = m - 1 - a % m

-- v divided by m, rounded down.
unfoldable pub floor_z : ℤ → ℕ → ℤ
floor_z (pos a) m = pos (a / m)
floor_z (negsuc a) m = negsuc (a / m)

-- ---- source modifiers: 1 absolute, 2 negated, 3 negated absolute

unfoldable pub modified : ℕ → ℤ → ℤ
modified m v =
    cond (eqb m 1) (pos (nat_abs v))
    (cond (eqb m 2) (neg_ℤ v)
    (cond (eqb m 3) (neg_ℤ (pos (nat_abs v)))
    v))

-- ---- what is stored: clamped to the destination type if Saturate is set, else modulo its width

unfoldable pub clamp_to : ℕ → ℤ → ℤ
clamp_to t v = cond (lt_z v (least t)) (least t) (cond (lt_z (greatest t) v) (greatest t) v)

unfoldable pub stored : Bool → ℕ → ℤ → ℕ
stored saturated t v = mod_z (cond saturated (clamp_to t v) v) (2 ^ width t)
