-- Laws of types and values: quotient and remainder belong together, a stored pattern fits its type and gives back the value that it means, a
-- clamped value lies in its type's range. Assumes nothing.
use Rattle.std.specs.Prelude.{◌≡◌, refl, Bool, true, false, not, cond, ◌&&◌, ◌||◌, ℕ, zero, suc, ◌+◌, ◌*◌, ◌-◌, ◌/◌, ◌%◌, ◌^◌, ◌<◌, ◌≤◌, T, eqb, ltb, leb, ℤ, pos, negsuc, neg_ℤ, ◌+ℤ◌, ◌*ℤ◌, ◌≤ℤ◌}
use Rattle.std.proofs.Common.{sym, ◌∙◌, ap, ap₂, subst, mod-lt, mod-eq_of_lt, one-mul, div-add-mod', arith, lit<, lit≤, le→leb, pow_pos, leb-true, eqb-true, lt-ltb, le-ltb, ne_eqb}
use Rattle.std.proofs.Math.IntN.{sub_ℕ}
use Rattle.std.specs.Int.Signed.{lt_z, le_z_yes, lt_z_no, ≤ℤ_refl}
use Rattle.paper.specs.Value.{type_f, width, size_of, IsType, is_signed, value, least, greatest, mod_z, floor_z, clamp_to, stored}
use Rattle.paper.specs.Operation.{Plain}
use Rattle.paper.specs.Legal.{register_type}
use Rattle.paper.specs.Element.{Element, result_of, made}
use Rattle.laws.specs.Differences.{neg_of, is_neg, is_pos, sub-add, sub-mod}

-- ---- types

-- What holds of four bytes and 32 bits, of two and 16, of one and 8, and of none, holds of every code.
pub by_code : (P : ℕ → ℕ → Type 0) → P 4 32 → P 2 16 → P 1 8 → P 0 0 → (t : ℕ) → P (size_of t) (width t)
by_code P dword word byte none t = pick (ltb t 2) (ltb t 4) (ltb t 6) (eqb t type_f)
  where
    pick : (p q r s : Bool) → P (cond p 4 (cond q 2 (cond r 1 (cond s 4 0)))) (8 * cond p 4 (cond q 2 (cond r 1 (cond s 4 0))))
    pick true q r s = dword
    pick false true r s = word
    pick false false true s = byte
    pick false false false true = dword
    pick false false false false = none

-- What holds of four, of two and of one holds of every type.
pub by_type : (P : ℕ → ℕ → Type 0) → P 4 32 → P 2 16 → P 1 8 → (t : ℕ) → IsType t → P (size_of t) (width t)
by_type P dword word byte = by_code (λ size bits. 0 < size → P size bits) (λ h. dword) (λ h. word) (λ h. byte) (λ h. absurd (omega arith))

-- Codes 0 to 5 are types.
pub listed_type : (t : ℕ) → t ≤ 5 → IsType t
listed_type t h = rw (lt-ltb t 6 (omega arith)) (pick (ltb t 2) (ltb t 4))
  where
    pick : (p q : Bool) → 0 < cond p 4 (cond q 2 1)
    pick true q = lit< tt
    pick false true = lit< tt
    pick false false = lit< tt

-- Those are the types of whole numbers.
abbrev pub IsWhole : ℕ → Type 0
IsWhole t = t < 6

pub whole_type : (t : ℕ) → IsWhole t → IsType t
whole_type t h = listed_type t (omega arith)

-- A type from 4 on that is no float has one byte.
pub byte_type : (t : ℕ) → 4 ≤ t → t < type_f → IsType t → size_of t ≡ 1
byte_type t h g is = rw (le-ltb t 2 (omega arith), le-ltb t 4 h) (pick (ltb t 6) refl (rw (le-ltb t 2 (omega arith), le-ltb t 4 h) at is))
  where
    no_float : eqb t type_f ≡ false
    no_float = ne_eqb t type_f (λ e. omega arith)

    pick : (r : Bool) → ltb t 6 ≡ r → 0 < cond r 1 (cond (eqb t type_f) 4 0) → ◌≡◌ {A = ℕ} (cond r 1 (cond (eqb t type_f) 4 0)) 1
    pick true e h = refl
    pick false e h = let none : 0 < cond (eqb t type_f) 4 0 = h in let z : 0 < 0 = rw no_float at none in absurd (omega arith)

-- Every code listed for registers is a type's.
pub register_type_lem : (t : ℕ) → register_type t ≡ true → IsType t
register_type_lem t h = go (leb t 5) refl h
  where
    go : (r : Bool) → leb t 5 ≡ r → (r || eqb t type_f) ≡ true → IsType t
    go true e q = listed_type t (leb-true t 5 e)
    go false e q = rw (eqb-true t type_f q) (lit< tt)

-- A type has four bytes at most.
pub size_most : (t : ℕ) → size_of t ≤ 4
size_most = by_code (λ size bits. size ≤ 4) (lit≤ tt) (lit≤ tt) (lit≤ tt) (lit≤ tt)

-- So many bytes hold so many patterns as the bits do.
pub size_patterns : (t : ℕ) → 256 ^ size_of t ≡ 2 ^ width t
size_patterns = by_code (λ size bits. 256 ^ size ≡ 2 ^ bits) refl refl refl refl

-- ---- quotient and remainder

-- A remainder is less than its divisor.
pub mod_less : (v : ℤ) (m : ℕ) → 0 < m → mod_z v m < m
unfolding mod_z
mod_less (pos a) m h = mod-lt a h
mod_less (negsuc a) m h = omega arith

-- v is its quotient times m and its remainder. With `mod_less` this says what the two are.
pub floor_mod : (v : ℤ) (m : ℕ) → 0 < m → floor_z v m *ℤ pos m +ℤ pos (mod_z v m) ≡ v
unfolding floor_z mod_z
floor_mod (pos a) m h = ap pos (div-add-mod' a m)
floor_mod (negsuc a) m h =
    ap₂ (λ (x y : ℤ). x +ℤ y) (neg_of (suc (a / m) * m) 0 (suc (a / m) * m) (omega arith))
    (sym (is_pos (m - 1 - a % m) 0 (m - 1 - a % m) (omega arith)))
    ∙ sub-add 0 (suc (a / m) * m) (m - 1 - a % m) 0
    ∙ is_neg (0 + (m - 1 - a % m)) (suc (a / m) * m + 0) a (omega (arith, div-add-mod' a m, mod-lt a h))

-- ---- what is stored

-- A stored pattern has its type's bits.
pub stored_fits : (s : Bool) (t : ℕ) (v : ℤ) → stored s t v < 2 ^ width t
unfolding stored
stored_fits s t v = mod_less (cond s (clamp_to t v) v) (2 ^ width t) (pow_pos (width t))

-- So has what an operation stores.
pub made_fits : (p : Plain) (c : ℕ) (holds saturated : Bool) (t : ℕ) (a b : Element) → made p c holds saturated t a b < 2 ^ width t
unfolding made
made_fits p c holds saturated t a b = stored_fits saturated t (result_of p c holds a b)

-- A pattern's value is stored as that pattern: patterns and values are one to one, at every type.
pub stored-value : (t n : ℕ) → n < 2 ^ width t → stored false t (value t n) ≡ n
unfolding stored value mod_z
stored-value t n h = go (is_signed t && leb (2 ^ (width t - 1)) n)
  where
    go : (s : Bool) → mod_z (cond s (sub_ℕ n (2 ^ width t)) (pos n)) (2 ^ width t) ≡ n
    go true =
        ap (λ (m : ℕ). mod_z (sub_ℕ n m) (2 ^ width t)) (sym (one-mul (2 ^ width t)))
        ∙ sub-mod n 1 (2 ^ width t) (pow_pos (width t)) ∙ mod-eq_of_lt h
    go false = mod-eq_of_lt h

-- ---- floats: a pattern is read and stored as an unsigned dword (code 0) is

pub float_size : size_of type_f ≡ size_of 0
float_size = refl

pub float_value : (n : ℕ) → value type_f n ≡ value 0 n
unfolding value
float_value n = refl

pub float_stored : (s : Bool) (v : ℤ) → stored s type_f v ≡ stored s 0 v
unfolding stored clamp_to least greatest
float_stored s v = refl

-- ---- clamping

-- What is not above 0 is at most any natural number.
below_zero : (n m : ℕ) → neg_ℤ (pos n) ≤ℤ pos m
below_zero zero m = le_z_yes (le→leb 0 m (omega arith))
below_zero (suc n) m = le_z_yes tt

-- A type's range is not empty.
pub range_whole : (t : ℕ) → least t ≤ℤ greatest t
unfolding least greatest
range_whole t = pick (is_signed t)
  where
    pick : (s : Bool) → cond s (neg_ℤ (pos (2 ^ (width t - 1)))) (pos 0) ≤ℤ cond s (pos (2 ^ (width t - 1) - 1)) (pos (2 ^ width t - 1))
    pick true = below_zero (2 ^ (width t - 1)) (2 ^ (width t - 1) - 1)
    pick false = below_zero 0 (2 ^ width t - 1)

-- What is not less than b is at least b.
not_below : (a b : ℤ) → lt_z a b ≡ false → b ≤ℤ a
not_below a b e = lt_z_no (subst (λ (s : Bool). T (not s)) (sym e) tt)

-- A clamped value is no less than the least of its type.
pub clamp_least : (t : ℕ) (v : ℤ) → least t ≤ℤ clamp_to t v
unfolding clamp_to
clamp_least t v = pick (lt_z v (least t)) (lt_z (greatest t) v) refl
  where
    pick : (p q : Bool) → lt_z v (least t) ≡ p → least t ≤ℤ cond p (least t) (cond q (greatest t) v)
    pick true q e = ≤ℤ_refl (least t)
    pick false true e = range_whole t
    pick false false e = not_below v (least t) e

-- And no greater than the greatest.
pub clamp_greatest : (t : ℕ) (v : ℤ) → clamp_to t v ≤ℤ greatest t
unfolding clamp_to
clamp_greatest t v = pick (lt_z v (least t)) (lt_z (greatest t) v) refl
  where
    pick : (p q : Bool) → lt_z (greatest t) v ≡ q → cond p (least t) (cond q (greatest t) v) ≤ℤ greatest t
    pick true q e = range_whole t
    pick false true e = ≤ℤ_refl (greatest t)
    pick false false e = not_below (greatest t) v e

-- A value that lies in its type's range is not changed by clamping.
pub clamp_inside : (t : ℕ) (v : ℤ) → lt_z v (least t) ≡ false → lt_z (greatest t) v ≡ false → clamp_to t v ≡ v
unfolding clamp_to
clamp_inside t v p q = rw (p, q)
