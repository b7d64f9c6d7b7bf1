-- Loading and clamping, each once for all types: byte, word and dword enter by `width-half` and `width_most` alone. Assumes nothing.
use mathlib.Core.Path.{◌≡◌, refl, sym, ◌∙◌, ap, ap₂}
use mathlib.Core.Bool.{Bool, true, false, cond, ◌&&◌}
use Prim.Native.Nat.{ℕ, ◌+◌, ◌*◌, ◌-◌, ◌/◌, ◌%◌, ◌^◌, ◌<◌, ◌≤◌}
use native.Mathlib.Nat.{one-mul}
use native.Mathlib.Omega.{arith}
use lib.Dec.{ltb, leb}
use lib.IntN.{ℤ, pos, neg_ℤ, sub_ℕ}
use lib.Pow.{pow_mono, pow_pos}
use lib.Bits.{bit_xor, xor_zero_r, xor_comm, xor_shifted, xor_block}
use borrow.Author.Tests.{lt-ltb, eq-eqb, ne_eqb, leb-true, leb-false}
use Rattle.paper.specs.Value.{width, is_signed, value, least, greatest, clamp_to}
use Rattle.laws.specs.Values.{IsWhole, whole_type, by_type}
use Rattle.laws.specs.Differences.{is_pos, sub_eq, neg_of}
use Rattle.element.specs.Biased.{ex, Near, sign_bit}
use Rattle.element.specs.Operands.{width_most}
use Rattle.element.specs.Base.{ex-pos, ex_lt, ex-cond}

-- ---- the sign bit

-- Half the patterns of a type.
abbrev half : ℕ → ℕ
half t = 2 ^ (width t - 1)

half_most : (t : ℕ) → half t ≤ 2 ^ 31
half_most t = pow_mono {i = width t - 1} {j = 31} (omega (arith, width_most t))

pub sign_none : (t : ℕ) → (t % 2 ≡ 1 → ⊥) → 0 ≡ sign_bit t
unfolding sign_bit
sign_none t o = simp (ne_eqb (t % 2) 1 o) (pick (ltb t 6))
  where
    pick : (b : Bool) → 0 ≡ cond (b && false) (half t) 0
    pick true = refl
    pick false = refl

-- A sign bit is half the patterns at most.
pub sign_half : (t : ℕ) → sign_bit t ≤ half t
unfolding sign_bit
sign_half t = pick (is_signed t)
  where
    pick : (s : Bool) → cond s (half t) 0 ≤ half t
    pick true = omega arith
    pick false = omega arith

pub sign_most : (t : ℕ) → sign_bit t ≤ 2 ^ 31
sign_most t = omega (arith, sign_half t, half_most t)

module _ (t : ℕ) (is : IsWhole t) where
  width-half : 2 * half t ≡ 2 ^ width t
  width-half = by_type (λ size bits. 2 * 2 ^ (bits - 1) ≡ 2 ^ bits) refl refl refl t (whole_type t is)

  -- A signed type's sign bit, from the pattern with every bit set.
  pub sign_some : t % 2 ≡ 1 → (2 ^ width t - 1) / 2 + 1 ≡ sign_bit t
  unfolding sign_bit
  sign_some o =
      let signed : is_signed t ≡ true = rw (lt-ltb t 6 is) (eq-eqb (t % 2) 1 o) in
      let bit : cond (is_signed t) (half t) 0 ≡ half t = ap (λ (b : Bool). cond b (half t) 0) signed in
      omega (arith, width-half, pow_pos (width t - 1), bit)

  pub sign_ones : sign_bit t ≤ 2 ^ width t - 1
  sign_ones = omega (arith, sign_half t, width-half, pow_pos (width t - 1))

  pub ones_most : 2 ^ width t - 1 < 2 ^ 32
  ones_most = omega (arith, half_most t, width-half)

-- ---- the value of a pattern

-- Flipping bit k of a number of k + 1 bits.
flip_low : (k n : ℕ) → n < 2 ^ k → bit_xor n (2 ^ k) ≡ n + 2 ^ k
flip_low k n h =
    ap (bit_xor n) (sym (one-mul (2 ^ k))) ∙ xor_comm n (1 * 2 ^ k) ∙ xor_shifted 1 k n h ∙ omega arith

flip_high : (k n : ℕ) → 2 ^ k ≤ n → n < 2 * 2 ^ k → bit_xor n (2 ^ k) ≡ n - 2 ^ k
flip_high k n l u =
    ap₂ bit_xor a b ∙ xor_block k 1 1 (n - 2 ^ k) 0 (omega arith) (pow_pos k) ∙ ap (λ (m : ℕ). 0 * 2 ^ k + m) (xor_zero_r (n - 2 ^ k)) ∙ omega arith
  where
    a : n ≡ 1 * 2 ^ k + (n - 2 ^ k)
    a = omega arith

    b : 2 ^ k ≡ 1 * 2 ^ k + 0
    b = omega arith

-- What the code makes of a pattern n with sign bit s.
abbrev pub loaded : ℕ → ℕ → ℕ
loaded n s = bit_xor n s + (2 ^ 63 - s)

-- It stands for v, and is as near as m patterns allow.
record Loads (n s m : ℕ) (v : ℤ) : Type 0 where
  is : ex (loaded n s) ≡ v
  above : 2 ^ 63 < loaded n s + m
  below : loaded n s < 2 ^ 63 + m

loads_plain : (n m : ℕ) → n < m → Loads n 0 m (pos n)
loads_plain n m h =
    record {
      is = rw (xor_zero_r n) (ap ex (omega arith) ∙ ex-pos n);
      above = rw (xor_zero_r n) (omega arith);
      below = rw (xor_zero_r n) (omega arith);
    }

loads_low : (k n : ℕ) → 2 ^ k ≤ 2 ^ 31 → n < 2 ^ k → Loads n (2 ^ k) (2 * 2 ^ k) (pos n)
loads_low k n s h =
    record {
      is = rw (flip_low k n h) (ap ex (omega arith) ∙ ex-pos n);
      above = rw (flip_low k n h) (omega arith);
      below = rw (flip_low k n h) (omega arith);
    }

loads_high : (k n : ℕ) → 2 ^ k ≤ 2 ^ 31 → 2 ^ k ≤ n → n < 2 * 2 ^ k → Loads n (2 ^ k) (2 * 2 ^ k) (sub_ℕ n (2 * 2 ^ k))
unfolding ex
loads_high k n s l u =
    record {
      is = rw (flip_high k n l u) (sub_eq (n - 2 ^ k + (2 ^ 63 - 2 ^ k)) (2 ^ 63) n (2 * 2 ^ k) (omega arith));
      above = rw (flip_high k n l u) (omega arith);
      below = rw (flip_high k n l u) (omega arith);
    }

loads_signed : (k n : ℕ) → 2 ^ k ≤ 2 ^ 31 → n < 2 * 2 ^ k → Loads n (2 ^ k) (2 * 2 ^ k) (cond (leb (2 ^ k) n) (sub_ℕ n (2 * 2 ^ k)) (pos n))
loads_signed k n s u = pick (leb (2 ^ k) n) refl
  where
    pick : (b : Bool) → leb (2 ^ k) n ≡ b → Loads n (2 ^ k) (2 * 2 ^ k) (cond b (sub_ℕ n (2 * 2 ^ k)) (pos n))
    pick true e = loads_high k n s (leb-true (2 ^ k) n e) u
    pick false e = loads_low k n s (leb-false (2 ^ k) n e)

loads : (t n : ℕ) → IsWhole t → n < 2 ^ width t → Loads n (sign_bit t) (2 ^ width t) (value t n)
unfolding sign_bit value
loads t n is h = pick (is_signed t)
  where
    pick : (s : Bool) → Loads n (cond s (half t) 0) (2 ^ width t) (cond (s && leb (half t) n) (sub_ℕ n (2 ^ width t)) (pos n))
    pick true = rw (width-half t is) at (loads_signed (width t - 1) n (half_most t) (omega (arith, width-half t is)))
    pick false = loads_plain n (2 ^ width t) h

-- The value of a pattern.
pub ex_load : (t n : ℕ) → IsWhole t → n < 2 ^ width t → ex (loaded n (sign_bit t)) ≡ value t n
ex_load t n is h = (loads t n is h).is

pub load_near : (t n : ℕ) → IsWhole t → n < 2 ^ width t → Near (width t) (loaded n (sign_bit t))
load_near t n is h = record { above = (loads t n is h).above; below = (loads t n is h).below }

pub load_fits : (t n : ℕ) → IsWhole t → n < 2 ^ width t → loaded n (sign_bit t) < 2 ^ 64
load_fits t n is h = omega (arith, (loads t n is h).below, ones_most t is)

-- ---- clamping

-- The ends of a type's range.
ex-least : (t : ℕ) → least t ≡ ex (2 ^ 63 - sign_bit t)
unfolding ex least sign_bit
ex-least t = pick (is_signed t)
  where
    pick : (s : Bool) → cond s (neg_ℤ (pos (half t))) (pos 0) ≡ sub_ℕ (2 ^ 63 - cond s (half t) 0) (2 ^ 63)
    pick true = neg_of (half t) (2 ^ 63 - half t) (2 ^ 63) (omega (arith, half_most t))
    pick false = sym (is_pos (2 ^ 63 - 0) (2 ^ 63) 0 (omega arith))

ex-greatest : (t : ℕ) → IsWhole t → greatest t ≡ ex (2 ^ 63 + (2 ^ width t - 1 - sign_bit t))
unfolding greatest sign_bit
ex-greatest t is = pick (is_signed t)
  where
    pick : (s : Bool) → cond s (pos (half t - 1)) (pos (2 ^ width t - 1)) ≡ ex (2 ^ 63 + (2 ^ width t - 1 - cond s (half t) 0))
    pick true = ap pos (omega (arith, width-half t is)) ∙ sym (ex-pos (2 ^ width t - 1 - half t))
    pick false = ap pos (omega arith) ∙ sym (ex-pos (2 ^ width t - 1 - 0))

-- A number kept between two, as the code does it.
abbrev pub kept : ℕ → ℕ → ℕ → ℕ
kept v l u = cond (ltb v l) l (cond (ltb u v) u v)

ex-kept : (t v l u : ℕ) → least t ≡ ex l → greatest t ≡ ex u → ex (kept v l u) ≡ clamp_to t (ex v)
unfolding clamp_to
ex-kept t v l u p q =
    ex-cond (ltb v l) l (cond (ltb u v) u v) ∙ ap (cond (ltb v l) (ex l)) (ex-cond (ltb u v) u v)
    ∙ rw (p, q) (sym (ap₂ (λ (b c : Bool). cond b (ex l) (cond c (ex u) (ex v))) (ex_lt v l) (ex_lt u v)))

pub ex_clamp : (t v : ℕ) → IsWhole t → ex (kept v (2 ^ 63 - sign_bit t) (2 ^ 63 + (2 ^ width t - 1 - sign_bit t))) ≡ clamp_to t (ex v)
ex_clamp t v is =
    ex-kept t v (2 ^ 63 - sign_bit t) (2 ^ 63 + (2 ^ width t - 1 - sign_bit t)) (ex-least t) (ex-greatest t is)
