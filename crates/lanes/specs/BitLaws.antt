-- What whole-word operations do to a number's bits: and, or, complement, shifts, a field of ones, the count of ones. Assumes nothing.
use Rattle.std.specs.Prelude.{◌≡◌, refl, Bool, true, false, not, ◌&&◌, ◌||◌, ℕ, zero, suc, ◌+◌, ◌-◌, ◌*◌, ◌/◌, ◌%◌, ◌^◌, ◌<◌, min, max, ltb, eqb}
use Rattle.std.proofs.Common.{ap, ◌∙◌, sym, subst, arith, pow-suc, sub-add_cancel, mod-lt, zero-add, lit<, pow_pos, ltb-true, ltb-false, eq-eqb}
use Rattle.std.proofs.Math.Nat.{zero-div, mul-add-mod_self_right}
use Rattle.std.proofs.lemmas.Nat.{shl-shr, and_shr, or_shr, ones_cat}
use Rattle.std.proofs.Math.Pow.{ones_split, ones_lt, high}
use Rattle.std.specs.Int.Bits.{bit_and, bit_or, and_step, or_step, and_lt}
use Rattle.std.specs.Int.Count.{ones}
use Rattle.paper.specs.Bits.{bits, bit}
use Rattle.paper.specs.Enable.{digit, of_bits, how_many}
use Rattle.laws.specs.Bits.{bits_above, bits-low}
use Rattle.laws.specs.Masks.{bit_above, of_bits_less, bit-of_bits, of_bits-mod, of_bits-bit, same_bits}

-- ---- and, or

-- The lesser of two digits is 1 if both are.
both_ones : (x y : ℕ) → x < 2 → y < 2 → eqb (min x y % 2) 1 ≡ (eqb x 1 && eqb y 1)
both_ones zero zero h k = refl
both_ones zero (suc zero) h k = refl
both_ones (suc zero) zero h k = refl
both_ones (suc zero) (suc zero) h k = refl
both_ones zero (suc (suc y)) h k = absurd (omega arith)
both_ones (suc zero) (suc (suc y)) h k = absurd (omega arith)
both_ones (suc (suc x)) y h k = absurd (omega arith)

-- A bit of `a & b` is 1 if both bits are.
pub bit_and_lem : (a b k : ℕ) → bit (bit_and a b) k ≡ (bit a k && bit b k)
bit_and_lem a b k =
    rw (
      and_shr,
      and_step (a / 2 ^ k) (b / 2 ^ k),
      mul-add-mod_self_right (bit_and (a / 2 ^ k / 2) (b / 2 ^ k / 2)) 2 (min (a / 2 ^ k % 2) (b / 2 ^ k % 2)),
    )
    (both_ones (a / 2 ^ k % 2) (b / 2 ^ k % 2) (mod-lt (a / 2 ^ k) (lit< tt)) (mod-lt (b / 2 ^ k) (lit< tt)))

-- The greater of two digits is 1 if either is.
either_one : (x y : ℕ) → x < 2 → y < 2 → eqb (max x y % 2) 1 ≡ (eqb x 1 || eqb y 1)
either_one zero zero h k = refl
either_one zero (suc zero) h k = refl
either_one (suc zero) zero h k = refl
either_one (suc zero) (suc zero) h k = refl
either_one zero (suc (suc y)) h k = absurd (omega arith)
either_one (suc zero) (suc (suc y)) h k = absurd (omega arith)
either_one (suc (suc x)) y h k = absurd (omega arith)

-- A bit of `a | b` is 1 if either bit is.
pub bit_or_lem : (a b k : ℕ) → bit (bit_or a b) k ≡ (bit a k || bit b k)
bit_or_lem a b k =
    rw (
      or_shr,
      or_step (a / 2 ^ k) (b / 2 ^ k),
      mul-add-mod_self_right (bit_or (a / 2 ^ k / 2) (b / 2 ^ k / 2)) 2 (max (a / 2 ^ k % 2) (b / 2 ^ k % 2)),
    )
    (either_one (a / 2 ^ k % 2) (b / 2 ^ k % 2) (mod-lt (a / 2 ^ k) (lit< tt)) (mod-lt (b / 2 ^ k) (lit< tt)))

-- The `&` of two numbers made of bits is made of the bits that both have.
pub and-of_bits : (f g : ℕ → Bool) (n : ℕ) → bit_and (of_bits f n) (of_bits g n) ≡ of_bits (λ k. f k && g k) n
and-of_bits f g n =
    same_bits (bit_and (of_bits f n) (of_bits g n)) (of_bits (λ k. f k && g k) n) n
    (and_lt n (of_bits f n) (of_bits g n) (of_bits_less f n) (of_bits_less g n))
    (of_bits_less (λ k. f k && g k) n)
    (λ k h. bit_and_lem (of_bits f n) (of_bits g n) k ∙ rw (bit-of_bits f n k h, bit-of_bits g n k h) (sym (bit-of_bits (λ k. f k && g k) n k h)))

-- ---- complement

not_step : (b : Bool) (p q t : ℕ) → p + q + 1 ≡ t → digit (not b) * t + p + (digit b * t + q) + 1 ≡ t * 2
not_step true p q t h = omega arith
not_step false p q t h = omega arith

-- The number of given bits and the number of the others add up to all ones.
not-of_bits : (f : ℕ → Bool) (n : ℕ) → of_bits (λ k. not (f k)) n + of_bits f n + 1 ≡ 2 ^ n
unfolding of_bits
not-of_bits f zero = refl
not-of_bits f (suc n) = rw pow-suc (not_step (f n) (of_bits (λ k. not (f k)) n) (of_bits f n) (2 ^ n) (not-of_bits f n))

-- n ones less a number's n lowest bits is made of the bits that it has not.
pub ones_less_mod : (m n : ℕ) → 2 ^ n - 1 - m % 2 ^ n ≡ of_bits (λ k. not (bit m k)) n
ones_less_mod m n = omega (arith, not-of_bits (bit m) n, of_bits-mod m n)

-- The same of a number of n bits.
pub ones_less : (m n : ℕ) → m < 2 ^ n → 2 ^ n - 1 - m ≡ of_bits (λ k. not (bit m k)) n
ones_less m n h = omega (arith, not-of_bits (bit m) n, of_bits-bit m n h)

-- So a bit of it is 1 where the number's is 0.
pub bit_not : (m n k : ℕ) → m < 2 ^ n → k < n → bit (2 ^ n - 1 - m) k ≡ not (bit m k)
bit_not m n k h hk = rw (ones_less m n h) (bit-of_bits (λ k. not (bit m k)) n k hk)

-- ---- shifts

-- A number shifted down by s has at bit k what it had at s + k.
pub bit_shr : (m s k : ℕ) → bit (m / 2 ^ s) k ≡ bit m (s + k)
bit_shr m s k = ap (λ (x : ℕ). eqb x 1) (bits_above s k 1 m)

-- A number shifted up by s has at bit s + k what it had at k,
pub bit_shl : (m s k : ℕ) → bit (m * 2 ^ s) (s + k) ≡ bit m k
bit_shl m s k = sym (bit_shr (m * 2 ^ s) s k) ∙ rw (shl-shr m s)

-- and 0 below s.
pub bit_shl_below : (m s k : ℕ) → k < s → bit (m * 2 ^ s) k ≡ false
bit_shl_below m s k h =
    let apart : k + 1 + (s - (k + 1)) ≡ s = omega arith in
    let low : bits (0 + m * 2 ^ s) k 1 ≡ bits 0 k 1 = rw apart at (bits-low k 1 (s - (k + 1)) 0 m) in
    let none : bits 0 k 1 ≡ 0 = rw (zero-div (2 ^ k)) in
    ap (λ (x : ℕ). eqb x 1) (rw (zero-add (m * 2 ^ s)) at low ∙ none)

-- ---- a field of ones

odd : (j : ℕ) → 0 < j → (2 ^ j - 1) % 2 ≡ 1
odd zero h = absurd (omega arith)
odd (suc j) h = rw pow-suc (omega (arith, pow_pos j))

-- Every bit of n ones is 1.
pub bit-ones : (n k : ℕ) → k < n → bit (2 ^ n - 1) k ≡ true
bit-ones n k h =
    subst (λ (m : ℕ). bit (2 ^ m - 1) k ≡ true) (sub-add_cancel {n = n} {m = k} (omega arith))
    (rw (ones_split (n - k) k, high (2 ^ (n - k) - 1) k (ones_lt k)) (eq-eqb _ _ (odd (n - k) (omega arith))))

ones_test : (n k : ℕ) (b : Bool) → ltb k n ≡ b → bit (2 ^ n - 1) k ≡ b
ones_test n k true h = bit-ones n k (ltb-true k n h)
ones_test n k false h = bit_above (2 ^ n - 1) n k (ones_lt n) (ltb-false k n h)

-- Bit s + k of n ones from bit s on is 1 for k below n.
pub field_above : (s n k : ℕ) → bit ((2 ^ n - 1) * 2 ^ s) (s + k) ≡ ltb k n
field_above s n k = bit_shl (2 ^ n - 1) s k ∙ ones_test n k (ltb k n) refl

-- ---- counting

ones-digit : (b : Bool) → ones (digit b) ≡ digit b
unfolding ones
ones-digit true = refl
ones-digit false = refl

ones-of_bits : (f : ℕ → Bool) (n : ℕ) → ones (of_bits f n) ≡ how_many f n
unfolding of_bits how_many ones
ones-of_bits f zero = refl
ones-of_bits f (suc n) = cc (ones_cat n (digit (f n)) (of_bits f n) (of_bits_less f n), ones-digit (f n), ones-of_bits f n)

-- A number's ones are its set bits, counted.
pub ones-bits : (m n : ℕ) → m < 2 ^ n → ones m ≡ how_many (bit m) n
ones-bits m n h = cc (of_bits-bit m n h, ones-of_bits (bit m) n)
