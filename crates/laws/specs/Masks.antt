-- Numbers and their bits: what the number made of given bits is, and that a number is its bits. Assumes nothing.
use Rattle.std.specs.Prelude.{◌≡◌, refl, Bool, true, false, ℕ, zero, suc, ◌+◌, ◌-◌, ◌*◌, ◌/◌, ◌%◌, ◌^◌, ◌≤◌, ◌<◌, eqb}
use Rattle.std.proofs.Common.{ap, ◌∙◌, sym, subst, ⊎_elim, arith, mul_assoc, sub-add_cancel, mod-lt, mod-eq_of_lt, eq-or-lt_of_le, le_of_suc-le-suc, one-add, lit<, pow_mono, pow_pos, pow-add}
use Rattle.std.proofs.Math.Path.{subst⁻¹}
use Rattle.std.proofs.Math.Nat.{div-eq_of_lt, mul-add-div_right, mul-add-mod_self_right, pow-succ', mod-one}
use Rattle.std.proofs.Math.Arith.{digits_lt}
use Rattle.std.proofs.Math.Pow.{high}
use Rattle.std.proofs.lemmas.Nat.{mod-pow-add}
use Rattle.paper.specs.Bits.{bits, bit}
use Rattle.paper.specs.Enable.{digit, of_bits}

-- ---- one bit

-- A number below 2 is the digit of its test for 1.
digit_of : (x : ℕ) → x < 2 → digit (eqb x 1) ≡ x
digit_of zero h = refl
digit_of (suc zero) h = refl
digit_of (suc (suc x)) h = absurd (omega arith)

-- A number's bit as a digit is its field of one bit.
pub digit-bit : (m k : ℕ) → digit (bit m k) ≡ bits m k 1
digit-bit m k = digit_of (m / 2 ^ k % 2) (mod-lt (m / 2 ^ k) (lit< tt))

-- A digit is 0 or 1.
pub digit_less : (b : Bool) → digit b < 2
digit_less true = lit< tt
digit_less false = lit< tt

-- A digit is 1 where its Boolean is true.
bit-digit : (b : Bool) → eqb (digit b) 1 ≡ b
bit-digit true = refl
bit-digit false = refl

-- A number below 2^k has no bit at k or above.
pub bit_above : (m n k : ℕ) → m < 2 ^ n → n ≤ k → bit m k ≡ false
bit_above m n k h l =
    let less : m < 2 ^ k = omega (arith, pow_mono {i = n} {j = k} l) in
    rw (div-eq_of_lt less)

-- ---- the number of given bits

-- It has no bit but those.
pub of_bits_less : (f : ℕ → Bool) (n : ℕ) → of_bits f n < 2 ^ n
unfolding of_bits
of_bits_less f zero = lit< tt
of_bits_less f (suc n) = rw (pow-succ' 2 n) (digits_lt {q = digit (f n)} {m = 2} (digit_less (f n)) (of_bits_less f n))

-- A power of two taken apart around one bit.
block : (a j k : ℕ) → a * 2 ^ (j + suc k) ≡ a * 2 ^ j * 2 * 2 ^ k
block a j k = simp (pow-add, pow-succ', mul_assoc)

-- What stands from bit n on does not matter to the bits below n.
low_bit : (a n r k : ℕ) → k < n → (a * 2 ^ n + r) / 2 ^ k % 2 ≡ r / 2 ^ k % 2
low_bit a n r k h =
    subst (λ (m : ℕ). (a * 2 ^ m + r) / 2 ^ k % 2 ≡ r / 2 ^ k % 2) (sub-add_cancel h)
    (rw (
      block a (n - suc k) k,
      mul-add-div_right (pow_pos k) (a * 2 ^ (n - suc k) * 2) r,
      mul-add-mod_self_right (a * 2 ^ (n - suc k)) 2 (r / 2 ^ k),
    ))

-- The digit that stands above n bits is bit n.
top_bit : (n : ℕ) (b : Bool) (r : ℕ) → r < 2 ^ n → bit (digit b * 2 ^ n + r) n ≡ b
top_bit n b r h = rw (high (digit b) n h, mod-eq_of_lt (digit_less b)) (bit-digit b)

-- Its bit k, below n, is the one given.
pub bit-of_bits : (f : ℕ → Bool) (n k : ℕ) → k < n → bit (of_bits f n) k ≡ f k
unfolding of_bits
bit-of_bits f zero k h = absurd (omega arith)
bit-of_bits f (suc n) k h =
    ⊎_elim
    (λ e. subst⁻¹ (λ (m : ℕ). bit (digit (f n) * 2 ^ n + of_bits f n) m ≡ f m) e (top_bit n (f n) (of_bits f n) (of_bits_less f n)))
    (λ l. ap (λ (x : ℕ). eqb x 1) (low_bit (digit (f n)) n (of_bits f n) k l) ∙ bit-of_bits f n k l)
    (eq-or-lt_of_le (le_of_suc-le-suc h))

-- Its bits from n on are 0.
pub bit-of_bits_above : (f : ℕ → Bool) (n k : ℕ) → n ≤ k → bit (of_bits f n) k ≡ false
bit-of_bits_above f n k l = bit_above (of_bits f n) n k (of_bits_less f n) l

-- Bits that agree below n make the same number.
pub of_bits_same : (f g : ℕ → Bool) (n : ℕ) → ((k : ℕ) → k < n → f k ≡ g k) → of_bits f n ≡ of_bits g n
unfolding of_bits
of_bits_same f g zero h = refl
of_bits_same f g (suc n) h = cc (h n (omega arith), of_bits_same f g n (λ k q. h k (omega arith)))

-- ---- a number is its bits

-- A number's n lowest bits make it again, modulo 2^n.
pub of_bits-mod : (m n : ℕ) → of_bits (bit m) n ≡ m % 2 ^ n
unfolding of_bits
of_bits-mod m zero = sym (mod-one m)
of_bits-mod m (suc n) = rw (digit-bit m n, of_bits-mod m n) (sym (mod-pow-add m 1 n) ∙ ap (λ (k : ℕ). m % 2 ^ k) (one-add n))

-- A number below 2^n is made of its own bits.
pub of_bits-bit : (m n : ℕ) → m < 2 ^ n → of_bits (bit m) n ≡ m
of_bits-bit m n h = of_bits-mod m n ∙ mod-eq_of_lt h

-- Two numbers below 2^n with the same bits are equal.
pub same_bits : (a b n : ℕ) → a < 2 ^ n → b < 2 ^ n → ((k : ℕ) → k < n → bit a k ≡ bit b k) → a ≡ b
same_bits a b n ha hb h = sym (of_bits-bit a n ha) ∙ of_bits_same (bit a) (bit b) n h ∙ of_bits-bit b n hb
