-- Laws of fields of bits: how wide they are, and how those of a number in two parts are those of its parts. Assumes nothing.
use Rattle.std.specs.Prelude.{◌≡◌, ℕ, ◌+◌, ◌*◌, ◌/◌, ◌%◌, ◌^◌, ◌<◌}
use Rattle.std.proofs.Common.{sym, ap, ◌∙◌, add_comm, mul_comm, mul_assoc, mod-lt, mod-eq_of_lt, div-one, pow_pos, pow-add, shr-shr}
use Rattle.std.proofs.Math.Nat.{add-mul-div_right, add-mul-mod_self_right}
use Rattle.std.proofs.Math.Arith.{digits_lt}
use Rattle.std.proofs.lemmas.Nat.{mod-pow-add}
use Rattle.std.proofs.Math.Pow.{high, low, split}
use Rattle.paper.specs.Bits.{bits}

-- A field of n bits is below 2 ^ n.
pub bits_lt : (w k n : ℕ) → bits w k n < 2 ^ n
bits_lt w k n = mod-lt _ (pow_pos n)

-- The field from bit 0 is the remainder.
pub bits-mod : (w n : ℕ) → bits w 0 n ≡ w % 2 ^ n
bits-mod w n = ap (λ (x : ℕ). x % 2 ^ n) (div-one w)

-- A number of n bits is its own field of n bits.
pub bits_all : (n w : ℕ) → w < 2 ^ n → bits w 0 n ≡ w
bits_all n w h = bits-mod w n ∙ mod-eq_of_lt h

-- A field is its low n bits and the field above them.
pub bits-split : (w k n m : ℕ) → bits w k (n + m) ≡ bits w k n + bits w (k + n) m * 2 ^ n
bits-split w k n m =
    ap (λ (j : ℕ). w / 2 ^ k % 2 ^ j) (add_comm n m) ∙ mod-pow-add (w / 2 ^ k) m n
    ∙ ap (λ (x : ℕ). x % 2 ^ m * 2 ^ n + bits w k n) (shr-shr w k n) ∙ add_comm _ _

-- ---- a number in two parts, a below bit n and x from it on

-- The part above is the quotient.
pub top_of : (n x : ℕ) {a : ℕ} → a < 2 ^ n → (a + x * 2 ^ n) / 2 ^ n ≡ x
top_of n x {a} h = ap (λ (y : ℕ). y / 2 ^ n) (add_comm a (x * 2 ^ n)) ∙ high x n h

-- The part below is the remainder.
pub low_of_lem : (n x : ℕ) {a : ℕ} → a < 2 ^ n → (a + x * 2 ^ n) % 2 ^ n ≡ a
low_of_lem n x {a} h = ap (λ (y : ℕ). y % 2 ^ n) (add_comm a (x * 2 ^ n)) ∙ low x n h

-- Equal numbers have equal parts below.
pub same_low : (n x y : ℕ) {a b : ℕ} → a < 2 ^ n → b < 2 ^ n → a + x * 2 ^ n ≡ b + y * 2 ^ n → a ≡ b
same_low n x y ha hb e = sym (low_of_lem n x ha) ∙ ap (λ (z : ℕ). z % 2 ^ n) e ∙ low_of_lem n y hb

-- Equal numbers have equal parts above.
pub same_top : (n x y : ℕ) {a b : ℕ} → a < 2 ^ n → b < 2 ^ n → a + x * 2 ^ n ≡ b + y * 2 ^ n → x ≡ y
same_top n x y ha hb e = sym (top_of n x ha) ∙ ap (λ (z : ℕ). z / 2 ^ n) e ∙ top_of n y hb

-- A field above the seam p is one of the part above.
pub bits-high : (p k n hi : ℕ) {lo : ℕ} → lo < 2 ^ p → bits (lo + hi * 2 ^ p) (p + k) n ≡ bits hi k n
bits-high p k n hi {lo} h =
    ap (λ (x : ℕ). x % 2 ^ n) (sym (shr-shr (lo + hi * 2 ^ p) p k) ∙ ap (λ (x : ℕ). x / 2 ^ k) (top_of p hi h))

-- A field below the seam k + n + q is one of the part below.
pub bits-low : (k n q lo hi : ℕ) → bits (lo + hi * 2 ^ (k + n + q)) k n ≡ bits lo k n
bits-low k n q lo hi =
    ap (λ (x : ℕ). bits (lo + hi * x) k n) (pow-add 2 (k + n) q ∙ ap (λ (x : ℕ). x * 2 ^ q) (pow-add 2 k n))
    ∙ ap (λ (x : ℕ). (lo + x) / 2 ^ k % 2 ^ n) regroup
    ∙ ap (λ (x : ℕ). x % 2 ^ n) (add-mul-div_right lo (hi * 2 ^ q * 2 ^ n) (pow_pos k))
    ∙ add-mul-mod_self_right (lo / 2 ^ k) (hi * 2 ^ q) (2 ^ n)
  where
    regroup : hi * (2 ^ k * 2 ^ n * 2 ^ q) ≡ hi * 2 ^ q * 2 ^ n * 2 ^ k
    regroup =
        ap (λ (x : ℕ). hi * x) (mul_comm (2 ^ k * 2 ^ n) (2 ^ q) ∙ ap (λ (x : ℕ). 2 ^ q * x) (mul_comm (2 ^ k) (2 ^ n)))
        ∙ sym (mul_assoc hi (2 ^ q) (2 ^ n * 2 ^ k)) ∙ sym (mul_assoc (hi * 2 ^ q) (2 ^ n) (2 ^ k))

-- ---- a word and its parts

-- A number is its remainder and its quotient, put together at bit n.
pub parts : (n w : ℕ) → w ≡ w % 2 ^ n + w / 2 ^ n * 2 ^ n
parts n w = sym (add_comm (w % 2 ^ n) (w / 2 ^ n * 2 ^ n) ∙ split w n)

-- A long word is its two halves.
pub halves : (w : ℕ) → w ≡ w % 2 ^ 64 + w / 2 ^ 64 * 2 ^ 64
halves w = parts 64 w

-- A field below the seam k + n + q is one of the remainder there.
pub bits_below : (k n q w : ℕ) → bits (w % 2 ^ (k + n + q)) k n ≡ bits w k n
bits_below k n q w =
    sym (bits-low k n q (w % 2 ^ (k + n + q)) (w / 2 ^ (k + n + q))) ∙ ap (λ (x : ℕ). bits x k n) (sym (parts (k + n + q) w))

-- A field above the seam p is one of the quotient there.
pub bits_above : (p k n w : ℕ) → bits (w / 2 ^ p) k n ≡ bits w (p + k) n
bits_above p k n w = ap (λ (x : ℕ). x % 2 ^ n) (shr-shr w p k)

-- A field of a field is a field of the whole.
pub bits_inner : (w k j m q : ℕ) → bits (bits w k (j + m + q)) j m ≡ bits w (k + j) m
bits_inner w k j m q = bits_below j m q (w / 2 ^ k) ∙ bits_above k j m w

-- Two halves of 64 bits are a word of 128.
pub whole_lt : (lo hi : ℕ) → lo < 2 ^ 64 → hi < 2 ^ 64 → lo + hi * 2 ^ 64 < 2 ^ 128
whole_lt lo hi hl hh = rw (add_comm lo (hi * 2 ^ 64)) (digits_lt {m = 2 ^ 64} hh hl)
