-- Masks of channels taken together, as numbers of 16 bits. Assumes nothing.
use Rattle.std.specs.Prelude.{◌≡◌, not, ◌&&◌, ◌||◌, false, ℕ, ◌-◌, ◌*◌, ◌%◌, ◌^◌, ◌<◌}
use Rattle.std.proofs.Common.{◌∙◌, sym, arith, lit<, one-mul, shl_exact}
use Rattle.std.specs.Int.Bits.{bit_and, bit_or}
use Rattle.std.proofs.lemmas.Nat.{and_le_l, or_lt}
use Rattle.paper.specs.Bits.{bit}
use Rattle.paper.specs.Enable.{of_bits}
use Rattle.laws.specs.Masks.{bit_above, of_bits_less, bit-of_bits, same_bits}
use Rattle.lanes.specs.BitLaws.{bit_and_lem, bit_or_lem, bit_not}

-- The channels that both masks have,
unfoldable pub both_mask : ℕ → ℕ → ℕ
both_mask a b = of_bits (λ k. bit a k && bit b k) 16

-- that either has,
unfoldable pub either_mask : ℕ → ℕ → ℕ
either_mask a b = of_bits (λ k. bit a k || bit b k) 16

-- that the first has and the second has not.
unfoldable pub without_mask : ℕ → ℕ → ℕ
without_mask a b = of_bits (λ k. bit a k && not (bit b k)) 16

-- No bit of 0 is 1.
pub bit_zero : (k : ℕ) → bit 0 k ≡ false
bit_zero k = bit_above 0 0 k (lit< tt) (omega arith)

-- ---- their bits

pub bit_both : (a b k : ℕ) → k < 16 → bit (both_mask a b) k ≡ (bit a k && bit b k)
unfolding both_mask
bit_both a b k h = bit-of_bits (λ k. bit a k && bit b k) 16 k h

pub bit_either : (a b k : ℕ) → k < 16 → bit (either_mask a b) k ≡ (bit a k || bit b k)
unfolding either_mask
bit_either a b k h = bit-of_bits (λ k. bit a k || bit b k) 16 k h

pub bit_without : (a b k : ℕ) → k < 16 → bit (without_mask a b) k ≡ (bit a k && not (bit b k))
unfolding without_mask
bit_without a b k h = bit-of_bits (λ k. bit a k && not (bit b k)) 16 k h

-- ---- whole words make them

pub and_both : (a b : ℕ) → a < 2 ^ 16 → bit_and a b ≡ both_mask a b
unfolding both_mask
and_both a b h =
    same_bits (bit_and a b) (of_bits (λ k. bit a k && bit b k) 16) 16 (omega (arith, and_le_l a b)) (of_bits_less (λ k. bit a k && bit b k) 16)
    (λ k q. bit_and_lem a b k ∙ sym (bit-of_bits (λ k. bit a k && bit b k) 16 k q))

pub or_either : (a b : ℕ) → a < 2 ^ 16 → b < 2 ^ 16 → bit_or a b ≡ either_mask a b
unfolding either_mask
or_either a b h g =
    same_bits (bit_or a b) (of_bits (λ k. bit a k || bit b k) 16) 16 (or_lt 16 a b h g) (of_bits_less (λ k. bit a k || bit b k) 16)
    (λ k q. bit_or_lem a b k ∙ sym (bit-of_bits (λ k. bit a k || bit b k) 16 k q))

pub and_without : (a b : ℕ) → a < 2 ^ 16 → b < 2 ^ 16 → bit_and a (2 ^ 16 - 1 - b) ≡ without_mask a b
unfolding without_mask
and_without a b h g =
    same_bits (bit_and a (2 ^ 16 - 1 - b)) (of_bits (λ k. bit a k && not (bit b k)) 16) 16
    (omega (arith, and_le_l a (2 ^ 16 - 1 - b)))
    (of_bits_less (λ k. bit a k && not (bit b k)) 16)
    (λ k q. bit_and_lem a (2 ^ 16 - 1 - b) k ∙ rw (bit_not b 16 k g q) (sym (bit-of_bits (λ k. bit a k && not (bit b k)) 16 k q)))

-- The mask of channel n alone has bit n.
pub one_channel : (n : ℕ) → n < 16 → 1 * 2 ^ n % 2 ^ 16 ≡ 2 ^ n
one_channel n h = shl_exact {a = 1} 1 n 16 (omega arith) (omega arith) ∙ one-mul (2 ^ n)

-- ---- they have 16 bits

pub both_mask_less : (a b : ℕ) → both_mask a b < 2 ^ 16
unfolding both_mask
both_mask_less a b = of_bits_less (λ k. bit a k && bit b k) 16

pub either_mask_less : (a b : ℕ) → either_mask a b < 2 ^ 16
unfolding either_mask
either_mask_less a b = of_bits_less (λ k. bit a k || bit b k) 16

pub without_mask_less : (a b : ℕ) → without_mask a b < 2 ^ 16
unfolding without_mask
without_mask_less a b = of_bits_less (λ k. bit a k && not (bit b k)) 16
