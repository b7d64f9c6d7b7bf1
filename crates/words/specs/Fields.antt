-- Laws of the fields of a word in two halves. Assumes nothing.
use Rattle.std.specs.Prelude.{◌≡◌, ℕ, ◌+◌, ◌*◌, ◌-◌, ◌%◌, ◌^◌, ◌<◌, ◌≤◌}
use Rattle.std.proofs.Common.{subst, ◌∙◌, add-sub_of_le, one-mul, arith, shl_exact}
use Rattle.paper.specs.Bits.{bits}
use Rattle.laws.specs.Bits.{bits-low}

-- A field that ends below the seam p is one of the part below.
pub bits_within : (p k n lo hi : ℕ) → k + n ≤ p → bits (lo + hi * 2 ^ p) k n ≡ bits lo k n
bits_within p k n lo hi h =
    subst (λ (x : ℕ). bits (lo + hi * 2 ^ x) k n ≡ bits lo k n) (add-sub_of_le h) (bits-low k n (p - (k + n)) lo hi)

-- A one shifted up by less than 64 bits.
pub one_shifted : (n : ℕ) → n < 64 → 1 * 2 ^ n % 2 ^ 64 ≡ 2 ^ n
one_shifted n h = shl_exact {a = 1} 1 n 64 (omega arith) (omega arith) ∙ one-mul (2 ^ n)
