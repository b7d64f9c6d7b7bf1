-- How the code holds a whole number: n stands for n − 2^63. Assumes nothing.
use Rattle.std.specs.Prelude.{cond, ℕ, ◌+◌, ◌-◌, ◌^◌, ◌<◌, ◌≤◌, ℤ}
use Rattle.std.proofs.Common.{arith, pow_mono}
use Rattle.std.proofs.Math.IntN.{sub_ℕ}
use Rattle.paper.specs.Value.{width, is_signed}

-- The whole number that n stands for.
unfoldable pub ex : ℕ → ℤ
ex n = sub_ℕ n (2 ^ 63)

-- n stands for a number between −2^k and 2^k.
pub record Near (k n : ℕ) : Type 0 where
  pub above : 2 ^ 63 < n + 2 ^ k
  pub below : n < 2 ^ 63 + 2 ^ k

-- r is as near as v.
abbrev pub Keeps : ℕ → ℕ → Type 0
Keeps v r = (k : ℕ) → Near k v → Near k r

-- The bit of a type's patterns that says that the value is negative; 0 where the type has none.
unfoldable pub sign_bit : ℕ → ℕ
sign_bit t = cond (is_signed t) (2 ^ (width t - 1)) 0

-- What is near is near by any greater bound.
pub near_mono : {i j n : ℕ} → i ≤ j → Near i n → Near j n
near_mono h v = omega (arith, pow_mono h)
