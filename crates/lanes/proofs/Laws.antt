-- Laws of a shift by a variable and of a channel's store. Assumes nothing.
use mathlib.Core.Path.{◌≡◌}
use Prim.Native.Nat.{ℕ, suc, ◌*◌, ◌%◌, ◌^◌, ◌<◌}
use native.Mathlib.Omega.{arith}
use native.Mathlib.Nat.{one-mul}
use mathlib.Core.Bool.{Bool, cond}
use mathlib.Core.List.{List}
use lib.Dec.{lit<}
use lib.Pow.{shl_exact}
use Rattle.paper.specs.Bits.{put_at}
use Rattle.paper.specs.Effect.{scattered}

-- The code's 1 << k is 2^k.
pub one_shl : (k : ℕ) → k < 64 → (1 * 2 ^ k) % 2 ^ 64 ≡ 2 ^ k
one_shl k h = rw (shl_exact 1 k 64 (lit< tt) (omega arith), one-mul)

-- One more channel scattered.
pub scattered_step : (l before after : List ℕ) (element : ℕ → ℕ) (size : ℕ) (on : ℕ → Bool) (pattern : ℕ → ℕ) (k : ℕ)
    → before ≡ scattered l element size on pattern k
    → after ≡ cond (on k) (put_at before (element k) size (pattern k)) before
    → after ≡ scattered l element size on pattern (suc k)
unfolding scattered
scattered_step l before after element size on pattern k e h = rw e at h
