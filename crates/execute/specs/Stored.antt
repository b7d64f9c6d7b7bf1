-- A store takes as many low bytes of a number as it has, and no more. Assumes nothing.
use Rattle.std.specs.Prelude.{◌≡◌, refl, Bool, List, ℕ, zero, suc, ◌+◌, ◌*◌, ◌/◌, ◌%◌, ◌^◌, ◌<◌, set}
use Rattle.std.proofs.Common.{arith, pow-suc, lit<}
use Rattle.std.proofs.Math.Arith.{mod-mul}
use Rattle.paper.specs.Bits.{put_at}
use Rattle.paper.specs.Effect.{scattered}

-- 256^n is not 0.
bytes_pos : (n : ℕ) → 0 < 256 ^ n
bytes_pos zero = lit< tt
bytes_pos (suc n) = rw pow-suc (omega (arith, bytes_pos n))

pub put_at_low : (n : ℕ) (l : List ℕ) (a v : ℕ) → put_at l a n v ≡ put_at l a n (v % 256 ^ n)
unfolding put_at
put_at_low zero l a v = refl
put_at_low (suc n) l a v =
    let split : v % 256 ^ suc n ≡ v % 256 + 256 * (v / 256 % 256 ^ n) = rw pow-suc (omega (arith, mod-mul v {m = 256 ^ n} {c = 256} (bytes_pos n) (lit< tt))) in
    let low : v % 256 ^ suc n % 256 ≡ v % 256 = omega arith in
    let rest : v % 256 ^ suc n / 256 ≡ v / 256 % 256 ^ n = omega arith in
    rw (low, rest) (put_at_low n (set l a (v % 256)) (a + 1) (v / 256))

-- So do stores for many channels.
pub scattered_low : (l : List ℕ) (element : ℕ → ℕ) (size : ℕ) (on : ℕ → Bool) (pattern : ℕ → ℕ) (n : ℕ)
    → scattered l element size on pattern n ≡ scattered l element size on (λ k. pattern k % 256 ^ size) n
unfolding scattered
scattered_low l element size on pattern zero = refl
scattered_low l element size on pattern (suc n) =
    cc (put_at_low size (scattered l element size on pattern n) (element n) (pattern n), scattered_low l element size on pattern n)
