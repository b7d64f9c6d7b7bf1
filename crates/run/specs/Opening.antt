-- The masks by place before a run. Assumes nothing.
use Rattle.std.specs.Prelude.{List, ◌≡◌, refl, ℕ, zero, suc, ◌+◌, ◌*◌, ◌/◌, ◌<◌, ◌≤◌, length, get_or, take, replicate}
use Rattle.std.proofs.Common.{arith, length-take}
use Rattle.std.proofs.lemmas.List.{length-replicate}

-- No mask has a channel, and there is one for each place of the kernel and for its end.
pub record Blank (kernel here : List ℕ) : Type 0 where
  pub zeros : (p : ℕ) → get_or here p 0 ≡ 0
  pub room : length kernel < 8 * length here
  pub few : length here ≤ 65536

abbrev pub zeros : ℕ → List ℕ
zeros m = replicate m 0

part_zero : (n m p : ℕ) → get_or (take n (zeros m)) p 0 ≡ 0
part_zero zero m p = refl
part_zero (suc n) zero p = refl
part_zero (suc n) (suc m) zero = refl
part_zero (suc n) (suc m) (suc p) = part_zero n m p

-- So are the first n of some zeros, as many as the kernel has places with its end.
pub blank_part : (kernel : List ℕ) (n m : ℕ) → n ≡ length kernel / 8 + 1 → n ≤ m → n ≤ 65536 → Blank kernel (take n (zeros m))
blank_part kernel n m e h few =
    let long : length (take n (zeros m)) ≡ n = omega (arith, length-take n (zeros m), length-replicate {A = ℕ} m 0) in
    record { zeros = part_zero n m; room = omega (arith, long); few = omega (arith, long) }
