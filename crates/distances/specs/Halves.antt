-- A field of a word in two halves, replaced in the half that holds it. Assumes nothing.
use Rattle.std.specs.Prelude.{◌≡◌, ℕ, ◌+◌, ◌*◌, ◌/◌, ◌%◌, ◌^◌, ◌<◌}
use Rattle.std.proofs.Common.{sym, ap₂, ◌∙◌, zero-mul, arith}
use Rattle.std.proofs.Math.Nat.{div-eq_of_lt}
use Rattle.paper.specs.Bits.{bits, put}
use Rattle.laws.specs.Bits.{bits-mod, bits-split, low_of_lem, bits-high, whole_lt}

-- Bits 63:48, the top of the low half.
pub put_near : (lo hi v : ℕ) → lo < 2 ^ 64 → lo % 2 ^ 48 + v * 2 ^ 48 + hi * 2 ^ 64 ≡ put (lo + hi * 2 ^ 64) 48 16 v
put_near lo hi v h = omega arith

module _ (lo hi : ℕ) (h : lo < 2 ^ 64) where
  -- The bits below 64 + n are the low half, and the n lowest of the high half above it.
  pub below : (n : ℕ) → (lo + hi * 2 ^ 64) % 2 ^ (64 + n) ≡ lo + hi % 2 ^ n * 2 ^ 64
  below n =
      let low : bits (lo + hi * 2 ^ 64) 0 64 ≡ lo = bits-mod (lo + hi * 2 ^ 64) 64 ∙ low_of_lem 64 hi h in
      let high : bits (lo + hi * 2 ^ 64) 64 n ≡ hi % 2 ^ n = bits-high 64 0 n hi h ∙ bits-mod hi n in
      sym (bits-mod (lo + hi * 2 ^ 64) (64 + n)) ∙ bits-split (lo + hi * 2 ^ 64) 0 64 n ∙ ap₂ (λ (x y : ℕ). x + y * 2 ^ 64) low high

  -- Those from 112 on are those of the high half from 48 on.
  above : (lo + hi * 2 ^ 64) / 2 ^ 112 ≡ hi / 2 ^ 48
  above = omega arith

sum : (lo hi v x y z : ℕ) → x ≡ lo + hi * 2 ^ 64 → y ≡ 0 → lo + (hi + v * 2 ^ 32) * 2 ^ 64 ≡ x + v * 2 ^ 96 + y * z
sum lo hi v x y z e f = rw (e, f, zero-mul z) (omega arith)

-- Bits 127:96, the top of the high half.
pub put_far : (lo hi v : ℕ) → lo < 2 ^ 64 → hi < 2 ^ 64 → lo + (hi % 2 ^ 32 + v * 2 ^ 32) * 2 ^ 64 ≡ put (lo + hi * 2 ^ 64) 96 32 v
put_far lo hi v h g =
    let w : ℕ = lo + hi * 2 ^ 64 in
    sum lo (hi % 2 ^ 32) v (w % 2 ^ 96) (w / 2 ^ 128) (2 ^ 128) (below lo hi h 32) (div-eq_of_lt (whole_lt lo hi h g))

sum_uip : (lo hi v x y z : ℕ) → x ≡ lo + hi * 2 ^ 64 → y ≡ 0 → lo + (hi + v * 2 ^ 48) * 2 ^ 64 ≡ x + v * 2 ^ 112 + y * z
sum_uip lo hi v x y z e f = rw (e, f, zero-mul z) (omega arith)

-- Bits 127:112, the top quarter of the word.
pub put_uip : (lo hi v : ℕ) → lo < 2 ^ 64 → hi < 2 ^ 64 → lo + (hi % 2 ^ 48 + v * 2 ^ 48) * 2 ^ 64 ≡ put (lo + hi * 2 ^ 64) 112 16 v
put_uip lo hi v h g =
    let w : ℕ = lo + hi * 2 ^ 64 in
    sum_uip lo (hi % 2 ^ 48) v (w % 2 ^ 112) (w / 2 ^ 128) (2 ^ 128) (below lo hi h 48) (div-eq_of_lt (whole_lt lo hi h g))

sum_jip : (lo low top v x y : ℕ) → x ≡ lo + low * 2 ^ 64 → y ≡ top → lo + (low + v * 2 ^ 32 + top * 2 ^ 48) * 2 ^ 64 ≡ x + v * 2 ^ 96 + y * 2 ^ 112
sum_jip lo low top v x y e f = rw (e, f) (omega arith)

-- Bits 111:96, which stand below it.
pub put_jip : (lo hi v : ℕ) → lo < 2 ^ 64 → lo + (hi % 2 ^ 32 + v * 2 ^ 32 + hi / 2 ^ 48 * 2 ^ 48) * 2 ^ 64 ≡ put (lo + hi * 2 ^ 64) 96 16 v
put_jip lo hi v h =
    let w : ℕ = lo + hi * 2 ^ 64 in
    sum_jip lo (hi % 2 ^ 32) (hi / 2 ^ 48) v (w % 2 ^ 96) (w / 2 ^ 112) (below lo hi h 32) (above lo hi h)
