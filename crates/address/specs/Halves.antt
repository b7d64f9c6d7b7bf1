-- A field of a word, written in the half that holds it, and by shifts. Assumes nothing.
use Rattle.std.specs.Prelude.{◌≡◌, ℕ, ◌+◌, ◌*◌, ◌-◌, ◌/◌, ◌%◌, ◌^◌, ◌<◌, ◌≤◌}
use Rattle.std.proofs.Common.{sym, ap, ◌∙◌, add_assoc, add-mul, mul_assoc, mul_comm, mul-le-mul_right, mod-eq_of_lt, arith, pow_pos, pow-add, shr-shr}
use Rattle.std.proofs.Math.Nat.{add-mul-div_right, add-mul-mod_self_right}
use Rattle.std.proofs.lemmas.Nat.{shr_le}
use Rattle.paper.specs.Bits.{bits, put}
use Rattle.paper.specs.Address.{named_directly}
use Rattle.laws.specs.Bits.{bits-mod, top_of}
use Rattle.laws.specs.Put.{put_fits}
use Rattle.words.specs.Regions.{floor_shl}
use Rattle.distances.specs.Halves.{below}

-- A number shifted up by k + n bits is shifted up by n, and then by k.
up : (h k n : ℕ) → h * 2 ^ (k + n) ≡ h * 2 ^ n * 2 ^ k
up h k n = ap (λ (x : ℕ). h * x) (pow-add 2 k n ∙ mul_comm (2 ^ k) (2 ^ n)) ∙ sym (mul_assoc h (2 ^ n) (2 ^ k))

-- ---- by shifts

-- What stands above a field, moved down and up again.
abbrev pub above_field : ℕ → ℕ → ℕ → ℕ
above_field x k n = x / 2 ^ k / 2 ^ n * 2 ^ n

-- The field written by shifts: what stands below it, and it and what stands above it moved up.
pub put_shifted : (x k n v : ℕ) → x % 2 ^ k + (v + above_field x k n) * 2 ^ k ≡ put x k n v
put_shifted x k n v =
    let h : ℕ = x / 2 ^ (k + n) in
    let e = up h k n in
    rw (shr-shr x k n) (omega (arith, e, add-mul v (h * 2 ^ n) (2 ^ k)))

-- So the code reckons it, in a half of a word: every shift up is modulo 2^64, and nothing is lost.
module _ (x k n v : ℕ) (h : x < 2 ^ 64) (g : v < 2 ^ n) (l : k + n ≤ 64) where
  -- The field and what stands above it, before the last shift.
  abbrev field : ℕ
  field = v + above_field x k n % 2 ^ 64

  -- What stands above it loses nothing.
  above_whole : above_field x k n % 2 ^ 64 ≡ above_field x k n
  above_whole = floor_shl (x / 2 ^ k) n (omega (arith, shr_le x k))

  -- The whole fits.
  room : x % 2 ^ k + (v + above_field x k n) * 2 ^ k < 2 ^ 64
  room = rw (put_shifted x k n v) (put_fits x k n v 64 h g l)

  -- The last shift loses nothing.
  field_whole : field * 2 ^ k % 2 ^ 64 ≡ (v + above_field x k n) * 2 ^ k
  field_whole = ap (λ (a : ℕ). (v + a) * 2 ^ k % 2 ^ 64) above_whole ∙ mod-eq_of_lt (omega (arith, room))

  -- The first sum fits,
  pub field_fits : field < 2 ^ 64
  field_fits =
      let t : ℕ = v + above_field x k n in
      let e : t ≤ t * 2 ^ k = omega (arith, mul-le-mul_right {m = 1} {n = 2 ^ k} t (pow_pos k), mul_comm (2 ^ k) t) in
      rw above_whole (omega (arith, room, e))

  -- the last one is the word with the field written,
  pub shifts_put : (low : ℕ) → low ≡ bits x 0 k → low + field * 2 ^ k % 2 ^ 64 ≡ put x k n v
  shifts_put low e = (λ i. (e ∙ bits-mod x k) i + field_whole i) ∙ put_shifted x k n v

  -- and fits too.
  pub shifts_fit : (low : ℕ) → low ≡ bits x 0 k → low + field * 2 ^ k % 2 ^ 64 < 2 ^ 64
  shifts_fit low e = rw (shifts_put low e) (put_fits x k n v 64 h g l)

-- ---- in a half

-- The high half, moved up by its 64 bits, is moved up by j of them last.
seam : (hi j : ℕ) → j ≤ 64 → hi * 2 ^ 64 ≡ hi * 2 ^ (64 - j) * 2 ^ j
seam hi j h =
    let e : 64 ≡ j + (64 - j) = omega arith in
    ap (λ (k : ℕ). hi * 2 ^ k) e ∙ up hi j (64 - j)

-- A field that ends below bit 64 is written in the low half,
put_lower : (lo hi k n v : ℕ) → k + n ≤ 64 → put (lo + hi * 2 ^ 64) k n v ≡ put lo k n v + hi * 2 ^ 64
put_lower lo hi k n v h =
    let c : ℕ = hi * 2 ^ (64 - (k + n)) in
    let s : hi * 2 ^ 64 ≡ c * 2 ^ (k + n) = seam hi (k + n) h in
    let a : (lo + hi * 2 ^ 64) % 2 ^ k ≡ lo % 2 ^ k =
    ap (λ (x : ℕ). (lo + x) % 2 ^ k) (seam hi k (omega arith)) ∙ add-mul-mod_self_right lo (hi * 2 ^ (64 - k)) (2 ^ k) in
    let b : (lo + hi * 2 ^ 64) / 2 ^ (k + n) ≡ lo / 2 ^ (k + n) + c =
    ap (λ (x : ℕ). (lo + x) / 2 ^ (k + n)) s ∙ add-mul-div_right lo c (pow_pos (k + n)) in
    (λ i. a i + v * 2 ^ k + b i * 2 ^ (k + n)) ∙ omega (arith, s, add-mul (lo / 2 ^ (k + n)) c (2 ^ (k + n)))

-- and one that begins at bit 64 or above it in the high half.
put_upper : (lo hi k n v : ℕ) → lo < 2 ^ 64 → put (lo + hi * 2 ^ 64) (64 + k) n v ≡ lo + put hi k n v * 2 ^ 64
put_upper lo hi k n v h =
    let w : ℕ = lo + hi * 2 ^ 64 in
    let a = below lo hi h k in
    let e : 64 + k + n ≡ 64 + (k + n) = add_assoc 64 k n in
    let b : w / 2 ^ (64 + k + n) ≡ hi / 2 ^ (k + n) =
    ap (λ (j : ℕ). w / 2 ^ j) e ∙ sym (shr-shr w 64 (k + n)) ∙ ap (λ (x : ℕ). x / 2 ^ (k + n)) (top_of 64 hi h) in
    let d : w / 2 ^ (64 + k + n) * 2 ^ (64 + k + n) ≡ hi / 2 ^ (k + n) * 2 ^ (k + n) * 2 ^ 64 =
    (λ i. b i * 2 ^ e i) ∙ up (hi / 2 ^ (k + n)) 64 (k + n) in
    omega (arith, a, d, up v 64 k)

-- ---- an operand named directly

-- An operand of the low half is named there,
pub named_lower : (lo hi k a : ℕ) → k + 16 ≤ 64 → named_directly k a (lo + hi * 2 ^ 64) ≡ named_directly k a lo + hi * 2 ^ 64
named_lower lo hi k a h =
    ap (λ (w : ℕ). put w (k + 15) 1 0) (put_lower lo hi k 13 (bits a 0 13) (omega arith))
    ∙ put_lower (put lo k 13 (bits a 0 13)) hi (k + 15) 1 0 (omega arith)

-- and one of the high half there.
pub named_upper : (lo hi k a : ℕ) → lo < 2 ^ 64 → named_directly (64 + k) a (lo + hi * 2 ^ 64) ≡ lo + named_directly k a hi * 2 ^ 64
named_upper lo hi k a h =
    ap (λ (w : ℕ). put w (64 + k + 15) 1 0) (put_upper lo hi k 13 (bits a 0 13) h)
    ∙ ap (λ (j : ℕ). put (lo + put hi k 13 (bits a 0 13) * 2 ^ 64) j 1 0) (add_assoc 64 k 15)
    ∙ put_upper lo (put hi k 13 (bits a 0 13)) (k + 15) 1 0 h
