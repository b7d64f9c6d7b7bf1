-- What `put` makes of a word: the field that it writes, every other field, and the word's size, for every place and width. Assumes nothing.
use Rattle.std.specs.Prelude.{◌≡◌, ℕ, ◌+◌, ◌*◌, ◌-◌, ◌^◌, ◌/◌, ◌%◌, ◌<◌, ◌≤◌}
use Rattle.std.proofs.Common.{ap, sym, ◌∙◌, arith, add-mul, mul_assoc, mul_comm, mod-lt, mod-eq_of_lt, zero-add, pow_pos, pow-add, shr_lt, shr-shr}
use Rattle.std.proofs.Math.Nat.{add-mul-div_right, add-mul-mod_self_right, mod-mod, div-eq_of_lt, div-div-eq-div-mul, mod-add-div'}
use Rattle.std.proofs.Math.Arith.{digits_lt}
use Rattle.paper.specs.Bits.{bits, put}

-- What stands in a word from bit lo on, once the n bits there are v.
rest : ℕ → ℕ → ℕ → ℕ → ℕ
rest w lo n v = v + w / 2 ^ (lo + n) * 2 ^ n

-- The word is what it was below lo, and the rest shifted up by lo.
put_form : (w lo n v : ℕ) → put w lo n v ≡ w % 2 ^ lo + rest w lo n v * 2 ^ lo
unfolding rest
put_form w lo n v =
    let h : ℕ = w / 2 ^ (lo + n) in
    let e : h * 2 ^ (lo + n) ≡ h * 2 ^ n * 2 ^ lo =
    ap (λ (x : ℕ). h * x) (pow-add 2 lo n ∙ mul_comm (2 ^ lo) (2 ^ n)) ∙ sym (mul_assoc h (2 ^ n) (2 ^ lo)) in
    omega (arith, e, add-mul v (h * 2 ^ n) (2 ^ lo))

-- Bits below lo do not see what stands above it.
below : (r x lo a m : ℕ) → a + m ≤ lo → bits (r + x * 2 ^ lo) a m ≡ bits r a m
below r x lo a m h =
    let c : ℕ = lo - (a + m) in
    let e : 2 ^ lo ≡ 2 ^ c * 2 ^ m * 2 ^ a =
    ap (λ (k : ℕ). 2 ^ k) (omega arith) ∙ pow-add 2 (c + m) a ∙ ap (λ (k : ℕ). k * 2 ^ a) (pow-add 2 c m) in
    let f : x * 2 ^ lo ≡ x * 2 ^ c * 2 ^ m * 2 ^ a =
    ap (λ (k : ℕ). x * k) e ∙ sym (mul_assoc x (2 ^ c * 2 ^ m) (2 ^ a)) ∙ ap (λ (k : ℕ). k * 2 ^ a) (sym (mul_assoc x (2 ^ c) (2 ^ m))) in
    ap (λ (k : ℕ). (r + k) / 2 ^ a % 2 ^ m) f
    ∙ ap (λ (k : ℕ). k % 2 ^ m) (add-mul-div_right r (x * 2 ^ c * 2 ^ m) (pow_pos a))
    ∙ add-mul-mod_self_right (r / 2 ^ a) (x * 2 ^ c) (2 ^ m)

-- A field wholly below the one that is written stays as it was.
pub put_below : (w lo n v a m : ℕ) → a + m ≤ lo → bits (put w lo n v) a m ≡ bits w a m
put_below w lo n v a m h =
    ap (λ (k : ℕ). bits k a m) (put_form w lo n v)
    ∙ below (w % 2 ^ lo) (rest w lo n v) lo a m h
    ∙ sym (below (w % 2 ^ lo) (w / 2 ^ lo) lo a m h)
    ∙ ap (λ (k : ℕ). bits k a m) (mod-add-div' w (2 ^ lo))

-- The number below the field stays.
put_low : (w lo n v : ℕ) → put w lo n v % 2 ^ lo ≡ w % 2 ^ lo
put_low w lo n v =
    ap (λ (k : ℕ). k % 2 ^ lo) (put_form w lo n v) ∙ add-mul-mod_self_right (w % 2 ^ lo) (rest w lo n v) (2 ^ lo) ∙ mod-mod w (2 ^ lo)

-- The number above the field stays, if what is written fits.
put_high : (w lo n v : ℕ) → v < 2 ^ n → put w lo n v / 2 ^ (lo + n) ≡ w / 2 ^ (lo + n)
put_high w lo n v h =
    let l : v * 2 ^ lo + w % 2 ^ lo < 2 ^ n * 2 ^ lo = digits_lt h (mod-lt w (pow_pos lo)) in
    let p : 2 ^ (lo + n) ≡ 2 ^ n * 2 ^ lo = pow-add 2 lo n ∙ mul_comm (2 ^ lo) (2 ^ n) in
    add-mul-div_right (w % 2 ^ lo + v * 2 ^ lo) (w / 2 ^ (lo + n)) (pow_pos (lo + n))
    ∙ ap (λ (k : ℕ). k + w / 2 ^ (lo + n)) (div-eq_of_lt (omega arith))
    ∙ zero-add (w / 2 ^ (lo + n))

-- A field at or above bit b is a field of the word shifted down by b.
pub above : (w b a m : ℕ) → b ≤ a → bits w a m ≡ bits (w / 2 ^ b) (a - b) m
above w b a m h =
    ap (λ (k : ℕ). k % 2 ^ m)
    (ap (λ (k : ℕ). w / k) (ap (λ (k : ℕ). 2 ^ k) (omega arith) ∙ pow-add 2 b (a - b)) ∙ sym (div-div-eq-div-mul w (2 ^ b) (2 ^ (a - b))))

-- A field wholly above the one that is written stays as it was.
pub put_above : (w lo n v a m : ℕ) → v < 2 ^ n → lo + n ≤ a → bits (put w lo n v) a m ≡ bits w a m
put_above w lo n v a m h g =
    above (put w lo n v) (lo + n) a m g
    ∙ ap (λ (k : ℕ). bits k (a - (lo + n)) m) (put_high w lo n v h)
    ∙ sym (above w (lo + n) a m g)

-- The field that is written reads back as what was written.
pub put_at : (w lo n v : ℕ) → v < 2 ^ n → bits (put w lo n v) lo n ≡ v
unfolding rest
put_at w lo n v h =
    ap (λ (k : ℕ). bits k lo n) (put_form w lo n v)
    ∙ ap (λ (k : ℕ). k % 2 ^ n) (add-mul-div_right (w % 2 ^ lo) (rest w lo n v) (pow_pos lo)
    ∙ ap (λ (k : ℕ). k + rest w lo n v) (div-eq_of_lt (mod-lt w (pow_pos lo))) ∙ zero-add (rest w lo n v))
    ∙ add-mul-mod_self_right v (w / 2 ^ (lo + n)) (2 ^ n)
    ∙ mod-eq_of_lt h

-- Of two writings of one field the last counts.
pub put-put : (w lo n v u : ℕ) → v < 2 ^ n → put (put w lo n v) lo n u ≡ put w lo n u
put-put w lo n v u h = λ i. put_low w lo n v i + u * 2 ^ lo + put_high w lo n v h i * 2 ^ (lo + n)

-- To write what stands there changes nothing.
pub put_same : (w lo n : ℕ) → put w lo n (bits w lo n) ≡ w
unfolding rest
put_same w lo n =
    let h : ℕ = w / 2 ^ lo in
    put_form w lo n (bits w lo n)
    ∙ ap (λ (x : ℕ). w % 2 ^ lo + (h % 2 ^ n + x * 2 ^ n) * 2 ^ lo) (sym (shr-shr w lo n))
    ∙ ap (λ (x : ℕ). w % 2 ^ lo + x * 2 ^ lo) (mod-add-div' h (2 ^ n))
    ∙ mod-add-div' w (2 ^ lo)

-- A word of m bits stays one, if what is written fits its field and the field lies within the word.
pub put_fits : (w lo n v m : ℕ) → w < 2 ^ m → v < 2 ^ n → lo + n ≤ m → put w lo n v < 2 ^ m
unfolding rest
put_fits w lo n v m h g l =
    let c : ℕ = m - (lo + n) in
    let e : m ≡ c + (lo + n) = omega arith in
    let q : w / 2 ^ (lo + n) < 2 ^ c = shr_lt c (lo + n) (rw e at h) in
    let r : w / 2 ^ (lo + n) * 2 ^ n + v < 2 ^ c * 2 ^ n = digits_lt q g in
    let s : rest w lo n v * 2 ^ lo + w % 2 ^ lo < 2 ^ c * 2 ^ n * 2 ^ lo = digits_lt (omega arith) (mod-lt w (pow_pos lo)) in
    let p : 2 ^ m ≡ 2 ^ c * 2 ^ n * 2 ^ lo =
    ap (λ (k : ℕ). 2 ^ k) (omega arith) ∙ pow-add 2 (c + n) lo ∙ ap (λ (k : ℕ). k * 2 ^ lo) (pow-add 2 c n) in
    rw (put_form w lo n v, p) (omega arith)

-- ---- two fields of one word

-- A number c shifted up by b + k bits is c shifted up by k, and then by b.
up : (c b k : ℕ) → c * 2 ^ (b + k) ≡ c * 2 ^ k * 2 ^ b
up c b k = ap (λ (x : ℕ). c * x) (pow-add 2 b k ∙ mul_comm (2 ^ b) (2 ^ k)) ∙ sym (mul_assoc c (2 ^ k) (2 ^ b))

-- A word of two parts: r below bit b, and x from there on.
module _ (r x b : ℕ) (small : r < 2 ^ b) where
  -- What stands from bit b + k on is what stands in x from bit k on.
  part_above : (k : ℕ) → (r + x * 2 ^ b) / 2 ^ (b + k) ≡ x / 2 ^ k
  part_above k =
      ap (λ (m : ℕ). (r + x * 2 ^ b) / m) (pow-add 2 b k)
      ∙ sym (div-div-eq-div-mul (r + x * 2 ^ b) (2 ^ b) (2 ^ k))
      ∙ ap (λ (y : ℕ). y / 2 ^ k) (add-mul-div_right r x (pow_pos b) ∙ ap (λ (y : ℕ). y + x) (div-eq_of_lt small) ∙ zero-add x)

  -- What stands below it is r, and what stands in x below bit k.
  part_below : (k : ℕ) → (r + x * 2 ^ b) % 2 ^ (b + k) ≡ r + x % 2 ^ k * 2 ^ b
  part_below k =
      let e = mod-add-div' (r + x * 2 ^ b) (2 ^ (b + k)) in
      let f : (r + x * 2 ^ b) / 2 ^ (b + k) * 2 ^ (b + k) ≡ x / 2 ^ k * 2 ^ k * 2 ^ b =
      ap (λ (y : ℕ). y * 2 ^ (b + k)) (part_above k) ∙ up (x / 2 ^ k) b k in
      let g : x * 2 ^ b ≡ x % 2 ^ k * 2 ^ b + x / 2 ^ k * 2 ^ k * 2 ^ b =
      ap (λ (y : ℕ). y * 2 ^ b) (sym (mod-add-div' x (2 ^ k))) ∙ add-mul (x % 2 ^ k) (x / 2 ^ k * 2 ^ k) (2 ^ b) in
      omega (arith, e, f, g)

  -- To write a field of the part above is to write it in x.
  put_part : (lo n v : ℕ) → put (r + x * 2 ^ b) (b + lo) n v ≡ r + put x lo n v * 2 ^ b
  put_part lo n v =
      let a = part_below lo in
      let c : (r + x * 2 ^ b) / 2 ^ (b + lo + n) * 2 ^ (b + lo + n) ≡ x / 2 ^ (lo + n) * 2 ^ (lo + n) * 2 ^ b =
      ap (λ (k : ℕ). (r + x * 2 ^ b) / 2 ^ k * 2 ^ k) (omega arith)
      ∙ ap (λ (y : ℕ). y * 2 ^ (b + (lo + n))) (part_above (lo + n))
      ∙ up (x / 2 ^ (lo + n)) b (lo + n) in
      let d = up v b lo in
      let e = add-mul (x % 2 ^ lo + v * 2 ^ lo) (x / 2 ^ (lo + n) * 2 ^ (lo + n)) (2 ^ b) in
      let f = add-mul (x % 2 ^ lo) (v * 2 ^ lo) (2 ^ b) in
      omega (arith, a, c, d, e, f)

-- To write the topmost field of the part below leaves x as it is.
put_under : (r x lo n u : ℕ) → r < 2 ^ (lo + n) → put (r + x * 2 ^ (lo + n)) lo n u ≡ r % 2 ^ lo + u * 2 ^ lo + x * 2 ^ (lo + n)
put_under r x lo n u small =
    let a : (r + x * 2 ^ (lo + n)) % 2 ^ lo ≡ r % 2 ^ lo =
    ap (λ (y : ℕ). (r + y) % 2 ^ lo) (up x lo n) ∙ add-mul-mod_self_right r (x * 2 ^ n) (2 ^ lo) in
    let b : (r + x * 2 ^ (lo + n)) / 2 ^ (lo + n) * 2 ^ (lo + n) ≡ x * 2 ^ (lo + n) =
    ap (λ (y : ℕ). y * 2 ^ (lo + n)) (add-mul-div_right r x (pow_pos (lo + n)) ∙ ap (λ (y : ℕ). y + x) (div-eq_of_lt small) ∙ zero-add x) in
    omega (arith, a, b)

-- Two fields, the first wholly below the second, are written in either order.
pub put_apart : (w lo n u hi m v : ℕ) → u < 2 ^ n → lo + n ≤ hi → put (put w hi m v) lo n u ≡ put (put w lo n u) hi m v
put_apart w lo n u hi m v fits apart =
    let b : ℕ = lo + n in
    let c : ℕ = hi - b in
    let r : ℕ = w % 2 ^ b in
    let x : ℕ = w / 2 ^ b in
    let s : ℕ = r % 2 ^ lo + u * 2 ^ lo in
    let small : r < 2 ^ b = mod-lt w (pow_pos b) in
    let low : s < 2 ^ b =
    let d : u * 2 ^ lo + r % 2 ^ lo < 2 ^ n * 2 ^ lo = digits_lt fits (mod-lt r (pow_pos lo)) in
    let p : 2 ^ b ≡ 2 ^ n * 2 ^ lo = pow-add 2 lo n ∙ mul_comm (2 ^ lo) (2 ^ n) in
    omega arith in
    let place : hi ≡ b + c = omega arith in
    let parts : r + x * 2 ^ b ≡ w = mod-add-div' w (2 ^ b) in
    let first : put w hi m v ≡ r + put x c m v * 2 ^ b = (λ i. put (sym parts i) (place i) m v) ∙ put_part r x b small c m v in
    let second : put w lo n u ≡ s + x * 2 ^ b = ap (λ (y : ℕ). put y lo n u) (sym parts) ∙ put_under r x lo n u small in
    ap (λ (y : ℕ). put y lo n u) first
    ∙ put_under r (put x c m v) lo n u small
    ∙ sym (put_part s x b low c m v)
    ∙ (λ i. put (sym second i) (sym place i) m v)
