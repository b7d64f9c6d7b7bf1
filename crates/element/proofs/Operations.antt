-- The operations on numbers held as v + 2^63. Assumes nothing.
use mathlib.Core.Path.{◌≡◌, refl, sym, ◌∙◌, ap, ap₂}
use mathlib.Core.Bool.{Bool, true, false, not}
use Prim.Native.Nat.{ℕ, zero, suc, ◌+◌, ◌*◌, ◌-◌, ◌/◌, ◌%◌, ◌^◌, ◌<◌, ◌≤◌}
use native.Mathlib.Nat.{mod-lt, mul-le-mul_right, mul-le-mul_left, le_trans, div-lt_iff_lt-mul, mul-div_cancel, div-add-mod', div-le_self}
use native.Mathlib.Omega.{arith}
use lib.Dec.{ltb, leb, eqb}
use lib.IntN.{ℤ, pos, neg_ℤ, nat_abs, sub_ℕ, ◌+ℤ◌, ◌-ℤ◌, ◌*ℤ◌}
use lib.Signed.{lt_z}
use lib.Pow.{pow_pos, pow_mono, shl_exact}
use borrow.Author.Tests.{lt-ltb, le-ltb, le-leb, lt-leb, ltb-true, ltb-false, eq-eqb, ne_eqb}
use Rattle.paper.specs.Value.{floor_z}
use Rattle.paper.specs.Element.{average, logic, complement, is_zero}
use Rattle.laws.specs.Differences.{sub_cases, is_pos, sub_eq, sub-pos, sub_neg, abs_pos, abs_neg, sub-add, sub-sub, sub-mul, sub_floor, sub_lt, ltb_by}
use Rattle.element.specs.Biased.{ex}
use Rattle.element.specs.Base.{ex-pos, ex-mod, base_multiple}

-- ---- modifiers

pub ex_neg : (a : ℕ) → 0 < a → a < 2 ^ 64 → ex (2 ^ 64 - 1 - a + 1) ≡ neg_ℤ (ex a)
unfolding ex
ex_neg a l u = sub_eq (2 ^ 64 - 1 - a + 1) (2 ^ 63) (2 ^ 63) a (omega arith) ∙ sym (sub_neg a (2 ^ 63))

-- The magnitude of what is less than 0, and of what is not.
pub ex_abs_low : (a : ℕ) → a < 2 ^ 63 → neg_ℤ (ex a) ≡ pos (nat_abs (ex a))
unfolding ex
ex_abs_low a h = sub_neg a (2 ^ 63) ∙ sym (abs_neg a (2 ^ 63) h)

pub ex_abs_high : (a : ℕ) → 2 ^ 63 ≤ a → ex a ≡ pos (nat_abs (ex a))
unfolding ex
ex_abs_high a h = sym (abs_pos a (2 ^ 63) h)

-- ---- arithmetic

pub ex-add : (a b : ℕ) → 2 ^ 62 ≤ a → 2 ^ 62 ≤ b → ex (a - 2 ^ 62 + (b - 2 ^ 62)) ≡ ex a +ℤ ex b
unfolding ex
ex-add a b h k =
    sub_eq (a - 2 ^ 62 + (b - 2 ^ 62)) (2 ^ 63) (a + b) (2 ^ 63 + 2 ^ 63) (omega arith) ∙ sym (sub-add a (2 ^ 63) b (2 ^ 63))

-- One more.
ex-suc : (a : ℕ) → ex (a + 1) ≡ ex a +ℤ pos 1
unfolding ex
ex-suc a = sub_eq (a + 1) (2 ^ 63) (a + 1) (2 ^ 63 + 0) (omega arith) ∙ sym (sub-add a (2 ^ 63) 1 0)

-- Half, rounded down.
ex_half : (s : ℕ) → ex (s / 2 + 2 ^ 62) ≡ floor_z (ex s) 2
unfolding ex
ex_half s =
    sub_eq (s / 2 + 2 ^ 62) (2 ^ 63) (s / 2) (2 ^ 62) (omega arith) ∙ sym (sub_floor s (2 ^ 62) 2 (omega arith))

pub ex-average : (a b : ℕ) → 2 ^ 62 ≤ a → 2 ^ 62 ≤ b → ex ((a - 2 ^ 62 + (b - 2 ^ 62) + 1) / 2 + 2 ^ 62) ≡ average (ex a) (ex b)
ex-average a b h k =
    ex_half (a - 2 ^ 62 + (b - 2 ^ 62) + 1)
    ∙ ap (λ (v : ℤ). floor_z v 2) (ex-suc (a - 2 ^ 62 + (b - 2 ^ 62)) ∙ ap (λ (v : ℤ). v +ℤ pos 1) (ex-add a b h k))

-- The same number over another base.
rebase : (a x s : ℕ) → a + s ≡ x + 2 ^ 63 → ex a ≡ sub_ℕ x s
unfolding ex
rebase a x s e = sub_eq a (2 ^ 63) x s e

pub ex_multiply : (a b x y : ℕ) → a + 2 ^ 16 ≡ x + 2 ^ 63 → b + 2 ^ 16 ≡ y + 2 ^ 63 → x + y ≤ 2 ^ 18 → ex (x * y + (2 ^ 63 + 2 ^ 32) - 2 ^ 16 * (x + y)) ≡ ex a *ℤ ex b
unfolding ex
ex_multiply a b x y e f g =
    sub_eq (x * y + (2 ^ 63 + 2 ^ 32) - 2 ^ 16 * (x + y)) (2 ^ 63) (x * y + 2 ^ 16 * 2 ^ 16) (x * 2 ^ 16 + 2 ^ 16 * y) (omega arith)
    ∙ sym (sub-mul x (2 ^ 16) y (2 ^ 16))
    ∙ sym (ap₂ (λ (v w : ℤ). v *ℤ w) (rebase a x (2 ^ 16) e) (rebase b y (2 ^ 16) f))

-- A product of two bounded numbers.
pub product_most : (x y X Y : ℕ) → x ≤ X → y ≤ Y → x * y ≤ X * Y
product_most x y X Y h k = le_trans (mul-le-mul_right y h) (mul-le-mul_left X k)

-- ---- shifts

-- Dividing by a power divides what stands for 0 too: what is lost is put back.
pub ex_shift_right : (v c : ℕ) → c ≤ 63 → ex (v / 2 ^ c + (2 ^ 63 - 2 ^ 63 / 2 ^ c)) ≡ floor_z (ex v) (2 ^ c)
unfolding ex
ex_shift_right v c l =
    sub_eq (v / 2 ^ c + (2 ^ 63 - 2 ^ 63 / 2 ^ c)) (2 ^ 63) (v / 2 ^ c) (2 ^ (63 - c)) (omega (arith, base_divided, pow_mono {i = 63 - c} {j = 63} (omega arith)))
    ∙ sym (ap (λ (b : ℕ). floor_z (sub_ℕ v b) (2 ^ c)) (base_multiple c l) ∙ sub_floor v (2 ^ (63 - c)) (2 ^ c) (pow_pos c))
  where
    base_divided : 2 ^ 63 / 2 ^ c ≡ 2 ^ (63 - c)
    base_divided = ap (λ (n : ℕ). n / 2 ^ c) (base_multiple c l) ∙ mul-div_cancel (2 ^ (63 - c)) (pow_pos c)

pub shift_right_fits : (v p : ℕ) → 0 < p → v < 2 ^ 63 + 2 ^ 32 → v / p + (2 ^ 63 - 2 ^ 63 / p) < 2 ^ 64
shift_right_fits v p hp h = omega (arith, few, div-le_self (2 ^ 63) p)
  where
    few : v / p < 2 ^ 63 / p + 1 + 2 ^ 32
    few =
        (div-lt_iff_lt-mul hp).1 (omega (arith, div-add-mod' (2 ^ 63) p, mod-lt (2 ^ 63) hp, mul-le-mul_left (2 ^ 32) hp))

-- What the code makes of v shifted left by c, which is at most 31: no bit of either shift is lost, and the sum fits.
abbrev pub shifted_left : ℕ → ℕ → ℕ
shifted_left v c = (v - (2 ^ 63 - 2 ^ 32)) * 2 ^ c % 2 ^ 64 + (2 ^ 63 - 2 ^ 32 * 2 ^ c % 2 ^ 64)

pub raised_whole : (v c : ℕ) → c < 32 → v < 2 ^ 63 + 2 ^ 32 → (v - (2 ^ 63 - 2 ^ 32)) * 2 ^ c % 2 ^ 64 ≡ (v - (2 ^ 63 - 2 ^ 32)) * 2 ^ c
raised_whole v c h b = shl_exact 33 c 64 (omega arith) (omega arith)

pub lowered_whole : (c : ℕ) → c < 32 → 2 ^ 32 * 2 ^ c % 2 ^ 64 ≡ 2 ^ 32 * 2 ^ c
lowered_whole c h = shl_exact 33 c 64 (omega arith) (omega arith)

pub lowered_most : (c : ℕ) → c < 32 → 2 ^ 32 * 2 ^ c % 2 ^ 64 ≤ 2 ^ 63
lowered_most c h = omega (arith, lowered_whole c h, pow_mono {i = c} {j = 31} (omega arith))

pub shift_left_fits : (v c : ℕ) → c < 32 → v < 2 ^ 63 + 2 ^ 32 → shifted_left v c < 2 ^ 64
shift_left_fits v c h b =
    let x = v - (2 ^ 63 - 2 ^ 32) in
    let few : x ≤ 2 ^ 33 - 1 = omega arith in
    omega (arith, raised_whole v c h b, lowered_whole c h, mul-le-mul_right (2 ^ c) few, pow_pos c, pow_mono {i = c} {j = 31} (omega arith))

ex_times : (v x p : ℕ) → v + 2 ^ 32 ≡ x + 2 ^ 63 → p ≤ 2 ^ 31 → ex (x * p + (2 ^ 63 - 2 ^ 32 * p)) ≡ ex v *ℤ pos p
ex_times v x p e h =
    rebase (x * p + (2 ^ 63 - 2 ^ 32 * p)) (x * p + 2 ^ 32 * 0) (x * 0 + 2 ^ 32 * p) (omega arith)
    ∙ sym (sub-mul x (2 ^ 32) p 0)
    ∙ ap₂ (λ (a b : ℤ). a *ℤ b) (sym (rebase v x (2 ^ 32) e)) (is_pos p 0 p (omega arith))

pub ex_shift_left : (v c : ℕ) → c < 32 → 2 ^ 63 < v + 2 ^ 32 → v < 2 ^ 63 + 2 ^ 32 → ex (shifted_left v c) ≡ ex v *ℤ pos (2 ^ c)
ex_shift_left v c h l u =
    rw (raised_whole v c h u, lowered_whole c h)
    (ex_times v (v - (2 ^ 63 - 2 ^ 32)) (2 ^ c) (omega arith) (pow_mono {i = c} {j = 31} (omega arith)))

-- ---- logic, on the lowest 32 bits

pub ex-logic : (f : ℕ → ℕ → ℕ) (a b : ℕ) → ex (2 ^ 63 + f (a % 2 ^ 32) (b % 2 ^ 32)) ≡ logic f (ex a) (ex b)
ex-logic f a b =
    ex-pos (f (a % 2 ^ 32) (b % 2 ^ 32))
    ∙ sym (ap₂ (λ (x y : ℕ). pos (f x y)) (ex-mod 32 a (omega arith)) (ex-mod 32 b (omega arith)))

pub ex-complement : (a : ℕ) → ex (2 ^ 63 + (2 ^ 32 - 1 - a % 2 ^ 32)) ≡ complement (ex a)
ex-complement a =
    ex-pos (2 ^ 32 - 1 - a % 2 ^ 32) ∙ sym (ap (λ (x : ℕ). pos (2 ^ 32 - 1 - x)) (ex-mod 32 a (omega arith)))

-- ---- comparison

-- A difference of two numbers is that of what they stand for.
ex_diff : (a b : ℕ) → ex a -ℤ ex b ≡ sub_ℕ a b
unfolding ex
ex_diff a b = sub-sub a (2 ^ 63) b (2 ^ 63) ∙ sub_eq (a + 2 ^ 63) (2 ^ 63 + b) a b (omega arith)

pub diff_pos : (a b : ℕ) → lt_z (pos 0) (ex a -ℤ ex b) ≡ ltb b a
diff_pos a b =
    ap (lt_z (pos 0)) (ex_diff a b) ∙ ap (λ (z : ℤ). lt_z z (sub_ℕ a b)) (sub-pos 0 0) ∙ sub_lt (0 + 0) 0 a b
    ∙ ltb_by (0 + 0 + b) (a + 0) (ltb b a) (λ h. lt-ltb b a (omega arith)) (λ h. le-ltb b a (omega arith))

pub diff_neg : (a b : ℕ) → lt_z (ex a -ℤ ex b) (pos 0) ≡ ltb a b
diff_neg a b =
    ap (λ (z : ℤ). lt_z z (pos 0)) (ex_diff a b) ∙ ap (lt_z (sub_ℕ a b)) (sub-pos 0 0) ∙ sub_lt a b (0 + 0) 0
    ∙ ltb_by (a + 0) (0 + 0 + b) (ltb a b) (λ h. lt-ltb a b (omega arith)) (λ h. le-ltb a b (omega arith))

pub diff_zero : (a b : ℕ) → is_zero (ex a -ℤ ex b) ≡ eqb a b
diff_zero a b = ap is_zero (ex_diff a b) ∙ sub_cases (λ z. is_zero z ≡ eqb a b) a b same less
  where
    same : (x : ℕ) → a ≡ b + x → eqb x 0 ≡ eqb a b
    same zero e = sym (eq-eqb a b (omega arith))
    same (suc x) e = ne_eqb (suc x) 0 (λ q. omega arith) ∙ sym (ne_eqb a b (λ q. omega arith))

    less : (x : ℕ) → a + suc x ≡ b → eqb (suc x) 0 ≡ eqb a b
    less x e = ne_eqb (suc x) 0 (λ q. omega arith) ∙ sym (ne_eqb a b (λ q. omega arith))

-- `x <= y` is the failure of `y < x`.
pub le_not : (x y : ℕ) → leb x y ≡ not (ltb y x)
le_not x y = sym (pick (ltb y x) refl)
  where
    pick : (s : Bool) → ltb y x ≡ s → not s ≡ leb x y
    pick true e = sym (lt-leb x y (ltb-true y x e))
    pick false e = sym (le-leb x y (ltb-false y x e))
