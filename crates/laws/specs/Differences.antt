-- Differences of natural numbers, `sub_ℕ a b` for a − b: when two are equal, and what sum, product, order, remainder and quotient make of them.
-- With one base b for all, a whole number v is the natural number v + b, and each law says what is done to a − b by what is done to a. Assumes
-- nothing.
use Rattle.std.specs.Prelude.{◌≡◌, refl, Bool, true, false, not, cond, ℕ, zero, suc, ◌+◌, ◌*◌, ◌-◌, ◌/◌, ◌%◌, ◌<◌, ◌≤◌, T, ltb, ℤ, pos, negsuc, neg_ℤ, nat_abs, ◌+ℤ◌, ◌-ℤ◌, ◌*ℤ◌}
use Rattle.std.proofs.Common.{sym, ◌∙◌, ap, subst, mod-lt, div-add-mod', div-lt_iff_lt-mul, add_comm, arith, ltb→lt, nltb→le, lt-ltb, le-ltb}
use Rattle.std.proofs.Math.Nat.{mul-add-mod_self_right, add-mul-div_right}
use Rattle.std.proofs.Math.IntN.{sub_ℕ}
use Rattle.std.specs.Int.Signed.{lt_z}
use Rattle.std.proofs.Math.Arith.{digits_mod, digits_div}
use Rattle.paper.specs.Value.{mod_z, floor_z}

-- ---- a difference is one of two things

-- What holds of a choice, by the two ways it can go.
cond_cases {ℓ} : (c : Bool) (x y : ℤ) (P : ℤ → Type ℓ) → (T c → P x) → (T (not c) → P y) → P (cond c x y)
cond_cases true x y P f g = f tt
cond_cases false x y P f g = g tt

-- What holds of every x with a = b + x, and of every −(x + 1) with a + x + 1 = b, holds of a − b.
pub sub_cases {ℓ} : (P : ℤ → Type ℓ) (a b : ℕ) → ((x : ℕ) → a ≡ b + x → P (pos x)) → ((x : ℕ) → a + suc x ≡ b → P (negsuc x)) → P (sub_ℕ a b)
sub_cases P a b f g =
    cond_cases (ltb a b) (negsuc (b - suc a)) (pos (a - b)) P
    (λ t. g (b - suc a) (below a b (ltb→lt a b t)))
    (λ t. f (a - b) (above a b (nltb→le a b t)))
  where
    below : (a b : ℕ) → a < b → a + suc (b - suc a) ≡ b
    below a b h = omega arith

    above : (a b : ℕ) → b ≤ a → a ≡ b + (a - b)
    above a b h = omega arith

-- (b + x) − b is x.
pub is_pos : (a b x : ℕ) → a ≡ b + x → sub_ℕ a b ≡ pos x
is_pos a b x e =
    sub_cases (λ z. z ≡ pos x) a b
    (λ y f. ap pos (same a b x y e f))
    (λ y f. absurd (clash a b x y e f))
  where
    same : (a b x y : ℕ) → a ≡ b + x → a ≡ b + y → y ≡ x
    same a b x y e f = omega arith

    clash : (a b x y : ℕ) → a ≡ b + x → a + suc y ≡ b → ⊥
    clash a b x y e f = omega arith

-- a − (a + x + 1) is −(x + 1).
pub is_neg : (a b x : ℕ) → a + suc x ≡ b → sub_ℕ a b ≡ negsuc x
is_neg a b x e =
    sub_cases (λ z. z ≡ negsuc x) a b
    (λ y f. absurd (clash a b x y e f))
    (λ y f. ap negsuc (same a b x y e f))
  where
    same : (a b x y : ℕ) → a + suc x ≡ b → a + suc y ≡ b → y ≡ x
    same a b x y e f = omega arith

    clash : (a b x y : ℕ) → a + suc x ≡ b → a ≡ b + y → ⊥
    clash a b x y e f = omega arith

-- a − b is c − d where a + d is c + b.
pub sub_eq : (a b c d : ℕ) → a + d ≡ c + b → sub_ℕ a b ≡ sub_ℕ c d
sub_eq a b c d e =
    sub_cases (λ z. z ≡ sub_ℕ c d) a b
    (λ x f. sym (is_pos c d x (omega arith)))
    (λ x f. sym (is_neg c d x (omega arith)))

-- A natural number as a difference over any base.
pub sub-pos : (x b : ℕ) → pos x ≡ sub_ℕ (b + x) b
sub-pos x b = sym (is_pos (b + x) b x refl)

-- A natural number's negative as a difference.
pub neg_of : (n a b : ℕ) → b ≡ a + n → neg_ℤ (pos n) ≡ sub_ℕ a b
neg_of zero a b f = sym (is_pos a b 0 (omega arith))
neg_of (suc n) a b f = sym (is_neg a b n (omega arith))

-- ---- negation, magnitude, sum, product

-- −(a − b) is b − a.
pub sub_neg : (a b : ℕ) → neg_ℤ (sub_ℕ a b) ≡ sub_ℕ b a
sub_neg a b =
    sub_cases (λ z. neg_ℤ z ≡ sub_ℕ b a) a b
    (λ x f. flip x (omega arith))
    (λ x f. sym (is_pos b a (suc x) (omega arith)))
  where
    flip : (x : ℕ) → a ≡ b + x → neg_ℤ (pos x) ≡ sub_ℕ b a
    flip zero f = sym (is_pos b a 0 (omega arith))
    flip (suc x) f = sym (is_neg b a x (omega arith))

-- The magnitude of a − b is a − b where b ≤ a.
pub abs_pos : (a b : ℕ) → b ≤ a → pos (nat_abs (sub_ℕ a b)) ≡ sub_ℕ a b
abs_pos a b h =
    sub_cases (λ z. pos (nat_abs z) ≡ z) a b
    (λ x f. refl)
    (λ x f. absurd (clash x f))
  where
    clash : (x : ℕ) → a + suc x ≡ b → ⊥
    clash x f = omega arith

-- The magnitude of a − b is b − a where a < b.
pub abs_neg : (a b : ℕ) → a < b → pos (nat_abs (sub_ℕ a b)) ≡ sub_ℕ b a
abs_neg a b h =
    sub_cases (λ z. pos (nat_abs z) ≡ sub_ℕ b a) a b
    (λ x f. absurd (clash x f))
    (λ x f. sym (is_pos b a (suc x) (omega arith)))
  where
    clash : (x : ℕ) → a ≡ b + x → ⊥
    clash x f = omega arith

-- (a − b) + (c − d) is (a + c) − (b + d).
pub sub-add : (a b c d : ℕ) → sub_ℕ a b +ℤ sub_ℕ c d ≡ sub_ℕ (a + c) (b + d)
sub-add a b c d =
    sub_cases (λ z. z +ℤ sub_ℕ c d ≡ sub_ℕ (a + c) (b + d)) a b
    (λ x f. sub_cases (λ w. pos x +ℤ w ≡ sub_ℕ (a + c) (b + d)) c d
    (λ y g. sym (is_pos (a + c) (b + d) (x + y) (omega arith)))
    (λ y g. sub_eq x (suc y) (a + c) (b + d) (omega arith)))
    (λ x f. sub_cases (λ w. negsuc x +ℤ w ≡ sub_ℕ (a + c) (b + d)) c d
    (λ y g. sub_eq y (suc x) (a + c) (b + d) (omega arith))
    (λ y g. sym (is_neg (a + c) (b + d) (suc (x + y)) (omega arith))))

-- (a − b) − (c − d) is (a + d) − (b + c).
pub sub-sub : (a b c d : ℕ) → sub_ℕ a b -ℤ sub_ℕ c d ≡ sub_ℕ (a + d) (b + c)
sub-sub a b c d = ap (λ z. sub_ℕ a b +ℤ z) (sub_neg c d) ∙ sub-add a b d c

-- (a − b) × (c − d) is (a × c + b × d) − (a × d + b × c).
pub sub-mul : (a b c d : ℕ) → sub_ℕ a b *ℤ sub_ℕ c d ≡ sub_ℕ (a * c + b * d) (a * d + b * c)
sub-mul a b c d =
    sub_cases (λ z. z *ℤ sub_ℕ c d ≡ sub_ℕ (a * c + b * d) (a * d + b * c)) a b
    (λ x f. sub_cases (λ w. pos x *ℤ w ≡ sub_ℕ (a * c + b * d) (a * d + b * c)) c d
    (λ y g. sym (is_pos (a * c + b * d) (a * d + b * c) (x * y) (rw (f, g) (omega arith))))
    (λ y g. neg_of (x * suc y) (a * c + b * d) (a * d + b * c) (rw (f, ← g) (omega arith))))
    (λ x f. sub_cases (λ w. negsuc x *ℤ w ≡ sub_ℕ (a * c + b * d) (a * d + b * c)) c d
    (λ y g. neg_of (suc x * y) (a * c + b * d) (a * d + b * c) (rw (← f, g) (omega arith)))
    (λ y g. sym (is_pos (a * c + b * d) (a * d + b * c) (suc x * suc y) (rw (← f, ← g) (omega arith)))))

-- ---- order

-- A test of order is t, if t is what each of its two outcomes asks for.
pub ltb_by : (p q : ℕ) (t : Bool) → (p < q → t ≡ true) → (q ≤ p → t ≡ false) → ltb p q ≡ t
ltb_by p q t f g = pick (ltb p q) refl
  where
    pick : (s : Bool) → ltb p q ≡ s → ltb p q ≡ t
    pick true e = e ∙ sym (f (ltb→lt p q (subst T (sym e) tt)))
    pick false e = e ∙ sym (g (nltb→le p q (subst (λ (s : Bool). T (not s)) (sym e) tt)))

-- a − b < c − d is a + d < c + b.
pub sub_lt : (a b c d : ℕ) → lt_z (sub_ℕ a b) (sub_ℕ c d) ≡ ltb (a + d) (c + b)
sub_lt a b c d =
    sub_cases (λ z. lt_z z (sub_ℕ c d) ≡ ltb (a + d) (c + b)) a b
    (λ x f. sub_cases (λ w. lt_z (pos x) w ≡ ltb (a + d) (c + b)) c d
    (λ y g. ltb_by x y (ltb (a + d) (c + b)) (λ h. lt-ltb (a + d) (c + b) (omega arith)) (λ h. le-ltb (a + d) (c + b) (omega arith)))
    (λ y g. sym (le-ltb (a + d) (c + b) (omega arith))))
    (λ x f. sub_cases (λ w. lt_z (negsuc x) w ≡ ltb (a + d) (c + b)) c d
    (λ y g. sym (lt-ltb (a + d) (c + b) (omega arith)))
    (λ y g. ltb_by y x (ltb (a + d) (c + b)) (λ h. lt-ltb (a + d) (c + b) (omega arith)) (λ h. le-ltb (a + d) (c + b) (omega arith))))

-- Over one base, differences are ordered as the numbers are.
pub sub_lt_base : (a c b : ℕ) → lt_z (sub_ℕ a b) (sub_ℕ c b) ≡ ltb a c
sub_lt_base a c b =
    sub_lt a b c b ∙ ltb_by (a + b) (c + b) (ltb a c) (λ h. lt-ltb a c (omega arith)) (λ h. le-ltb a c (omega arith))

-- ---- remainder and quotient, over a base that the divisor divides

-- The two digits of a to base m, where a + x + 1 is q × m.
below_base : (a x q m : ℕ) → 0 < m → a + suc x ≡ q * m → a ≡ (q - suc (x / m)) * m + (m - 1 - x % m)
below_base a x q m hm e = go (q - suc (x / m)) (omega (arith, fewer))
  where
    fewer : x / m < q
    fewer = (div-lt_iff_lt-mul hm).1 (omega arith)

    go : (k : ℕ) → q ≡ k + suc (x / m) → a ≡ k * m + (m - 1 - x % m)
    go k f = omega (arith, rw f at e, div-add-mod' x m, mod-lt x hm)

-- (a − q × m) modulo m is a modulo m.
pub sub-mod : (a q m : ℕ) → 0 < m → mod_z (sub_ℕ a (q * m)) m ≡ a % m
unfolding mod_z
sub-mod a q m hm =
    sub_cases (λ z. mod_z z m ≡ a % m) a (q * m)
    (λ x f. sym (mul-add-mod_self_right q m x) ∙ ap (λ (n : ℕ). n % m) (sym f))
    (λ x f. sym (ap (λ (n : ℕ). n % m) (below_base a x q m hm f) ∙ digits_mod (q - suc (x / m)) (omega arith)))

-- (a − q × m) divided by m, rounded down, is a / m − q.
pub sub_floor : (a q m : ℕ) → 0 < m → floor_z (sub_ℕ a (q * m)) m ≡ sub_ℕ (a / m) q
unfolding floor_z
sub_floor a q m hm =
    sub_cases (λ z. floor_z z m ≡ sub_ℕ (a / m) q) a (q * m)
    (λ x f. sym (is_pos (a / m) q (x / m) (ap (λ (n : ℕ). n / m) f ∙ rw (add_comm (q * m) x, add-mul-div_right x q hm) (omega arith))))
    (λ x f. sym (is_neg (a / m) q (x / m) (low x f)))
  where
    low : (x : ℕ) → a + suc x ≡ q * m → a / m + suc (x / m) ≡ q
    low x f =
        let fewer : x / m < q = (div-lt_iff_lt-mul hm).1 (omega arith) in
        omega (arith, ap (λ (n : ℕ). n / m) (below_base a x q m hm f) ∙ digits_div (q - suc (x / m)) (omega arith))
