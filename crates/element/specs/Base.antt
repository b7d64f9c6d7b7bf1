-- What n stands for, by what n is: naturals, remainders and order. Assumes nothing.
use Rattle.std.specs.Prelude.{◌≡◌, refl, Bool, true, false, cond, ℕ, ◌+◌, ◌*◌, ◌-◌, ◌%◌, ◌^◌, ◌≤◌, ltb, pos}
use Rattle.std.proofs.Common.{◌∙◌, ap, arith, pow-add, pow_pos}
use Rattle.std.proofs.Math.IntN.{sub_ℕ}
use Rattle.std.specs.Int.Signed.{lt_z}
use Rattle.paper.specs.Value.{mod_z}
use Rattle.laws.specs.Differences.{is_pos, sub-mod, sub_lt_base}
use Rattle.element.specs.Biased.{ex}

-- 2^63 + n stands for n.
pub ex-pos : (n : ℕ) → ex (2 ^ 63 + n) ≡ pos n
unfolding ex
ex-pos n = is_pos (2 ^ 63 + n) (2 ^ 63) n refl

-- 2^63 is a multiple of every lesser power.
pub base_multiple : (k : ℕ) → k ≤ 63 → 2 ^ 63 ≡ 2 ^ (63 - k) * 2 ^ k
base_multiple k l =
    let e : 63 ≡ 63 - k + k = omega arith in
    ap (λ (n : ℕ). 2 ^ n) e ∙ pow-add 2 (63 - k) k

-- So a number and what it stands for have the same lowest bits.
pub ex-mod : (k a : ℕ) → k ≤ 63 → mod_z (ex a) (2 ^ k) ≡ a % 2 ^ k
unfolding ex
ex-mod k a l =
    ap (λ (b : ℕ). mod_z (sub_ℕ a b) (2 ^ k)) (base_multiple k l) ∙ sub-mod a (2 ^ (63 - k)) (2 ^ k) (pow_pos k)

-- Numbers are ordered as what they stand for.
pub ex_lt : (x y : ℕ) → lt_z (ex x) (ex y) ≡ ltb x y
unfolding ex
ex_lt x y = sub_lt_base x y (2 ^ 63)

-- A choice stands for the choice.
pub ex-cond : (b : Bool) (x y : ℕ) → ex (cond b x y) ≡ cond b (ex x) (ex y)
ex-cond true x y = refl
ex-cond false x y = refl
