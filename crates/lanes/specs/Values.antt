-- The values of an instruction's channels: sixteen numbers, channel k's at k. Assumes nothing.
use Rattle.std.specs.Prelude.{◌≡◌, refl, List, ℕ, zero, suc, ◌+◌, ◌≤◌, ◌<◌, length, get_or, set, replicate}
use Rattle.std.proofs.Common.{◌∙◌, sym, subst, ⊎_elim, arith, add-one, eq-or-lt_of_le, le_of_suc-le-suc, length-set, get_or-set_same, get_or-set_other}
use Rattle.std.proofs.lemmas.List.{get_or-replicate}

-- The list with f k at each k below n.
unfoldable pub fill : (ℕ → ℕ) → ℕ → List ℕ → List ℕ
fill f zero l = l
fill f (suc n) l = set (fill f n l) n (f n)

-- Sixteen values, f k at each k below n, and 0 from n on.
unfoldable pub values : (ℕ → ℕ) → ℕ → List ℕ
values f n = fill f n (replicate 16 0)

-- ---- what stands where

-- Filling keeps the length.
pub length-fill : (f : ℕ → ℕ) (n : ℕ) (l : List ℕ) → length (fill f n l) ≡ length l
unfolding fill
length-fill f zero l = refl
length-fill f (suc n) l = rw length-set (length-fill f n l)

-- What stands below n is f's,
pub get_d_fill : (f : ℕ → ℕ) (n k : ℕ) (l : List ℕ) → k < n → n ≤ length l → get_or (fill f n l) k 0 ≡ f k
unfolding fill
get_d_fill f zero k l h hl = absurd (omega arith)
get_d_fill f (suc n) k l h hl =
    ⊎_elim
    (λ e. subst (λ (m : ℕ). get_or (set (fill f n l) n (f n)) m 0 ≡ f m) (sym e)
    (get_or-set_same (fill f n l) n (f n) 0 (omega (arith, length-fill f n l))))
    (λ q. get_or-set_other (fill f n l) n k (f n) 0 (λ e. omega arith) ∙ get_d_fill f n k l q (omega arith))
    (eq-or-lt_of_le (le_of_suc-le-suc h))

-- and the rest stays.
pub get_d_fill_above : (f : ℕ → ℕ) (n k : ℕ) (l : List ℕ) → n ≤ k → get_or (fill f n l) k 0 ≡ get_or l k 0
unfolding fill
get_d_fill_above f zero k l h = refl
get_d_fill_above f (suc n) k l h =
    get_or-set_other (fill f n l) n k (f n) 0 (λ e. omega arith) ∙ get_d_fill_above f n k l (omega arith)

-- Values are sixteen,
pub length-values : (f : ℕ → ℕ) (n : ℕ) → length (values f n) ≡ 16
unfolding values
length-values f n = length-fill f n (replicate 16 0)

-- channel k's is f k below n,
pub get_d_values : (f : ℕ → ℕ) (n k : ℕ) → k < n → n ≤ 16 → get_or (values f n) k 0 ≡ f k
unfolding values
get_d_values f n k h hn = get_d_fill f n k (replicate 16 0) h hn

-- and 0 from n on.
pub get_d_values_above : (f : ℕ → ℕ) (n k : ℕ) → n ≤ k → k < 16 → get_or (values f n) k 0 ≡ 0
unfolding values
get_d_values_above f n k h hk = get_d_fill_above f n k (replicate 16 0) h ∙ get_or-replicate 16 k 0 0 hk

-- Values are the same if they are so for every channel.
pub values_same : (f g : ℕ → ℕ) (n : ℕ) → ((k : ℕ) → k < n → f k ≡ g k) → values f n ≡ values g n
unfolding values fill
values_same f g zero h = refl
values_same f g (suc n) h = cc (h n (omega arith), values_same f g n (λ k q. h k (omega arith)))

-- One channel more.
pub values_more : (f : ℕ → ℕ) (k v : ℕ) (l : List ℕ) → l ≡ values f k → v ≡ f k → set l k v ≡ values f (k + 1)
unfolding values fill
values_more f k v l e h = rw (add-one k, e, h)
