-- Laws of the dictionary's rule 2: the test says that each number fits its table. Assumes nothing.
use Rattle.std.specs.Prelude.{true, ◌≡◌, refl, ℕ, zero, suc, ◌^◌, ◌<◌}
use Rattle.std.proofs.Common.{subst, arith, ltb-true, lt-ltb}
use Rattle.std.proofs.Math.Decide.{dec_lt}
use Rattle.paper.specs.Dictionary.{Dictionary, table_width, fit_below, in_range}
use Rattle.laws.specs.Truth.{both_true}

-- If the test on the first n numbers is true, then each of them fits.
fit_below_lem : (D : Dictionary) (n : ℕ) → fit_below D n ≡ true → (i : ℕ) → i < n → D i < 2 ^ table_width i
unfolding fit_below
fit_below_lem D zero e i h = absurd (omega arith)
fit_below_lem D (suc n) e i h = either (fit_below_lem D n (both_true (fit_below D n) _ e).0 i) (dec_lt i n)
  where
    either : (i < n → D i < 2 ^ table_width i) → Dec (i < n) → D i < 2 ^ table_width i
    either before (yes l) = before l
    either before (no l) =
        let same : n ≡ i = omega arith in
        subst (λ (j : ℕ). D j < 2 ^ table_width j) same (ltb-true _ _ (both_true (fit_below D n) _ e).1)

-- If each of the first n numbers fits, then the test on them is true.
below_fit : (D : Dictionary) (n : ℕ) → ((i : ℕ) → i < n → D i < 2 ^ table_width i) → fit_below D n ≡ true
unfolding fit_below
below_fit D zero h = refl
below_fit D (suc n) h = rw (below_fit D n (λ i l. h i (omega arith)), lt-ltb _ _ (h n (omega arith)))

-- In a dictionary that passes rule 2 each number fits its table.
pub in_range_lem : (D : Dictionary) → in_range D ≡ true → (i : ℕ) → i < 128 → D i < 2 ^ table_width i
in_range_lem D = fit_below_lem D 128

-- A dictionary each of whose numbers fits its table passes rule 2.
pub all_in_range : (D : Dictionary) → ((i : ℕ) → i < 128 → D i < 2 ^ table_width i) → in_range D ≡ true
all_in_range D = below_fit D 128
