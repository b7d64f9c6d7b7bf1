-- A table that lists a rule's values says the rule at each entry; two rules with one table agree. Assumes nothing.
use Rattle.std.specs.Prelude.{List, [], ◌∷◌, ◌≡◌, ℕ, zero, suc, ◌+◌, ◌<◌, get_or}
use Rattle.std.proofs.Common.{◌∙◌, sym, ap, add-zero, zero-add, add-suc, suc-add, le_of_suc-le-suc, not-suc-le-zero}

-- The n values of f from i on.
abbrev pub values_from : (ℕ → ℕ) → ℕ → ℕ → List ℕ
values_from f i zero = []
values_from f i (suc n) = f i ∷ values_from f (suc i) n

value_from : (f : ℕ → ℕ) (n i k : ℕ) → k < n → get_or (values_from f i n) k 0 ≡ f (i + k)
value_from f zero i k h = absurd (not-suc-le-zero h)
value_from f (suc n) i zero h = ap f (sym (add-zero i))
value_from f (suc n) i (suc k) h = value_from f n (suc i) k (le_of_suc-le-suc h) ∙ ap f (suc-add i k ∙ sym (add-suc i k))

-- Entry k of the first n values is f's at k.
pub value_at : (f : ℕ → ℕ) (n k : ℕ) → k < n → get_or (values_from f 0 n) k 0 ≡ f k
value_at f n k h = value_from f n 0 k h ∙ ap f (zero-add k)

-- Where the first n values are the same, f and g agree below n.
pub values_agree : (f g : ℕ → ℕ) (n : ℕ) → values_from f 0 n ≡ values_from g 0 n → (k : ℕ) → k < n → f k ≡ g k
values_agree f g n e k h = sym (value_at f n k h) ∙ ap (λ (l : List ℕ). get_or l k 0) e ∙ value_at g n k h
