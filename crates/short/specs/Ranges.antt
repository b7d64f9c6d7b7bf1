-- Rule 2, table by table. Assumes nothing.
use Rattle.std.specs.Prelude.{Bool, true, ◌&&◌, List, [], ◌∷◌, map, ◌≡◌, refl, ℕ, zero, suc, ◌+◌, ◌^◌, ◌<◌, ◌≤◌, ltb}
use Rattle.std.specs.List.{list_all, range_with_len}
use Rattle.std.proofs.Math.Bool.{and_assoc, and-true}
use Rattle.std.proofs.lemmas.List.Folds.{list_all-append, list_all-map}
use Rattle.std.proofs.lemmas.List.FromFn.{map-range_with_len_more}
use Rattle.std.proofs.Common.{sym, ap, ap₂, ◌∙◌, add-zero, add-suc, add-one, arith, lt-ltb, le-ltb}
use Rattle.paper.specs.Dictionary.{Dictionary, table_width, fit_below, in_range}

-- The n numbers from `base` on are below `most`.
unfoldable pub table_fits : Dictionary → ℕ → ℕ → ℕ → Bool
table_fits D base most zero = true
table_fits D base most (suc n) = table_fits D base most n && ltb (D (base + n)) most

-- One number more.
pub fits_more : (D : Dictionary) (base most n : ℕ) → (table_fits D base most n && ltb (D (base + n)) most) ≡ table_fits D base most (n + 1)
unfolding table_fits
fits_more D base most n = rw (add-one n)

-- One more of any test.
all_more : (f : ℕ → Bool) (n : ℕ) → list_all f (range_with_len 0 (n + 1)) ≡ (list_all f (range_with_len 0 n) && f n)
all_more f n =
    sym (list_all-map (λ x. x) f (range_with_len 0 (n + 1)))
    ∙ ap (list_all (λ (b : Bool). b)) (map-range_with_len_more f 0 n n (omega arith))
    ∙ list_all-append (λ x. x) (map f (range_with_len 0 n)) (f n ∷ [])
    ∙ ap₂ ◌&&◌ (list_all-map (λ x. x) f (range_with_len 0 n)) (and-true (f n))

-- Whether all n numbers are below `most`, one after the other.
pub all_fits : (D : Dictionary) (base most n : ℕ) → list_all (λ i. ltb (D (base + i)) most) (range_with_len 0 n) ≡ table_fits D base most n
unfolding table_fits
all_fits D base most zero = refl
all_fits D base most (suc n) =
    ap (λ (k : ℕ). list_all (λ (i : ℕ). ltb (D (base + i)) most) (range_with_len 0 k)) (sym (add-one n))
    ∙ all_more (λ i. ltb (D (base + i)) most) n
    ∙ ap (λ (b : Bool). b && ltb (D (base + n)) most) (all_fits D base most n)

-- The numbers before a table and those of the table, whose numbers have all one width.
fits_table : (D : Dictionary) (base width : ℕ) → ((k : ℕ) → k < 32 → table_width (base + k) ≡ width) → (n : ℕ) → n ≤ 32
    → fit_below D (base + n) ≡ (fit_below D base && table_fits D base (2 ^ width) n)
unfolding fit_below table_fits
fits_table D base width same zero h = ap (fit_below D) (add-zero base) ∙ sym (and-true (fit_below D base))
fits_table D base width same (suc n) h =
    ap (fit_below D) (add-suc base n)
    ∙ ap₂ (λ (x : Bool) (y : ℕ). x && ltb (D (base + n)) (2 ^ y)) (fits_table D base width same n (omega arith)) (same n (omega arith))
    ∙ and_assoc (fit_below D base) (table_fits D base (2 ^ width) n) (ltb (D (base + n)) (2 ^ width))

-- All four tables.
pub four_tables : (D : Dictionary)
    → (((table_fits D 0 (2 ^ 17) 32 && table_fits D 32 (2 ^ 18) 32) && table_fits D 64 (2 ^ 15) 32) && table_fits D 96 (2 ^ 12) 32) ≡ in_range D
unfolding fit_below table_width
four_tables D =
    let first = fits_table D 0 17 (λ k h. rw (lt-ltb (0 + k) 32 (omega arith))) 32 (omega arith) in
    let second = fits_table D 32 18 (λ k h. rw (le-ltb (32 + k) 32 (omega arith), lt-ltb (32 + k) 64 (omega arith))) 32 (omega arith) in
    let third =
    fits_table D 64 15 (λ k h. rw (le-ltb (64 + k) 32 (omega arith), le-ltb (64 + k) 64 (omega arith), lt-ltb (64 + k) 96 (omega arith))) 32 (omega arith) in
    let fourth =
    fits_table D 96 12 (λ k h. rw (le-ltb (96 + k) 32 (omega arith), le-ltb (96 + k) 64 (omega arith), le-ltb (96 + k) 96 (omega arith))) 32 (omega arith) in
    sym
    (fourth
    ∙ ap (λ (x : Bool). x && table_fits D 96 (2 ^ 12) 32)
    (third ∙ ap (λ (x : Bool). x && table_fits D 64 (2 ^ 15) 32) (second ∙ ap (λ (x : Bool). x && table_fits D 32 (2 ^ 18) 32) first)))
