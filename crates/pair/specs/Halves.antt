-- Two words are the same exactly if their halves are. Assumes nothing.
use Rattle.std.specs.Prelude.{Bool, true, false, not, ◌&&◌, ◌≡◌, refl, ℕ, ◌+◌, ◌*◌, ◌^◌, ◌<◌, eqb}
use Rattle.std.proofs.Common.{sym, ap, ◌∙◌, arith, eqb-true, eq-eqb, ne_eqb}
use Rattle.std.proofs.lemmas.Bool.{eqb-false}

-- Low halves that differ make words that differ.
pub low_differs : (a b c d : ℕ) → a < 2 ^ 64 → c < 2 ^ 64 → (a ≡ c → ⊥) → false ≡ eqb (a + b * 2 ^ 64) (c + d * 2 ^ 64)
low_differs a b c d p q n = sym (ne_eqb (a + b * 2 ^ 64) (c + d * 2 ^ 64) (λ e. n (omega arith)))

-- With the same low half the high one decides.
pub high_decides : (a b c d : ℕ) → a ≡ c → eqb b d ≡ eqb (a + b * 2 ^ 64) (c + d * 2 ^ 64)
high_decides a b c d e = go (eqb b d) refl
  where
    go : (t : Bool) → eqb b d ≡ t → t ≡ eqb (a + b * 2 ^ 64) (c + d * 2 ^ 64)
    go true h = let same = eqb-true b d h in sym (eq-eqb (a + b * 2 ^ 64) (c + d * 2 ^ 64) (omega arith))
    go false h = let other = eqb-false b d h in sym (ne_eqb (a + b * 2 ^ 64) (c + d * 2 ^ 64) (λ f. other (omega arith)))

-- Both halves decide.
halves_decide : (a b c d : ℕ) → a < 2 ^ 64 → c < 2 ^ 64 → (eqb a c && eqb b d) ≡ eqb (a + b * 2 ^ 64) (c + d * 2 ^ 64)
halves_decide a b c d p q = go (eqb a c) refl
  where
    go : (t : Bool) → eqb a c ≡ t → (t && eqb b d) ≡ eqb (a + b * 2 ^ 64) (c + d * 2 ^ 64)
    go true h = high_decides a b c d (eqb-true a c h)
    go false h = low_differs a b c d p q (eqb-false a c h)

not_true : (t : Bool) → not t ≡ true → t ≡ false
not_true true e = sym e
not_true false e = refl

not_false : (t : Bool) → not t ≡ false → t ≡ true
not_false true e = refl
not_false false e = sym e

-- The code's test, whether they differ.
module _ (a b c d : ℕ) (p : a < 2 ^ 64) (q : c < 2 ^ 64) (r : Bool) (e : r ≡ not (eqb a c && eqb b d)) where
  as_words : r ≡ not (eqb (a + b * 2 ^ 64) (c + d * 2 ^ 64))
  as_words = e ∙ ap not (halves_decide a b c d p q)

  pub halves_same : r ≡ false → a + b * 2 ^ 64 ≡ c + d * 2 ^ 64
  halves_same f = eqb-true _ _ (not_false (eqb (a + b * 2 ^ 64) (c + d * 2 ^ 64)) (sym as_words ∙ f))

  pub halves_differ : r ≡ true → a + b * 2 ^ 64 ≡ c + d * 2 ^ 64 → ⊥
  halves_differ f = eqb-false _ _ (not_true (eqb (a + b * 2 ^ 64) (c + d * 2 ^ 64)) (sym as_words ∙ f))
