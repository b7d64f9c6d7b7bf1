-- Where a signed distance leads, reckoned without whole numbers. Assumes nothing.
use Rattle.std.specs.Prelude.{Bool, true, false, cond, ◌≡◌, refl, ℕ, ◌+◌, ◌-◌, ◌*◌, ◌^◌, ◌<◌, ◌≤◌, ltb, ℤ, pos, negsuc, ◌+ℤ◌}
use Rattle.std.proofs.Common.{sym, ap, ◌∙◌, arith}
use Rattle.std.proofs.Math.IntN.{sub_ℕ, pos-+ℤ-pos}
use borrow.Author.Tests.{ltb-true, ltb-false, lt-ltb, le-ltb}
use Rattle.paper.specs.Jump.{signed_of}
use Rattle.laws.specs.Differences.{sub-add, sub_eq, is_pos, is_neg, sub-pos}

-- What is said of a whole number: `there` of a place, `below` of what lies below 0.
abbrev pub said_of : {A : Type 0} → (ℕ → A) → A → ℤ → A
said_of there below (pos p) = there p
said_of there below (negsuc p) = below

-- The same of where a distance d of the signed range −half to half − 1 leads from place a.
unfoldable pub said_from : {A : Type 0} → (ℕ → A) → A → ℕ → ℕ → ℕ → A
said_from there below a d half = cond (ltb d half) (there (a + d)) (cond (ltb (a + d) (2 * half)) below (there (a + d - 2 * half)))

-- A place and a difference make one difference.
far_of : (a d b : ℕ) → pos a +ℤ sub_ℕ d b ≡ sub_ℕ (a + d) b
far_of a d b =
    ap (λ (x : ℤ). x +ℤ sub_ℕ d b) (sub-pos a 0) ∙ sub-add (0 + a) 0 d b ∙ sub_eq (0 + a + d) (0 + b) (a + d) b (omega arith)

module _ {A : Type 0} (there : ℕ → A) (below : A) (a d half : ℕ) where
  pub from_forward : d < half → said_from there below a d half ≡ there (a + d)
  unfolding said_from
  from_forward h = rw (lt-ltb _ _ h)

  pub from_below : half ≤ d → a + d < 2 * half → said_from there below a d half ≡ below
  unfolding said_from
  from_below h l = rw (le-ltb _ _ h, lt-ltb _ _ l)

  pub from_back : half ≤ d → 2 * half ≤ a + d → said_from there below a d half ≡ there (a + d - 2 * half)
  unfolding said_from
  from_back h l = rw (le-ltb _ _ h, le-ltb _ _ l)

  -- It leads where the paper says.
  pub said_from_lem : (n : ℕ) → 2 ^ (n - 1) ≡ half → 2 ^ n ≡ 2 * half → said_from there below a d half ≡ said_of there below (pos a +ℤ signed_of n d)
  said_from_lem n e f = rw (e, f) (go (ltb d half) refl)
    where
      back : half ≤ d → said_from there below a d half ≡ said_of there below (pos a +ℤ sub_ℕ d (2 * half))
      back h = split (ltb (a + d) (2 * half)) refl ∙ ap (said_of there below) (sym (far_of a d (2 * half)))
        where
          split : (t : Bool) → ltb (a + d) (2 * half) ≡ t → said_from there below a d half ≡ said_of there below (sub_ℕ (a + d) (2 * half))
          split true l =
              let lt = ltb-true _ _ l in
              from_below h lt ∙ sym (ap (said_of there below) (is_neg (a + d) (2 * half) (2 * half - (a + d) - 1) (omega arith)))
          split false l =
              let le = ltb-false _ _ l in
              from_back h le ∙ sym (ap (said_of there below) (is_pos (a + d) (2 * half) (a + d - 2 * half) (omega arith)))

      go : (t : Bool) → ltb d half ≡ t → said_from there below a d half ≡ said_of there below (pos a +ℤ cond t (pos d) (sub_ℕ d (2 * half)))
      go true h = from_forward (ltb-true _ _ h) ∙ sym (ap (said_of there below) (pos-+ℤ-pos a d))
      go false h = back (ltb-false _ _ h)
