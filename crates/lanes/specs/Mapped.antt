-- What a loop over channels leaves in the sixteen numbers of an array. Assumes nothing.
use Rattle.std.specs.Prelude.{◌≡◌, refl, List, ℕ, ◌+◌, ◌≤◌, ◌<◌, length, get_or, set}
use Rattle.std.proofs.Common.{sym, ◌∙◌, subst, ⊎_elim, arith, eq-or-lt_of_le, length-set, get_or-set_same, get_or-set_other}

-- Of each of the n first channels k, R holds of k, its old number and its new one; the other numbers stay.
pub record Mapped (R : ℕ → ℕ → ℕ → Type 0) (n : ℕ) (old new : List ℕ) : Type 0 where
  pub sixteen : length new ≡ 16
  pub done : (k : ℕ) → k < n → R k (get_or old k 0) (get_or new k 0)
  pub kept : (k : ℕ) → n ≤ k → get_or new k 0 ≡ get_or old k 0

module _ (R : ℕ → ℕ → ℕ → Type 0) where
  -- Before the first channel all is as it was.
  pub mapped_none : (old : List ℕ) → length old ≡ 16 → Mapped R 0 old old
  mapped_none old l = record { sixteen = l; done = λ k h. absurd (omega arith); kept = λ k h. refl }

  -- One channel more, whose number is still the old one.
  pub mapped_more : (n : ℕ) (old new : List ℕ) (v : ℕ) → n < 16 → Mapped R n old new → R n (get_or new n 0) v → Mapped R (n + 1) old (set new n v)
  mapped_more n old new v below m r =
      record {
        sixteen = length-set new n v ∙ m.sixteen;
        done = λ k h. ⊎_elim (λ e. at_last k e) (λ q. before k q) (eq-or-lt_of_le (upto k h));
        kept = λ k h. get_or-set_other new n k v 0 (λ e. omega arith) ∙ m.kept k (omega arith);
      }
    where
      upto : (k : ℕ) → k < n + 1 → k ≤ n
      upto k h = omega arith

      at_last : (k : ℕ) → k ≡ n → R k (get_or old k 0) (get_or (set new n v) k 0)
      at_last k e =
          subst (λ (i : ℕ). R i (get_or old i 0) (get_or (set new n v) i 0)) (sym e)
          (rw (get_or-set_same new n v 0 (omega (arith, m.sixteen)), ← (m.kept n (omega arith))) r)

      before : (k : ℕ) → k < n → R k (get_or old k 0) (get_or (set new n v) k 0)
      before k q = rw (get_or-set_other new n k v 0 (λ e. omega arith)) (m.done k q)

-- What is weaker holds too.
pub mapped_weaker : (R S : ℕ → ℕ → ℕ → Type 0) (n : ℕ) (old new : List ℕ) → ((k a b : ℕ) → k < n → R k a b → S k a b) → Mapped R n old new → Mapped S n old new
mapped_weaker R S n old new f m = record { sixteen = m.sixteen; done = λ k h. f k (get_or old k 0) (get_or new k 0) h (m.done k h); kept = m.kept }
