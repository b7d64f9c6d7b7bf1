-- What a walk that accepts has gone over: instructions that stand one after the other from where it began to the end, each of which passed.
-- Stated over any judgement, so that nothing here depends on the rules themselves. Assumes nothing.
use Rattle.std.specs.Prelude.{Bool, length}
use Rattle.std.proofs.Math.Bool.{true, false, cond}
use mathlib.Core.List.{List, [], ◌∷◌}
use Rattle.std.proofs.Math.Path.{◌≡◌, refl, ap, subst}
use Rattle.std.proofs.Common.{sym, ◌∙◌}
use Prim.Native.Nat.{ℕ, zero, suc, ◌+◌, ◌*◌, ◌/◌, ◌%◌, ◌<◌, ◌≤◌}
use native.Mathlib.Omega.{arith}
use Rattle.std.proofs.Math.Dec.{ltb}
use borrow.Author.Tests.{ltb-true, ltb-false}
use Rattle.paper.specs.Kernel.{Instr, Judged, refused, passed, Parsed, bad, good, prepend, enter, walk}
use Rattle.paper.specs.Jump.{end_from}
use Rattle.laws.specs.Names.{Laid}

-- P of the byte offset, size and word of each instruction.
unfoldable pub Each : (ℕ → ℕ → ℕ → Type 0) → List Instr → Type 0
Each P [] = Unit {0}
Each P (i ∷ k) = P (8 * i.place) i.size i.word × Each P k

-- What is known of an accepted walk from byte `from` to byte `end`, of at most n instructions.
pub record Walked (P : ℕ → ℕ → ℕ → Type 0) (end n from : ℕ) (k : List Instr) : Type 0 where
  pub laid : Laid (from / 8) k
  pub ends : 8 * end_from (from / 8) k ≡ end
  pub each : Each P k
  pub few : length k ≤ n

-- What each passed instruction brings: it is not empty, ends in time, and has P.
abbrev pub Brings : (ℕ → Judged) → ℕ → (ℕ → ℕ → ℕ → Type 0) → Type 0
Brings judge end P = (from size w : ℕ) → from < end → judge from ≡ passed size w → (0 < size) × (from + 8 * size ≤ end) × P from size w

pub prepend-good : (i : Instr) (q : Parsed) (k : List Instr) → prepend i q ≡ good k → (r : List Instr) × (q ≡ good r) × (k ≡ i ∷ r)
prepend-good i (bad n o) k e = let z : ◌≡◌ {A = ℕ} 0 1 = cc in absurd (omega arith)
prepend-good i (good r) k e = (r, refl, cc)

module _ (P : ℕ → ℕ → ℕ → Type 0) (judge : ℕ → Judged) (end : ℕ) (brings : Brings judge end P) where
  -- the walk's end
  nothing_left : (n from : ℕ) → from % 8 ≡ 0 → from ≤ end → (end ≤ from) → (k : List Instr) → good [] ≡ good k → Walked P end n from k
  unfolding Laid end_from Each
  nothing_left n from aligned le ge k e =
      let s : [] ≡ k = cc in
      subst (λ (k : List Instr). Walked P end n from k) s (record { laid = tt; ends = omega arith; each = tt; few = omega arith })

  one_more : (n from size w : ℕ) → from % 8 ≡ 0 → from < end → judge from ≡ passed size w → (r : List Instr) → Walked P end n (from + 8 * size) r
      → Walked P end (suc n) from (record { place = from / 8; size = size; word = w } ∷ r)
  unfolding Laid end_from Each
  one_more n from size w aligned lt j r v =
      let b = brings from size w lt j in
      let next : (from + 8 * size) / 8 ≡ from / 8 + size = omega arith in
      let same : 8 * (from / 8) ≡ from = omega arith in
      record {
        laid = (refl, b.0, subst (λ (a : ℕ). Laid a r) next v.laid);
        ends = ap (λ (a : ℕ). 8 * end_from a r) (sym next) ∙ v.ends;
        each = (subst (λ (a : ℕ). P a size w) (sym same) b.2, v.each);
        few = omega (arith, v.few);
      }

  pub walked : (n from : ℕ) → from % 8 ≡ 0 → from ≤ end → (k : List Instr) → walk judge end n from ≡ good k → Walked P end n from k
  unfolding walk
  walked zero from aligned le k e = go (ltb from end) refl e
    where
      go : (t : Bool) → ltb from end ≡ t → cond t (bad 17 from) (good []) ≡ good k → Walked P end zero from k
      go true h e = let z : ◌≡◌ {A = ℕ} 0 1 = cc in absurd (omega arith)
      go false h e = nothing_left zero from aligned le (ltb-false from end h) k e
  walked (suc n) from aligned le k e = go (ltb from end) refl (judge from) refl (λ m. walked n m) e
    where
      go : (t : Bool) → ltb from end ≡ t → (v : Judged) → judge from ≡ v
          → ((m : ℕ) → m % 8 ≡ 0 → m ≤ end → (r : List Instr) → walk judge end n m ≡ good r → Walked P end n m r)
          → cond t (enter from v (walk judge end n)) (good []) ≡ good k → Walked P end (suc n) from k
      go false h v j ih e = nothing_left (suc n) from aligned le (ltb-false from end h) k e
      go true h (refused x) j ih e = let z : ◌≡◌ {A = ℕ} 0 1 = cc in absurd (omega arith)
      go true h (passed size w) j ih e =
          let i : Instr = record { place = from / 8; size = size; word = w } in
          let q = prepend-good i (walk judge end n (from + 8 * size)) k e in
          let lt = ltb-true from end h in
          let b = brings from size w lt j in
          subst (λ (k : List Instr). Walked P end (suc n) from k) (sym q.2)
          (one_more n from size w aligned lt j q.0 (ih (from + 8 * size) (omega arith) b.1 q.0 q.1))
