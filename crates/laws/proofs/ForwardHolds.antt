-- What follows from the order of numbers: whether a kernel's jumps go forward is told by its program, so packing keeps it. Assumes nothing.
use Rattle.std.specs.Prelude.{Bool, true, false, ◌≡◌, ℕ, suc, ◌+◌, ◌<◌, ◌≤◌, ltb, eqb, ℤ, pos, negsuc, length}
use Rattle.std.proofs.Math.Bool.{◌&&◌}
use Rattle.std.proofs.lemmas.Bool.{false≢true, eqb-false}
use mathlib.Core.List.{List, [], ◌∷◌, map}
use Rattle.std.proofs.Math.Path.{refl, ap, ap₂}
use Rattle.std.proofs.Common.{sym, ◌∙◌, arith, eqb-true, ltb-true, ltb-false, lt-ltb, le-ltb}
use Rattle.paper.specs.Kernel.{Instr}
use Rattle.paper.specs.Jump.{next_of, end_from, jump_lands, targets_land, targets_of}
use Rattle.paper.specs.Forward.{lie_after, forward}
use Rattle.paper.specs.Packing.{index}
use Rattle.paper.specs.Program.{goal_of, line_of, program}
use Rattle.laws.specs.Names.{Laid, AllLand, Sound}
use Rattle.laws.specs.Places.{index-here, index-there, index_le, Names, lands_names}
use Rattle.laws.specs.Truth.{both_true}
use Rattle.laws.specs.Forward.{inside_between, later_number, goals_after, lines_forward}

-- ---- numbers are in the order of places

-- Of an instruction and a place that names something, the numbers are in the places' order.
pub order_same : (k : List Instr) → Laid 0 k → (p q : ℕ) → index k p < length k → Names k q → ltb p q ≡ ltb (index k p) (index k q)
order_same k l p q h names = go (ltb p q) refl
  where
    back : q ≤ p → index k q ≤ index k p
    back le = split (eqb q p) refl (ltb (index k q) (length k)) refl
      where
        split : (b : Bool) → eqb q p ≡ b → (c : Bool) → ltb (index k q) (length k) ≡ c → index k q ≤ index k p
        split true e c f = let same : index k q ≡ index k p = ap (index k) (eqb-true q p e) in omega arith
        split false e true f = omega (arith, later_number 0 k q p l (ltb-true _ _ f) (omega (arith, eqb-false q p e)))
        split false e false f =
            let last : q ≡ end_from 0 k = names.last (omega (arith, index_le k q, ltb-false (index k q) (length k) f)) in
            absurd (omega (arith, (inside_between 0 k p l h).1))

    go : (b : Bool) → ltb p q ≡ b → b ≡ ltb (index k p) (index k q)
    go true e = sym (lt-ltb _ _ (later_number 0 k p q l h (ltb-true _ _ e)))
    go false e = sym (le-ltb _ _ (back (ltb-false _ _ e)))

-- ---- forward, by the program

module _ (k : List Instr) (laid : Laid 0 k) where
  -- Targets that land lie after an instruction as their numbers do.
  targets_after : (p : ℕ) → index k p < length k → (zs : List ℤ) → targets_land k zs ≡ true → lie_after p zs ≡ goals_after (index k p) (map (goal_of k) zs)
  unfolding goals_after
  targets_after p h [] e = refl
  targets_after p h (pos q ∷ zs) e =
      let t = both_true (jump_lands k (pos q)) (targets_land k zs) e in
      ap₂ ◌&&◌ (order_same k laid p q h (lands_names k laid q t.0)) (targets_after p h zs t.1)
  targets_after p h (negsuc q ∷ zs) e = absurd (false≢true e)

  -- The instructions r that stand from place a on, the first of which has number n.
  lines_after : (a n : ℕ) (r : List Instr) → Laid a r → AllLand k r → ((p : ℕ) → a ≤ p → index k p ≡ n + index r p) → n + length r ≡ length k
      → forward r ≡ lines_forward n (map (line_of k) r)
  unfolding Laid AllLand forward lines_forward
  lines_after a n [] l land same all = refl
  lines_after a n (i ∷ r) l land same all =
      let own : index k i.place ≡ n = same i.place (omega (arith, l.0)) ∙ omega (arith, index-here i r i.place refl) in
      ap₂ ◌&&◌
      (targets_after i.place (omega arith) (targets_of i) land.0 ∙ ap (λ (m : ℕ). goals_after m (map (goal_of k) (targets_of i))) own)
      (lines_after (next_of i) (suc n) r l.2 land.1
      (λ p h. same p (omega (arith, l.0, l.1)) ∙ omega (arith, index-there i r p (λ e. omega (arith, l.1)))) (omega arith))

-- Whether a sound kernel's jumps go forward is told by its program.
pub forward-program : (k : List Instr) → Sound k → forward k ≡ lines_forward 0 (program k)
forward-program k a = lines_after k a.laid 0 0 k a.laid a.land (λ p h. omega arith) (omega arith)

-- So two sound kernels with one program both go forward, or neither does.
pub forward_same : (k l : List Instr) → Sound k → Sound l → program k ≡ program l → forward k ≡ forward l
forward_same k l a b e = forward-program k a ∙ ap (lines_forward 0) e ∙ sym (forward-program l b)
