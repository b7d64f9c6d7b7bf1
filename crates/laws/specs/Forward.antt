-- Jumps that go forward, by the numbers of instructions. Assumes nothing.
-- That a kernel's program tells whether its jumps do, so that packing keeps it, is in proofs/ForwardHolds.
use Rattle.std.specs.Prelude.{Bool, true, ℕ, suc, ◌<◌, ◌≤◌, ltb, length}
use Rattle.std.proofs.Math.Bool.{◌&&◌}
use mathlib.Core.List.{List, [], ◌∷◌}
use Rattle.std.proofs.Common.{arith}
use Rattle.paper.specs.Kernel.{Instr}
use Rattle.paper.specs.Jump.{next_of, end_from}
use Rattle.paper.specs.Packing.{index}
use Rattle.paper.specs.Program.{Line}
use Rattle.laws.specs.Names.{Laid}
use Rattle.laws.specs.Places.{here, there, at, index-here, index-there, end_after}

-- ---- numbers are in the order of places

-- What starts in a kernel starts no earlier than the kernel, and before its end.
pub inside_between : (a : ℕ) (k : List Instr) (p : ℕ) → Laid a k → index k p < length k → (a ≤ p) × (p < end_from a k)
unfolding Laid index end_from
inside_between a [] p l h = absurd (omega arith)
inside_between a (i ∷ k) p l h =
    elim (at i p) [
      | here e ↦ (omega (arith, l.0), omega (arith, l.1, end_after (next_of i) k l.2))
      | there e ↦
          let b = inside_between (next_of i) k p l.2 (omega (arith, index-there i k p e)) in
          (omega (arith, l.0, l.1, b.0), b.1)
    ]

-- An instruction's number is less than that of any later place, be it a start or not.
pub later_number : (a : ℕ) (k : List Instr) (p q : ℕ) → Laid a k → index k p < length k → p < q → index k p < index k q
unfolding Laid index
later_number a [] p q l h lt = absurd (omega arith)
later_number a (i ∷ k) p q l h lt =
    elim (at i p) [
      | here e ↦ omega (arith, index-here i k p e, index-there i k q (λ f. omega arith))
      | there e ↦
          let n = index-there i k p e in
          let low = (inside_between (next_of i) k p l.2 (omega arith)).0 in
          let m = index-there i k q (λ f. omega (arith, l.1)) in
          omega (arith, later_number (next_of i) k p q l.2 (omega arith) lt)
    ]

-- ---- forward, by the program

-- Every goal of a list has a number above n.
unfoldable pub goals_after : ℕ → List ℕ → Bool
goals_after n [] = true
goals_after n (g ∷ gs) = ltb n g && goals_after n gs

-- Every line's goals have numbers above the line's own, the first line's being n.
unfoldable pub lines_forward : ℕ → List Line → Bool
lines_forward n [] = true
lines_forward n (l ∷ ls) = goals_after n l.goals && lines_forward (suc n) ls
