-- A branch is judged by its bits below 48 alone: with another distance it is judged as before. Assumes nothing.
use Rattle.std.specs.Prelude.{Bool, ◌≡◌, ℕ, ◌+◌, ◌≤◌}
use Rattle.std.proofs.Math.Bool.{false, ◌&&◌}
use Rattle.std.proofs.Common.{ap, ◌∙◌, arith}
use Rattle.std.proofs.Math.Path.{ap₂}
use Rattle.paper.specs.Bits.{bits}
use Rattle.paper.specs.Operation.{Branch, jmpi, if, else, endif, while, break, cont, branch, operation_of, operation}
use Rattle.paper.specs.Legal.{reserved_set, control_served, branch_served, own_needs, later, refusal_of}

-- Two words have the same fields below bit 48.
abbrev pub SameBelow48 : ℕ → ℕ → Type 0
SameBelow48 v w = (lo n : ℕ) → lo + n ≤ 48 → bits v lo n ≡ bits w lo n

module _ (v w : ℕ) (same : SameBelow48 v w) where
  pub operation_kept : operation v ≡ operation w
  operation_kept = ap operation_of (same 0 7 (omega arith))

  control_kept : (compares saturates : Bool) → control_served compares saturates v ≡ control_served compares saturates w
  unfolding control_served
  control_kept compares saturates =
      rw (
        same 8 1 (omega arith),
        same 28 1 (omega arith),
        same 21 3 (omega arith),
        same 12 2 (omega arith),
        same 16 4 (omega arith),
        same 24 4 (omega arith),
        same 31 1 (omega arith),
      )

  needs_kept : (b : Branch) → own_needs b v ≡ own_needs b w
  needs_kept jmpi = rw (same 21 3 (omega arith), same 42 2 (omega arith), same 44 3 (omega arith))
  needs_kept if = rw (same 21 3 (omega arith), same 12 2 (omega arith), same 9 1 (omega arith))
  needs_kept else = rw (same 21 3 (omega arith), same 12 2 (omega arith), same 9 1 (omega arith))
  needs_kept endif = rw (same 21 3 (omega arith), same 12 2 (omega arith), same 9 1 (omega arith))
  needs_kept while = rw (same 21 3 (omega arith), same 12 2 (omega arith), same 9 1 (omega arith))
  needs_kept break = rw (same 21 3 (omega arith), same 12 2 (omega arith), same 9 1 (omega arith))
  needs_kept cont = rw (same 21 3 (omega arith), same 12 2 (omega arith), same 9 1 (omega arith))

  served_kept : (b : Branch) → branch_served b v ≡ branch_served b w
  unfolding branch_served
  served_kept b = ap₂ ◌&&◌ (control_kept false false) (needs_kept b)

  pub refusal_kept : (b : Branch) → operation w ≡ branch b → refusal_of v ≡ refusal_of w
  unfolding refusal_of reserved_set later
  refusal_kept b e =
      let f : operation v ≡ branch b = operation_kept ∙ e in
      rw (e, f, same 7 1 (omega arith), served_kept b)
