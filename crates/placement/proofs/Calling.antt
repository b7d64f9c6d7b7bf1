-- What the call of an order answers, case by case. Assumes nothing.
use mathlib.Core.List.{List, ◌++◌}
use mathlib.Core.Path.{◌≡◌, refl, sym, ap, ◌∙◌}
use Prim.Native.Nat.{ℕ, ◌≤◌, ◌<◌}
use Rattle.std.proofs.Common.{length, take, drop, drop-drop}
use borrow.Author.Tests.{lt-ltb, le-ltb, eq-eqb, ne_eqb}
use Rattle.paper.specs.Limits.{register_bytes}
use Rattle.paper.specs.Calls.{Answer, verdict, refusal, Written, kept, deliver}
use Rattle.paper.specs.Placing.{record_bytes, Placement, Point, placement_of, point_bytes, answered, order_of, loaded_with, place_call, place_load_call}
use Rattle.paper.specs.Assembler.{to}

-- A call that is refused so gives this answer and leaves its output.
pub as_written : (answer : Answer) (output : List ℕ) (w : Written) → w ≡ kept answer output → (answer ≡ w.answer) × (output ≡ w.output)
as_written answer output w e = (ap (λ (x : Written). x.answer) (sym e), ap (λ (x : Written). x.output) (sym e))

-- What is so of a call's answer and output is so of an equal call's.
pub as_called : (answer : Answer) (output : List ℕ) (v w : Written) → w ≡ v → (answer ≡ v.answer) × (output ≡ v.output) → (answer ≡ w.answer) × (output ≡ w.output)
as_called answer output v w e h = rw e h

module _ (order : ℕ) (bytes : List ℕ) (at : Point) (out : List ℕ) where
  pub place_unsized : (length bytes ≡ record_bytes → ⊥) → place_call order bytes at out ≡ kept (refusal 1 0) out
  unfolding place_call
  place_unsized h = rw (ne_eqb (length bytes) record_bytes h)

  pub place_unknown : length bytes ≡ record_bytes → 3 ≤ order → place_call order bytes at out ≡ kept (refusal 7 0) out
  unfolding place_call
  place_unknown h k = rw (eq-eqb (length bytes) record_bytes h, le-ltb order 3 k)

  pub place_answer : length bytes ≡ record_bytes → order < 3
      → (p : Placement) → p ≡ placement_of bytes
      → (to : Point) → to ≡ answered (order_of order p) at
      → (told : List ℕ) → told ≡ point_bytes to
      → place_call order bytes at out ≡ deliver told out
  unfolding place_call
  place_answer h k p ep to et told e =
      rw (eq-eqb (length bytes) record_bytes h, lt-ltb order 3 k)
      (ap (λ (l : List ℕ). deliver l out)
      (ap (λ (q : Placement). point_bytes (answered (order_of order q) at)) (sym ep) ∙ ap point_bytes (sym et) ∙ sym e))

-- ---- loading

module _ (bytes registers : List ℕ) where
  pub load_unsized : (length bytes ≡ record_bytes → ⊥) → place_load_call bytes registers ≡ kept (refusal 1 0) registers
  unfolding place_load_call
  load_unsized h = rw (ne_eqb (length bytes) record_bytes h)

  pub load_elsewhere : length bytes ≡ record_bytes → (length registers ≡ register_bytes → ⊥) → place_load_call bytes registers ≡ kept (refusal 1 0) registers
  unfolding place_load_call
  load_elsewhere h k = rw (eq-eqb (length bytes) record_bytes h, ne_eqb (length registers) register_bytes k)

  pub load_done : (after : List ℕ) → length bytes ≡ record_bytes → length registers ≡ register_bytes → after ≡ take 192 registers ++ (bytes ++ drop 24 (drop 192 registers))
      → (verdict 0 0 ≡ (place_load_call bytes registers).answer) × (after ≡ (place_load_call bytes registers).output)
  unfolding place_load_call loaded_with
  load_done after h k ea =
      rw (eq-eqb (length bytes) record_bytes h, eq-eqb (length registers) register_bytes k)
      (refl, ea ∙ ap (λ (r : List ℕ). take 192 registers ++ (bytes ++ r)) (drop-drop 24 192 registers))
