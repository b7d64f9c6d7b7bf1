-- No bit of the two shifts is lost, and their difference is the product (`ex_shift_left`). Assumes nothing.
use native.Mathlib.Omega.{arith}
use Prim.Native.Nat.{ℕ, ◌^◌}
use mathlib.Core.Path.{ap, ◌∙◌}
use lib.IntN.{pos, ◌*ℤ◌}
use Rattle.element.specs.Biased.{ex}
use Rattle.element.proofs.Operations.{ex_shift_left, shift_left_fits}
use Rattle.element.proofs.shift.shift_left.Goals as goal

pub overflow_add-result : goal.overflow_add-result
overflow_add-result c =
    record { fits = shift_left_fits c.args.v c.shift_count-n.result c.shift_count-n.ensures.1 (omega arith) }

pub returns : goal.returns
returns c =
    let v = c.args.v in
    ex_shift_left v c.shift_count-n.result c.shift_count-n.ensures.1 (omega arith) (omega arith)
    ∙ ap (λ (n : ℕ). ex v *ℤ pos (2 ^ n)) c.shift_count-n.ensures.0
