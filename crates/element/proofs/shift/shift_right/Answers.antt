-- Dividing by a power divides the base too: what is lost of it is put back (`ex_shift_right`). Assumes nothing.
use native.Mathlib.Omega.{arith}
use Prim.Native.Nat.{ℕ, ◌^◌}
use mathlib.Core.Path.{ap, ◌∙◌}
use Rattle.paper.specs.Value.{floor_z}
use Rattle.element.specs.Biased.{ex}
use Rattle.element.proofs.Operations.{ex_shift_right}
use Rattle.element.proofs.shift.shift_right.Goals as goal

pub returns : goal.returns
returns c =
    let v = c.args.v in
    ex_shift_right v c.shift_count-n.result (omega arith) ∙ ap (λ (n : ℕ). floor_z (ex v) (2 ^ n)) c.shift_count-n.ensures.0
