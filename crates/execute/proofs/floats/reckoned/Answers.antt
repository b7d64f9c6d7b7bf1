-- Each arm is the definition's. Assumes nothing.
use mathlib.Core.Path.{◌≡◌, refl, sym, ap, ◌∙◌}
use mathlib.Core.Bool.{Bool, true, false}
use Rattle.std.specs.Int.{from_bool}
use lib.IntN.{pos}
use Rattle.paper.specs.Element.{one_if, float_result}
use Rattle.execute.specs.Floats.{others_copy}
use Rattle.execute.proofs.floats.reckoned.Goals as goal

counted : (b : Bool) → pos (from_bool b) ≡ one_if b
counted true = refl
counted false = refl

pub returns-in-Cmp : goal.returns-in-Cmp
unfolding float_result
returns-in-Cmp c = rw (c.in-Cmp.is, c.from.ensures) (counted c.compare_pattern.result ∙ ap one_if c.compare_pattern.ensures)

pub returns-in-Add : goal.returns-in-Add
unfolding float_result
returns-in-Add c = rw c.in-Add.is (ap pos c.add_pattern.ensures)

pub returns-in-Mul : goal.returns-in-Mul
unfolding float_result
returns-in-Mul c = rw c.in-Mul.is (ap pos c.mul_pattern.ensures)

pub returns-in_default : goal.returns-in_default
returns-in_default c =
    sym (others_copy c.args.p c.in_default.not-Cmp c.in_default.not-Add c.in_default.not-Mul c.args.condition (pos c.args.x) (pos c.args.y))
