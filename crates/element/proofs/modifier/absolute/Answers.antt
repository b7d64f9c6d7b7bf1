-- What is less than 0 is negated, the rest is its own magnitude. Assumes nothing.
use mathlib.Core.Path.{◌∙◌}
use Rattle.element.proofs.Operations.{ex_abs_low, ex_abs_high}
use Rattle.element.proofs.modifier.absolute.Goals as goal

pub returns-then-v-lt-BASE : goal.returns-then-v-lt-BASE
returns-then-v-lt-BASE c =
    (c.negated.ensures.0 ∙ ex_abs_low c.args.v c.if-v-lt-BASE.true, c.negated.ensures.1)

pub returns-else-v-lt-BASE : goal.returns-else-v-lt-BASE
returns-else-v-lt-BASE c = (ex_abs_high c.args.v c.if-v-lt-BASE.false, λ k near. near)
