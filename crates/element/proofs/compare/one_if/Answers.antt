-- The branch is the outcome. Assumes nothing.
use Rattle.element.specs.Base.{ex-pos}
use Rattle.element.proofs.compare.one_if.Goals as goal

pub returns-then-outcome : goal.returns-then-outcome
returns-then-outcome c = rw c.if-outcome.true (ex-pos 1)

pub returns-else-outcome : goal.returns-else-outcome
returns-else-outcome c = rw c.if-outcome.false (ex-pos 0)
