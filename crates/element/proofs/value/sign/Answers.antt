-- The branch is the test of `sign_bit`. Assumes nothing.
use Rattle.element.proofs.Types.{sign_some, sign_none}
use Rattle.element.proofs.value.sign.Goals as goal

pub returns-then-kind-eq1 : goal.returns-then-kind-eq1
returns-then-kind-eq1 c = rw c.ones.ensures (sign_some c.args.kind c.requires c.if-kind-eq1.true)

pub returns-else-kind-eq1 : goal.returns-else-kind-eq1
returns-else-kind-eq1 c = sign_none c.args.kind c.if-kind-eq1.false
