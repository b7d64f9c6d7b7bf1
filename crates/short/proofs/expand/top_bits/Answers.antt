-- In each form the sum of shifted fields is what the rows lay out. Assumes nothing.
use native.Mathlib.Omega.{arith}
use Rattle.short.proofs.expand.top_bits.Goals as goal

pub returns-then-immediate : goal.returns-then-immediate
returns-then-immediate c = rw c.if-immediate.true (omega arith)

pub returns : goal.returns
returns c = rw c.if-immediate.false (omega arith)
