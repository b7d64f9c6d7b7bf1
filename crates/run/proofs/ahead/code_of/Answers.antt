-- The highest bit is added where the word is unusual. Assumes nothing.
use native.Mathlib.Omega.{arith}
use Rattle.run.proofs.ahead.code_of.Goals as goal

pub returns-then-unusual : goal.returns-then-unusual
returns-then-unusual c = rw c.if-unusual.true

pub returns-else-unusual : goal.returns-else-unusual
returns-else-unusual c = rw c.if-unusual.false (omega arith)
