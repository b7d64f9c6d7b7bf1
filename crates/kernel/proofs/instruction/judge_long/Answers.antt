-- The parts are the definition's parts, in its order. Assumes nothing.
use mathlib.Core.Path.{sym, ap, ◌∙◌}
use Rattle.paper.specs.Operation.{is_listed}
use Rattle.kernel.specs.Judging.{long_unlisted, long_listed}
use Rattle.kernel.proofs.instruction.judge_long.Goals as goal

pub returns-then-not-is_listed : goal.returns-then-not-is_listed
returns-then-not-is_listed c = sym (long_unlisted _ (sym (c.is_listed.ensures ∙ ap is_listed c.operation.ensures) ∙ c.if-not-is_listed.true))

pub returns : goal.returns
returns c = c.judge_word.ensures ∙ sym (long_listed _ (sym (c.is_listed.ensures ∙ ap is_listed c.operation.ensures) ∙ c.if-not-is_listed.false))
