-- The parts are the definition's parts, in its order; 5 is said by two tests. Assumes nothing.
use mathlib.Core.Path.{sym, ap, ◌∙◌}
use Rattle.paper.specs.Operation.{is_listed, is_branch}
use Rattle.paper.specs.Kernel.{judge_word}
use Rattle.kernel.specs.Judging.{short_unlisted, short_branch, short_untaken, short_taken}
use Rattle.kernel.proofs.instruction.judge_short.Goals as goal

pub returns-then-not-is_listed : goal.returns-then-not-is_listed
returns-then-not-is_listed c = sym (short_unlisted _ _ _ (sym (c.is_listed.ensures ∙ ap is_listed c.operation_in.ensures) ∙ c.if-not-is_listed.true))

pub returns-then-is_branch : goal.returns-then-is_branch
returns-then-is_branch c = sym (short_branch _ _ _ (sym (c.is_listed.ensures ∙ ap is_listed c.operation_in.ensures) ∙ c.if-not-is_listed.false) (sym (c.is_branch.ensures ∙ ap is_branch c.operation_in-2.ensures) ∙ c.if-is_branch.true))

pub returns-in-LongOnly : goal.returns-in-LongOnly
returns-in-LongOnly c = sym (short_untaken _ _ _ (sym (c.is_listed.ensures ∙ ap is_listed c.operation_in.ensures) ∙ c.if-not-is_listed.false) (sym (c.is_branch.ensures ∙ ap is_branch c.operation_in-2.ensures) ∙ c.if-is_branch.false) (rw c.in-LongOnly.is))

pub returns-in-LongAndShort : goal.returns-in-LongAndShort
returns-in-LongAndShort c = c.judge_word.ensures ∙ ap (judge_word 1) c.expand.ensures ∙ sym (short_taken _ _ _ (sym (c.is_listed.ensures ∙ ap is_listed c.operation_in.ensures) ∙ c.if-not-is_listed.false) (sym (c.is_branch.ensures ∙ ap is_branch c.operation_in-2.ensures) ∙ c.if-is_branch.false) (rw c.in-LongAndShort.is))
