-- A rule that is broken says its number, where those before it hold. Assumes nothing.
use Rattle.std.proofs.Common.{sym, ◌∙◌}
use Rattle.paper.specs.Legal.{later}
use Rattle.judge.proofs.refusal.judge_operands.Goals as goal

pub returns-then-operand_rule_broken : goal.returns-then-operand_rule_broken
unfolding later
returns-then-operand_rule_broken g c =
    rw (sym c.plain_served.ensures ∙ c.if-not-plain_served.false, sym c.operand_rule_broken.ensures ∙ c.if-operand_rule_broken.true)

pub alignment_broken-requires : goal.alignment_broken-requires
alignment_broken-requires g c = c.requires

pub reach_broken-requires : goal.reach_broken-requires
reach_broken-requires g c = c.requires
