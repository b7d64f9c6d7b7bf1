-- The tests are the definition's, in its order. Assumes nothing.
use mathlib.Core.Path.{sym, ap, ◌∙◌}
use Rattle.paper.specs.Expand.{is_short}
use Rattle.paper.specs.Kernel.{judge_short, judge_long}
use Rattle.kernel.specs.Judging.{at_none, at_short, at_cut, at_long}
use Rattle.kernel.proofs.instruction.judge_at.Goals as goal

pub returns-then-left-lt8 : goal.returns-then-left-lt8
returns-then-left-lt8 c = sym (at_none _ _ _ _ c.if-left-lt8.true)

pub returns-then-is_short : goal.returns-then-is_short
returns-then-is_short c =
    let e = c.read8-s.ensures in
    c.judge_short.ensures ∙ ap (judge_short _ _) e
    ∙ sym (at_short _ _ _ _ c.if-left-lt8.false (sym (c.is_short.ensures ∙ ap is_short e) ∙ c.if-is_short.true))

pub returns-then-left-lt16 : goal.returns-then-left-lt16
returns-then-left-lt16 c =
    let e = c.read8-s.ensures in
    sym (at_cut _ _ _ _ c.if-left-lt8.false (sym (c.is_short.ensures ∙ ap is_short e) ∙ c.if-is_short.false) c.if-left-lt16.true)

pub returns : goal.returns
returns c =
    let e = c.read8-s.ensures in
    c.judge_long.ensures ∙ ap judge_long c.read16-w.ensures
    ∙ sym (at_long _ _ _ _ c.if-left-lt8.false (sym (c.is_short.ensures ∙ ap is_short e) ∙ c.if-is_short.false) c.if-left-lt16.false)
