-- The next instruction gives the answer, or leaves it to those after it. Assumes nothing.
use mathlib.Core.Path.{sym, ap, ◌∙◌}
use Rattle.kernel.specs.Marks.{marked}
use Rattle.kernel.specs.Jumps.{first_out}
use Rattle.kernel.proofs.Jumping.{first_none, first_here, first_later}
use Rattle.kernel.proofs.jumps.first_astray.Goals as goal

pub returns-then-not-jump_lands : goal.returns-then-not-jump_lands
returns-then-not-jump_lands c =
    let land = marked c.args.marks.now in
    sym (first_here land _ _ (sym c.jump_lands.ensures ∙ c.if-not-jump_lands.true)) ∙ ap (first_out land) (sym c.in-Some.ensures.steps.0) ∙ c.loop-i.invariant

pub loop-i-preserved : goal.loop-i-preserved
loop-i-preserved c =
    let land = marked c.args.marks.now in
    sym (first_later land _ _ (sym c.jump_lands.ensures ∙ c.if-not-jump_lands.false)) ∙ ap (first_out land) (sym c.in-Some.ensures.steps.0) ∙ c.loop-i.invariant

pub returns : goal.returns
returns c =
    let land = marked c.args.marks.now in
    sym (first_none land) ∙ ap (first_out land) (sym c.in-None.ensures.steps.0) ∙ c.loop-i.invariant
