-- The callee's answer as a number, and what it leaves. Assumes nothing.
use mathlib.Core.Path.{sym, ap, ◌∙◌}
use Rattle.paper.specs.Calls.{as_number}
use Rattle.answers.specs.Small.{small_as}
use Rattle.answers.specs.Calls.{step_fine}
use Rattle.spokeshaver.proofs.spokeshaver_step.Goals as goal

pub number_of-requires : goal.number_of-requires
number_of-requires c = small_as _ _ (sym c.step.ensures.0) (step_fine _ _ _ _).small

pub returns : goal.returns
returns c =
    let made = c.step.ensures in
    (c.number_of.ensures ∙ ap as_number made.0, made.1, made.2)
