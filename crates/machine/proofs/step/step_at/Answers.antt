-- The channels that wait at the place wake, and the word's operation is performed. Assumes nothing.
use mathlib.Core.Path.{ap, ◌∙◌}
use Rattle.paper.specs.Operation.{operation_of}
use Rattle.machine.specs.Steps.{step_shown}
use Rattle.machine.proofs.step.step_at.Goals as goal

pub returns-clause-by_index : goal.returns-clause-by_index
returns-clause-by_index c =
    let a = c.args in
    let e = c.rouse-up.ensures in
    λ addresses t shows.
    rw (← (c.operation_here-o.ensures ∙ ap operation_of c.opcode.ensures.0), ← shows.store)
    (c.perform.ensures.by_index addresses _ (step_shown a.registers.now addresses a.here.now a.s t shows c.requires.place_inside _ _ e.0 e.1))
