-- The channels that wait at the place wake, and the mov moves. Assumes nothing.
use mathlib.Core.Path.{refl, sym, ◌∙◌}
use Rattle.paper.specs.Operation.{mov}
use Rattle.paper.specs.Machine.{perform}
use Rattle.words.specs.Words.{to_word}
use Rattle.execute.specs.Stores.{store_of}
use Rattle.machine.specs.Branches.{ways_is}
use Rattle.machine.specs.Steps.{pass_shown, step_shown}
use Rattle.machine.proofs.step.move_at.Goals as goal

pub returns-clause-shows : goal.returns-clause-shows
unfolding perform
returns-clause-shows c =
    let a = c.args in
    let e = c.rouse-awake.ensures in
    let moved = rw c.wide.ensures at c.transfer.ensures.registers_after in
    let kept = rw c.wide.ensures at c.transfer.ensures.flag0_value in
    λ t shows.
    rw (c.requires.w_value.0, ← shows.store)
    (pass_shown _ _ _ _ _ _ (step_shown a.registers.now a.addresses.now a.here.now a.s t shows c.requires.place_inside _ _ (c.from.ensures ∙ e.0) e.1) (sym c.from.ensures)
    mov (to_word a.w) (ways_is a.ways) (store_of a.registers.now a.s.flags a.addresses.now) c.requires.w_value.0 c.requires.w_value.1.acting refl moved kept)
