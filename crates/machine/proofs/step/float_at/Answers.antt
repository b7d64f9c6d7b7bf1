-- The channels that wait at the place wake, and the operation works on its floats. Assumes nothing.
use mathlib.Core.Path.{refl, sym, ◌∙◌}
use Rattle.paper.specs.Machine.{perform}
use Rattle.words.specs.Operations.{plain_is}
use Rattle.words.specs.Words.{to_word}
use Rattle.execute.specs.Stores.{store_of}
use Rattle.machine.specs.Branches.{ways_is}
use Rattle.machine.specs.Steps.{pass_shown, step_shown}
use Rattle.machine.proofs.step.float_at.Goals as goal

pub returns-clause-by_index : goal.returns-clause-by_index
unfolding perform
returns-clause-by_index c =
    let a = c.args in
    let e = c.rouse-awake.ensures in
    let after = c.reckon-flags.ensures in
    λ addresses t shows.
    rw (c.requires.w_value.0, ← shows.store)
    (pass_shown _ _ _ _ addresses _ (step_shown a.registers.now addresses a.here.now a.s t shows c.requires.place_inside _ _ (c.from.ensures ∙ e.0) e.1) (sym c.from.ensures)
    (plain_is a.p) (to_word a.w) (ways_is a.ways) (store_of a.registers.now a.s.flags addresses) c.requires.w_value.0 c.requires.w_value.1.acting refl
    (after.by_index addresses) (after.by_index_2 addresses))
