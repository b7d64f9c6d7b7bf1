-- The channels that the masks tell are those of the state that is shown. Assumes nothing.
use mathlib.Core.Path.{refl, ap, ◌∙◌}
use Rattle.paper.specs.State.{state_bytes}
use Rattle.machine.specs.Ends.{leave_state}
use Rattle.machine.proofs.ends.leave.Goals as goal

pub write_state-requires : goal.write_state-requires
write_state-requires c = (c.channels_from.ensures _ c.requires.3.posted).1

pub returns : goal.returns
returns c =
    λ registers t shows.
    c.write_state.ensures registers
    ∙ ap state_bytes (leave_state registers _ _ _ t shows _ refl (c.channels_from.ensures _ shows.posted).0 refl)
