-- The channels that were read are those of the bytes, and so are those that are posted. Assumes nothing.
use mathlib.Core.List.{[]}
use mathlib.Core.Path.{refl, ap}
use Rattle.paper.specs.Machine as paper
use Rattle.paper.specs.State.{state_of}
use Rattle.machine.specs.Ends.{inside_places, enter_shows}
use Rattle.machine.proofs.ends.enter.Goals as goal

pub post_all-requires : goal.post_all-requires
unfolding state_of
post_all-requires c =
    let e = c.read_state-s.ensures in
    let same = ap (λ (t : paper.State). t.channels) (e.0 []) in
    ((e.1 c.requires.0).channels, c.requires.1, inside_places c.read_state-s.result.channels _ (rw same c.requires.2))

pub returns : goal.returns
returns c =
    let e = c.read_state-s.ensures in
    let p = c.post_all.ensures in
    record { by_index_2 = enter_shows _ _ _ _ e.0 refl refl refl p.0; here_length = p.1 }
