-- Those of the mask wait, and the kernel goes on or jumps. Assumes nothing.
use lib.ListN.{length-set}
use Rattle.machine.specs.Branches.{ways_is, parks_onward}
use Rattle.machine.proofs.branch.park.Goals as goal

pub returns : goal.returns
returns c =
    let a = c.args in
    let e = c.post-awake.ensures in
    (parks_onward (ways_is a.ways) a.up a.here.now a.mask c.requires.wait _ _ e.0 e.1 c.onward-place.ensures, rw e.1 (length-set a.here.now _ _))
