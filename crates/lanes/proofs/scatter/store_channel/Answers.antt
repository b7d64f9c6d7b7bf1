-- The branch is the choice that the contract names. Assumes nothing.
use Rattle.lanes.proofs.scatter.store_channel.Goals as goal

pub returns-then-bit : goal.returns-then-bit
returns-then-bit c =
    rw (← c.bit.ensures, c.if-bit.true)
    c.write_element.ensures
