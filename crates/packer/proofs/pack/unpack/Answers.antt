-- The call is the relayout that shortens nothing. Assumes nothing.
use Rattle.paper.specs.Calls.{unpack_call}
use Rattle.packer.proofs.pack.unpack.Goals as goal

pub returns : goal.returns
unfolding unpack_call
returns c = c.relay.ensures
