-- The call is the relayout that shortens. Assumes nothing.
use Rattle.paper.specs.Calls.{pack_call}
use Rattle.packer.proofs.pack.pack.Goals as goal

pub returns : goal.returns
unfolding pack_call
returns c = c.relay.ensures
