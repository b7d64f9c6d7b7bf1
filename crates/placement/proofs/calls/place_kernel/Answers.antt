-- The kernel is stored at the output's start. Assumes nothing.
use Rattle.paper.specs.Placing.{place_kernel_call}
use Rattle.placement.proofs.calls.place_kernel.Goals as goal

pub returns : goal.returns
unfolding place_kernel_call
returns c = rw (← c.kernel_bytes.ensures) c.deliver.ensures
