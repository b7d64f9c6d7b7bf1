use native.Mathlib.Omega.{arith}
use Rattle.paper.specs.Region.{element_at}
use Rattle.words.proofs.region.element_at.Goals as goal

pub returns : goal.returns
unfolding element_at
returns c = (cc, omega arith)
