-- The masks are those of the contract. Assumes nothing.
use mathlib.Core.Path.{refl}
use native.Mathlib.Omega.{arith}
use Rattle.machine.specs.Together.{or_either}
use Rattle.machine.proofs.posts.rouse.Goals as goal

pub returns : goal.returns
returns c = (or_either _ _ (omega arith) (omega arith), refl)
