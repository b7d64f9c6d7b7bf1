-- Where the mask has no channel all places stay. Assumes nothing.
use mathlib.Core.Path.{refl}
use native.Mathlib.Omega.{arith}
use Rattle.machine.specs.Together.{bit_zero}
use Rattle.machine.proofs.posting.place_those.Goals as goal

pub returns-then-mask-eq0 : goal.returns-then-mask-eq0
returns-then-mask-eq0 c = record { sixteen = omega arith; done = λ k h. rw (c.if-mask-eq0.true, bit_zero k); kept = λ k h. refl }
