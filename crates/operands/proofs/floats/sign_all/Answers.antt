-- No modifier changes nothing. Assumes nothing.
use mathlib.Core.Path.{refl}
use Rattle.paper.specs.Single.{sign_modified}
use Rattle.operands.proofs.floats.sign_all.Goals as goal

pub returns-else-modifier-ne0 : goal.returns-else-modifier-ne0
unfolding sign_modified
returns-else-modifier-ne0 c =
    record {
      sixteen = c.told-patterns;
      done = λ k h. (rw c.if-modifier-ne0.false refl, λ q. q);
      kept = λ k h. refl;
    }
