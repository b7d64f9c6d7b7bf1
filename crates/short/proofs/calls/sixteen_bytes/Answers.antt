-- The bytes fill the array. Assumes nothing.
use mathlib.Core.Path.{refl, ◌∙◌}
use Rattle.short.proofs.Calling.{array_put}
use Rattle.short.proofs.calls.sixteen_bytes.Goals as goal

pub returns : goal.returns
returns c = c.write16.ensures ∙ array_put 16 _ _ refl
