-- The bytes fill the array. Assumes nothing.
use mathlib.Core.Path.{refl, ◌∙◌}
use Rattle.short.proofs.Calling.{array_put}
use Rattle.short.proofs.calls.eight_bytes.Goals as goal

pub returns : goal.returns
returns c = c.write.ensures ∙ array_put 8 _ _ refl
