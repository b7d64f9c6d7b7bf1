-- The tests are those of `allowed`, in its order. Assumes nothing.
use Rattle.std.proofs.Math.Bool.{and_assoc}
use Rattle.short.specs.Shorter.{allowed}
use Rattle.short.proofs.shorten.may_shorten.Goals as goal

pub returns : goal.returns
unfolding allowed
returns c = simp (c.is_branch.ensures, c.operation_in.ensures, c.part.ensures.0, c.part-2.ensures.0, c.part-3.ensures.0, c.part-4.ensures.0, and_assoc)
