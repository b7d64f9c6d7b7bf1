-- What the two calls ensure, put together. Assumes nothing.
use Rattle.std.proofs.Common.{ap, ◌∙◌}
use Rattle.paper.specs.Restricted.{vector_float, restricted_float}
use Rattle.single.proofs.restricted.vector_pattern.Goals as goal

pub returns : goal.returns
unfolding vector_float
returns c = c.restricted_pattern.ensures ∙ ap restricted_float c.byte_of.ensures
