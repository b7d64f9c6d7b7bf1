-- Three sets are stored, one after the other. Assumes nothing.
use borrow.Author.Rules.{rules}
use Rattle.short.specs.Sets.{joined, mark}
use Rattle.short.proofs.sets.join.Goals as goal

pub returns : goal.returns
unfolding joined mark
returns c = search rules
