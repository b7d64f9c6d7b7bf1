-- The three sets are read, and the zeros below their lowest common bit counted. Assumes nothing.
use Rattle.short.specs.Sets.{first_common}
use Rattle.short.specs.SetLaws.{found_at, found_none}
use Rattle.short.proofs.sets.first_common.Goals as goal

pub returns-then-first-lt32 : goal.returns-then-first-lt32
unfolding first_common
returns-then-first-lt32 c = rw (← c.from-first.ensures) (found_at _ c.if-first-lt32.true)

pub returns-else-first-lt32 : goal.returns-else-first-lt32
unfolding first_common
returns-else-first-lt32 c = rw (← c.from-first.ensures) (found_none _ c.if-first-lt32.false)
