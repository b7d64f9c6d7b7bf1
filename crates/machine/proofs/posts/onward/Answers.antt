-- The test is the one of the contract. Assumes nothing.
use native.Mathlib.Omega.{arith}
use borrow.Author.Tests.{ne_eqb}
use lib.ListN.{get_or}
use Rattle.machine.specs.Together.{or_either}
use Rattle.machine.proofs.posts.onward.Goals as goal

pub returns-then-up-here-eq0 : goal.returns-then-up-here-eq0
returns-then-up-here-eq0 c = rw (← or_either c.args.up (get_or c.args.here.now c.args.ways.next 0) (omega arith) (omega arith), c.if-up-here-eq0.true)

pub returns-else-up-here-eq0 : goal.returns-else-up-here-eq0
returns-else-up-here-eq0 c =
    rw (← or_either c.args.up (get_or c.args.here.now c.args.ways.next 0) (omega arith) (omega arith), ne_eqb _ _ c.if-up-here-eq0.false)
