-- Each arm is an arm of the predicate: all ones, the complement of the votes, or these. Assumes nothing.
use mathlib.Core.Path.{◌∙◌}
use native.Mathlib.Omega.{arith}
use lib.Dec.{lit<}
use borrow.Author.Tests.{ne_eqb, eq-eqb}
use Rattle.paper.specs.Enable.{predicate, of_bits}
use Rattle.lanes.specs.Masks.{predicate_mask}
use Rattle.lanes.specs.VoteLaws.{vote_kept, vote_turned}
use Rattle.lanes.proofs.mask.predicate_mask.Goals as goal

pub returns-then-control-eq0 : goal.returns-then-control-eq0
unfolding predicate_mask predicate of_bits
returns-then-control-eq0 c = (rw c.if-control-eq0.true, lit< tt)

pub returns-then-inversion-eq1 : goal.returns-then-inversion-eq1
returns-then-inversion-eq1 c =
    let a = c.args in
    let control = ne_eqb a.control 0 c.if-control-eq0.false in
    rw c.vote_mask-votes.ensures.0
    (vote_turned a.control a.flag a.inversion control (eq-eqb a.inversion 1 c.if-inversion-eq1.true), omega arith)

pub returns-else-inversion-eq1 : goal.returns-else-inversion-eq1
returns-else-inversion-eq1 c =
    let a = c.args in
    let control = ne_eqb a.control 0 c.if-control-eq0.false in
    let v = c.vote_mask-votes.ensures in
    (v.0 ∙ vote_kept a.control a.flag a.inversion control (ne_eqb a.inversion 1 c.if-inversion-eq1.false), v.1)
