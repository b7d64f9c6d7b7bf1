-- Below PredCtrl 4 the bits themselves; else any, or all by the complement on both sides. Assumes nothing.
use mathlib.Core.Path.{◌∙◌}
use Prim.Native.Nat.{◌%◌}
use native.Mathlib.Omega.{arith}
use borrow.Author.Tests.{eq-eqb, ne_eqb}
use Rattle.lanes.specs.VoteLaws.{votes_alone, vote_any, vote_all}
use Rattle.lanes.proofs.votes.vote_mask.Goals as goal

pub returns-then-control-lt4 : goal.returns-then-control-lt4
returns-then-control-lt4 c =
    let a = c.args in
    (votes_alone a.control a.flag c.if-control-lt4.true, omega arith)

pub returns-then-control-eq0 : goal.returns-then-control-eq0
returns-then-control-eq0 c =
    let a = c.args in
    (c.any_mask.ensures.0 ∙ vote_any a.control a.flag (eq-eqb (a.control % 2) 0 c.if-control-eq0.true), c.any_mask.ensures.1)

pub returns-else-control-eq0 : goal.returns-else-control-eq0
returns-else-control-eq0 c =
    let a = c.args in
    rw c.any_mask-else-control-eq0.ensures.0
    (vote_all a.control a.flag (ne_eqb (a.control % 2) 0 c.if-control-eq0.false), omega arith)
