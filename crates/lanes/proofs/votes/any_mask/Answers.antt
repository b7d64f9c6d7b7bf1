-- Each joining makes groups of twice the size; PredCtrl says how many there are. Assumes nothing.
use native.Mathlib.Omega.{arith}
use borrow.Author.Rules.{rules}
use borrow.Author.Tests.{lt-ltb, le-ltb}
use Rattle.paper.specs.Enable.{group_of, of_bits}
use Rattle.lanes.specs.Masks.{lower_halves}
use Rattle.lanes.specs.VoteLaws.{joined_less, twos, fours, eights, sixteen}
use Rattle.lanes.proofs.votes.any_mask.Goals as goal

pub joined-twos-requires : goal.joined-twos-requires
unfolding lower_halves of_bits
joined-twos-requires c = search rules

pub returns-then-control-lt6 : goal.returns-then-control-lt6
unfolding group_of
returns-then-control-lt6 c =
    let a = c.args in
    rw (c.joined-twos.ensures.0, le-ltb a.control 4 (omega arith), lt-ltb a.control 6 c.if-control-lt6.true)
    (twos a.flag c.requires.0, joined_less 1 a.flag)

pub joined-fours-requires : goal.joined-fours-requires
unfolding lower_halves of_bits
joined-fours-requires c = search rules

pub returns-then-control-lt8 : goal.returns-then-control-lt8
unfolding group_of
returns-then-control-lt8 c =
    let a = c.args in
    let control = c.requires.1 in
    rw (
      c.joined-fours.ensures.0,
      c.joined-twos.ensures.0,
      le-ltb a.control 4 control,
      le-ltb a.control 6 (omega arith),
      lt-ltb a.control 8 c.if-control-lt8.true,
    )
    (fours a.flag c.requires.0, joined_less 2 _)

pub joined-eights-requires : goal.joined-eights-requires
unfolding lower_halves of_bits
joined-eights-requires c = search rules

pub returns-then-control-lt10 : goal.returns-then-control-lt10
unfolding group_of
returns-then-control-lt10 c =
    let a = c.args in
    rw (
      c.joined-eights.ensures.0,
      c.joined-fours.ensures.0,
      c.joined-twos.ensures.0,
      le-ltb a.control 4 (omega arith),
      le-ltb a.control 6 (omega arith),
      le-ltb a.control 8 (omega arith),
      lt-ltb a.control 10 c.if-control-lt10.true,
    )
    (eights a.flag c.requires.0, joined_less 4 _)

pub joined-requires : goal.joined-requires
unfolding lower_halves of_bits
joined-requires c = search rules

pub returns : goal.returns
unfolding group_of
returns c =
    let a = c.args in
    rw (
      c.joined.ensures.0,
      c.joined-eights.ensures.0,
      c.joined-fours.ensures.0,
      c.joined-twos.ensures.0,
      le-ltb a.control 4 (omega arith),
      le-ltb a.control 6 (omega arith),
      le-ltb a.control 8 (omega arith),
      le-ltb a.control 10 (omega arith),
    )
    (sixteen a.flag c.requires.0, joined_less 8 _)
