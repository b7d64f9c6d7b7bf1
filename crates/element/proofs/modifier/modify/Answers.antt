-- The arms of the match are the tests of `modified`. Assumes nothing.
use mathlib.Core.Path.{ap, ◌∙◌}
use lib.IntN.{neg_ℤ}
use borrow.Author.Tests.{ne_eqb}
use Rattle.paper.specs.Value.{modified}
use Rattle.element.proofs.modifier.modify.Goals as goal

pub negated-requires-in-3 : goal.negated-requires-in-3
negated-requires-in-3 c = c.absolute-in-3.ensures.1 32 c.requires

pub returns-in-1 : goal.returns-in-1
unfolding modified
returns-in-1 c = (rw c.in-1.is c.absolute.ensures.0, c.absolute.ensures.1)

pub returns-in-2 : goal.returns-in-2
unfolding modified
returns-in-2 c = (rw c.in-2.is c.negated.ensures.0, c.negated.ensures.1)

pub returns-in-3 : goal.returns-in-3
unfolding modified
returns-in-3 c =
    let size = c.absolute-in-3.ensures in (
      rw c.in-3.is (c.negated-in-3.ensures.0 ∙ ap neg_ℤ size.0),
      λ k near. c.negated-in-3.ensures.1 k (size.1 k near),
    )

pub returns-in_default : goal.returns-in_default
unfolding modified
returns-in_default c =
    let r = c.in_default.in_default-own.rest in
    (simp (ne_eqb _ _ r.1, ne_eqb _ _ r.0.1, ne_eqb _ _ r.0.0.1), λ k near. near)
