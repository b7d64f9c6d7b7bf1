-- The arms of the match are the numbers of the orders. Assumes nothing.
use mathlib.Core.Path.{◌∙◌, sym, ap}
use borrow.Author.Tests.{ne_eqb}
use Rattle.paper.specs.Single.{float}
use Rattle.paper.specs.Placing.{order_of}
use Rattle.placement.specs.declared.Order.TheVariants.{Shift, Place}
use Rattle.placement.specs.Orders.{Placement, answered}
use Rattle.placement.specs.Spots.{spot_is, spot_of}
use Rattle.placement.proofs.SameBits.{same_patterns}
use Rattle.placement.proofs.patterns.answer_spot.Goals as goal

pub returns-in-0 : goal.returns-in-0
unfolding order_of
returns-in-0 c = rw c.in-0.is

pub returns-in-1 : goal.returns-in-1
unfolding order_of
returns-in-1 c =
    let at = c.args.at in
    rw c.in-1.is
    (ap spot_is
    (c.answer_bits.ensures
    ∙ ap (λ (p : Placement). spot_of (answered (Shift p.c p.f) (float at.x) (float at.y))) c.from_bits-p.ensures))

pub returns-in_default : goal.returns-in_default
unfolding order_of
returns-in_default c =
    let args = c.args in
    let at = args.at in
    let r = c.in_default.in_default-own.rest in
    simp (ne_eqb _ _ r.1, ne_eqb _ _ r.0.1)
    (ap spot_is
    (c.answer_bits-in_default.ensures
    ∙ ap (λ (p : Placement). spot_of (answered (Place p) (float at.x) (float at.y))) c.from_bits.ensures)
    ∙ sym (same_patterns args.k at))
