-- Numbers are ordered as what they stand for, and the arms of the match are the tests of `compares`. Assumes nothing.
use mathlib.Core.Path.{sym, ap, ◌∙◌}
use mathlib.Core.Bool.{not}
use borrow.Author.Tests.{ne_eqb}
use Rattle.paper.specs.Element.{compares}
use Rattle.element.proofs.Operations.{diff_zero, diff_pos, diff_neg, le_not}
use Rattle.element.proofs.compare.compare.Goals as goal

pub returns-in-1 : goal.returns-in-1
unfolding compares
returns-in-1 c = rw c.in-1.is (sym (diff_zero c.args.a c.args.b))

pub returns-in-2 : goal.returns-in-2
unfolding compares
returns-in-2 c = rw c.in-2.is (ap not (sym (diff_zero c.args.a c.args.b)))

pub returns-in-3 : goal.returns-in-3
unfolding compares
returns-in-3 c = rw c.in-3.is (sym (diff_pos c.args.a c.args.b))

pub returns-in-4 : goal.returns-in-4
unfolding compares
returns-in-4 c =
    let x = c.args in
    rw c.in-4.is (le_not x.b x.a ∙ ap not (sym (diff_neg x.a x.b)))

pub returns-in-5 : goal.returns-in-5
unfolding compares
returns-in-5 c = rw c.in-5.is (sym (diff_neg c.args.a c.args.b))

pub returns-in_default : goal.returns-in_default
unfolding compares
returns-in_default c =
    let x = c.args in
    let r = c.in_default.in_default-own.rest in
    simp (ne_eqb _ _ r.1, ne_eqb _ _ r.0.1, ne_eqb _ _ r.0.0.1, ne_eqb _ _ r.0.0.0.1, ne_eqb _ _ r.0.0.0.0.1)
    (le_not x.a x.b ∙ ap not (sym (diff_pos x.a x.b)))
