-- By the form. Assumes nothing.
use native.Mathlib.Omega.{arith}
use Rattle.listing.specs.Writing.{short_form, long_form}
use Rattle.listing.proofs.write.lines_length.Goals as goal

pub returns-then-i-eq1 : goal.returns-then-i-eq1
returns-then-i-eq1 c =
    let w = c.width-digits.ensures in
    let f = short_form c.args.i.size c.if-i-eq1.true in
    (omega (arith, w.0, f), omega (arith, w.1))

pub returns : goal.returns
returns c =
    let w = c.width-digits.ensures in
    let f = long_form c.args.i.size c.if-i-eq1.false in
    (omega (arith, w.0, f), omega (arith, w.1))
