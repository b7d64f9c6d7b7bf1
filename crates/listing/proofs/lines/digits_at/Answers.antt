-- Past the end there are none. Assumes nothing.
use native.Mathlib.Omega.{arith}
use lib.ListN.{drop}
use Rattle.listing.specs.Reading.{digits_past, digits_lt}
use Rattle.listing.proofs.lines.digits_at.Goals as goal

pub returns-then-text-from : goal.returns-then-text-from
returns-then-text-from c = digits_past c.args.text.now c.args.from c.if-text-from.true

pub returns : goal.returns
returns c =
    let a = c.args in
    let e = c.hex_digits.ensures in
    let l = digits_lt (drop a.from a.text.now) in
    (e, omega arith)
