-- A NaN's pattern, above the infinity's without its sign, is the one NaN. Assumes nothing.
use Rattle.std.proofs.Common.{sym, ◌∙◌, arith, lit<}
use Rattle.laws.specs.Nan.{nan_above, no_nan_below}
use Rattle.single.proofs.value.float_of.Goals as goal

pub returns-then-x-gt2139095040 : goal.returns-then-x-gt2139095040
returns-then-x-gt2139095040 c = nan_above 2143289344 (lit< tt) ∙ sym (nan_above c.args.x (omega (arith, c.if-x-gt2139095040.true)))

pub float_from_bits-result : goal.float_from_bits-result
float_from_bits-result c = rw (no_nan_below c.args.x (omega (arith, c.if-x-gt2139095040.false))) tt
