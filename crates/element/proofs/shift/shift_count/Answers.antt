-- A number has the lowest bits of what it stands for (`ex-mod`). Assumes nothing.
use native.Mathlib.Omega.{arith}
use mathlib.Core.Path.{sym}
use Rattle.element.specs.Base.{ex-mod}
use Rattle.element.proofs.shift.shift_count.Goals as goal

pub returns : goal.returns
returns c = (sym (ex-mod 5 c.args.count (omega arith)), omega arith)
