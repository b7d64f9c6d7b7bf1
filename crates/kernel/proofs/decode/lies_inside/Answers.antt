-- A place past the largest lies past every kernel's end. Assumes nothing.
use Prim.Native.Nat.{◌*◌}
use lib.ListN.{length}
use mathlib.Core.Path.{sym}
use native.Mathlib.Omega.{arith}
use borrow.Author.Tests.{le-ltb}
use Rattle.kernel.proofs.decode.lies_inside.Goals as goal

pub returns-then-place : goal.returns-then-place
returns-then-place c =
    let a = c.args in
    sym (le-ltb (8 * a.place) (length a.kernel.now) (omega arith))
