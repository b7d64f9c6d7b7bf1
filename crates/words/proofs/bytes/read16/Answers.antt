-- A long word's two halves are the numbers of its first and of its last eight bytes. Assumes nothing.
use mathlib.Core.Path.{sym}
use borrow.Author.Rules.{rules}
use Rattle.laws.specs.Bytes.{number_at_halves}
use Rattle.words.proofs.bytes.read16.Goals as goal

pub returns : goal.returns
returns c =
    let a = c.args in
    rw (c.read8-lo.ensures, c.read8-hi.ensures) (sym (number_at_halves a.bytes.now a.from (search rules)))
