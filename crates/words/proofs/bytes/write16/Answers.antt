-- A long word is stored half by half. Assumes nothing.
use borrow.Author.Rules.{rules}
use Rattle.words.specs.Bytes.{halves_put}
use Rattle.words.proofs.bytes.write16.Goals as goal

pub returns : goal.returns
returns c =
    let a = c.args in
    rw (c.write-2.ensures, c.write.ensures)
    (halves_put a.out.now a.from a.w.lo a.w.hi (search rules))
