-- Unpacking shortens nothing; packing shortens, and 0 stands for no short word. Assumes nothing.
use borrow.Author.Rules.{rules}
use Rattle.laws.specs.Bits.{whole_lt}
use Rattle.packer.specs.Keeping.{form_kept}
use Rattle.packer.proofs.form.form.Goals as goal

pub returns-then-not-packs : goal.returns-then-not-packs
returns-then-not-packs c = rw c.if-not-packs.true

pub returns : goal.returns
returns c =
    let a = c.args in
    rw c.unwrap_or.ensures (form_kept a.packs c.if-not-packs.false _ _ _ (whole_lt a.w.lo a.w.hi (search rules) (search rules)) c.shorten.ensures)
