-- One place where there is a short word, else two. Assumes nothing.
use borrow.Author.Rules.{rules}
use Rattle.packer.specs.Forms.{recalled-none, recalled-some}
use Rattle.packer.proofs.form.places_taken.Goals as goal

pub returns-then-short-eq0 : goal.returns-then-short-eq0
returns-then-short-eq0 c = (rw (recalled-none _ c.if-short-eq0.true), search rules, search rules)

pub returns-else-short-eq0 : goal.returns-else-short-eq0
returns-else-short-eq0 c = (rw (recalled-some _ c.if-short-eq0.false), search rules, search rules)
