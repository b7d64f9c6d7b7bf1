-- A field above bit 64 is one of the high half. Assumes nothing.
use mathlib.Core.Path.{sym, ◌∙◌}
use borrow.Author.Rules.{rules}
use Rattle.laws.specs.Bits.{bits-high}
use Rattle.words.proofs.fields.high.Goals as goal

pub returns : goal.returns
returns c = (c.part.ensures.0 ∙ sym (bits-high 64 c.args.k c.args.n c.args.w.hi (search rules)), c.part.ensures.1)
