-- A field that ends below bit 64 is one of the low half. Assumes nothing.
use mathlib.Core.Path.{sym, ◌∙◌}
use Rattle.words.specs.Fields.{bits_within}
use Rattle.words.proofs.fields.low.Goals as goal

pub returns : goal.returns
returns c = (c.part.ensures.0 ∙ sym (bits_within 64 c.args.k c.args.n c.args.w.lo c.args.w.hi c.requires.0), c.part.ensures.1)
