-- Long, or by the short word. Assumes nothing.
use mathlib.Core.Path.{◌∙◌}
use borrow.Author.Tests.{ne_eqb}
use Rattle.short.specs.Shorter.{present_is}
use Rattle.listing.specs.Reading.{form_short}
use Rattle.listing.proofs.taken.form_taken.Goals as goal

pub returns-then-size-ne1 : goal.returns-then-size-ne1
returns-then-size-ne1 c = rw (ne_eqb _ _ c.if-size-ne1.true)

pub returns-else-size-ne1 : goal.returns-else-size-ne1
returns-else-size-ne1 c = c.is_some.ensures ∙ present_is _ ∙ form_short _ _ _ c.if-size-ne1.false c.shorten.ensures
