-- The two halves of the word are those that the code holds. Assumes nothing.
use mathlib.Core.Path.{sym, ◌∙◌}
use borrow.Author.Rules.{rules}
use Rattle.short.proofs.Shortening.{by_halves}
use Rattle.short.proofs.shorten.shorten.Goals as goal

pub returns : goal.returns
returns c = c.shorten_halves.ensures ∙ sym (by_halves _ c.args.w.lo c.args.w.hi (search rules))
