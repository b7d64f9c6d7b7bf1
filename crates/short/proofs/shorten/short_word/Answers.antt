-- The two parts are laid out by their rows, the second from bit 30 on. Assumes nothing.
use borrow.Author.Rules.{rules}
use Rattle.paper.specs.Shorten.{short_word}
use Rattle.short.proofs.shorten.short_word.Goals as goal

pub returns : goal.returns
unfolding short_word
returns c = search rules
