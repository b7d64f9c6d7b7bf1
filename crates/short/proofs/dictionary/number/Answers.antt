-- Number i is written by the four bytes from 4 × i on. Assumes nothing.
use Rattle.paper.specs.Dictionary.{dictionary_of}
use Rattle.short.proofs.dictionary.number.Goals as goal

pub returns : goal.returns
unfolding dictionary_of
returns c = c.read4.ensures
