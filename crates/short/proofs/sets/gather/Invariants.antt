-- The loop's invariant: so many numbers are gathered. Assumes nothing.
use Rattle.paper.specs.Dictionary.{dictionary_of}
use Rattle.short.specs.Sets.{Gathered}
use Rattle.short.proofs.sets.gather.Given as goal

abbrev pub invariant-loop-i : goal.invariant-loop-i
invariant-loop-i l = Gathered (dictionary_of l.dictionary) l.base l.width l.sets l.i
