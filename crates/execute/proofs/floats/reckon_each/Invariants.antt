-- The loop's invariant: the results of the channels passed are made. Assumes nothing.
use Rattle.words.specs.Operations.{plain_is}
use Rattle.execute.specs.Floats.{Reckoned}
use Rattle.execute.proofs.floats.reckon_each.Given as goal

abbrev pub invariant-loop-k : goal.invariant-loop-k
invariant-loop-k l = Reckoned (plain_is l.p) l.condition l.k l.initial.first l.second l.first
