-- The tests are the definition's. Assumes nothing.
use Rattle.std.proofs.Math.Bool.{and_assoc}
use Rattle.paper.specs.Log.{entry_legal}
use Rattle.run_log.proofs.write.legal.Goals as goal

pub returns : goal.returns
unfolding entry_legal
returns c = simp and_assoc
