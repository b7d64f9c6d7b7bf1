-- mov's results are its operands. Assumes nothing.
use mathlib.Core.Path.{refl}
use Rattle.paper.specs.Element.{result}
use Rattle.execute.specs.Results.{Combined}
use Rattle.execute.proofs.combine.combine.Goals as goal

pub returns-in-Mov : goal.returns-in-Mov
unfolding Combined result
returns-in-Mov c = rw c.in-Mov.is (record { sixteen = c.told-first; done = λ k h. refl; kept = λ k h. refl })
