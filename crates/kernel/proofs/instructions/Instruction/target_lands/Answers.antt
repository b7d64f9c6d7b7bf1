-- Below place 0 the test holds of nothing. Assumes nothing.
use Prim.Native.Nat.{◌+◌}
use Rattle.paper.specs.Jump.{reach}
use Rattle.words.specs.Words.{to_word}
use Rattle.distances.specs.Distances.{distance_is}
use Rattle.kernel.specs.Jumps.{none_lands}
use Rattle.kernel.proofs.instructions.Instruction.target_lands.Goals as goal

pub returns-in-None : goal.returns-in-None
returns-in-None g c =
    let i = c.args.self in
    λ land tells.
    none_lands land (reach (distance_is c.args.d) (to_word i.word) i.place (i.place + i.size)) _ c.target.ensures c.in-None.is
