-- Both distances lead to such a place. Assumes nothing.
use mathlib.Core.Path.{sym, ap, ◌∙◌}
use Rattle.words.specs.Words.{to_word}
use Rattle.distances.specs.Distances.{distance_is, distances_is}
use Rattle.kernel.specs.Jumps.{two_land}
use Rattle.kernel.proofs.instructions.Instruction.each_lands.Goals as goal

pub returns : goal.returns
returns g c =
    let i = c.args.self in
    λ land tells.
    rw (c.target_lands-in-Two.ensures land tells, c.target_lands-in-Two-2.ensures land tells)
    (two_land land i.place i.size (to_word i.word) (distance_is c.in-Two.d) (distance_is c.in-Two.e)
    (sym c.distances_in.ensures ∙ ap distances_is c.in-Two.is))
