-- By the distances that the word holds. Assumes nothing.
use mathlib.Core.Path.{sym, ap, ◌∙◌}
use Rattle.words.specs.Words.{to_word}
use Rattle.distances.specs.Distances.{distance_is, distances_is}
use Rattle.run.specs.Leading.{none_leads, one_leads, two_lead}
use Rattle.run.proofs.ways.ways_of.Goals as goal

pub returns-in-Nothing : goal.returns-in-Nothing
returns-in-Nothing c =
    let a = c.args in
    none_leads a.here a.size (to_word a.w) (sym c.distances_in-held.ensures ∙ ap distances_is c.in-Nothing.is)

pub returns-in-One : goal.returns-in-One
returns-in-One c =
    let a = c.args in
    one_leads a.here a.size (to_word a.w) (distance_is c.in-One.d)
    (sym c.distances_in-held.ensures ∙ ap distances_is c.in-One.is) _ c.reach.ensures _ c.unwrap_or-target.ensures

pub returns-in-Two : goal.returns-in-Two
returns-in-Two c =
    let a = c.args in
    two_lead a.here a.size (to_word a.w) (distance_is c.in-Two.d) (distance_is c.in-Two.e)
    (sym c.distances_in-held.ensures ∙ ap distances_is c.in-Two.is)
    _ c.reach-in-Two.ensures _ c.unwrap_or-jump.ensures _ c.reach-in-Two-2.ensures _ c.unwrap_or-wait.ensures
