-- By the distances that the word holds. Assumes nothing.
use mathlib.Core.List.{[], ◌∷◌}
use mathlib.Core.Path.{sym, ap, ◌∙◌}
use Rattle.words.specs.Words.{to_word}
use Rattle.distances.specs.Distances.{distance_is, distances_is}
use Rattle.packer.specs.Rewriting.{all_reach, none_rewritten, one_rewritten, two_rewritten}
use Rattle.packer.proofs.write.rewrite.Goals as goal

pub new_place-requires : goal.new_place-requires
new_place-requires c =
    let a = c.args in
    let r = all_reach a.places.now (to_word a.i.word) a.i.place a.i.size a.to a.next (distance_is c.in-One.d ∷ []) (sym c.distances_in.ensures ∙ ap distances_is c.in-One.is) c.requires.2 in
    r.0

pub new_place-first-requires : goal.new_place-first-requires
new_place-first-requires c =
    let a = c.args in
    let r = all_reach a.places.now (to_word a.i.word) a.i.place a.i.size a.to a.next (distance_is c.in-Two.d ∷ distance_is c.in-Two.e ∷ []) (sym c.distances_in.ensures ∙ ap distances_is c.in-Two.is) c.requires.2 in
    r.0

pub new_place-second-requires : goal.new_place-second-requires
new_place-second-requires c =
    let a = c.args in
    let r = all_reach a.places.now (to_word a.i.word) a.i.place a.i.size a.to a.next (distance_is c.in-Two.d ∷ distance_is c.in-Two.e ∷ []) (sym c.distances_in.ensures ∙ ap distances_is c.in-Two.is) c.requires.2 in
    r.1.0

pub returns-in-Nothing : goal.returns-in-Nothing
returns-in-Nothing c =
    let a = c.args in
    none_rewritten a.places.now (to_word a.i.word) a.i.place a.i.size a.to a.next (sym c.distances_in.ensures ∙ ap distances_is c.in-Nothing.is)

pub returns-in-One : goal.returns-in-One
returns-in-One c =
    let a = c.args in
    one_rewritten a.places.now (to_word a.i.word) a.i.place a.i.size a.to a.next (distance_is c.in-One.d)
    (sym c.distances_in.ensures ∙ ap distances_is c.in-One.is) _ c.new_place.ensures.0 _ c.aim.ensures

pub returns-in-Two : goal.returns-in-Two
returns-in-Two c =
    let a = c.args in
    two_rewritten a.places.now (to_word a.i.word) a.i.place a.i.size a.to a.next (distance_is c.in-Two.d) (distance_is c.in-Two.e)
    (sym c.distances_in.ensures ∙ ap distances_is c.in-Two.is) _ _ c.new_place-first.ensures.0 c.new_place-second.ensures.0
    _ c.aim-in-Two.ensures _ c.aim-in-Two-2.ensures
