-- The distances are those of the word, none, one or two. Assumes nothing.
use mathlib.Core.List.{List}
use mathlib.Core.Path.{sym, ap, ◌∙◌}
use Rattle.paper.specs.Jump.{Distance}
use Rattle.paper.specs.Program.{blanked}
use Rattle.words.specs.Words.{to_word}
use Rattle.distances.specs.Distances.{distances_is}
use Rattle.distances.proofs.branch.blank.Goals as goal

pub returns-in-Nothing : goal.returns-in-Nothing
unfolding blanked
returns-in-Nothing c =
    ap (λ (fs : List Distance). blanked fs (to_word c.args.w)) (ap distances_is (sym c.in-Nothing.is) ∙ c.distances_in-held.ensures)

pub returns-in-One : goal.returns-in-One
unfolding blanked
returns-in-One c =
    c.blanked.ensures
    ∙ ap (λ (fs : List Distance). blanked fs (to_word c.args.w)) (ap distances_is (sym c.in-One.is) ∙ c.distances_in-held.ensures)

pub returns-in-Two : goal.returns-in-Two
unfolding blanked
returns-in-Two c =
    rw (c.blanked-in-Two-2.ensures, c.blanked-in-Two.ensures)
    (ap (λ (fs : List Distance). blanked fs (to_word c.args.w)) (ap distances_is (sym c.in-Two.is) ∙ c.distances_in-held.ensures))
