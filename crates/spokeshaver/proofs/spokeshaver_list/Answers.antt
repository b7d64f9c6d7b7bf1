-- The callee's answer as a number, and what it leaves. Assumes nothing.
use mathlib.Core.Path.{sym, ap, ◌∙◌}
use Rattle.paper.specs.Calls.{as_number}
use Rattle.answers.specs.Small.{small_as}
use Rattle.answers.specs.Listings.{list_fine}
use Rattle.spokeshaver.proofs.spokeshaver_list.Goals as goal

pub number_of-requires : goal.number_of-requires
number_of-requires c = small_as _ _ (sym c.list.ensures.0) (list_fine _ _ _).small

pub returns : goal.returns
returns c = (c.number_of.ensures ∙ ap as_number c.list.ensures.0, c.list.ensures.1)
