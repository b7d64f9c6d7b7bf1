-- The key's sets are looked up, or else the table is walked. Assumes nothing.
use mathlib.Core.Path.{ap, ◌∙◌}
use Rattle.paper.specs.Dictionary.{dictionary_of}
use Rattle.short.specs.Sets.{found}
use Rattle.short.specs.SetLaws.{common_index}
use Rattle.short.proofs.shorten.index_of.Goals as goal

pub returns-in-Some : goal.returns-in-Some
returns-in-Some c =
    c.first_common.ensures
    ∙ ap found (common_index (dictionary_of c.args.dictionary.now) c.args.base _ c.requires.2 _ (rw c.in-Some.is at c.requires.4) _ c.requires.3)
