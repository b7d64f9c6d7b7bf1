-- The word, then its form. Assumes nothing.
use mathlib.Core.Path.{refl, sym, ◌∙◌}
use mathlib.Core.Bool.{true, false}
use Rattle.listing.specs.Reading.{taken_by}
use Rattle.listing.proofs.taken.is_taken.Goals as goal

pub returns-else-word_taken : goal.returns-else-word_taken
returns-else-word_taken c = rw c.if-word_taken.false (taken_by _ _ _ false _ (sym c.if-word_taken.false ∙ c.word_taken.ensures) refl)

pub returns-then-word_taken : goal.returns-then-word_taken
returns-then-word_taken c = taken_by _ _ _ true _ (sym c.if-word_taken.true ∙ c.word_taken.ensures) c.form_taken.ensures
