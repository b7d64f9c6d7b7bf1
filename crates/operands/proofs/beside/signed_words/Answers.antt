-- Patterns that are read, and then what they mean. Assumes nothing.
use Rattle.operands.specs.Shapes.{elements_patterns}
use Rattle.operands.proofs.beside.signed_words.Goals as goal

pub returns : goal.returns
returns c = elements_patterns _ _ _ _ _ _ _ _ _ c.word_patterns.ensures c.word_values.ensures
