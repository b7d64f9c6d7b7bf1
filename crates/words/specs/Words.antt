-- What the code's words and sources are in the paper's terms. Assumes nothing.
use Rattle.std.specs.Prelude.{ℕ, ◌+◌, ◌*◌, ◌^◌}
use Rattle.paper.specs.Word as paper
use Rattle.words.specs.declared.bytes.Word.{Word}
use Rattle.words.specs.declared.fields.Source.{Source}
use Rattle.words.specs.declared.fields.Source.TheVariants.{First, Second}

-- The long word that the code holds as two halves.
abbrev pub to_word : Word → ℕ
to_word w = w.lo + w.hi * 2 ^ 64

abbrev pub source_is : Source → paper.Source
source_is First = paper.src0
source_is Second = paper.src1
