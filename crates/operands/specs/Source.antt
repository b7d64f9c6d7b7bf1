-- A source by whether it is the second. Assumes nothing.
use Rattle.std.specs.Prelude.{Bool, cond}
use Rattle.paper.specs.Word.{Source, src0, src1}

-- The second source, or the first.
abbrev pub source_of : Bool → Source
source_of second = cond second src1 src0
