-- Tests over the sources that an operation reads, by the first and the second. Assumes nothing.
use Rattle.std.specs.Prelude.{Bool, true, false, ◌&&◌, ◌||◌, ◌≡◌, refl}
use Rattle.std.proofs.Math.Bool.{or-false}
use Rattle.std.proofs.Common.{ap, ◌∙◌}
use Rattle.paper.specs.Word.{Source, src0, src1}
use Rattle.paper.specs.Operation.{Plain, sources}
use Rattle.paper.specs.Legal.{any_of}
use Rattle.laws.specs.Sources.{reads_two, one_or_two, sources_told}

-- The first source's test, or the second's where it is read.
abbrev pub any_source : Plain → Bool → Bool → Bool
any_source p first second = first || (reads_two p && second)

pub any_source_lem : (p : Plain) (test : Source → Bool) → any_of test (sources p) ≡ any_source p (test src0) (test src1)
any_source_lem p test = ap (any_of test) (sources_told p) ∙ go (reads_two p)
  where
    go : (t : Bool) → any_of test (one_or_two t) ≡ (test src0 || (t && test src1))
    go true = ap (λ (b : Bool). test src0 || b) (or-false (test src1))
    go false = refl
