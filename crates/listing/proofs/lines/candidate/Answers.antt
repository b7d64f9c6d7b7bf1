-- The form stands after the place, the dwords after the form. Assumes nothing.
use mathlib.Core.Path.{refl}
use native.Mathlib.Omega.{arith}
use Rattle.listing.specs.Reading.{candidate_by}
use Rattle.listing.proofs.lines.candidate.Goals as goal

pub overflow_sub-lines : goal.overflow_sub-lines
overflow_sub-lines c = omega (arith, c.size_in-size.ensures.1)

pub returns : goal.returns
returns c =
    let a = c.args in
    let v = c.width in
    let z = c.size_in-size in
    record { stands = refl; value = candidate_by a.text.now a.place a.from _ _ _ _ (omega (arith, v.ensures.0)) z.ensures.0 refl c.word_in-word.ensures }
