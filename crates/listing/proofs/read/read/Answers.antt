-- The tests are the definition's, in its order; then the first pass tells the fault, or what the other two ask. Assumes nothing.
use mathlib.Core.Path.{sym, ◌∙◌}
use Rattle.paper.specs.Dictionary.{dictionary_of}
use Rattle.std.proofs.lemmas.Result.{err_from_is_err_and}
use Rattle.std.specs.Prelude.{Err}
use Rattle.words.specs.declared.refusal.Refusal.TheVariants.{NoListing}
use Rattle.words.specs.Answer.{refused_at}
use Rattle.listing.specs.Joining.{passed, faulted, read-faulty, told_faulty, read_size, read_range, read_told}
use Rattle.listing.proofs.read.read.Goals as goal

pub returns-in_default : goal.returns-in_default
returns-in_default c =
    let a = c.args in
    rw c.into.ensures (read_size a.dictionary.now a.text.now a.out.now c.in_default.ensures.cases)

pub returns-then-not-in_range : goal.returns-then-not-in_range
returns-then-not-in_range c =
    let a = c.args in
    let d = c.in-Some.ensures.cases in
    rw (c.into-then-not-in_range.ensures, ← d.same) (read_range c.in-Some.dictionary.now a.text.now a.out.now (rw (← d.same) at d.long) (sym c.in_range.ensures ∙ c.if-not-in_range.true))

pub read_lines-requires : goal.read_lines-requires
read_lines-requires c = passed _ _ _ _ c.scan.ensures _ c.in_ok-places.was

pub returns : goal.returns
returns c =
    let a = c.args in
    let w = c.read_lines in
    let d = c.in-Some.ensures.cases in
    rw (← d.same)
    (read_told c.in-Some.dictionary.now a.text.now a.out.now (rw (← d.same) at d.long) (sym c.in_range.ensures ∙ c.if-not-in_range.false) w.result _ w.ensures)

pub returns-in_err-places : goal.returns-in_err-places
returns-in_err-places c =
    let a = c.args in
    let d = c.in-Some.ensures.cases in
    let D = dictionary_of c.in-Some.dictionary.now in
    let p = err_from_is_err_and c.from_residual.result c.from_residual.ensures.1 in
    let f = faulted _ _ _ _ c.scan.ensures _ c.in_err-places.was in
    rw (p.1, p.2, f.0, ← d.same)
    (read_told c.in-Some.dictionary.now a.text.now a.out.now (rw (← d.same) at d.long) (sym c.in_range.ensures ∙ c.if-not-in_range.false) (Err (refused_at NoListing _)) _
    (told_faulty D a.text.now a.out.now _ (read-faulty D a.text.now _ f.1)))
