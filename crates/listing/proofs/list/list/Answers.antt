-- What is said of the kernel refuses it, or it is listed. Assumes nothing.
use mathlib.Core.Path.{refl}
use Rattle.std.proofs.lemmas.Result.{err_from_is_err_and}
use Rattle.paper.specs.Kernel.{long_and_short}
use Rattle.kernel.specs.Accepting.{accept_size, unsized}
use Rattle.listing.specs.Writing.{list_refused, list_taken, list_written}
use Rattle.listing.proofs.list.list.Goals as goal

pub returns-in_default : goal.returns-in_default
returns-in_default c =
    let a = c.args in
    rw c.into.ensures (list_refused a.dictionary.now a.kernel.now _ _ (accept_size long_and_short _ _ a.kernel.now (unsized _ _ c.in_default.ensures.cases)) _ refl _)

pub list_accepted-requires : goal.list_accepted-requires
list_accepted-requires c = list_taken _ _ _ _ c.accept.ensures _ c.in_ok-accept.was

pub returns : goal.returns
returns c =
    let a = c.args in
    let w = c.list_accepted in
    rw (← c.in-Some.ensures.cases.same)
    (list_written c.in-Some.dictionary.now a.kernel.now _ _ c.accept.ensures _ c.in_ok-accept.was w.result a.out.now _ w.ensures)

pub returns-in_err-accept : goal.returns-in_err-accept
returns-in_err-accept c =
    let a = c.args in
    let p = err_from_is_err_and c.from_residual.result c.from_residual.ensures.1 in
    rw (p.1, p.2, ← c.in-Some.ensures.cases.same) (list_refused c.in-Some.dictionary.now a.kernel.now _ _ c.accept.ensures _ c.in_err-accept.was _)
