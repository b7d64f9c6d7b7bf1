-- What is said of the kernel refuses it, or it is laid out. Assumes nothing.
use mathlib.Core.Path.{refl}
use Rattle.std.proofs.lemmas.Result.{err_from_is_err_and}
use Rattle.kernel.specs.Accepting.{accept_size, unsized}
use Rattle.packer.specs.Answers.{call_refused, call_taken, call_laid}
use Rattle.packer.proofs.pack.relay.Goals as goal

pub returns-in_default : goal.returns-in_default
returns-in_default c =
    let a = c.args in
    rw c.into.ensures (call_refused a.packs a.dictionary.now a.kernel.now _ _ (accept_size _ _ _ a.kernel.now (unsized _ _ c.in_default.ensures.cases)) _ refl _)

pub returns-in_err-accept : goal.returns-in_err-accept
returns-in_err-accept c =
    let a = c.args in
    let p = err_from_is_err_and c.from_residual.result c.from_residual.ensures.1 in
    rw (p.1, p.2, ← c.in-Some.ensures.cases.same) (call_refused a.packs c.in-Some.dictionary.now a.kernel.now _ _ (rw c.taken.ensures at c.accept.ensures) _ c.in_err-accept.was _)

pub lay_out-requires : goal.lay_out-requires
lay_out-requires c = call_taken _ _ _ _ _ (rw c.taken.ensures at c.accept.ensures) _ c.in_ok-accept.was

pub returns : goal.returns
returns c =
    let a = c.args in
    let w = c.lay_out in
    rw (← c.in-Some.ensures.cases.same)
    (call_laid a.packs c.in-Some.dictionary.now a.kernel.now _ _ (rw c.taken.ensures at c.accept.ensures) _ c.in_ok-accept.was w.result a.out.now _ w.ensures)
