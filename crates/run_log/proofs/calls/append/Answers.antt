-- By the buffer's size, by the entry, and by what is said of the records. Assumes nothing.
use mathlib.Core.Path.{sym, ◌∙◌, subst}
use Rattle.std.proofs.lemmas.Result.{err_from_is_err_and}
use Rattle.words.specs.Answer.{Wrote}
use Rattle.paper.specs.Calls.{Written}
use Rattle.run_log.specs.Meaning.{entry_is}
use Rattle.run_log.specs.Calls.{append_unsized, append_illegal, append_refused, append_whole}
use Rattle.run_log.proofs.calls.append.Goals as goal

pub returns-then-not-sized : goal.returns-then-not-sized
returns-then-not-sized c = rw c.into.ensures (append_unsized _ _ (entry_is c.args.e) (sym c.sized.ensures ∙ c.if-not-sized.true))

pub returns-then-not-legal : goal.returns-then-not-legal
returns-then-not-legal c =
    rw c.into-then-not-legal.ensures (append_illegal _ _ (entry_is c.args.e) (sym c.sized.ensures ∙ c.if-not-sized.false) (sym c.legal.ensures ∙ c.if-not-legal.true))

pub returns-in_err-records : goal.returns-in_err-records
returns-in_err-records c =
    let p = err_from_is_err_and c.from_residual.result c.from_residual.ensures.1 in
    rw (p.1, p.2) (append_refused _ _ (entry_is c.args.e) _ (sym c.records_of.ensures.is ∙ c.in_err-records.was))

pub returns : goal.returns
returns c =
    let z = c.add in
    subst (λ (w : Written). Wrote w z.result z.new.log)
    (append_whole _ _ (entry_is c.args.e) _ (sym c.records_of.ensures.is ∙ c.in_ok-records.was) (sym c.legal.ensures ∙ c.if-not-legal.false))
    z.ensures
