-- Each return is a case of `shorten_halves`: not allowed, one of three numbers missing, one of the two forms. Assumes nothing.
use mathlib.Core.Bool.{true, false}
use mathlib.Core.Path.{sym, ◌∙◌}
use Rattle.short.proofs.Shortening.{halves_closed, control_missing, datatype_missing, source_missing, form_decides}
use Rattle.short.proofs.shorten.shorten_halves.Goals as goal

pub returns-then-not-may_shorten : goal.returns-then-not-may_shorten
returns-then-not-may_shorten c = halves_closed _ _ _ (sym c.may_shorten.ensures ∙ c.if-not-may_shorten.true)

pub returns-in_err-c : goal.returns-in_err-c
returns-in_err-c c =
    rw c.from_residual.ensures (control_missing _ _ _ (sym c.may_shorten.ensures ∙ c.if-not-may_shorten.false) _ c.control_key.ensures.0 c.in_err-c.ensures)

pub returns-in_err-t : goal.returns-in_err-t
returns-in_err-t c =
    rw c.from_residual-in_err-t.ensures
    (datatype_missing _ _ _ (sym c.may_shorten.ensures ∙ c.if-not-may_shorten.false) _ c.control_key.ensures.0 _ c.in_ok-c.ensures _ c.datatype_key.ensures.0 c.in_err-t.ensures)

pub returns-in_err-x : goal.returns-in_err-x
returns-in_err-x c =
    rw c.from_residual-in_err-x.ensures
    (source_missing _ _ _ (sym c.may_shorten.ensures ∙ c.if-not-may_shorten.false) _ c.control_key.ensures.0 _ c.in_ok-c.ensures _ c.datatype_key.ensures.0 _ c.in_ok-t.ensures
    _ c.part.ensures.0 c.in_err-x.ensures)

pub returns-then-form_of : goal.returns-then-form_of
returns-then-form_of c =
    c.shorten_immediate.ensures
    ∙ form_decides _ _ _ (sym c.may_shorten.ensures ∙ c.if-not-may_shorten.false) _ c.control_key.ensures.0 _ c.in_ok-c.ensures _ c.datatype_key.ensures.0 _ c.in_ok-t.ensures
    _ c.part.ensures.0 _ c.in_ok-x.ensures true (sym c.if-form_of.true ∙ c.form_of.ensures)

pub returns : goal.returns
returns c =
    c.shorten_register.ensures
    ∙ form_decides _ _ _ (sym c.may_shorten.ensures ∙ c.if-not-may_shorten.false) _ c.control_key.ensures.0 _ c.in_ok-c.ensures _ c.datatype_key.ensures.0 _ c.in_ok-t.ensures
    _ c.part.ensures.0 _ c.in_ok-x.ensures false (sym c.if-form_of.false ∙ c.form_of.ensures)
