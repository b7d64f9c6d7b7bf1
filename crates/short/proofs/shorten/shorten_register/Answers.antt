-- Each return is a case of `shorten_register`: a bit set, no number, no second source, the short word. Assumes nothing.
use mathlib.Core.Path.{sym, ◌∙◌}
use Rattle.short.proofs.Shortening.{register_top, register_missing, second_missing, register_found}
use Rattle.short.proofs.shorten.shorten_register.Goals as goal

pub returns-then-part-ne0 : goal.returns-then-part-ne0
returns-then-part-ne0 c = register_top _ _ _ _ _ _ (λ e. c.if-part-ne0.true (c.part.ensures.0 ∙ e))

pub returns-in_err-b : goal.returns-in_err-b
returns-in_err-b c =
    rw c.from_residual.ensures (register_missing _ _ _ _ _ _ (sym c.part.ensures.0 ∙ c.if-part-ne0.false) _ c.wide_key-key.ensures.0 c.in_err-b.ensures)

pub returns-in_err-y : goal.returns-in_err-y
returns-in_err-y c =
    rw c.from_residual-in_err-y.ensures
    (second_missing _ _ _ _ _ _ (sym c.part.ensures.0 ∙ c.if-part-ne0.false) _ c.wide_key-key.ensures.0 _ c.in_ok-b.ensures _ c.part-source.ensures.0 c.in_err-y.ensures)

pub returns : goal.returns
returns c =
    rw c.short_word.ensures
    (register_found _ _ _ _ _ _ (sym c.part.ensures.0 ∙ c.if-part-ne0.false) _ c.wide_key-key.ensures.0 _ c.in_ok-b.ensures _ c.part-source.ensures.0 _ c.in_ok-y.ensures)
