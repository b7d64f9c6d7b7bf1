-- Each return is a case of `shorten_immediate`: too far, no number, the short word. Assumes nothing.
use Rattle.short.proofs.Shortening.{immediate_far, immediate_missing, immediate_found}
use Rattle.short.proofs.shorten.shorten_immediate.Goals as goal

pub returns-then-top-ge8192 : goal.returns-then-top-ge8192
returns-then-top-ge8192 c = immediate_far _ _ _ _ _ _ c.if-top-ge8192.true

pub returns-in_err-b : goal.returns-in_err-b
returns-in_err-b c =
    rw c.from_residual.ensures (immediate_missing _ _ _ _ _ _ c.if-top-ge8192.false _ c.narrow_key-key.ensures.0 c.in_err-b.ensures)

pub returns : goal.returns
returns c = rw c.short_word.ensures (immediate_found _ _ _ _ _ _ c.if-top-ge8192.false _ c.narrow_key-key.ensures.0 _ c.in_ok-b.ensures)
