-- The test of bit 29 is the definitions'. Assumes nothing.
use Rattle.kernel.specs.Standing.{short_room}
use mathlib.Core.Path.{sym, ap, ◌∙◌}
use Rattle.paper.specs.Expand.{is_short, expand}
use Rattle.kernel.specs.Standing.{fetches_short, fetches_long, long_room}
use Rattle.kernel.proofs.fetch.word_at.Goals as goal

pub read8-s-requires : goal.read8-s-requires
read8-s-requires c = short_room (λ _. 0) _ _ c.requires

pub returns-then-is_short : goal.returns-then-is_short
returns-then-is_short c =
    let e = c.read8-s.ensures in
    fetches_short _ _ _ _ (sym (c.is_short.ensures ∙ ap is_short e) ∙ c.if-is_short.true) (c.expand.ensures ∙ ap (expand _) e)

pub read16-requires : goal.read16-requires
read16-requires c =
    let e = c.read8-s.ensures in
    long_room (λ _. 0) _ _ (sym (c.is_short.ensures ∙ ap is_short e) ∙ c.if-is_short.false) c.requires

pub returns : goal.returns
returns c =
    let e = c.read8-s.ensures in
    fetches_long _ _ _ _ (sym (c.is_short.ensures ∙ ap is_short e) ∙ c.if-is_short.false) c.read16.ensures
