-- The flag is made of the masks that the contract names. Assumes nothing.
use mathlib.Core.Path.{sym, ap, ◌∙◌}
use Rattle.words.specs.Words.{to_word}
use Rattle.execute.proofs.Executed.{flag_from_lem}
use Rattle.execute.specs.Stores.{flags_changed}
use Rattle.execute.specs.Compared.{lowest_bits}
use Rattle.execute.proofs.compare.compared.Goals as goal

pub returns : goal.returns
returns c =
    λ results e.
    let made = flag_from_lem (to_word c.args.w) c.chosen-old.result c.args.enable _ _ _ _ _ results c.channels-n.ensures.0 c.qtr_ctrl-quarter.ensures.0
    (e ∙ ap (lowest_bits results) (sym c.channels-n.ensures.0)) c.raised_mask-found.ensures c.flag_after-flag.ensures in
    let flag = rw c.wide.ensures at c.chosen-old.ensures in
    rw (← flag, ← made) (flags_changed (to_word c.args.w) c.args.flags _ c.with_chosen.ensures)
