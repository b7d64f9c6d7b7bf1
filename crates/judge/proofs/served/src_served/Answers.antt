-- What is asked of unusual words alone fails of the others. Assumes nothing.
use mathlib.Core.Bool.{not, ◌&&◌}
use mathlib.Core.Path.{sym, ap, ◌∙◌}
use Rattle.std.specs.Prelude.{nat_eq}
use Rattle.words.specs.Words.{to_word, source_is}
use Rattle.judge.specs.Rules.{asked, asked_source}
use Rattle.judge.proofs.served.src_served.Goals as goal

pub returns-then-is_immediate : goal.returns-then-is_immediate
returns-then-is_immediate g c =
    let asks = asked_source (not (nat_eq g.row.UNUSUAL 0)) (to_word c.args.w) (source_is c.args.x) (λ e. (c.requires e).whole.source (source_is c.args.x)) in
    rw c.src_type-kind.ensures.0 (rw (sym c.is_immediate.ensures ∙ c.if-is_immediate.true) at asks)

pub returns-else-is_immediate : goal.returns-else-is_immediate
returns-else-is_immediate g c =
    let asks = asked_source (not (nat_eq g.row.UNUSUAL 0)) (to_word c.args.w) (source_is c.args.x) (λ e. (c.requires e).whole.source (source_is c.args.x)) in
    let a0 = ap (◌&&◌ (not (nat_eq g.row.UNUSUAL 0))) c.src_is_a0.ensures ∙ asked _ _ (λ e. (c.requires e).source (source_is c.args.x)) in
    rw (c.src_type-kind.ensures.0, c.src_file.ensures.0, c.src_addr_mode.ensures.0, a0) (rw (sym c.is_immediate.ensures ∙ c.if-is_immediate.false) at asks)
