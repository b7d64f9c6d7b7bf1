-- A word without an operand by address is left as it is; what is said of all operands and then of 10 and 11 is said of 22. Assumes nothing.
use mathlib.Core.Path.{sym, ◌∙◌}
use Rattle.std.specs.Prelude.{None}
use Rattle.words.specs.Operations.{plain_is}
use Rattle.words.specs.Words.{to_word}
use Rattle.address.specs.Settling.{rules_broken, says_none, says_on, says_settled}
use Rattle.address.proofs.settle.settle.Goals as goal

pub returns-then-not-is_addressed : goal.returns-then-not-is_addressed
returns-then-not-is_addressed c =
    let a = c.args in
    says_none (plain_is a.p) a.addresses.now a.w c.requires.1 (sym c.is_addressed.ensures ∙ c.if-not-is_addressed.true)

pub returns-in_err-all : goal.returns-in_err-all
returns-in_err-all c =
    let a = c.args in
    rw c.from_residual.ensures (says_settled (plain_is a.p) a.addresses.now (to_word a.w) None (rw c.in_err-all.ensures))

pub returns : goal.returns
returns c =
    let a = c.args in
    says_settled (plain_is a.p) a.addresses.now (to_word a.w) c.judged.result
    (says_on c.in_ok-all.all _ _ c.in_ok-all.ensures c.judged.result (rules_broken (plain_is a.p)) (λ w. w) c.judged.ensures)
