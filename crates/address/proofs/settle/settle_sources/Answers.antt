-- What is said of the first source, and then of the second, is said of the sources. Assumes nothing.
use mathlib.Core.Path.{sym, ◌∙◌}
use Rattle.paper.specs.Address.{src_direct}
use Rattle.paper.specs.Word.{src1}
use Rattle.words.specs.Operations.{plain_is}
use Rattle.words.specs.Words.{to_word}
use Rattle.address.specs.Settling.{src_outside, says_on, says_two}
use Rattle.address.proofs.settle.settle_sources.Goals as goal

pub returns-then-reads_two : goal.returns-then-reads_two
returns-then-reads_two c =
    let a = c.args in
    says_two (plain_is a.p) a.addresses.now (to_word a.w) c.settle_src-then-reads_two.result
    (sym c.reads_two.ensures ∙ c.if-reads_two.true)
    (says_on c.in_ok-one.one _ _ c.in_ok-one.ensures c.settle_src-then-reads_two.result (src_outside a.addresses.now src1) (src_direct a.addresses.now src1) c.settle_src-then-reads_two.ensures)
