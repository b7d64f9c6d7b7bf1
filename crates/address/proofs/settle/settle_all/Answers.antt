-- What is said of the destination and then of the sources is said of all operands. Assumes nothing.
use Rattle.std.specs.Prelude.{None}
use Rattle.words.specs.Operations.{plain_is}
use Rattle.words.specs.Words.{to_word}
use Rattle.address.specs.Settling.{sources_direct, sources_outside, says_all, says_on}
use Rattle.address.proofs.settle.settle_all.Goals as goal

pub returns-in_err-one : goal.returns-in_err-one
returns-in_err-one c =
    let a = c.args in
    rw c.from_residual.ensures (says_all (plain_is a.p) a.addresses.now (to_word a.w) None (rw c.in_err-one.ensures))

pub returns : goal.returns
returns c =
    let a = c.args in
    says_all (plain_is a.p) a.addresses.now (to_word a.w) c.settle_sources.result
    (says_on c.in_ok-one.one _ _ c.in_ok-one.ensures c.settle_sources.result
    (sources_outside (plain_is a.p) a.addresses.now) (sources_direct (plain_is a.p) a.addresses.now) c.settle_sources.ensures)
