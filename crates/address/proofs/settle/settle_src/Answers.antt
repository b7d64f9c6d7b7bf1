-- A source stays, or is named directly by the byte that its address names. Assumes nothing.
use mathlib.Core.Path.{sym, ap, ◌∙◌}
use Rattle.paper.specs.Address.{address_of, src_address}
use Rattle.words.specs.Words.{to_word, source_is}
use Rattle.address.specs.Bytes.{told, told_byte}
use Rattle.address.specs.Settling.{src_stays, src_names}
use Rattle.address.proofs.settle.settle_src.Goals as goal

pub returns-then-not-src_by_address : goal.returns-then-not-src_by_address
returns-then-not-src_by_address c =
    let a = c.args in
    src_stays a.addresses.now (source_is a.x) a.w (sym c.src_by_address.ensures ∙ c.if-not-src_by_address.true)

pub returns : goal.returns
returns c =
    let a = c.args in
    let e = ap (address_of a.addresses.now) c.src_indirect.ensures.0 in
    let t = told_byte (src_address a.addresses.now (source_is a.x) (to_word a.w)) _ (sym c.in_ok-byte.was ∙ c.address_of.ensures ∙ ap told e) in
    let by = sym c.src_by_address.ensures ∙ c.if-not-src_by_address.false in
    src_names a.addresses.now (source_is a.x) a.w _ _ by t.0 t.1 c.src_named.ensures
