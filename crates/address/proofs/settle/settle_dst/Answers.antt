-- The destination stays, or is named directly by the byte that its address names. Assumes nothing.
use mathlib.Core.Path.{sym, ap, ◌∙◌}
use Rattle.paper.specs.Address.{address_of, dst_address}
use Rattle.words.specs.Words.{to_word}
use Rattle.address.specs.Bytes.{told, told_byte}
use Rattle.address.specs.Settling.{dst_stays, dst_names}
use Rattle.address.proofs.settle.settle_dst.Goals as goal

pub returns-then-not-dst_by_address : goal.returns-then-not-dst_by_address
returns-then-not-dst_by_address c =
    let a = c.args in
    dst_stays a.addresses.now a.w (sym c.dst_by_address.ensures ∙ c.if-not-dst_by_address.true)

pub returns : goal.returns
returns c =
    let a = c.args in
    let e = ap (address_of a.addresses.now) c.dst_indirect.ensures.0 in
    let t = told_byte (dst_address a.addresses.now (to_word a.w)) _ (sym c.in_ok-byte.was ∙ c.address_of.ensures ∙ ap told e) in
    let by = sym c.dst_by_address.ensures ∙ c.if-not-dst_by_address.false in
    dst_names a.addresses.now a.w _ _ by t.0 t.1 c.dst_named.ensures
