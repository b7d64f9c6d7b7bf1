-- By the form. Assumes nothing.
use mathlib.Core.Path.{◌≡◌, sym, ap, ◌∙◌}
use Prim.Native.Nat.{◌+◌, ◌≤◌}
use native.Mathlib.Omega.{arith}
use lib.ListN.{length}
use mathlib.Core.Option.{none, some}
use lib.Seq.{sets}
use Rattle.paper.specs.Bits.{bytes_of}
use Rattle.paper.specs.Dictionary.{dictionary_of}
use Rattle.paper.specs.Packing.{encode}
use Rattle.laws.specs.Bytes.{length-bytes_of}
use Rattle.words.specs.Words.{to_word}
use Rattle.short.specs.Shorter.{shorter_is}
use Rattle.listing.specs.Laying.{put_sets, form_in, form_none, form_is}
use Rattle.listing.proofs.lay.put_word.Goals as goal

pub write16-requires : goal.write16-requires
write16-requires c =
    let a = c.args in
    let D = dictionary_of a.dictionary.now in
    let w = to_word a.w in
    let e : encode (form_in D a.size w) w ≡ bytes_of 16 w = form_none D a.size w c.if-size-ne1.true in
    let h : a.at + 16 ≤ length a.out.now = omega (arith, ap length e, length-bytes_of 16 w, c.requires.w_in_bounds) in
    h

pub returns-then-size-ne1 : goal.returns-then-size-ne1
returns-then-size-ne1 c =
    let a = c.args in
    let D = dictionary_of a.dictionary.now in
    let w = to_word a.w in
    let e : encode (form_in D a.size w) w ≡ bytes_of 16 w = form_none D a.size w c.if-size-ne1.true in
    c.write16.ensures ∙ (put_sets 16 a.out.now a.at w ∙ ap (sets a.out.now a.at) (sym e))

pub write-requires : goal.write-requires
write-requires c =
    let a = c.args in
    let D = dictionary_of a.dictionary.now in
    let w = to_word a.w in
    let v = c.in-Some.s in
    let e : encode (form_in D a.size w) w ≡ bytes_of 8 v = form_is D a.size w c.if-size-ne1.false (some v) (ap shorter_is (sym c.in-Some.is) ∙ c.shorten.ensures) in
    let h : a.at + 8 ≤ length a.out.now = omega (arith, ap length e, length-bytes_of 8 v, c.requires.w_in_bounds) in
    h

pub write16-requires-in-None : goal.write16-requires-in-None
write16-requires-in-None c =
    let a = c.args in
    let D = dictionary_of a.dictionary.now in
    let w = to_word a.w in
    let e : encode (form_in D a.size w) w ≡ bytes_of 16 w = form_is D a.size w c.if-size-ne1.false none (ap shorter_is (sym c.in-None.is) ∙ c.shorten.ensures) in
    let h : a.at + 16 ≤ length a.out.now = omega (arith, ap length e, length-bytes_of 16 w, c.requires.w_in_bounds) in
    h

pub returns-in-Some : goal.returns-in-Some
returns-in-Some c =
    let a = c.args in
    let D = dictionary_of a.dictionary.now in
    let w = to_word a.w in
    let v = c.in-Some.s in
    let e : encode (form_in D a.size w) w ≡ bytes_of 8 v = form_is D a.size w c.if-size-ne1.false (some v) (ap shorter_is (sym c.in-Some.is) ∙ c.shorten.ensures) in
    c.write.ensures ∙ (put_sets 8 a.out.now a.at v ∙ ap (sets a.out.now a.at) (sym e))

pub returns-in-None : goal.returns-in-None
returns-in-None c =
    let a = c.args in
    let D = dictionary_of a.dictionary.now in
    let w = to_word a.w in
    let e : encode (form_in D a.size w) w ≡ bytes_of 16 w = form_is D a.size w c.if-size-ne1.false none (ap shorter_is (sym c.in-None.is) ∙ c.shorten.ensures) in
    c.write16-in-None.ensures ∙ (put_sets 16 a.out.now a.at w ∙ ap (sets a.out.now a.at) (sym e))
