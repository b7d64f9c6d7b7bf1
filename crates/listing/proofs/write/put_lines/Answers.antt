-- Six lines, one after another. Assumes nothing.
use mathlib.Core.Path.{ap, ◌∙◌}
use Prim.Native.Nat.{◌+◌, ◌/◌, ◌%◌, ◌^◌, ◌≤◌, ◌<◌}
use native.Mathlib.Omega.{arith}
use lib.ListN.{length}
use lib.Seq.{sets}
use Rattle.paper.specs.Text.{decimal, hexes, line}
use Rattle.paper.specs.Log.{place_name}
use Rattle.paper.specs.Listing.{form_name, form_of, dword_name}
use Rattle.words.specs.Words.{to_word}
use Rattle.listing.specs.Writing.{length_hex, length_parts, Sofar, further, lines_by}
use Rattle.listing.proofs.write.put_lines.Goals as goal

pub put_line-a-requires : goal.put_line-a-requires
put_line-a-requires c =
    let a = c.args in
    let h : a.at + length (line place_name (decimal a.i.place)) ≤ length a.out.now = omega (arith, length_parts a.i.place a.i.size (to_word a.i.word), c.requires) in
    h

pub put_form-b-requires : goal.put_form-b-requires
put_form-b-requires c =
    let a = c.args in
    let p1 = c.put_line-a in
    let h : p1.result + length (line form_name (form_of a.i.size)) ≤ length p1.new.out = omega (arith, length_parts a.i.place a.i.size (to_word a.i.word), p1.ensures.0, p1.auto.out, c.requires) in
    h

pub put_hex_line-c-requires : goal.put_hex_line-c-requires
put_hex_line-c-requires c =
    let a = c.args in
    let lo = a.i.word.lo in
    let hi = a.i.word.hi in
    let p1 = c.put_line-a in
    let p2 = c.put_form-b in
    let h : p2.result + length (line (dword_name 0) (hexes 8 (lo % 4294967296))) ≤ length p2.new.out =
    omega (arith, length_parts a.i.place a.i.size (to_word a.i.word), length_hex (dword_name 0) (lo % 4294967296), p1.ensures.0, p1.auto.out, p2.ensures.0, p2.auto.out, c.requires) in
    h

pub put_hex_line-d-requires : goal.put_hex_line-d-requires
put_hex_line-d-requires c =
    let a = c.args in
    let lo = a.i.word.lo in
    let hi = a.i.word.hi in
    let p1 = c.put_line-a in
    let p2 = c.put_form-b in
    let p3 = c.put_hex_line-c in
    let h : p3.result + length (line (dword_name 1) (hexes 8 (lo / 4294967296))) ≤ length p3.new.out =
    omega (arith, length_parts a.i.place a.i.size (to_word a.i.word), length_hex (dword_name 0) (lo % 4294967296), length_hex (dword_name 1) (lo / 4294967296), p1.ensures.0, p1.auto.out, p2.ensures.0, p2.auto.out, p3.ensures.0, p3.auto.out, c.requires) in
    h

pub put_hex_line-e-requires : goal.put_hex_line-e-requires
put_hex_line-e-requires c =
    let a = c.args in
    let lo = a.i.word.lo in
    let hi = a.i.word.hi in
    let p1 = c.put_line-a in
    let p2 = c.put_form-b in
    let p3 = c.put_hex_line-c in
    let p4 = c.put_hex_line-d in
    let h : p4.result + length (line (dword_name 2) (hexes 8 (hi % 4294967296))) ≤ length p4.new.out =
    omega (arith, length_parts a.i.place a.i.size (to_word a.i.word), length_hex (dword_name 0) (lo % 4294967296), length_hex (dword_name 1) (lo / 4294967296), length_hex (dword_name 2) (hi % 4294967296), p1.ensures.0, p1.auto.out, p2.ensures.0, p2.auto.out, p3.ensures.0, p3.auto.out, p4.ensures.0, p4.auto.out, c.requires) in
    h

pub put_hex_line-requires : goal.put_hex_line-requires
put_hex_line-requires c =
    let a = c.args in
    let lo = a.i.word.lo in
    let hi = a.i.word.hi in
    let p1 = c.put_line-a in
    let p2 = c.put_form-b in
    let p3 = c.put_hex_line-c in
    let p4 = c.put_hex_line-d in
    let p5 = c.put_hex_line-e in
    let h : p5.result + length (line (dword_name 3) (hexes 8 (hi / 4294967296))) ≤ length p5.new.out =
    omega (arith, length_parts a.i.place a.i.size (to_word a.i.word), length_hex (dword_name 0) (lo % 4294967296), length_hex (dword_name 1) (lo / 4294967296), length_hex (dword_name 2) (hi % 4294967296), length_hex (dword_name 3) (hi / 4294967296), p1.ensures.0, p1.auto.out, p2.ensures.0, p2.auto.out, p3.ensures.0, p3.auto.out, p4.ensures.0, p4.auto.out, p5.ensures.0, p5.auto.out, c.requires) in
    h

pub returns : goal.returns
returns c =
    let a = c.args in
    let lo = a.i.word.lo in
    let hi = a.i.word.hi in
    let p1 = c.put_line-a in
    let p2 = c.put_form-b in
    let p3 = c.put_hex_line-c in
    let p4 = c.put_hex_line-d in
    let p5 = c.put_hex_line-e in
    let p6 = c.put_hex_line in
    let low : lo < 2 ^ 64 = omega (arith, c.well_formed) in
    let high : hi < 2 ^ 64 = omega (arith, c.well_formed) in
    let s1 : Sofar a.out.now (line place_name (decimal a.i.place)) p1.new.out a.at p1.result = record { next = p1.ensures.0; is = p1.ensures.1 } in
    let s2 = further (line form_name (form_of a.i.size)) s1 p2.ensures.0 p2.ensures.1 in
    let s3 = further (line (dword_name 0) (hexes 8 (lo % 4294967296))) s2 p3.ensures.0 p3.ensures.1 in
    let s4 = further (line (dword_name 1) (hexes 8 (lo / 4294967296))) s3 p4.ensures.0 p4.ensures.1 in
    let s5 = further (line (dword_name 2) (hexes 8 (hi % 4294967296))) s4 p5.ensures.0 p5.ensures.1 in
    let s6 = further (line (dword_name 3) (hexes 8 (hi / 4294967296))) s5 p6.ensures.0 p6.ensures.1 in
    let e = lines_by a.i.place a.i.size lo hi low high in
    (s6.next ∙ ap (λ l. a.at + length l) e, s6.is ∙ ap (sets a.out.now a.at) e)
