-- A name, eight digits and the newline, one after another. Assumes nothing.
use mathlib.Core.Path.{◌≡◌, ◌∙◌}
use Prim.Native.Nat.{◌+◌, ◌≤◌}
use native.Mathlib.Omega.{arith}
use lib.ListN.{length, length-set}
use Rattle.paper.specs.Text.{hexes}
use Rattle.text.specs.Steps.{length-hexes}
use Rattle.listing.specs.Writing.{length_hex, line_stored}
use Rattle.listing.proofs.write.put_hex_line.Goals as goal

pub put_text-digits-requires : goal.put_text-digits-requires
put_text-digits-requires c =
    let a = c.args in
    let h : a.at + length a.name.now ≤ length a.out.now = omega (arith, length_hex a.name.now a.v, c.requires) in
    h

pub put_hex8-end-requires : goal.put_hex8-end-requires
put_hex8-end-requires c =
    let a = c.args in
    let p = c.put_text-digits in
    let h : p.result + 8 ≤ length p.new.out = omega (arith, length_hex a.name.now a.v, p.ensures.0, p.auto.out, c.requires) in
    h

pub bounds-out-end : goal.bounds-out-end
bounds-out-end c =
    let a = c.args in
    let p = c.put_text-digits in
    let q = c.put_hex8-end in
    omega (arith, length_hex a.name.now a.v, p.ensures.0, p.auto.out, q.ensures.0, q.auto.out, c.requires)

pub overflow_add-result : goal.overflow_add-result
overflow_add-result c =
    let a = c.args in
    let p = c.put_text-digits in
    let q = c.put_hex8-end in
    omega (arith, length_hex a.name.now a.v, p.ensures.0, p.auto.out, q.ensures.0, q.auto.out, c.requires, c.well_formed)

pub shape_of-out : goal.shape_of-out
shape_of-out c = simp length-set (c.put_hex8-end.auto.out ∙ c.put_text-digits.auto.out)

pub returns : goal.returns
returns c =
    let a = c.args in
    let p = c.put_text-digits in
    let q = c.put_hex8-end in
    let e : q.result ≡ p.result + length (hexes 8 a.v) = omega (arith, length-hexes 8 a.v, q.ensures.0) in (
      omega (arith, length_hex a.name.now a.v, p.ensures.0, q.ensures.0),
      line_stored a.out.now a.name.now (hexes 8 a.v) p.new.out q.new.out a.at p.result q.result p.ensures.0 p.ensures.1 e q.ensures.1,
    )
