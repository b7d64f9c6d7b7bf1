-- The line is one of two, written out. Assumes nothing.
use mathlib.Core.Path.{ap, ◌∙◌}
use Prim.Native.Nat.{◌+◌, ◌≤◌}
use native.Mathlib.Omega.{arith}
use lib.ListN.{length}
use lib.Seq.{sets}
use Rattle.listing.specs.Writing.{short_line, long_line}
use Rattle.listing.proofs.write.put_form.Goals as goal

pub put_text-requires : goal.put_text-requires
put_text-requires c =
    let a = c.args in
    let h : a.at + 11 ≤ length a.out.now = omega (arith, ap length (short_line a.size c.if-size-eq1.true), c.requires) in
    h

pub returns-then-size-eq1 : goal.returns-then-size-eq1
returns-then-size-eq1 c =
    let a = c.args in
    let e = short_line a.size c.if-size-eq1.true in
    let t = c.put_text in
    (t.ensures.0 ∙ ap (λ l. a.at + length l) e, t.ensures.1 ∙ ap (sets a.out.now a.at) e)

pub put_text-requires-2 : goal.put_text-requires-2
put_text-requires-2 c =
    let a = c.args in
    let h : a.at + 10 ≤ length a.out.now = omega (arith, ap length (long_line a.size c.if-size-eq1.false), c.requires) in
    h

pub returns : goal.returns
returns c =
    let a = c.args in
    let e = long_line a.size c.if-size-eq1.false in
    let t = c.put_text-2 in
    (t.ensures.0 ∙ ap (λ l. a.at + length l) e, t.ensures.1 ∙ ap (sets a.out.now a.at) e)
