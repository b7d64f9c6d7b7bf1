-- The loop's invariant: the table has the instructions below place p. Assumes nothing.
use mathlib.Core.Path.{◌≡◌, refl, ◌∙◌}
use Prim.Native.Nat.{◌/◌}
use native.Mathlib.Omega.{arith}
use lib.ListN.{length}
use Rattle.run.specs.Kernels.{instructions}
use Rattle.run.specs.Tables.{tabled_none, tabled_more, tabled_all}
use Rattle.run.proofs.accepted.Accepted.fill.Goals as goal

pub loop-p-init : goal.loop-p-init
loop-p-init c =
    let a = c.args in
    (omega arith, tabled_none (instructions a.self.dictionary.now a.self.kernel.now) a.table.now, refl)

pub put_row-requires : goal.put_row-requires
put_row-requires c =
    let p = c.requires in
    let i = c.loop-p.invariant in
    let t = c.loop-p-test.true in
    (p.0, omega (arith, t), omega (arith, t, p.1, i.2))

pub loop-p-preserved : goal.loop-p-preserved
loop-p-preserved c =
    let i = c.loop-p.invariant in
    let t = c.loop-p-test.true in
    let e = c.put_row.ensures in
    (omega (arith, t), tabled_more _ _ _ _ i.1 e, e.long ∙ i.2)

pub returns : goal.returns
returns c =
    let p = c.requires in
    let i = c.loop-p.invariant in
    let a = c.args in
    let done : c.loop-p.p ≡ length a.self.kernel.now / 8 = omega (arith, i.0, c.loop-p-test.false) in
    (tabled_all _ _ _ _ p.0.takes.ends done i.1 (omega (arith, p.1, i.2)), i.2)
