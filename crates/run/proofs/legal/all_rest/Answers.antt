-- The loop's invariant: what is left from channel n on has the answer. Its measure: the channels left. Assumes nothing.
use mathlib.Core.Path.{sym, ◌∙◌}
use native.Mathlib.Omega.{arith}
use Rattle.run.specs.Landing.{waits_all, waits_none, waits_out, waits_on}
use Rattle.run.proofs.legal.all_rest.Goals as goal

pub loop-n-init : goal.loop-n-init
loop-n-init c = (omega arith, waits_all _ _)

pub returns-then-not-rests : goal.returns-then-not-rests
returns-then-not-rests c =
    let l = c.loop-n in
    let e = rw (c.bit-waits.ensures, c.from.ensures) at c.rests.ensures in
    sym (l.invariant.1 ∙ waits_out _ _ _ c.loop-n-test.true (sym e ∙ c.if-not-rests.true))

pub loop-n-preserved : goal.loop-n-preserved
loop-n-preserved c =
    let l = c.loop-n in
    let e = rw (c.bit-waits.ensures, c.from.ensures) at c.rests.ensures in
    (omega (arith, c.loop-n-test.true), l.invariant.1 ∙ waits_on _ _ _ c.loop-n-test.true (sym e ∙ c.if-not-rests.false))

pub returns : goal.returns
returns c = sym (c.loop-n.invariant.1 ∙ waits_none _ _ _ c.loop-n-test.false)
