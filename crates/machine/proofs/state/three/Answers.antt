-- The loop's invariant: the channels passed are each one of the three. Its measure: the channels left. Assumes nothing.
use mathlib.Core.Path.{◌≡◌, refl, sym, ◌∙◌}
use native.Mathlib.Omega.{arith}
use native.Mathlib.Numerals.{add-one}
use Rattle.paper.specs.State.{all_three}
use Rattle.machine.specs.States.{not_three}
use Rattle.machine.proofs.state.three.Goals as goal

pub loop-n-init : goal.loop-n-init
unfolding all_three
loop-n-init c = (omega arith, refl)

pub returns-then-not-one_of_three : goal.returns-then-not-one_of_three
returns-then-not-one_of_three c =
    sym (not_three c.args.bytes.now c.loop-n.n (omega arith) (sym c.one_of_three.ensures ∙ c.if-not-one_of_three.true))

pub loop-n-preserved : goal.loop-n-preserved
unfolding all_three
loop-n-preserved c =
    let n = c.loop-n.n in
    (omega arith, rw (add-one n, c.loop-n.invariant.1) (sym c.one_of_three.ensures ∙ c.if-not-one_of_three.false))

pub returns : goal.returns
returns c =
    let e : c.loop-n.n ≡ 16 = omega arith in
    sym (rw e at c.loop-n.invariant.1)
