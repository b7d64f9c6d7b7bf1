-- Some awake channel is in the mask, or none is. Assumes nothing.
use mathlib.Core.Path.{refl, sym, ◌∙◌}
use native.Mathlib.Omega.{arith}
use lib.ListN.{length-set}
use Rattle.machine.specs.Together.{and_both}
use Rattle.machine.specs.Branches.{ways_is, acts_leave, acts_repeat}
use Rattle.machine.proofs.branch.repeat.Goals as goal

pub returns-then-up-predicate-eq0 : goal.returns-then-up-predicate-eq0
returns-then-up-predicate-eq0 c =
    let a = c.args in
    (acts_leave (ways_is a.ways) a.up a.here.now a.predicate (sym (and_both a.up a.predicate (omega arith)) ∙ c.if-up-predicate-eq0.true) _ refl refl, refl)

pub returns : goal.returns
returns c =
    let a = c.args in
    let e = c.post-awake.ensures in
    (acts_repeat (ways_is a.ways) a.up a.here.now a.predicate (omega arith) (λ z. c.if-up-predicate-eq0.false (and_both a.up a.predicate (omega arith) ∙ z)) c.requires.next _ _ e.0 e.1 refl, rw e.1 (length-set a.here.now _ _))
