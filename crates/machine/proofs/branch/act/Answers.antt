-- Each arm is the paper's arm: those of the mask wait, and the kernel goes on or jumps. Assumes nothing.
use mathlib.Core.Path.{refl}
use mathlib.Core.Logic.{inl, inr}
use native.Mathlib.Omega.{arith}
use Rattle.machine.specs.Branches.{ways_is, acts_jmpi, acts_if, acts_else, acts_endif, acts_break, acts_cont_parked}
use Rattle.machine.proofs.branch.act.Goals as goal

pub returns-in-Jmpi : goal.returns-in-Jmpi
returns-in-Jmpi c =
    rw c.in-Jmpi.is (acts_jmpi (ways_is c.args.ways) c.args.up c.args.here.now c.args.predicate _ c.jump.ensures.0 c.jump.ensures.1, refl)

pub returns-in-If : goal.returns-in-If
returns-in-If c =
    rw c.in-If.is (acts_if (ways_is c.args.ways) c.args.up c.args.here.now c.args.predicate _ _ (omega arith) c.park.ensures.0, c.park.ensures.1)

pub returns-in-Else : goal.returns-in-Else
returns-in-Else c =
    let e = c.park-in-Else.ensures in
    rw c.in-Else.is (acts_else (ways_is c.args.ways) c.args.up c.args.here.now c.args.predicate _ _ e.0, e.1)

pub returns-in-Endif : goal.returns-in-Endif
returns-in-Endif c =
    rw c.in-Endif.is (acts_endif (ways_is c.args.ways) c.args.up c.args.here.now c.args.predicate _ refl c.onward.ensures, refl)

pub returns-in-Break : goal.returns-in-Break
returns-in-Break c =
    let e = c.park-in-Break.ensures in
    elim c.in-Break.is [
      | inl b ↦ rw b (acts_break (ways_is c.args.ways) c.args.up c.args.here.now c.args.predicate _ _ e.0, e.1)
      | inr b ↦ rw b (acts_cont_parked (ways_is c.args.ways) c.args.up c.args.here.now c.args.predicate _ _ e.0, e.1)
    ]
