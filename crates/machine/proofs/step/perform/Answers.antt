-- Each arm is the paper's: an effect on registers and flags by the awake channels, nothing, or a branch. Assumes nothing.
use mathlib.Core.List.{[]}
use mathlib.Core.Logic.{inl, inr}
use mathlib.Core.Path.{refl, sym, ap, ◌∙◌}
use Prim.Native.Nat.{◌<◌}
use borrow.Author.Rules.{rules}
use Rattle.paper.specs.Machine.{perform}
use Rattle.words.specs.Words.{to_word}
use Rattle.words.specs.Operations.{operation_is, branch_is}
use Rattle.execute.specs.Stores.{store_of}
use Rattle.machine.specs.Branches.{ways_is}
use Rattle.machine.specs.Steps.{pass_shown, idle_shown, branch_shown, predicate_less, nop_idle, unlisted_idle}
use Rattle.machine.proofs.step.perform.Goals as goal

pub execute-flags-requires : goal.execute-flags-requires
execute-flags-requires c = c.requires.o_value.1 _ (sym c.requires.o_value.0 ∙ ap operation_is c.in-Makes.is)

pub overflow_cast-voted : goal.overflow_cast-voted
overflow_cast-voted c =
    let h : c.voted.result < 65536 = rw c.voted.ensures (predicate_less (to_word c.args.w) (store_of [] c.wide.result [])) in
    search rules

pub returns-in-Makes-clause-by_index : goal.returns-in-Makes-clause-by_index
unfolding perform
returns-in-Makes-clause-by_index c =
    let a = c.args in
    let told = sym c.requires.o_value.0 ∙ ap operation_is c.in-Makes.is in
    let after = c.execute-flags.ensures in
    λ addresses cs posted.
    rw c.in-Makes.is
    (pass_shown _ _ a.here.now _ addresses cs (rw c.from.ensures posted) (sym c.from.ensures) _ (to_word a.w) (ways_is a.ways) (store_of a.registers.now a.flags addresses)
    told (c.requires.o_value.1 _ told).0.acting refl (after.by_index addresses) (after.by_index_2 addresses))

pub returns-in-Jumps-clause-by_index : goal.returns-in-Jumps-clause-by_index
unfolding perform
returns-in-Jumps-clause-by_index c =
    let a = c.args in
    λ addresses cs posted.
    let store = store_of a.registers.now a.flags addresses in
    rw c.in-Jumps.is
    (branch_shown _ _ _ a.registers.now addresses cs (branch_is c.in-Jumps.b) (to_word a.w) (ways_is a.ways) store posted.sixteen refl refl refl
    _ (rw c.wide.ensures at c.voted.ensures) (c.act-forked.ensures.0 store cs posted))

pub returns-in-Nop-clause-by_index : goal.returns-in-Nop-clause-by_index
unfolding perform
returns-in-Nop-clause-by_index c =
    let a = c.args in
    let w = to_word a.w in
    λ addresses cs posted.
    let store = store_of a.registers.now a.flags addresses in
    elim c.in-Nop.is [
      | inl o ↦ rw o (idle_shown _ a.up a.here.now a.registers.now addresses cs posted refl w (ways_is a.ways) store refl refl (nop_idle w _ store (sym c.requires.o_value.0 ∙ ap operation_is o)))
      | inr o ↦ rw o (idle_shown _ a.up a.here.now a.registers.now addresses cs posted refl w (ways_is a.ways) store refl refl (unlisted_idle w _ store (sym c.requires.o_value.0 ∙ ap operation_is o)))
    ]
