-- The cases are the call's, in its order. Assumes nothing.
use mathlib.Core.Bool.{true}
use mathlib.Core.List.{List}
use mathlib.Core.Path.{◌≡◌, refl, subst}
use Prim.Native.Nat.{ℕ}
use Rattle.paper.specs.Calls.{sized}
use Rattle.kernel.specs.Accepting.{right_sized}
use Rattle.run.specs.Answers.{run_size, run_limit, sizes_right, unsized_kernel, unsized_registers, unsized_state}
use Rattle.run.proofs.calls.run.Goals as goal

pub returns-in_default : goal.returns-in_default
returns-in_default c = rw c.into.ensures (run_size _ _ _ _ _ (unsized_kernel c.args.dictionary.now c.args.kernel.now c.args.registers.now c.args.state.now c.in_default.ensures))

pub returns-in_default-as_mut_array : goal.returns-in_default-as_mut_array
returns-in_default-as_mut_array c =
    let d = c.in-Some.ensures in
    let right = subst (λ (l : List ℕ). sized l c.args.kernel.now ≡ true) d.0 (right_sized c.in-Some.dictionary.now c.args.kernel.now d.1) in
    rw c.into-in_default-as_mut_array.ensures (run_size _ _ _ _ _ (unsized_registers c.args.dictionary.now c.args.kernel.now c.args.registers.now c.args.state.now right c.in_default-as_mut_array.ensures.cases))

pub returns-in_default-as_mut_array-2 : goal.returns-in_default-as_mut_array-2
returns-in_default-as_mut_array-2 c =
    let d = c.in-Some.ensures in
    let right = subst (λ (l : List ℕ). sized l c.args.kernel.now ≡ true) d.0 (right_sized c.in-Some.dictionary.now c.args.kernel.now d.1) in
    let r = c.in-Some-as_mut_array.ensures in
    rw c.into-in_default-as_mut_array-2.ensures (rw r.cases.same (run_size _ _ _ _ _ (unsized_state c.args.dictionary.now c.args.kernel.now c.args.registers.now c.args.state.now right (r.variant.0 refl) c.in_default-as_mut_array-2.ensures.cases)))

pub returns-then-budget-gt-BUDGET_LIMIT : goal.returns-then-budget-gt-BUDGET_LIMIT
returns-then-budget-gt-BUDGET_LIMIT c =
    let d = c.in-Some.ensures in
    let right = subst (λ (l : List ℕ). sized l c.args.kernel.now ≡ true) d.0 (right_sized c.in-Some.dictionary.now c.args.kernel.now d.1) in
    let r = c.in-Some-as_mut_array.ensures in
    let s = c.in-Some-as_mut_array-2.ensures in
    let z = sizes_right c.args.dictionary.now c.args.kernel.now c.args.registers.now c.args.state.now right (r.variant.0 refl) (s.variant.0 refl) in
    rw c.into-then-budget-gt-BUDGET_LIMIT.ensures (rw (r.cases.same, s.cases.same) (run_limit _ _ _ _ z _ c.if-budget-gt-BUDGET_LIMIT.true))

pub called-requires : goal.called-requires
called-requires c = (right_sized c.in-Some.dictionary.now c.args.kernel.now c.in-Some.ensures.1, c.if-budget-gt-BUDGET_LIMIT.false)
