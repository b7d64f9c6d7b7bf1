-- The test of their count is the call's, and the state that is then written is the start's. Assumes nothing.
use mathlib.Core.List.{List, []}
use mathlib.Core.Path.{refl, ap, ◌∙◌}
use Prim.Native.Nat.{ℕ}
use native.Mathlib.Omega.{arith}
use borrow.Author.Tests.{eq-eqb, ne_eqb}
use Rattle.paper.specs.State.{addresses_in, state_bytes}
use Rattle.paper.specs.Calls.{start_call}
use Rattle.machine.specs.States.{state_is, addresses_cleared}
use Rattle.machine.proofs.start.start.Goals as goal

pub returns-in-None : goal.returns-in-None
unfolding start_call
returns-in-None c = rw c.into.ensures (rw (ne_eqb _ _ c.in-None.ensures.cases) (refl, refl))

pub returns-in-Some : goal.returns-in-Some
unfolding start_call
returns-in-Some c =
    let cleared = ap addresses_in c.write16.ensures ∙ addresses_cleared c.in-Some.bytes.now (omega arith) in
    rw (c.accepted.ensures, eq-eqb _ _ (c.in-Some.ensures.variant.0 refl)) (
      refl,
      c.write_state.ensures []
          ∙ ap (λ (a : List ℕ). state_bytes (state_is [] a c.started.result)) cleared
          ∙ ap state_bytes (c.started.ensures.0 []),
    )
