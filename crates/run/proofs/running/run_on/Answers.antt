-- The loop's invariant: the run stands at a state of each kernel that the table has, to which the whole run leads. Its measure: the budget left. Assumes nothing.
use mathlib.Core.Path.{refl, sym, ◌∙◌}
use native.Mathlib.Omega.{arith}
use Rattle.paper.specs.Machine.{step}
use Rattle.run.specs.Acting.{acts_by}
use Rattle.run.specs.Running.{running_addresses, running_a0, running_place, running_end, running_spent, running_made}
use Rattle.run.specs.Tables.{row_there, row_away, row_steps, row_usual}
use Rattle.run.specs.Outcomes.{leads_start, leads_on, leads_spent, leads_stopped, leads_end}
use Rattle.run.proofs.running.run_on.Goals as goal

pub loop-s-init : goal.loop-s-init
loop-s-init c = (omega arith, λ k t r d. (t, r, leads_start k _ t), refl, λ e. refl)

pub shape_of-addresses-then-steps-budget : goal.shape_of-addresses-then-steps-budget
shape_of-addresses-then-steps-budget c =
    let p = c.requires in
    let i = c.loop-s.invariant.1 p.0 p.1 p.2 p.3 in
    running_addresses p.0 _ _ _ _ i.0 i.1 ∙ sym (running_addresses p.0 _ _ _ _ p.1 p.2)

pub shape_of-here-then-steps-budget : goal.shape_of-here-then-steps-budget
shape_of-here-then-steps-budget c = c.loop-s.invariant.2

pub returns-then-steps-budget : goal.returns-then-steps-budget
returns-then-steps-budget c =
    λ k t r d.
    let i = c.loop-s.invariant.1 k t r d in
    (i.0, i.1, leads_spent k _ t _ i.0 i.2 (running_spent k _ _ _ _ i.0 i.1 (row_away k _ _ _ _ d _ _ _ _ i.0 i.1 c.loop-s-test.true)) c.if-steps-budget.true)

pub row_at-row-requires : goal.row_at-row-requires
row_at-row-requires c =
    let p = c.requires in
    let i = c.loop-s.invariant.1 p.0 p.1 p.2 p.3 in
    row_there p.0 _ _ _ _ p.3 _ _ _ _ i.0 i.1 c.loop-s-test.true

pub acting-requires : goal.acting-requires
acting-requires c =
    let p = c.requires in
    let i = c.loop-s.invariant.1 p.0 p.1 p.2 p.3 in
    let st = row_steps p.0 _ _ _ _ p.3 _ _ _ _ i.0 i.1 c.loop-s-test.true _ c.loop-s.invariant.3 (omega (arith, c.loop-s.invariant.0, c.if-steps-budget.false)) _ _ c.row_at-row.ensures.0 c.row_at-row.ensures.1 in
    (st.legal, running_addresses p.0 _ _ _ _ i.0 i.1, row_usual p.0 _ _ _ _ p.3 _ _ _ _ i.0 i.1 c.loop-s-test.true _ c.loop-s.invariant.3 (omega (arith, c.loop-s.invariant.0, c.if-steps-budget.false)) _ _ c.row_at-row.ensures.0 c.row_at-row.ensures.2)

pub step_at-s-requires : goal.step_at-s-requires
step_at-s-requires c =
    let p = c.requires in
    let i = c.loop-s.invariant.1 p.0 p.1 p.2 p.3 in
    let st = row_steps p.0 _ _ _ _ p.3 _ _ _ _ i.0 i.1 c.loop-s-test.true _ c.loop-s.invariant.3 (omega (arith, c.loop-s.invariant.0, c.if-steps-budget.false)) _ _ c.row_at-row.ensures.0 c.row_at-row.ensures.1 in
    let acts = acts_by _ _ _ _ c.acting.ensures c.in-Steps.is in
    record { on_registers = (acts.1, st.within); place_inside = running_place p.0 _ _ _ _ i.0 i.1 }

pub overflow_add-steps : goal.overflow_add-steps
overflow_add-steps c = omega (arith, c.loop-s.invariant.0, c.if-steps-budget.false, c.ranges.budget)

pub loop-s-smaller-in-Steps : goal.loop-s-smaller-in-Steps
loop-s-smaller-in-Steps c = omega (arith, c.loop-s.invariant.0, c.if-steps-budget.false)

pub loop-s-preserved-in-Steps : goal.loop-s-preserved-in-Steps
loop-s-preserved-in-Steps c =
    let l = c.loop-s in
    let more = c.if-steps-budget.false in
    let acts = acts_by _ _ _ _ c.acting.ensures c.in-Steps.is in (
      omega (arith, l.invariant.0, more),
      λ k t r d.
          let i = l.invariant.1 k t r d in
          let st = row_steps k _ _ _ _ d _ _ _ _ i.0 i.1 c.loop-s-test.true _ c.loop-s.invariant.3 (omega (arith, c.loop-s.invariant.0, c.if-steps-budget.false)) _ _ c.row_at-row.ensures.0 c.row_at-row.ensures.1 in
          let same = acts.2 _ _ i.0 (running_a0 k _ _ _ _ i.0 i.1) in
          (step k i.0, running_made k _ _ _ _ i.0 i.1 _ _ _ st same _ _ _ _ c.step_at-s.ensures.here_length (c.step_at-s.ensures.by_index _ i.0 i.1.shows), leads_on k _ t _ i.0 i.2 (st.on acts.0) (omega (arith, l.invariant.0, more)) (step k i.0) refl),
      c.step_at-s.ensures.here_length ∙ l.invariant.2,
      λ e. absurd (omega arith),
    )

pub move_at-s-requires : goal.move_at-s-requires
move_at-s-requires c =
    let p = c.requires in
    let i = c.loop-s.invariant.1 p.0 p.1 p.2 p.3 in
    let st = row_steps p.0 _ _ _ _ p.3 _ _ _ _ i.0 i.1 c.loop-s-test.true _ c.loop-s.invariant.3 (omega (arith, c.loop-s.invariant.0, c.if-steps-budget.false)) _ _ c.row_at-row.ensures.0 c.row_at-row.ensures.1 in
    let acts = acts_by _ _ _ _ c.acting.ensures c.in-Moves.is in
    record { w_value = (acts.1.0, acts.1.1, running_addresses p.0 _ _ _ _ i.0 i.1); place_inside = running_place p.0 _ _ _ _ i.0 i.1 }

pub overflow_add-steps-in-Moves : goal.overflow_add-steps-in-Moves
overflow_add-steps-in-Moves c = omega (arith, c.loop-s.invariant.0, c.if-steps-budget.false, c.ranges.budget)

pub loop-s-smaller-in-Moves : goal.loop-s-smaller-in-Moves
loop-s-smaller-in-Moves c = omega (arith, c.loop-s.invariant.0, c.if-steps-budget.false)

pub loop-s-preserved-in-Moves : goal.loop-s-preserved-in-Moves
loop-s-preserved-in-Moves c =
    let l = c.loop-s in
    let more = c.if-steps-budget.false in
    let acts = acts_by _ _ _ _ c.acting.ensures c.in-Moves.is in (
      omega (arith, l.invariant.0, more),
      λ k t r d.
          let i = l.invariant.1 k t r d in
          let st = row_steps k _ _ _ _ d _ _ _ _ i.0 i.1 c.loop-s-test.true _ c.loop-s.invariant.3 (omega (arith, c.loop-s.invariant.0, c.if-steps-budget.false)) _ _ c.row_at-row.ensures.0 c.row_at-row.ensures.1 in
          let same = acts.2 _ _ i.0 (running_a0 k _ _ _ _ i.0 i.1) in
          (step k i.0, running_made k _ _ _ _ i.0 i.1 _ _ _ st same _ _ _ _ c.move_at-s.ensures.here_length (c.move_at-s.ensures.shows i.0 i.1.shows), leads_on k _ t _ i.0 i.2 (st.on acts.0) (omega (arith, l.invariant.0, more)) (step k i.0) refl),
      c.move_at-s.ensures.here_length ∙ l.invariant.2,
      λ e. absurd (omega arith),
    )

pub float_at-s-requires : goal.float_at-s-requires
float_at-s-requires c =
    let p = c.requires in
    let i = c.loop-s.invariant.1 p.0 p.1 p.2 p.3 in
    let st = row_steps p.0 _ _ _ _ p.3 _ _ _ _ i.0 i.1 c.loop-s-test.true _ c.loop-s.invariant.3 (omega (arith, c.loop-s.invariant.0, c.if-steps-budget.false)) _ _ c.row_at-row.ensures.0 c.row_at-row.ensures.1 in
    let acts = acts_by _ _ _ _ c.acting.ensures c.in-Reckons.is in
    record { w_value = acts.1; place_inside = running_place p.0 _ _ _ _ i.0 i.1 }

pub overflow_add-steps-in-Reckons : goal.overflow_add-steps-in-Reckons
overflow_add-steps-in-Reckons c = omega (arith, c.loop-s.invariant.0, c.if-steps-budget.false, c.ranges.budget)

pub loop-s-smaller : goal.loop-s-smaller
loop-s-smaller c = omega (arith, c.loop-s.invariant.0, c.if-steps-budget.false)

pub loop-s-preserved : goal.loop-s-preserved
loop-s-preserved c =
    let l = c.loop-s in
    let more = c.if-steps-budget.false in
    let acts = acts_by _ _ _ _ c.acting.ensures c.in-Reckons.is in (
      omega (arith, l.invariant.0, more),
      λ k t r d.
          let i = l.invariant.1 k t r d in
          let st = row_steps k _ _ _ _ d _ _ _ _ i.0 i.1 c.loop-s-test.true _ c.loop-s.invariant.3 (omega (arith, c.loop-s.invariant.0, c.if-steps-budget.false)) _ _ c.row_at-row.ensures.0 c.row_at-row.ensures.1 in
          let same = acts.2 _ _ i.0 (running_a0 k _ _ _ _ i.0 i.1) in
          (step k i.0, running_made k _ _ _ _ i.0 i.1 _ _ _ st same _ _ _ _ c.float_at-s.ensures.here_length (c.float_at-s.ensures.by_index _ i.0 i.1.shows), leads_on k _ t _ i.0 i.2 (st.on acts.0) (omega (arith, l.invariant.0, more)) (step k i.0) refl),
      c.float_at-s.ensures.here_length ∙ l.invariant.2,
      λ e. absurd (omega arith),
    )

pub shape_of-addresses-in-Broken : goal.shape_of-addresses-in-Broken
shape_of-addresses-in-Broken c =
    let p = c.requires in
    let i = c.loop-s.invariant.1 p.0 p.1 p.2 p.3 in
    running_addresses p.0 _ _ _ _ i.0 i.1 ∙ sym (running_addresses p.0 _ _ _ _ p.1 p.2)

pub shape_of-here-in-Broken : goal.shape_of-here-in-Broken
shape_of-here-in-Broken c = c.loop-s.invariant.2

pub returns-in-Broken : goal.returns-in-Broken
returns-in-Broken c =
    λ k t r d.
    let i = c.loop-s.invariant.1 k t r d in
    let st = row_steps k _ _ _ _ d _ _ _ _ i.0 i.1 c.loop-s-test.true _ c.loop-s.invariant.3 (omega (arith, c.loop-s.invariant.0, c.if-steps-budget.false)) _ _ c.row_at-row.ensures.0 c.row_at-row.ensures.1 in
    let broken = acts_by _ _ _ _ c.acting.ensures c.in-Broken.is in
    (i.0, i.1, leads_stopped k _ t _ i.0 i.2 (omega (arith, c.loop-s.invariant.0, c.if-steps-budget.false)) 22 (st.astray broken))

pub shape_of-addresses : goal.shape_of-addresses
shape_of-addresses c =
    let p = c.requires in
    let i = c.loop-s.invariant.1 p.0 p.1 p.2 p.3 in
    running_addresses p.0 _ _ _ _ i.0 i.1 ∙ sym (running_addresses p.0 _ _ _ _ p.1 p.2)

pub shape_of-here : goal.shape_of-here
shape_of-here c = c.loop-s.invariant.2

pub returns : goal.returns
returns c =
    λ k t r d.
    let i = c.loop-s.invariant.1 k t r d in
    (i.0, i.1, leads_end k _ t _ i.0 i.2 (running_end k _ _ _ _ i.0 i.1 (c.loop-s-test.false ∙ d.ends)))
