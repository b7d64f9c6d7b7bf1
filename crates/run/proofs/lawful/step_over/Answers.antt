-- The state's bytes are where the run stands, before the step and after, and a0's bytes are lent from their end; the row of its place is in the table. Assumes nothing.
use native.Mathlib.Omega.{arith}
use Rattle.run.specs.Running.{running_before, running_place}
use Rattle.run.specs.Tables.{tabled_one}
use mathlib.Core.Path.{sym, ap, ◌∙◌}
use Rattle.run.specs.Outcomes.{verdict_is}
use Rattle.run.specs.Answers.{told_fine, legal_three, taken, waits_inside, stood, begins, step_end, step_made, step_astray}
use Rattle.run.specs.Lent.{back_whole_is, back_whole_shows}
use borrow.Author.Rules.{rules}
use Rattle.run.proofs.lawful.step_over.Goals as goal

pub enter-start-requires : goal.enter-start-requires
enter-start-requires c = (legal_three _ _ _ _ c.requires.allowed.sizes c.requires.allowed.lawful, c.requires.blank.0.zeros, waits_inside _ _ _ _ c.requires.allowed.sizes c.requires.allowed.lawful _ c.requires.blank.0)

pub returns-then-place-end : goal.returns-then-place-end
returns-then-place-end c = step_end _ _ _ _ c.requires.allowed.sizes c.requires.allowed.lawful _ _ (stood _ _ _ _ _ _ c.requires.blank.0 (c.enter-start.ensures.by_index_2 _) (omega arith, omega arith, c.enter-start.ensures.here_length)) c.if-place-end.true

pub put_row-requires : goal.put_row-requires
put_row-requires c =
    let r = begins c.requires.allowed c.requires.blank.0 (c.enter-start.ensures.by_index_2 _) (omega arith, omega arith, c.enter-start.ensures.here_length) in
    let a = taken _ _ _ _ c.requires.allowed.sizes c.requires.allowed.lawful in
    let h = running_before _ _ _ _ _ _ r in
    (record { takes = a; marked = c.requires.allowed.marked }, omega (arith, h, a.ends, c.if-place-end.false), omega (arith, h, a.ends, c.if-place-end.false, c.requires.blank.1))

pub run_on-out-requires : goal.run_on-out-requires
run_on-out-requires c = (_, _, begins c.requires.allowed c.requires.blank.0 (c.enter-start.ensures.by_index_2 _) (omega arith, omega arith, c.enter-start.ensures.here_length), (tabled_one _ _ _ _ (taken _ _ _ _ c.requires.allowed.sizes c.requires.allowed.lawful).ends c.put_row.ensures.there (omega (arith, c.requires.blank.1, c.put_row.ensures.long))))

pub overflow_mul-result : goal.overflow_mul-result
overflow_mul-result c =
    let r = begins c.requires.allowed c.requires.blank.0 (c.enter-start.ensures.by_index_2 _) (omega arith, omega arith, c.enter-start.ensures.here_length) in
    let a = c.run_on-out.ensures _ _ r (tabled_one _ _ _ _ (taken _ _ _ _ c.requires.allowed.sizes c.requires.allowed.lawful).ends c.put_row.ensures.there (omega (arith, c.requires.blank.1, c.put_row.ensures.long))) in
    let h = running_place _ _ _ _ _ _ a.1 in
    let f = a.1.few in
    search rules

pub returns-in-None : goal.returns-in-None
returns-in-None c =
    let r = begins c.requires.allowed c.requires.blank.0 (c.enter-start.ensures.by_index_2 _) (omega arith, omega arith, c.enter-start.ensures.here_length) in
    let a = c.run_on-out.ensures _ _ r (tabled_one _ _ _ _ (taken _ _ _ _ c.requires.allowed.sizes c.requires.allowed.lawful).ends c.put_row.ensures.there (omega (arith, c.requires.blank.1, c.put_row.ensures.long))) in
    step_astray _ _ _ _ c.requires.allowed.sizes c.requires.allowed.lawful _ _ (stood _ _ _ _ _ _ c.requires.blank.0 (c.enter-start.ensures.by_index_2 _) (omega arith, omega arith, c.enter-start.ensures.here_length)) _ _ _ _ a c.if-place-end.false (ap verdict_is c.in-None.is) _ (back_whole_is c.args.state.now c.requires.allowed.sizes.state-is _)

pub leave-requires : goal.leave-requires
leave-requires c =
    let r = begins c.requires.allowed c.requires.blank.0 (c.enter-start.ensures.by_index_2 _) (omega arith, omega arith, c.enter-start.ensures.here_length) in
    let a = c.run_on-out.ensures _ _ r (tabled_one _ _ _ _ (taken _ _ _ _ c.requires.allowed.sizes c.requires.allowed.lawful).ends c.put_row.ensures.there (omega (arith, c.requires.blank.1, c.put_row.ensures.long))) in
    (a.1.few, _, _, back_whole_shows c.args.state.now c.requires.allowed.sizes.state-is _ _ _ _ _ _ a.1)

pub returns-in-Some : goal.returns-in-Some
returns-in-Some c =
    let r = begins c.requires.allowed c.requires.blank.0 (c.enter-start.ensures.by_index_2 _) (omega arith, omega arith, c.enter-start.ensures.here_length) in
    let a = c.run_on-out.ensures _ _ r (tabled_one _ _ _ _ (taken _ _ _ _ c.requires.allowed.sizes c.requires.allowed.lawful).ends c.put_row.ensures.there (omega (arith, c.requires.blank.1, c.put_row.ensures.long))) in
    step_made _ _ _ _ c.requires.allowed.sizes c.requires.allowed.lawful _ _ (stood _ _ _ _ _ _ c.requires.blank.0 (c.enter-start.ensures.by_index_2 _) (omega arith, omega arith, c.enter-start.ensures.here_length)) _ _ _ _ a c.if-place-end.false (λ e. told_fine _ (sym (ap verdict_is c.in-Some.is) ∙ e)) _ (c.leave.ensures _ _ (back_whole_shows c.args.state.now c.requires.allowed.sizes.state-is _ _ _ _ _ _ a.1))
