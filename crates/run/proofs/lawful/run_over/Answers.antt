-- The state's bytes are where the run stands, before its first step and after its last, and a0's bytes are lent from their end. Assumes nothing.
use native.Mathlib.Omega.{arith}
use Rattle.std.specs.Prelude.{◌*◌, Some, Ok, Err}
use Rattle.words.specs.declared.refusal.Refusal.TheVariants.{BadAddress}
use Rattle.run.specs.Running.{running_place}
use Rattle.run.specs.Answers.{legal_three, taken, waits_inside, stood, begins, run_made, told_astray, told_verdict}
use Rattle.run.specs.Lent.{back_whole_shows}
use borrow.Author.Rules.{rules}
use Rattle.run.proofs.lawful.run_over.Goals as goal

pub fill-end-requires : goal.fill-end-requires
fill-end-requires c = (record { takes = taken _ _ _ _ c.requires.allowed.0.sizes c.requires.allowed.0.lawful; marked = c.requires.allowed.0.marked }, c.requires.blank.1)

pub enter-start-requires : goal.enter-start-requires
enter-start-requires c = (legal_three _ _ _ _ c.requires.allowed.0.sizes c.requires.allowed.0.lawful, c.requires.blank.0.zeros, waits_inside _ _ _ _ c.requires.allowed.0.sizes c.requires.allowed.0.lawful _ c.requires.blank.0)

pub run_on-out-requires : goal.run_on-out-requires
run_on-out-requires c = (_, _, begins c.requires.allowed.0 c.requires.blank.0 (c.enter-start.ensures.by_index_2 _) (omega arith, omega arith, c.enter-start.ensures.here_length), c.fill-end.ensures.0 _ _)

pub leave-requires : goal.leave-requires
leave-requires c =
    let r = begins c.requires.allowed.0 c.requires.blank.0 (c.enter-start.ensures.by_index_2 _) (omega arith, omega arith, c.enter-start.ensures.here_length) in
    let a = c.run_on-out.ensures _ _ r (c.fill-end.ensures.0 _ _) in
    (a.1.few, _, _, back_whole_shows c.args.state.now c.requires.allowed.0.sizes.state-is _ _ _ _ _ _ a.1)

pub overflow_mul-result : goal.overflow_mul-result
overflow_mul-result c =
    let r = begins c.requires.allowed.0 c.requires.blank.0 (c.enter-start.ensures.by_index_2 _) (omega arith, omega arith, c.enter-start.ensures.here_length) in
    let a = c.run_on-out.ensures _ _ r (c.fill-end.ensures.0 _ _) in
    let h = running_place _ _ _ _ _ _ a.1 in
    let f = a.1.few in
    search rules

pub returns-in-None : goal.returns-in-None
returns-in-None c =
    let r = begins c.requires.allowed.0 c.requires.blank.0 (c.enter-start.ensures.by_index_2 _) (omega arith, omega arith, c.enter-start.ensures.here_length) in
    let a = c.run_on-out.ensures _ _ r (c.fill-end.ensures.0 _ _) in
    run_made _ _ _ _ c.requires.allowed.0.sizes c.requires.allowed.0.lawful _ _ (stood _ _ _ _ _ _ c.requires.blank.0 (c.enter-start.ensures.by_index_2 _) (omega arith, omega arith, c.enter-start.ensures.here_length)) _ c.requires.allowed.1 _ _ _ _ _ a (c.leave.ensures _ _ (back_whole_shows c.args.state.now c.requires.allowed.0.sizes.state-is _ _ _ _ _ _ a.1)) (Err (record { refusal = BadAddress; offset = 8 * c.run_on-out.result.stand.place; count = Some c.run_on-out.result.steps })) (told_astray _ _ _ c.in-None.is)

pub returns-in-Some : goal.returns-in-Some
returns-in-Some c =
    let r = begins c.requires.allowed.0 c.requires.blank.0 (c.enter-start.ensures.by_index_2 _) (omega arith, omega arith, c.enter-start.ensures.here_length) in
    let a = c.run_on-out.ensures _ _ r (c.fill-end.ensures.0 _ _) in
    run_made _ _ _ _ c.requires.allowed.0.sizes c.requires.allowed.0.lawful _ _ (stood _ _ _ _ _ _ c.requires.blank.0 (c.enter-start.ensures.by_index_2 _) (omega arith, omega arith, c.enter-start.ensures.here_length)) _ c.requires.allowed.1 _ _ _ _ _ a (c.leave.ensures _ _ (back_whole_shows c.args.state.now c.requires.allowed.0.sizes.state-is _ _ _ _ _ _ a.1)) (Ok (record { verdict = c.in-Some.verdict; count = c.run_on-out.result.steps })) (told_verdict _ _ _ _ c.in-Some.is)
