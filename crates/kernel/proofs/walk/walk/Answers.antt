-- The loop's invariant: any answer and marks that say what is left of the walk from byte `from` on, after `count` instructions and with the marks made so
-- far, say what the whole parse is. The measure is what is left of the kernel. Assumes nothing.
use mathlib.Core.Path.{sym, ap, ◌∙◌}
use Prim.Native.Nat.{ℕ, ◌<◌}
use native.Mathlib.Omega.{arith}
use lib.ListN.{length-set, length-replicate}
use borrow.Author.Rules.{rules}
use Rattle.paper.specs.Limits.{instruction_limit}
use Rattle.paper.specs.Kernel.{parse}
use Rattle.kernel.specs.Judging.{judged_is}
use Rattle.kernel.specs.Marks.{place_count, blank_unmarked}
use Rattle.kernel.specs.Standing.{fits}
use Rattle.kernel.proofs.Walking.{leads_start, leads_full, leads_refused, leads_passed, leads_end}
use Rattle.kernel.proofs.walk.walk.Goals as goal

pub loop-from-init : goal.loop-from-init
unfolding parse
loop-from-init c =
    (search rules, search rules, length-replicate {A = ℕ} place_count 0, leads_start _ _ _ (blank_unmarked place_count))

pub returns-then-count-eq-INSTRUCTION_LIMIT : goal.returns-then-count-eq-INSTRUCTION_LIMIT
returns-then-count-eq-INSTRUCTION_LIMIT c =
    rw c.at.ensures (leads_full _ _ _ _ _ _ c.loop-from.invariant.3 c.loop-from-test.true c.if-count-eq-INSTRUCTION_LIMIT.true)

pub returns-in-Err : goal.returns-in-Err
returns-in-Err c =
    let l = c.loop-from in
    let j = sym c.judge_at.ensures ∙ ap judged_is c.in-Err.is in
    let h : l.count < instruction_limit = omega (arith, c.if-count-eq-INSTRUCTION_LIMIT.false) in
    rw c.at-in-Err.ensures (leads_refused _ _ _ _ _ _ l.invariant.3 c.loop-from-test.true h _ j)

pub overflow_mul-from : goal.overflow_mul-from
overflow_mul-from c =
    let l = c.loop-from in
    let j = sym c.judge_at.ensures ∙ ap judged_is c.in-Ok.is in
    let f = fits _ _ _ _ _ _ c.loop-from-test.true j in
    omega (arith, f.room)

pub overflow_add-from : goal.overflow_add-from
overflow_add-from c =
    let l = c.loop-from in
    let j = sym c.judge_at.ensures ∙ ap judged_is c.in-Ok.is in
    let f = fits _ _ _ _ _ _ c.loop-from-test.true j in
    omega (arith, f.room)

pub loop-from-smaller : goal.loop-from-smaller
loop-from-smaller c =
    let l = c.loop-from in
    let j = sym c.judge_at.ensures ∙ ap judged_is c.in-Ok.is in
    let f = fits _ _ _ _ _ _ c.loop-from-test.true j in
    omega (arith, f.some)

pub loop-from-preserved : goal.loop-from-preserved
loop-from-preserved c =
    let l = c.loop-from in
    let t = c.loop-from-test.true in
    let j = sym c.judge_at.ensures ∙ ap judged_is c.in-Ok.is in
    let f = fits _ _ _ _ _ _ t j in
    let h : l.count < instruction_limit = omega (arith, c.if-count-eq-INSTRUCTION_LIMIT.false) in (
      f.room,
      omega arith,
      simp length-set l.invariant.2,
      leads_passed _ _ _ _ _ _ l.invariant.3 t h _ _ j (omega arith) l.invariant.2,
    )

pub returns : goal.returns
returns c =
    let l = c.loop-from in
    leads_end _ _ _ _ _ _ l.invariant.3 c.loop-from-test.false (omega arith) l.invariant.2
