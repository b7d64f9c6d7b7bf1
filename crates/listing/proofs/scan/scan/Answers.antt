-- The loop's invariant: any answer and marks that say what is left of the text from byte `from` and place `place` on say what the whole is read as. The measure
-- is what is left of the text. Assumes nothing.
use Prim.Native.Nat.{ℕ, ◌<◌}
use native.Mathlib.Omega.{arith}
use lib.ListN.{length-set, length-replicate}
use borrow.Author.Rules.{rules}
use Rattle.paper.specs.Limits.{instruction_limit}
use Rattle.kernel.specs.Marks.{place_count, blank_unmarked}
use Rattle.listing.specs.Scanning.{leads_start, leads_full, leads_none, leads_some, leads_end, instr_bounds}
use Rattle.listing.proofs.scan.scan.Goals as goal

pub loop-from-init : goal.loop-from-init
loop-from-init c = (search rules, search rules, search rules, length-replicate {A = ℕ} place_count 0, leads_start _ _ _ (blank_unmarked place_count))

pub returns-then-count-eq-INSTRUCTION_LIMIT : goal.returns-then-count-eq-INSTRUCTION_LIMIT
returns-then-count-eq-INSTRUCTION_LIMIT c =
    rw c.at.ensures (leads_full _ _ _ _ _ _ _ c.loop-from.invariant.4 c.loop-from-test.true c.if-count-eq-INSTRUCTION_LIMIT.true)

pub lines_at-requires : goal.lines_at-requires
lines_at-requires c =
    let l = c.loop-from in
    record { inside = l.invariant.0; near = omega (arith, c.if-count-eq-INSTRUCTION_LIMIT.false, l.invariant.1, l.invariant.2) }

pub returns-in-None : goal.returns-in-None
returns-in-None c =
    let l = c.loop-from in
    let h : l.count < instruction_limit = omega (arith, c.if-count-eq-INSTRUCTION_LIMIT.false, l.invariant.1) in
    rw c.at-in-None.ensures (leads_none _ _ _ _ _ _ _ l.invariant.4 c.loop-from-test.true h c.in-None.ensures)

pub bounds-marks-place : goal.bounds-marks-place
bounds-marks-place c = let l = c.loop-from in omega (arith, l.invariant.1, l.invariant.2, l.invariant.3)

pub overflow_add-count : goal.overflow_add-count
overflow_add-count c = let l = c.loop-from in omega (arith, l.invariant.1)

pub overflow_add-place : goal.overflow_add-place
overflow_add-place c =
    let l = c.loop-from in
    let h : l.count < instruction_limit = omega (arith, c.if-count-eq-INSTRUCTION_LIMIT.false, l.invariant.1) in
    let r = c.in-Some.ensures in
    let b = instr_bounds _ _ _ _ _ _ c.loop-from-test.true r.0 r.1 in
    omega (arith, l.invariant.1, l.invariant.2, b.few)

pub loop-from-smaller : goal.loop-from-smaller
loop-from-smaller c =
    let l = c.loop-from in
    let h : l.count < instruction_limit = omega (arith, c.if-count-eq-INSTRUCTION_LIMIT.false, l.invariant.1) in
    let r = c.in-Some.ensures in
    let b = instr_bounds _ _ _ _ _ _ c.loop-from-test.true r.0 r.1 in
    omega (arith, b.more, c.loop-from-test.true)

pub loop-from-preserved : goal.loop-from-preserved
loop-from-preserved c =
    let l = c.loop-from in
    let h : l.count < instruction_limit = omega (arith, c.if-count-eq-INSTRUCTION_LIMIT.false, l.invariant.1) in
    let r = c.in-Some.ensures in
    let b = instr_bounds _ _ _ _ _ _ c.loop-from-test.true r.0 r.1 in
    let m : l.place < place_count = omega (arith, l.invariant.1, l.invariant.2) in (
      b.inside,
      omega arith,
      omega (arith, l.invariant.2, b.few),
      simp length-set l.invariant.3,
      leads_some _ _ _ _ _ _ _ l.invariant.4 c.loop-from-test.true h _ _ r.0 r.1 m l.invariant.3,
    )

pub bounds-marks-place-2 : goal.bounds-marks-place-2
bounds-marks-place-2 c = let l = c.loop-from in omega (arith, l.invariant.1, l.invariant.2, l.invariant.3)

pub returns : goal.returns
returns c =
    let l = c.loop-from in
    let m : l.place < place_count = omega (arith, l.invariant.1, l.invariant.2) in
    leads_end _ _ _ _ _ _ _ l.invariant.4 c.loop-from-test.false m l.invariant.3
