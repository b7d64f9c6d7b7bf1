-- Six lines, one after another. Assumes nothing.
use Prim.Native.Nat.{◌+◌, ◌≤◌}
use native.Mathlib.Omega.{arith}
use lib.ListN.{length}
use Rattle.paper.specs.Text.{decimal, line}
use Rattle.paper.specs.Log.{run_name, verdict_name, steps_name, place_name, awake_name, end_name}
use Rattle.run_log.specs.Meaning.{entry_is}
use Rattle.run_log.specs.Writing.{length_lines, start, further, record_stored}
use Rattle.run_log.proofs.write.write_record.Goals as goal

pub put_line-verdict-requires : goal.put_line-verdict-requires
put_line-verdict-requires c =
    let h : 0 + length (line run_name (decimal c.args.run)) ≤ length c.args.tail.now = omega (arith, length_lines c.args.run (entry_is c.args.e), c.requires) in
    h

pub put_line-steps-requires : goal.put_line-steps-requires
put_line-steps-requires c =
    let p1 = c.put_line-verdict in
    let h : p1.result + length (line verdict_name (decimal c.args.e.verdict)) ≤ length p1.new.out = omega (arith, length_lines c.args.run (entry_is c.args.e), p1.ensures.0, p1.auto.out, c.requires) in
    h

pub put_line-place-requires : goal.put_line-place-requires
put_line-place-requires c =
    let p1 = c.put_line-verdict in
    let p2 = c.put_line-steps in
    let h : p2.result + length (line steps_name (decimal c.args.e.steps)) ≤ length p2.new.out = omega (arith, length_lines c.args.run (entry_is c.args.e), p1.ensures.0, p1.auto.out, p2.ensures.0, p2.auto.out, c.requires) in
    h

pub put_line-awake-requires : goal.put_line-awake-requires
put_line-awake-requires c =
    let p1 = c.put_line-verdict in
    let p2 = c.put_line-steps in
    let p3 = c.put_line-place in
    let h : p3.result + length (line place_name (decimal c.args.e.place)) ≤ length p3.new.out = omega (arith, length_lines c.args.run (entry_is c.args.e), p1.ensures.0, p1.auto.out, p2.ensures.0, p2.auto.out, p3.ensures.0, p3.auto.out, c.requires) in
    h

pub put_line-end-requires : goal.put_line-end-requires
put_line-end-requires c =
    let p1 = c.put_line-verdict in
    let p2 = c.put_line-steps in
    let p3 = c.put_line-place in
    let p4 = c.put_line-awake in
    let h : p4.result + length (line awake_name (decimal c.args.e.awake)) ≤ length p4.new.out = omega (arith, length_lines c.args.run (entry_is c.args.e), p1.ensures.0, p1.auto.out, p2.ensures.0, p2.auto.out, p3.ensures.0, p3.auto.out, p4.ensures.0, p4.auto.out, c.requires) in
    h

pub put_line-requires : goal.put_line-requires
put_line-requires c =
    let p1 = c.put_line-verdict in
    let p2 = c.put_line-steps in
    let p3 = c.put_line-place in
    let p4 = c.put_line-awake in
    let p5 = c.put_line-end in
    let h : p5.result + length (line end_name (decimal 1)) ≤ length p5.new.out = omega (arith, length_lines c.args.run (entry_is c.args.e), p1.ensures.0, p1.auto.out, p2.ensures.0, p2.auto.out, p3.ensures.0, p3.auto.out, p4.ensures.0, p4.auto.out, p5.ensures.0, p5.auto.out, c.requires) in
    h

pub returns : goal.returns
returns c =
    let p1 = c.put_line-verdict in
    let p2 = c.put_line-steps in
    let p3 = c.put_line-place in
    let p4 = c.put_line-awake in
    let p5 = c.put_line-end in
    let p6 = c.put_line in
    record_stored c.args.run (entry_is c.args.e) c.args.tail.now p6.new.out p6.result
    (further (line end_name (decimal 1)) (further (line awake_name (decimal c.args.e.awake)) (further (line place_name (decimal c.args.e.place)) (further (line steps_name (decimal c.args.e.steps)) (further (line verdict_name (decimal c.args.e.verdict)) (further (line run_name (decimal c.args.run)) (start c.args.tail.now) p1.ensures.0 p1.ensures.1) p2.ensures.0 p2.ensures.1) p3.ensures.0 p3.ensures.1) p4.ensures.0 p4.ensures.1) p5.ensures.0 p5.ensures.1) p6.ensures.0 p6.ensures.1)
