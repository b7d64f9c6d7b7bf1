-- Four lines, one after another.
use Rattle.std.proofs.Common.{◌≡◌, ◌+◌, ◌++◌, length, ◌<◌, ◌≤◌, ◌^◌, arith}
use Rattle.paper.specs.Text.{decimal, line}
use Rattle.paper.specs.Log.{verdict_name}
use Rattle.front.specs.declared.report.Report.{Report}
use Rattle.front.specs.Printed.{at_name, instructions_name, bytes_name, printed_text, report_is}
use Rattle.front.specs.Writing.{Small, length_lines, length_most, then_stored, first_stored}
use Rattle.front.proofs.lines.put_report.Goals as goal

-- A report's four numbers have 64 bits.
small : (r : Report) → r.verdict < 2 ^ 64 → r.at < 2 ^ 64 → r.instructions < 2 ^ 64 → r.bytes < 2 ^ 64 → Small (report_is r)
small r a b c d = record { verdict = a; at = b; instructions = c; bytes = d }

pub put_line-a-requires : goal.put_line-a-requires
put_line-a-requires c =
    let r : Report = c.args.r in
    let s : Small (report_is r) = small r (omega (arith, c.well_formed)) (omega (arith, c.well_formed)) (omega (arith, c.well_formed)) (omega (arith, c.well_formed)) in
    let h : 0 + length (line verdict_name (decimal r.verdict)) ≤ length c.args.out.now = omega (arith, length_lines (report_is r), length_most (report_is r) s, c.requires) in
    h

pub put_line-b-requires : goal.put_line-b-requires
put_line-b-requires c =
    let r : Report = c.args.r in
    let s : Small (report_is r) = small r (omega (arith, c.well_formed)) (omega (arith, c.well_formed)) (omega (arith, c.well_formed)) (omega (arith, c.well_formed)) in
    let h : c.put_line-a.result + length (line at_name (decimal r.at)) ≤ length c.put_line-a.new.out =
    omega (arith, length_lines (report_is r), length_most (report_is r) s, c.put_line-a.ensures.0, c.put_line-a.auto.out, c.requires) in
    h

pub put_line-c-requires : goal.put_line-c-requires
put_line-c-requires c =
    let r : Report = c.args.r in
    let s : Small (report_is r) = small r (omega (arith, c.well_formed)) (omega (arith, c.well_formed)) (omega (arith, c.well_formed)) (omega (arith, c.well_formed)) in
    let h : c.put_line-b.result + length (line instructions_name (decimal r.instructions)) ≤ length c.put_line-b.new.out =
    omega (arith, length_lines (report_is r), length_most (report_is r) s, c.put_line-a.ensures.0, c.put_line-a.auto.out, c.put_line-b.ensures.0, c.put_line-b.auto.out, c.requires) in
    h

pub put_line-requires : goal.put_line-requires
put_line-requires c =
    let r : Report = c.args.r in
    let s : Small (report_is r) = small r (omega (arith, c.well_formed)) (omega (arith, c.well_formed)) (omega (arith, c.well_formed)) (omega (arith, c.well_formed)) in
    let h : c.put_line-c.result + length (line bytes_name (decimal r.bytes)) ≤ length c.put_line-c.new.out =
    omega (arith, length_lines (report_is r), length_most (report_is r) s, c.put_line-a.ensures.0, c.put_line-a.auto.out, c.put_line-b.ensures.0, c.put_line-b.auto.out, c.put_line-c.ensures.0, c.put_line-c.auto.out, c.requires) in
    h

pub returns : goal.returns
unfolding printed_text
returns c =
    let r : Report = c.args.r in
    let s : Small (report_is r) = small r (omega (arith, c.well_formed)) (omega (arith, c.well_formed)) (omega (arith, c.well_formed)) (omega (arith, c.well_formed)) in
    let o = c.args.out.now in
    let a = c.put_line-a in
    let b = c.put_line-b in
    let d = c.put_line-c in
    let e = c.put_line in
    let t1 = line verdict_name (decimal r.verdict) in
    let t2 = line at_name (decimal r.at) in
    let t3 = line instructions_name (decimal r.instructions) in
    let t4 = line bytes_name (decimal r.bytes) in
    let most = length_most (report_is r) s in
    let n : e.result ≡ length (printed_text (report_is r)) = omega (arith, length_lines (report_is r), a.ensures.0, b.ensures.0, d.ensures.0, e.ensures.0) in
    let third = then_stored b.new.out d.new.out e.new.out t3 t4 b.result d.result d.ensures.0 d.ensures.1 e.ensures.1 in
    let second = then_stored a.new.out b.new.out e.new.out t2 (t3 ++ t4) a.result b.result b.ensures.0 b.ensures.1 third in
    let first = then_stored o a.new.out e.new.out t1 (t2 ++ (t3 ++ t4)) 0 a.result a.ensures.0 a.ensures.1 second in
    (n, omega (arith, n, most), first_stored o e.new.out (t1 ++ (t2 ++ (t3 ++ t4))) e.result (omega (arith, most, c.requires)) n first)
