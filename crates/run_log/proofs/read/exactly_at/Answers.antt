-- The answer is by what was found of the line. Assumes nothing.
use Rattle.std.proofs.Common.{◌≡◌, ◌+◌, length, ap, ◌∙◌, arith}
use Rattle.paper.specs.Text.{decimal, line}
use Rattle.paper.specs.Log.{upto, reached_to}
use Rattle.text.specs.Written.{length-line}
use Rattle.run_log.specs.Rooms.{whole_fits}
use Rattle.run_log.proofs.read.exactly_at.Goals as goal

pub overflow_add-result : goal.overflow_add-result
overflow_add-result c =
    let a = c.args in
    omega (arith, whole_fits a.s.now a.name.now a.v a.at c.in_ok-find_line.ensures, c.well_formed)

pub overflow_add-result-2 : goal.overflow_add-result-2
overflow_add-result-2 c =
    let a = c.args in
    omega (arith, whole_fits a.s.now a.name.now a.v a.at c.in_ok-find_line.ensures, c.width.ensures.0, c.well_formed)

pub overflow_add-result-3 : goal.overflow_add-result-3
overflow_add-result-3 c =
    let a = c.args in
    omega (arith, whole_fits a.s.now a.name.now a.v a.at c.in_ok-find_line.ensures, c.width.ensures.0, c.well_formed)

pub returns : goal.returns
returns c =
    let a = c.args in
    let n : a.at + length a.name.now + c.width.result + 1 ≡ a.at + length (line a.name.now (decimal a.v)) =
    omega (arith, length-line a.name.now a.v, c.width.ensures.0) in
    ap upto n ∙ ap (reached_to (a.at + length (line a.name.now (decimal a.v)))) c.in_ok-find_line.ensures
