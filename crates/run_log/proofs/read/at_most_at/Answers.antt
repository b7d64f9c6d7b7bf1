-- Past the end the line is torn off; else it is by the number that the digits make. Assumes nothing.
use mathlib.Core.Path.{sym, ◌∙◌}
use Rattle.run_log.specs.Rooms.{most_reads, most_astray, most_past}
use Rattle.run_log.proofs.read.at_most_at.Goals as goal

pub returns-then-s-at : goal.returns-then-s-at
returns-then-s-at c = let a = c.args in
    most_past a.s.now a.name.now a.at a.limit c.if-s-at.true

pub returns-then-limit-v : goal.returns-then-limit-v
returns-then-limit-v c =
    let a = c.args in
    let d = c.digits-v in
    most_astray a.s.now a.name.now a.at a.limit d.result d.ensures.0 c.if-limit-v.true

pub returns : goal.returns
returns c =
    let a = c.args in
    let d = c.digits-v in
    c.exactly_at.ensures ∙ sym (most_reads a.s.now a.name.now a.at a.limit d.result d.ensures.0 c.if-limit-v.false)
