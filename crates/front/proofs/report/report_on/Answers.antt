-- What the check says is put into the four numbers.
use Rattle.std.proofs.Common.{sym, ◌∙◌}
use Rattle.front.specs.Printed.{printed_as, printed_by, printed_refused}
use Rattle.front.proofs.report.report_on.Goals as goal

pub returns-in-Ok : goal.returns-in-Ok
unfolding printed_as
returns-in-Ok c = rw (c.from.ensures, c.number.ensures.0) (sym (printed_by _ _ _ (sym c.in-Ok.ensures)))

pub returns-in-Err : goal.returns-in-Err
returns-in-Err c =
    rw (c.refused.ensures, c.number-in-Err.ensures.0) (sym (printed_refused _ _ c.in-Err.refusing.count _) ∙ sym (printed_by _ _ _ (sym c.in-Err.ensures)))
