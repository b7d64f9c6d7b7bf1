-- A byte ends the number, makes it none, or is a digit more of it. Assumes nothing.
use Rattle.std.proofs.Common.{sym, ◌∙◌}
use Rattle.rows.proofs.Reading.{hex_end, hex_stop, hex_none, hex_wide, hex_on}
use Rattle.rows.proofs.text.number_in.Goals as goal

pub returns-then-b-le-FIELD : goal.returns-then-b-le-FIELD
returns-then-b-le-FIELD c = hex_stop _ _ _ _ c.loop-b.invariant c.loop-b-test.true c.if-b-le-FIELD.true

pub returns-in_err-digit : goal.returns-in_err-digit
returns-in_err-digit c = c.from_residual.ensures ∙ hex_none _ _ _ _ c.loop-b.invariant c.loop-b-test.true c.if-b-le-FIELD.false (sym c.in_err-digit.ensures.0)

pub returns-then-so_far-ge268435456 : goal.returns-then-so_far-ge268435456
returns-then-so_far-ge268435456 c =
    hex_wide _ _ _ _ c.loop-b.invariant c.loop-b-test.true c.if-b-le-FIELD.false _ (sym c.in_ok-digit.ensures.0) (rw c.unwrap_or-so_far.ensures at c.if-so_far-ge268435456.true)

pub loop-b-preserved : goal.loop-b-preserved
loop-b-preserved c =
    rw c.unwrap_or-so_far.ensures
    (hex_on _ _ _ _ c.loop-b.invariant c.loop-b-test.true c.if-b-le-FIELD.false _ (sym c.in_ok-digit.ensures.0) (rw c.unwrap_or-so_far.ensures at c.if-so_far-ge268435456.false))

pub returns : goal.returns
returns c = hex_end _ _ _ _ c.loop-b.invariant c.loop-b-test.false
