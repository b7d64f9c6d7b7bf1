-- A turn takes one digit.
use Rattle.std.proofs.Common.{◌∙◌, arith}
use Rattle.std.proofs.Common.{inl, inr, ⊎_elim}
use Rattle.text.specs.Steps.{digits_step, digits_stop, digits_end}
use Rattle.text.proofs.read.digits.Goals as goal

pub returns-then-b-lt48 : goal.returns-then-b-lt48
returns-then-b-lt48 c =
    let l = c.loop-b in
    (digits_stop _ l.v l.b-index c.loop-b-test.true (⊎_elim inl (λ r. inr (⊎_elim (λ a. inl a.1) (λ a. inr a.2) r)) c.then-b-lt48.either) ∙ l.invariant.1.0, l.invariant.1.1)

pub loop-b-preserved : goal.loop-b-preserved
loop-b-preserved c =
    let l = c.loop-b in
    (l.invariant.0, (rw c.from.ensures (digits_step _ l.v l.b-index c.loop-b-test.true (omega arith) (omega arith) (omega arith)) ∙ l.invariant.1.0, omega arith))

pub returns : goal.returns
returns c =
    let l = c.loop-b in
    (digits_end _ l.v l.b-index (omega arith) ∙ l.invariant.1.0, l.invariant.1.1)
