-- A turn compares one byte; past the last turn one of the two has ended.
use Rattle.std.proofs.Common.{◌≡◌, ◌∙◌, ⊎_elim, length, ap, arith, add_comm}
use Rattle.paper.specs.Text.{found}
use Rattle.text.specs.Steps.{found_step, found_ends, found_differs, found_all}
use Rattle.text.proofs.read.find.Goals as goal

pub loop-b-init : goal.loop-b-init
loop-b-init c =
    rw (c.into_iter-b-iterator.ensures.into_iter_gives, c.zip-b-items.ensures.first, c.zip-b-items.ensures.second, c.iter.ensures.rest, c.iter-2.ensures.rest)
    (ap (found c.args.text.now) c.from_place-rest.ensures, add_comm (length c.args.text.now) _)

pub returns-then-b-c : goal.returns-then-b-c
returns-then-b-c c =
    let s = c.in-Some.ensures.steps in
    rw (s.0, s.1) (found_differs _ _ 0 0 (omega arith) (omega arith) c.if-b-c.true) ∙ c.loop-b.invariant.0

pub loop-b-preserved : goal.loop-b-preserved
loop-b-preserved c =
    let s = c.in-Some.ensures.steps in
    (rw (s.0, s.1) (found_step _ _ 0 0 (omega arith) (omega arith) c.if-b-c.false) ∙ c.loop-b.invariant.0, omega (arith, ap length s.0, ap length s.1, c.loop-b.invariant.1))

pub returns-then-rest-text : goal.returns-then-rest-text
returns-then-rest-text c =
    let i = c.loop-b.invariant in
    ⊎_elim (λ p. absurd (omega (arith, p.1.0, i.1, c.if-rest-text.true)))
    (λ p. found_ends _ _ 0 0 (omega (arith, p.1.0, i.1, c.if-rest-text.true)) (omega (arith, p.1.0)) ∙ i.0) c.in-None.ensures.steps

pub returns-else-rest-text : goal.returns-else-rest-text
returns-else-rest-text c =
    let i = c.loop-b.invariant in
    ⊎_elim (λ p. found_all _ _ 0 0 (omega (arith, p.1.0)) ∙ i.0) (λ p. found_all _ _ 0 0 (omega (arith, p.1.0, i.1, c.if-rest-text.false)) ∙ i.0) c.in-None.ensures.steps
