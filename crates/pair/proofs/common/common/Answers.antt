-- The next instruction is the same, or the first that is not. Assumes nothing.
use mathlib.Core.Path.{◌≡◌, sym, ◌∙◌}
use native.Mathlib.Omega.{arith}
use Rattle.kernel.specs.Reading.{stands_filled}
use Rattle.kernel.specs.Instructions.{Over, comes, ends}
use Rattle.pair.specs.Comparing.{reached_start, reached_few, reached_end, reached_over, reached_room, reached_more, reached_differs, reached_targets, reached_next}
use Rattle.pair.specs.Halves.{halves_same, halves_differ}
use Rattle.pair.proofs.common.common.Goals as goal

pub of-i-items-requires : goal.of-i-items-requires
of-i-items-requires c =
    let k = c.requires.taken.1 in record { bounded = k.sizes.kernel-most; whole = stands_filled _ _ _ _ k.stands }

pub loop-i-init : goal.loop-i-init
loop-i-init c =
    let start : Over c.args.dictionary.now c.args.sent.now c.into_iter-i-iterator.result × (c.into_iter-i-iterator.result.from ≡ 0) =
    rw c.into_iter-i-iterator.ensures.into_iter_gives c.of-i-items.ensures.over in
    record { over = start.0; reached = rw start.1 (reached_start _ _ _ _ _ c.requires.taken.0 c.requires.taken.1) }

pub overflow_mul-at : goal.overflow_mul-at
overflow_mul-at c = omega (arith, reached_few _ _ _ _ _ c.requires.taken.0 c.requires.taken.1 _ _ c.loop-i.invariant.reached)

pub returns-then-long-at : goal.returns-then-long-at
returns-then-long-at c = reached_over _ _ _ _ _ c.requires.taken.0 c.requires.taken.1 _ _ c.loop-i.invariant.reached c.if-long-at.true

pub overflow_mul-n : goal.overflow_mul-n
overflow_mul-n c = omega (arith, reached_few _ _ _ _ _ c.requires.taken.0 c.requires.taken.1 _ _ c.loop-i.invariant.reached)

pub overflow_mul-n-in-loop-i : goal.overflow_mul-n-in-loop-i
overflow_mul-n-in-loop-i c = omega (arith, reached_few _ _ _ _ _ c.requires.taken.0 c.requires.taken.1 _ _ c.loop-i.invariant.reached)

pub overflow_add-n : goal.overflow_add-n
overflow_add-n c = omega (arith, reached_few _ _ _ _ _ c.requires.taken.0 c.requires.taken.1 _ _ c.loop-i.invariant.reached)

pub rewrite-w-requires : goal.rewrite-w-requires
rewrite-w-requires c =
    let r = c.loop-i.invariant.reached in
    let g = comes c.loop-i.i-iterator c.loop-i.invariant.over c.in-Some.i c.next.new.self c.in-Some.ensures.steps in (
      reached_few _ _ _ _ _ c.requires.taken.0 c.requires.taken.1 _ _ r,
      reached_next _ _ _ _ _ c.requires.taken.0 c.requires.taken.1 _ _ r g.inside c.if-long-at.false _ _ g.fetched,
      rw g.place-is (reached_targets _ _ _ _ _ c.requires.taken.0 c.requires.taken.1 _ _ r g.inside c.if-long-at.false _ _ g.fetched c.args.places.now c.requires.placed),
    )

pub read16-requires : goal.read16-requires
read16-requires c = reached_room _ _ _ _ _ c.requires.taken.0 c.requires.taken.1 _ _ c.loop-i.invariant.reached c.if-long-at.false

pub returns-then-ne : goal.returns-then-ne
returns-then-ne c =
    let g = comes c.loop-i.i-iterator c.loop-i.invariant.over c.in-Some.i c.next.new.self c.in-Some.ensures.steps in
    let v = c.rewrite-w.result in
    let w = c.read16.result in
    reached_differs _ _ _ _ _ c.requires.taken.0 c.requires.taken.1 _ _ c.loop-i.invariant.reached g.inside c.if-long-at.false _ _ g.fetched
    c.args.places.now c.requires.placed _ (rw g.place-is at c.rewrite-w.ensures)
    (λ e. halves_differ v.lo v.hi w.lo w.hi (omega arith) (omega arith) _ c.ne.ensures c.if-ne.true (e ∙ sym c.read16.ensures))

pub overflow_add-n-in-loop-i : goal.overflow_add-n-in-loop-i
overflow_add-n-in-loop-i c = omega (arith, reached_few _ _ _ _ _ c.requires.taken.0 c.requires.taken.1 _ _ c.loop-i.invariant.reached)

pub loop-i-preserved : goal.loop-i-preserved
loop-i-preserved c =
    let g = comes c.loop-i.i-iterator c.loop-i.invariant.over c.in-Some.i c.next.new.self c.in-Some.ensures.steps in
    let v = c.rewrite-w.result in
    let w = c.read16.result in
    let same = halves_same v.lo v.hi w.lo w.hi (omega arith) (omega arith) _ c.ne.ensures c.if-ne.false in
    record {
      over = g.over;
      reached =
          rw g.next
          (reached_more _ _ _ _ _ c.requires.taken.0 c.requires.taken.1 _ _ c.loop-i.invariant.reached g.inside c.if-long-at.false _ _ g.fetched
          c.args.places.now c.requires.placed _ (rw g.place-is at c.rewrite-w.ensures) (same ∙ c.read16.ensures));
    }

pub returns : goal.returns
returns c =
    reached_end _ _ _ _ _ c.requires.taken.0 c.requires.taken.1 _ _ c.loop-i.invariant.reached
    (ends c.loop-i.i-iterator c.loop-i.invariant.over c.next.new.self c.in-None.ensures.steps)
