-- The next instruction is placed and its form is kept; at the end all are. Assumes nothing.
use Rattle.std.proofs.Common.{◌≡◌, ◌≤◌, ◌/◌, ap, ◌∙◌, inl, length}
use Rattle.paper.specs.Limits.{instruction_limit}
use native.Mathlib.Omega.{arith}
use Rattle.kernel.specs.Reading.{stands_filled, stands_read}
use Rattle.kernel.specs.Instructions.{Over, comes, ends, instrs_left}
use Rattle.packer.specs.Stages.{stage_start, stage_inside, stage_few, stage_next, end_to, placed_start, placed_next, placed_end}
use Rattle.packer.specs.Keeping.{kept_start, kept_next, kept_end, number_start, number_next, number_low}
use Rattle.packer.proofs.place.place_all.Goals as goal

pub of-requires : goal.of-requires
of-requires c =
    let k = c.requires.0 in record { bounded = k.sizes.kernel-most; whole = stands_filled _ _ _ _ k.stands }

pub loop-n-init : goal.loop-n-init
loop-n-init c =
    let k = c.requires.0 in
    let e = c.enumerate-n-items.ensures in
    let all = stands_read _ _ _ _ k.stands in
    let start : Over c.args.dictionary.now c.args.kernel.now c.into_iter-n-iterator.result.iter × (c.into_iter-n-iterator.result.iter.from ≡ 0)
    × (c.into_iter-n-iterator.result.count ≡ 0) × (length (instrs_left c.into_iter-n-iterator.result.iter) ≤ instruction_limit) =
    rw (c.into_iter-n-iterator.ensures.into_iter_gives, e.source) (c.of.ensures.over.0, c.of.ensures.over.1, e.count, rw (c.of.ensures.left, all) k.few) in
    let z = start.1 in
    record {
      asked = (tt, tt, inl (omega (arith, start.2, start.3)));
      left = omega (arith, start.2, start.3);
      over = start.0;
      stage = rw z (stage_start _ _ _ _ k _);
      placed = rw z (placed_start _ _ _ _ k _ c.args.places.now);
      number = rw z (start.2 ∙ number_start _ _ _ _ k);
      kept = rw start.2 (kept_start _ _ _ _ k _ c.args.shorts.now);
    }

pub overflow_cast-places : goal.overflow_cast-places
overflow_cast-places c = record { fits = omega (arith, stage_few _ _ _ _ c.requires.0 _ _ _ c.loop-n.invariant.stage) }

pub offset_bounds-shorts-n : goal.offset_bounds-shorts-n
offset_bounds-shorts-n c =
    let i = c.loop-n.invariant in
    let step = c.in-Some.ensures.steps in
    let g = comes c.loop-n.n-iterator.iter i.over c.in-Some.i c.next.new.self.iter step.0 in
    record { fits = omega (arith, number_low _ _ _ _ c.requires.0 _ _ _ _ i.stage (step.1 ∙ i.number) g.inside _ _ g.fetched) }

pub bounds-shorts-n : goal.bounds-shorts-n
bounds-shorts-n c =
    let i = c.loop-n.invariant in
    let step = c.in-Some.ensures.steps in
    let g = comes c.loop-n.n-iterator.iter i.over c.in-Some.i c.next.new.self.iter step.0 in
    omega (arith, number_low _ _ _ _ c.requires.0 _ _ _ _ i.stage (step.1 ∙ i.number) g.inside _ _ g.fetched)

pub overflow_add-to : goal.overflow_add-to
overflow_add-to c = omega (arith, stage_few _ _ _ _ c.requires.0 _ _ _ c.loop-n.invariant.stage, c.places_taken-to.ensures.2)

pub loop-n-preserved : goal.loop-n-preserved
loop-n-preserved c =
    let k = c.requires.0 in
    let i = c.loop-n.invariant in
    let step = c.in-Some.ensures.steps in
    let g = comes c.loop-n.n-iterator.iter i.over c.in-Some.i c.next.new.self.iter step.0 in
    let o = c.form-short.ensures in
    let fewer = ap length step.0.0 in
    record {
      asked = (tt, tt, inl (omega (arith, i.left, fewer, step.2)));
      left = omega (arith, i.left, fewer, step.2);
      over = g.over;
      stage = rw g.next (stage_next _ _ _ _ k _ _ _ i.stage g.inside _ _ g.fetched _ _ o c.places_taken-to.ensures.0);
      placed = rw (g.place-is, g.next) (placed_next _ _ _ _ k _ _ _ i.stage c.loop-n.places (omega arith) i.placed g.inside _ _ g.fetched);
      number = rw g.next (step.2 ∙ number_next _ _ _ _ k _ _ _ _ i.stage i.number g.inside _ _ g.fetched);
      kept = rw (step.2, step.1) (kept_next _ _ _ _ k _ _ _ _ i.stage i.number g.inside _ _ g.fetched c.loop-n.shorts _ (omega arith) i.kept o);
    }

pub overflow_cast-places-2 : goal.overflow_cast-places-2
overflow_cast-places-2 c = record { fits = omega (arith, stage_few _ _ _ _ c.requires.0 _ _ _ c.loop-n.invariant.stage) }

pub returns : goal.returns
returns c =
    let k = c.requires.0 in
    let i = c.loop-n.invariant in
    let over = ends c.loop-n.n-iterator.iter i.over c.next.new.self.iter c.in-None.ensures.steps.0 in
    let last : length c.args.kernel.now / 8 ≡ c.loop-n.n-iterator.iter.from / 8 = omega (arith, over, stage_inside _ _ _ _ k _ _ _ i.stage) in
    record {
      value = end_to _ _ _ _ k _ _ _ i.stage over;
      placed = rw last (placed_end _ _ _ _ k _ _ _ i.stage c.loop-n.places (omega arith) i.placed over);
      all_kept = kept_end _ _ _ _ k _ _ _ _ i.stage i.number over c.loop-n.shorts i.kept;
    }
