-- The next instruction is written where it comes to stand. Assumes nothing.
use Rattle.std.proofs.Common.{◌≡◌, ◌≤◌, refl, ap, ◌∙◌, inl, length}
use Rattle.paper.specs.Limits.{instruction_limit}
use native.Mathlib.Omega.{arith}
use Rattle.kernel.specs.Reading.{stands_filled, stands_read}
use Rattle.kernel.specs.Instructions.{Over, comes, ends, instrs_left}
use Rattle.packer.specs.Stages.{stage_start, stage_room, stage_few, stage_next, targets_reach}
use Rattle.packer.specs.Written.{holds_start, holds_length, holds_next, holds_end}
use Rattle.packer.specs.Keeping.{number_start, number_next, number_low, kept_here}
use Rattle.packer.proofs.write.write_all.Goals as goal

pub of-requires : goal.of-requires
of-requires c =
    let k = c.requires.taken in record { bounded = k.sizes.kernel-most; whole = stands_filled _ _ _ _ k.stands }

pub loop-n-init : goal.loop-n-init
loop-n-init c =
    let k = c.requires.taken in
    let e = c.enumerate-n-items.ensures in
    let all = stands_read _ _ _ _ k.stands in
    let start : Over c.args.dictionary.now c.args.kernel.now c.into_iter-n-iterator.result.iter × (c.into_iter-n-iterator.result.iter.from ≡ 0)
    × (c.into_iter-n-iterator.result.count ≡ 0) × (length (instrs_left c.into_iter-n-iterator.result.iter) ≤ instruction_limit) =
    rw (c.into_iter-n-iterator.ensures.into_iter_gives, e.source) (c.of.ensures.over.0, c.of.ensures.over.1, e.count, rw (c.of.ensures.left, all) k.few) in
    let z = start.1 in
    record {
      asked = (tt, tt, inl (omega (arith, start.2, start.3)));
      left = omega (arith, start.2, start.3);
      over = start.0;
      stage = rw z (stage_start _ _ _ _ k _);
      written = rw z (holds_start _ _ _ _ k _ _);
      number = rw z (start.2 ∙ number_start _ _ _ _ k);
    }

pub offset_bounds-shorts-n : goal.offset_bounds-shorts-n
offset_bounds-shorts-n c =
    let i = c.loop-n.invariant in
    let step = c.in-Some.ensures.steps in
    let g = comes c.loop-n.n-iterator.iter i.over c.in-Some.i c.next.new.self.iter step.0 in
    record { fits = omega (arith, number_low _ _ _ _ c.requires.taken _ _ _ _ i.stage (step.1 ∙ i.number) g.inside _ _ g.fetched) }

pub bounds-shorts-n : goal.bounds-shorts-n
bounds-shorts-n c =
    let i = c.loop-n.invariant in
    let step = c.in-Some.ensures.steps in
    let g = comes c.loop-n.n-iterator.iter i.over c.in-Some.i c.next.new.self.iter step.0 in
    omega (arith, number_low _ _ _ _ c.requires.taken _ _ _ _ i.stage (step.1 ∙ i.number) g.inside _ _ g.fetched)

pub overflow_add-next : goal.overflow_add-next
overflow_add-next c = omega (arith, stage_few _ _ _ _ c.requires.taken _ _ _ c.loop-n.invariant.stage, c.places_taken.ensures.2)

pub rewrite-w-requires : goal.rewrite-w-requires
rewrite-w-requires c =
    let k = c.requires.taken in
    let i = c.loop-n.invariant in
    let step = c.in-Some.ensures.steps in
    let g = comes c.loop-n.n-iterator.iter i.over c.in-Some.i c.next.new.self.iter step.0 in
    let o = kept_here _ _ _ _ k _ _ _ _ i.stage (step.1 ∙ i.number) g.inside _ _ g.fetched c.args.shorts.now c.requires.all_kept in
    let n = stage_next _ _ _ _ k _ _ _ i.stage g.inside _ _ g.fetched _ _ o c.places_taken.ensures.0 in (
      stage_few _ _ _ _ k _ _ _ i.stage,
      stage_few _ _ _ _ k _ _ _ n,
      rw g.place-is (targets_reach _ _ _ _ k _ _ _ i.stage g.inside _ _ g.fetched c.args.places.now c.requires.placed),
    )

pub overflow_mul-at : goal.overflow_mul-at
overflow_mul-at c = omega (arith, stage_few _ _ _ _ c.requires.taken _ _ _ c.loop-n.invariant.stage)

pub write_word-requires : goal.write_word-requires
write_word-requires c =
    let k = c.requires.taken in
    let i = c.loop-n.invariant in
    let step = c.in-Some.ensures.steps in
    let g = comes c.loop-n.n-iterator.iter i.over c.in-Some.i c.next.new.self.iter step.0 in
    let o = kept_here _ _ _ _ k _ _ _ _ i.stage (step.1 ∙ i.number) g.inside _ _ g.fetched c.args.shorts.now c.requires.all_kept in
    let n = stage_next _ _ _ _ k _ _ _ i.stage g.inside _ _ g.fetched _ _ o refl in
    let room = stage_room _ _ _ _ k _ _ _ n in
    let same = holds_length _ _ _ _ k _ _ _ _ i.stage _ i.written (omega (arith, stage_room _ _ _ _ k _ _ _ i.stage, c.requires.kernel_in_bounds)) in
    omega (arith, room, same, c.requires.kernel_in_bounds)

pub loop-n-preserved : goal.loop-n-preserved
loop-n-preserved c =
    let k = c.requires.taken in
    let i = c.loop-n.invariant in
    let step = c.in-Some.ensures.steps in
    let g = comes c.loop-n.n-iterator.iter i.over c.in-Some.i c.next.new.self.iter step.0 in
    let o = kept_here _ _ _ _ k _ _ _ _ i.stage (step.1 ∙ i.number) g.inside _ _ g.fetched c.args.shorts.now c.requires.all_kept in
    let p = c.places_taken.ensures.0 in
    let fewer = ap length step.0.0 in
    record {
      asked = (tt, tt, inl (omega (arith, i.left, fewer, step.2)));
      left = omega (arith, i.left, fewer, step.2);
      over = g.over;
      stage = rw g.next (stage_next _ _ _ _ k _ _ _ i.stage g.inside _ _ g.fetched _ _ o p);
      written =
          rw g.next
          (holds_next _ _ _ _ k _ _ _ _ i.stage c.loop-n.out i.written g.inside _ _ g.fetched _ _ _ c.args.places.now _ c.requires.placed o p
          (rw g.place-is at c.rewrite-w.ensures) c.write_word.ensures);
      number = rw g.next (step.2 ∙ number_next _ _ _ _ k _ _ _ _ i.stage i.number g.inside _ _ g.fetched);
    }

pub shape_of-out : goal.shape_of-out
shape_of-out c =
    let k = c.requires.taken in
    let i = c.loop-n.invariant in
    holds_length _ _ _ _ k _ _ _ _ i.stage c.loop-n.out i.written (omega (arith, stage_room _ _ _ _ k _ _ _ i.stage, c.requires.kernel_in_bounds))

pub returns : goal.returns
returns c =
    let i = c.loop-n.invariant in
    holds_end _ _ _ _ c.requires.taken _ _ _ _ i.stage c.loop-n.out i.written (ends c.loop-n.n-iterator.iter i.over c.next.new.self.iter c.in-None.ensures.steps.0)
