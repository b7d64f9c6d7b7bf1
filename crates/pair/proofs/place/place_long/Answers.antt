-- The next instruction is placed; at the end all are. Assumes nothing.
use mathlib.Core.Option.{none}
use mathlib.Core.Path.{◌≡◌, refl}
use Prim.Native.Nat.{◌/◌}
use native.Mathlib.Omega.{arith}
use lib.ListN.{length}
use Rattle.kernel.specs.Reading.{stands_filled}
use Rattle.kernel.specs.Instructions.{Over, comes, ends}
use Rattle.packer.specs.Stages.{stage_start, stage_inside, stage_few, stage_next, placed_start, placed_next, placed_end}
use Rattle.pair.proofs.place.place_long.Goals as goal

pub of-i-items-requires : goal.of-i-items-requires
of-i-items-requires c =
    let k = c.requires in record { bounded = k.sizes.kernel-most; whole = stands_filled _ _ _ _ k.stands }

pub loop-i-init : goal.loop-i-init
loop-i-init c =
    let k = c.requires in
    let start : Over c.args.dictionary.now c.args.kernel.now c.into_iter-i-iterator.result × (c.into_iter-i-iterator.result.from ≡ 0) =
    rw c.into_iter-i-iterator.ensures.into_iter_gives c.of-i-items.ensures.over in
    record { over = start.0; stage = rw start.1 (stage_start _ _ _ _ k _); placed = rw start.1 (placed_start _ _ _ _ k _ c.args.places.now) }

pub overflow_add-to : goal.overflow_add-to
overflow_add-to c = record { fits = omega (arith, stage_few _ _ _ _ c.requires _ _ _ c.loop-i.invariant.stage) }

pub loop-i-preserved : goal.loop-i-preserved
loop-i-preserved c =
    let k = c.requires in
    let i = c.loop-i.invariant in
    let g = comes c.loop-i.i-iterator i.over c.in-Some.i c.next.new.self c.in-Some.ensures.steps in
    record {
      over = g.over;
      stage = rw g.next (stage_next _ _ _ _ k _ _ _ i.stage g.inside _ _ g.fetched none 2 refl refl);
      placed = rw (g.place-is, g.next) (placed_next _ _ _ _ k _ _ _ i.stage c.loop-i.places (omega arith) i.placed g.inside _ _ g.fetched);
    }

pub returns : goal.returns
returns c =
    let k = c.requires in
    let i = c.loop-i.invariant in
    let over = ends c.loop-i.i-iterator i.over c.next.new.self c.in-None.ensures.steps in
    let last : length c.args.kernel.now / 8 ≡ c.loop-i.i-iterator.from / 8 = omega (arith, over, stage_inside _ _ _ _ k _ _ _ i.stage) in
    rw last (placed_end _ _ _ _ k _ _ _ i.stage c.loop-i.places (omega arith) i.placed over)
