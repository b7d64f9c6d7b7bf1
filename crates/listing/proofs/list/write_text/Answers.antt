-- The next instruction's lines are written after those before it. Assumes nothing.
use mathlib.Core.Path.{◌≡◌, refl, ◌∙◌}
use native.Mathlib.Omega.{arith}
use Rattle.kernel.specs.Reading.{stands_filled}
use Rattle.kernel.specs.Instructions.{Over, comes, ends}
use Rattle.listing.specs.Passing.{writing_start, writing_room, writing_next, writing_end}
use Rattle.listing.proofs.list.write_text.Goals as goal

pub of-i-items-requires : goal.of-i-items-requires
of-i-items-requires c =
    let k = c.requires.listable in record { bounded = k.sizes.kernel-most; whole = stands_filled _ _ _ _ k.stands }

pub loop-i-init : goal.loop-i-init
loop-i-init c =
    let start : Over c.args.dictionary.now c.args.kernel.now c.into_iter-i-iterator.result × (c.into_iter-i-iterator.result.from ≡ 0) =
    rw c.into_iter-i-iterator.ensures.into_iter_gives c.of-i-items.ensures.over in
    (start.0, refl, rw start.1 (writing_start _ _ _ c.requires.listable))

pub put_lines-at-requires : goal.put_lines-at-requires
put_lines-at-requires c =
    let i = c.loop-i.invariant in
    let g = comes c.loop-i.i-iterator i.0 c.in-Some.i c.next.new.self c.in-Some.ensures.steps in
    rw g.place-is (writing_room _ _ _ _ _ _ i.2 g.inside _ _ g.fetched (omega (arith, i.1, c.requires.kernel_in_bounds)))

pub loop-i-preserved : goal.loop-i-preserved
loop-i-preserved c =
    let i = c.loop-i.invariant in
    let g = comes c.loop-i.i-iterator i.0 c.in-Some.i c.next.new.self c.in-Some.ensures.steps in
    let p = c.put_lines-at in
    let e = rw g.place-is at p.ensures in
    (g.over, p.auto.out ∙ i.1, rw g.next (writing_next _ _ _ _ _ _ i.2 g.inside _ _ g.fetched _ _ e.0 e.1))

pub shape_of-out : goal.shape_of-out
shape_of-out c = c.loop-i.invariant.1

pub returns : goal.returns
returns c =
    let i = c.loop-i.invariant in
    writing_end _ _ _ _ _ _ i.2 (ends c.loop-i.i-iterator i.0 c.next.new.self c.in-None.ensures.steps)
