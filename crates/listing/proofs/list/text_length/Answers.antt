-- One instruction more has its lines. Assumes nothing.
use mathlib.Core.Path.{◌≡◌}
use native.Mathlib.Omega.{arith}
use Rattle.kernel.specs.Reading.{stands_filled}
use Rattle.kernel.specs.Instructions.{Over, comes, ends}
use Rattle.listing.specs.Passing.{counting_start, counting_inside, counting_next, counting_end}
use Rattle.listing.proofs.list.text_length.Goals as goal

pub of-i-items-requires : goal.of-i-items-requires
of-i-items-requires c =
    let k = c.requires in record { bounded = k.sizes.kernel-most; whole = stands_filled _ _ _ _ k.stands }

pub loop-i-init : goal.loop-i-init
loop-i-init c =
    let start : Over c.args.dictionary.now c.args.kernel.now c.into_iter-i-iterator.result × (c.into_iter-i-iterator.result.from ≡ 0) =
    rw c.into_iter-i-iterator.ensures.into_iter_gives c.of-i-items.ensures.over in
    let z = start.1 in
    (start.0, omega (arith, z), rw z (counting_start _ _ c.requires))

pub overflow_add-n : goal.overflow_add-n
overflow_add-n c =
    let k = c.requires in
    let i = c.loop-i.invariant in
    omega (arith, i.1, i.2.few, k.sizes.kernel-most, c.lines_length-n.ensures.1)

pub loop-i-preserved : goal.loop-i-preserved
loop-i-preserved c =
    let i = c.loop-i.invariant in
    let g = comes c.loop-i.i-iterator i.0 c.in-Some.i c.next.new.self c.in-Some.ensures.steps in
    let l = c.lines_length-n.ensures in
    (g.over, rw g.next (counting_inside _ _ _ _ i.2 g.inside _ _ g.fetched), rw g.next (counting_next _ _ _ _ i.2 g.inside _ _ g.fetched _ (rw g.place-is at l.0) l.1))

pub returns : goal.returns
returns c =
    let i = c.loop-i.invariant in
    counting_end _ _ _ _ i.2 (ends c.loop-i.i-iterator i.0 c.next.new.self c.in-None.ensures.steps)
