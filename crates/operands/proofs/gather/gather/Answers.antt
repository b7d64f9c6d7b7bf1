-- Each shape's bytes are those of the region. Assumes nothing.
use Rattle.words.specs.Regions.{region_is}
use Rattle.operands.specs.Shapes.{region_from, beside_at, single_at, elements_same, elements_single}
use Rattle.operands.proofs.gather.gather.Goals as goal

pub beside-requires : goal.beside-requires
beside-requires c =
    let e = c.is_beside.ensures c.if-is_beside.true in
    record { size_value = (c.requires.small.1, c.requires.small.3, c.requires.small.4); by_index = λ k h. rw (beside_at (region_is (region_from c.args.origin c.args.vert c.args.code c.args.horz c.args.size)) k e.0 e.1) (c.requires.by_index k h) }

pub returns-then-is_beside : goal.returns-then-is_beside
returns-then-is_beside c =
    let e = c.is_beside.ensures c.if-is_beside.true in
    elements_same _ _ _ _ _ _ _ _ (λ k h. beside_at (region_is (region_from c.args.origin c.args.vert c.args.code c.args.horz c.args.size)) k e.0 e.1) c.beside.ensures

pub read_as-number-requires : goal.read_as-number-requires
read_as-number-requires c =
    let e = c.is_single.ensures c.if-is_single.true in
    (c.requires.small.1, rw (single_at (region_is (region_from c.args.origin c.args.vert c.args.code c.args.horz c.args.size)) 0 e.0 e.1) (c.requires.by_index 0 c.requires.small.2), c.requires.small.4)

pub returns-then-is_single : goal.returns-then-is_single
returns-then-is_single c =
    let e = c.is_single.ensures c.if-is_single.true in
    elements_single c.args.registers.now _ _ _ _ _ _ _ _ (λ k. single_at (region_is (region_from c.args.origin c.args.vert c.args.code c.args.horz c.args.size)) k e.0 e.1) c.read_as-number.ensures c.spread.ensures
