-- Each shape's bytes are those of the region. Assumes nothing.
use Rattle.words.specs.Regions.{region_is}
use Rattle.operands.specs.Shapes.{region_from, beside_at, single_at}
use Rattle.operands.specs.Floats.{floats_same, floats_single}
use Rattle.operands.proofs.floats.float_gather.Goals as goal

pub float_line-requires : goal.float_line-requires
float_line-requires c =
    let e = c.is_beside.ensures c.if-is_beside.true in
    (c.requires.small.2, λ k h. rw (beside_at (region_is (region_from c.args.origin c.args.vert c.args.code c.args.horz 4)) k e.0 e.1) (c.requires.by_index k h))

pub returns-then-is_beside : goal.returns-then-is_beside
returns-then-is_beside c =
    let e = c.is_beside.ensures c.if-is_beside.true in
    floats_same _ _ _ _ _ _ (λ k h. beside_at (region_is (region_from c.args.origin c.args.vert c.args.code c.args.horz 4)) k e.0 e.1) c.float_line.ensures

pub read4-pattern-requires : goal.read4-pattern-requires
read4-pattern-requires c =
    let e = c.is_single.ensures c.if-is_single.true in
    rw (single_at (region_is (region_from c.args.origin c.args.vert c.args.code c.args.horz 4)) 0 e.0 e.1) (c.requires.by_index 0 c.requires.small.1)

pub returns-then-is_single : goal.returns-then-is_single
returns-then-is_single c =
    let e = c.is_single.ensures c.if-is_single.true in
    let read = c.read4-pattern.ensures in
    floats_single c.args.registers.now c.args.origin _ _ _ _ _ (λ k. single_at (region_is (region_from c.args.origin c.args.vert c.args.code c.args.horz 4)) k e.0 e.1) read.0 read.1 c.float_spread.ensures
