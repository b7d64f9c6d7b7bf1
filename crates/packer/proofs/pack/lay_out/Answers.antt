-- The output is too short, or the result is written. Assumes nothing.
use native.Mathlib.Omega.{arith}
use Rattle.packer.specs.Answers.{end_most, laid_short, laid_room, laid_written}
use Rattle.packer.proofs.pack.lay_out.Goals as goal

pub place_all-end-requires : goal.place_all-end-requires
place_all-end-requires c = (c.requires, c.sets_for-sets.ensures)

pub overflow_mul-length : goal.overflow_mul-length
overflow_mul-length c = omega (arith, end_most _ _ _ c.requires _ c.place_all-end.ensures.value)

pub returns-then-out-length : goal.returns-then-out-length
returns-then-out-length c = rw c.into.ensures (laid_short _ _ _ c.requires _ c.place_all-end.ensures.value _ (omega (arith, c.if-out-length.true)))

pub write_all-requires : goal.write_all-requires
write_all-requires c =
    record { taken = c.requires; placed = c.place_all-end.ensures.placed; all_kept = c.place_all-end.ensures.all_kept; kernel_in_bounds = laid_room _ _ _ c.requires _ c.place_all-end.ensures.value c.args.out.now (omega (arith, c.if-out-length.false)) }

pub returns : goal.returns
returns c =
    rw c.accepted.ensures (laid_written _ _ _ c.requires _ c.place_all-end.ensures.value _ _ (omega (arith, c.if-out-length.false)) c.write_all.ensures)
