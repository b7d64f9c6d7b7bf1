-- The masks are those of the contract. Assumes nothing.
use native.Mathlib.Omega.{arith}
use lib.ListN.{get_or}
use Rattle.machine.specs.Together.{both_mask, both_mask_less, and_both, or_either, and_without}
use Rattle.machine.proofs.posts.post.Goals as goal

pub returns : goal.returns
returns c =
    let a = c.args in (
      and_without a.up a.mask (omega arith) (omega arith),
      rw (and_both a.up a.mask (omega arith), or_either (get_or a.here.now a.place 0) (both_mask a.up a.mask) (omega arith) (both_mask_less a.up a.mask)),
    )
