-- The output is too short, or the listing is written. Assumes nothing.
use Prim.Native.Nat.{◌≤◌}
use native.Mathlib.Omega.{arith}
use lib.ListN.{length}
use Rattle.paper.specs.Listing.{listing}
use Rattle.listing.specs.Passing.{instrs_in}
use Rattle.listing.specs.Writing.{deliver_short, deliver_written}
use Rattle.listing.proofs.list.list_accepted.Goals as goal

pub returns-then-room-n : goal.returns-then-room-n
returns-then-room-n c =
    let a = c.args in
    let e = c.text_length-n.ensures in
    rw c.into.ensures (deliver_short (listing (instrs_in a.dictionary.now a.kernel.now)) a.out.now (omega (arith, e, c.if-room-n.true)))

pub write_text-requires : goal.write_text-requires
write_text-requires c =
    let a = c.args in
    let e = c.text_length-n.ensures in
    let h : length (listing (instrs_in a.dictionary.now a.kernel.now)) ≤ length a.out.now = omega (arith, e, c.if-room-n.false) in
    record { listable = c.requires; kernel_in_bounds = h }

pub returns : goal.returns
returns c =
    let a = c.args in
    let e = c.text_length-n.ensures in
    let h : length (listing (instrs_in a.dictionary.now a.kernel.now)) ≤ length a.out.now = omega (arith, e, c.if-room-n.false) in
    rw c.accepted.ensures (deliver_written (listing (instrs_in a.dictionary.now a.kernel.now)) a.out.now _ _ h e c.write_text.ensures)
