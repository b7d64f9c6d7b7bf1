-- The output is too short, or the kernel is written. Assumes nothing.
use Prim.Native.Nat.{◌≤◌}
use native.Mathlib.Omega.{arith}
use lib.ListN.{length}
use Rattle.paper.specs.Dictionary.{dictionary_of}
use Rattle.paper.specs.Listing.{kernel_of}
use Rattle.listing.specs.Again.{lines_in}
use Rattle.listing.specs.Writing.{deliver_short, deliver_written}
use Rattle.listing.proofs.read.write_read.Goals as goal

pub returns-then-out-n : goal.returns-then-out-n
returns-then-out-n c =
    let a = c.args in
    let e = c.requires.places_value.0 in
    rw c.into.ensures (deliver_short (kernel_of (dictionary_of a.dictionary.now) (lines_in a.dictionary.now a.text.now)) a.out.now (omega (arith, e, c.if-out-n.true)))

pub returns : goal.returns
returns c =
    let a = c.args in
    let e = c.requires.places_value.0 in
    let h : length (kernel_of (dictionary_of a.dictionary.now) (lines_in a.dictionary.now a.text.now)) ≤ length a.out.now = omega (arith, e, c.if-out-n.false) in
    rw c.accepted.ensures (deliver_written (kernel_of (dictionary_of a.dictionary.now) (lines_in a.dictionary.now a.text.now)) a.out.now _ _ h e c.write_kernel.ensures)
