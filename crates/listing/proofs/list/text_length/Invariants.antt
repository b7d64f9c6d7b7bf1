-- The loop's invariant: the instructions before those that are left have n bytes of lines. Assumes nothing.
use Prim.Native.Nat.{◌≤◌}
use lib.ListN.{length}
use Rattle.kernel.specs.Instructions.{Over}
use Rattle.listing.specs.Passing.{Counting}
use Rattle.listing.proofs.list.text_length.Given as goal

abbrev pub invariant-loop-i : goal.invariant-loop-i
invariant-loop-i l =
    let from = l.i-iterator.from in Over l.dictionary l.kernel l.i-iterator × (from ≤ length l.kernel) × Counting l.dictionary l.kernel from l.n
