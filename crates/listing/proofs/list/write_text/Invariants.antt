-- The loop's invariant: the lines of the instructions before those that are left are written before `at`. Assumes nothing.
use mathlib.Core.Path.{◌≡◌}
use lib.ListN.{length}
use Rattle.kernel.specs.Instructions.{Over}
use Rattle.listing.specs.Passing.{Writing}
use Rattle.listing.proofs.list.write_text.Given as goal

abbrev pub invariant-loop-i : goal.invariant-loop-i
invariant-loop-i l =
    Over l.dictionary l.kernel l.i-iterator × (length l.out ≡ length l.initial.out) × Writing l.dictionary l.kernel l.initial.out l.out l.i-iterator.from l.at
