-- The loop's invariant: the instructions that are still to come have the answer of all. The measure is what is left of the text. Assumes nothing.
use Prim.Native.Nat.{◌-◌, ◌≤◌}
use lib.ListN.{length}
use Rattle.paper.specs.Dictionary.{dictionary_of}
use Rattle.listing.specs.Again.{lines_in, Judging}
use Rattle.listing.proofs.jumps.first_astray.Given as goal

abbrev pub invariant-loop-from : goal.invariant-loop-from
invariant-loop-from l = (l.from ≤ length l.text) × Judging (dictionary_of l.dictionary) l.text (lines_in l.dictionary l.text) l.place l.from

abbrev pub decreases-loop-from : goal.decreases-loop-from
decreases-loop-from l = length l.text - l.from
