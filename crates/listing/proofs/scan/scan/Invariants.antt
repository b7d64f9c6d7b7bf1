-- The loop's invariant: any answer and marks that say what is left of the text from byte `from` and place `place` on say what the whole is read as. The measure
-- is what is left of the text. Assumes nothing.
use mathlib.Core.Path.{◌≡◌}
use Prim.Native.Nat.{◌-◌, ◌*◌, ◌≤◌}
use lib.ListN.{length}
use Rattle.paper.specs.Limits.{instruction_limit}
use Rattle.paper.specs.Dictionary.{dictionary_of}
use Rattle.paper.specs.Listing.{lines_from}
use Rattle.kernel.specs.Marks.{place_count}
use Rattle.listing.specs.Scanning.{Leads}
use Rattle.listing.proofs.scan.scan.Given as goal

abbrev pub invariant-loop-from : goal.invariant-loop-from
invariant-loop-from l =
    (l.from ≤ length l.text)
    × (l.count ≤ instruction_limit)
    × (l.place ≤ 2 * l.count)
    × (length l.marks ≡ place_count)
    × Leads (dictionary_of l.dictionary) l.text l.place l.from l.count l.marks (lines_from (dictionary_of l.dictionary) l.text instruction_limit 0 0)

abbrev pub decreases-loop-from : goal.decreases-loop-from
decreases-loop-from l = length l.text - l.from
