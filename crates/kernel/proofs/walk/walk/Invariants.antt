-- The loop's invariant: any answer and marks that say what is left of the walk from byte `from` on, after `count` instructions and with the marks made so
-- far, say what the whole parse is. The measure is what is left of the kernel. Assumes nothing.
use mathlib.Core.Path.{◌≡◌}
use Prim.Native.Nat.{◌-◌, ◌≤◌}
use lib.ListN.{length}
use Rattle.paper.specs.Limits.{instruction_limit}
use Rattle.paper.specs.Dictionary.{dictionary_of}
use Rattle.paper.specs.Kernel.{judge_at, parse}
use Rattle.kernel.specs.Judging.{forms_is}
use Rattle.kernel.specs.Marks.{place_count}
use Rattle.kernel.proofs.Walking.{Leads}
use Rattle.kernel.proofs.walk.walk.Given as goal

abbrev pub invariant-loop-from : goal.invariant-loop-from
invariant-loop-from l =
    (l.from ≤ length l.kernel)
    × (l.count ≤ instruction_limit)
    × (length l.marks ≡ place_count)
    × Leads (judge_at (forms_is l.forms) (dictionary_of l.dictionary) l.kernel) (length l.kernel) l.from l.count l.marks (parse (forms_is l.forms) (dictionary_of l.dictionary) l.kernel)

abbrev pub decreases-loop-from : goal.decreases-loop-from
decreases-loop-from l = length l.kernel - l.from
