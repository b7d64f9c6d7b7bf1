-- The constant is the list of the rule's values: antt computes all 4,096 and compares. Assumes nothing.
use mathlib.Core.Path.{refl}
use Rattle.paper.specs.Legal.{hangs, shape_refused}
use Rattle.paper.specs.Enable.{of_bits}
use Rattle.table.specs.Entries.{entry_of, region_table}
use Rattle.table.proofs.regions.Regions.new.Goals as goal

pub invariant_of-result : goal.invariant_of-result
unfolding region_table entry_of of_bits shape_refused hangs
invariant_of-result c = record { is_table = refl }
