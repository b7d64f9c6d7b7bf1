-- The table's rule, at one entry. Assumes nothing.
use Rattle.std.proofs.Common.{rules}
use Rattle.paper.specs.Restricted.{restricted_float}
use Rattle.single.specs.Patterns.{pattern_table, table_rule}
use Rattle.single.proofs.restricted.restricted_pattern.Goals as goal

pub returns : goal.returns
unfolding pattern_table restricted_float
returns c = rw c.from.ensures (table_rule c.args.b (search rules))
