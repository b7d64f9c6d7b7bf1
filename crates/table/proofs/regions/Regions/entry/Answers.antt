-- The lent list is the table, and so its entry is the rule's.
use Rattle.std.proofs.Common.{List, ℕ, ap, ◌∙◌, get_or}
use Rattle.table.specs.Entries.{table_entry}
use Rattle.table.proofs.regions.Regions.entry.Goals as goal

pub returns : goal.returns
returns c =
    let a = c.args in
    ap (λ (l : List ℕ). get_or l a.field 0) c.args.self.now.is_table ∙ table_entry a.field c.requires
