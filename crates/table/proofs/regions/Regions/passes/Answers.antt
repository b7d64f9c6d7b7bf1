-- The bit is the entry's.
use Rattle.std.proofs.Common.{ℕ, ap, ◌∙◌}
use Rattle.paper.specs.Bits.{bit}
use Rattle.table.proofs.regions.Regions.passes.Goals as goal

pub returns : goal.returns
returns c = ap (λ (x : ℕ). bit x c.args.size) (c.from-byte.ensures ∙ c.entry.ensures)
