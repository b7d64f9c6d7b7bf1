-- How an expectation comes out. Assumes nothing.
use Rattle.std.specs.Prelude.{ℕ, cond, ◌==◌, Option, None, Some}
use Rattle.rows.specs.declared.expect.Outcome.{Outcome}
use Rattle.rows.specs.declared.expect.Outcome.TheVariants.{Right, Found}

-- As the row says, or with another number; past the bytes' end with one that no row can ask for.
abbrev pub outcome_of : Option ℕ → ℕ → Outcome
outcome_of None asked = Found 4294967296
outcome_of (Some found) asked = cond (found == asked) Right (Found found)
