-- The table's rule: what the twelve source bits allow, as a number for each of their values. Assumes nothing.
use Rattle.std.specs.Prelude.{Bool, false, not, List, ◌≡◌, ℕ, ◌≤◌, ◌<◌, get_or}
use Rattle.paper.specs.Bits.{bit}
use Rattle.paper.specs.Legal.{shape_refused}
use Rattle.paper.specs.Enable.{of_bits}
use Rattle.laws.specs.Masks.{bit-of_bits, bit-of_bits_above}
use Rattle.laws.specs.Tables.{values_from, value_at}

-- The field's region passes 9 at ExecSize 2 to the power k. Its modifier and its AddrMode do not matter.
abbrev pub passes_at : ℕ → ℕ → Bool
passes_at field k = not (shape_refused k field)

-- The entry of a field: bit k is 1 exactly when it passes at k, 0 to 4; other bits are 0.
unfoldable pub entry_of : ℕ → ℕ
entry_of field = of_bits (passes_at field) 5

-- The table: the entries of all fields, in order.
unfoldable pub region_table : List ℕ
region_table = values_from entry_of 0 4096

-- ---- the rule

-- The rule at each bit.
pub entry_bit : (field k : ℕ) → k < 5 → bit (entry_of field) k ≡ passes_at field k
unfolding entry_of
entry_bit field k h = bit-of_bits (passes_at field) 5 k h

pub entry_other : (field k : ℕ) → 5 ≤ k → bit (entry_of field) k ≡ false
unfolding entry_of
entry_other field k h = bit-of_bits_above (passes_at field) 5 k h

-- Entry i of the table is the entry of the field i.
pub table_entry : (field : ℕ) → field < 4096 → get_or region_table field 0 ≡ entry_of field
unfolding region_table
table_entry field h = value_at entry_of 4096 field h
