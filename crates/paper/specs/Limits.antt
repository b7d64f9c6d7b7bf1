-- What the bench holds: the sizes and limits, each named once (the paper, "What the bench holds"). Assumes nothing.
use Rattle.std.specs.Prelude.{ℕ, ◌/◌}

-- The register file: r0 to r127, 32 bytes each.
abbrev pub register_bytes : ℕ
register_bytes = 4096

-- The dictionary as it is lent: 128 numbers of four bytes.
abbrev pub dictionary_bytes : ℕ
dictionary_bytes = 512

-- The address register a0: eight numbers of 16 bits.
abbrev pub address_bytes : ℕ
address_bytes = 16

-- The state as it is lent: flags, place, channels, and a0 last.
abbrev pub state_length : ℕ
state_length = 58

-- A kernel's bytes, at the most.
abbrev pub kernel_bytes : ℕ
kernel_bytes = 65536

-- A kernel's instructions, at the most.
abbrev pub instruction_limit : ℕ
instruction_limit = 4096

-- The largest place: the end of the longest kernel, eight bytes a place.
abbrev pub last_place : ℕ
last_place = kernel_bytes / 8

-- A run's budget, at the most.
abbrev pub budget_limit : ℕ
budget_limit = 1000000
