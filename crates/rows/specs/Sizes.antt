-- Where what rows lay out stands. Assumes nothing.
use Rattle.std.specs.Prelude.{ℕ, ◌+◌}
use Rattle.paper.specs.Limits.{register_bytes, dictionary_bytes, kernel_bytes, state_length}

-- A kernel's bytes, and an output's.
abbrev pub longest : ℕ
longest = kernel_bytes + 16

-- The table holds the dictionary and from there on the kernel,
abbrev pub kernel_from : ℕ
kernel_from = dictionary_bytes + 4

-- the board the registers and from there on the output.
abbrev pub output_from : ℕ
output_from = register_bytes + 32

-- The state's bytes.
abbrev pub state_most : ℕ
state_most = state_length + 2
