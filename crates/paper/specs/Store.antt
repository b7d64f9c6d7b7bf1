-- What an instruction reads and writes (the paper, "What the bench holds"). Assumes nothing.
use Rattle.std.specs.Prelude.{List, ℕ}

-- Registers, flags, and the bytes of the address register a0.
pub record Store : Type 0 where
  pub registers : List ℕ
  pub flag0 : ℕ
  pub flag1 : ℕ
  pub addresses : List ℕ
