-- What a reader has lost, or a writer gained, where reading or writing ended before its end. Assumes nothing.
use Rattle.std.specs.Prelude.{Option, List, ℕ, take}
use Rattle.std.specs.Io.KnownBytes.{Appends, Consumes}

-- The reader's known bytes have lost a beginning of these.
abbrev pub ConsumesPart : Option (List ℕ) → Option (List ℕ) → List ℕ → Type 0
ConsumesPart old new bytes = (k : ℕ) × Consumes old new (take k bytes)

-- The writer's known bytes have grown by a beginning of these.
abbrev pub AppendsPart : Option (List ℕ) → Option (List ℕ) → List ℕ → Type 0
AppendsPart old new bytes = (k : ℕ) × Appends old new (take k bytes)
