-- Which instruction a place names, a state read so, and a kernel laid out anew. Assumes nothing.
use Rattle.std.specs.Prelude.{◌≡◌, true, List, [], ◌∷◌, map, ℕ, ◌+◌, ◌<◌, length}
use Rattle.std.proofs.Math.Option.{none}
use Rattle.paper.specs.Kernel.{Instr}
use Rattle.paper.specs.Jump.{next_of, targets_of, targets_land}
use Rattle.paper.specs.Machine.{Channel, off, awake, waiting, State, Outcome}
use Rattle.paper.specs.Packing.{index, Piece, Form, piece, new_size, start_of, rewritten}

-- ---- sound kernels

-- The instructions stand one after the other, the first at place a, and none is empty.
unfoldable pub Laid : ℕ → List Instr → Type 0
Laid a [] = Unit {0}
Laid a (i ∷ rest) = (i.place ≡ a) × (0 < i.size) × Laid (next_of i) rest

-- Each jump of the instructions `rest` lands in kernel k, by each of its targets: on an instruction's start, or on the end.
unfoldable pub AllLand : List Instr → List Instr → Type 0
AllLand k [] = Unit {0}
AllLand k (i ∷ rest) = (targets_land k (targets_of i) ≡ true) × AllLand k rest

-- What a check leaves: the instructions stand one after the other from place 0, and every jump lands.
pub record Sound (k : List Instr) : Type 0 where
  pub laid : Laid 0 k
  pub land : AllLand k k

-- ---- states by instruction numbers

-- A channel whose waiting place is replaced by φ of it.
unfoldable pub rename_c : (ℕ → ℕ) → Channel → Channel
rename_c φ off = off
rename_c φ awake = awake
rename_c φ (waiting p) = waiting (φ p)

-- A state with φ of each place that it holds.
abbrev pub rename : (ℕ → ℕ) → State → State
rename φ s = record { store = s.store; channels = map (rename_c φ) s.channels; place = φ s.place }

-- A state with each place replaced by the number of the instruction that it names, the end being one past the last.
abbrev pub named : List Instr → State → State
named k s = rename (index k) s

-- A run's outcome, its state read so.
abbrev pub named_outcome : List Instr → Outcome → Outcome
named_outcome k o = record { verdict = o.verdict; steps = o.steps; state = named k o.state }

-- ---- a kernel laid out anew

-- Where piece p of the pieces ps of kernel k comes to stand, if that is place a.
abbrev pub moved_to : List Instr → List Piece → ℕ → Piece → Instr
moved_to k ps a p = record { place = a; size = new_size p; word = rewritten k ps a p }

-- The instructions that the pieces `rest` become, the first at place a.
unfoldable pub moved : List Instr → List Piece → ℕ → List Piece → List Instr
moved k ps a [] = []
moved k ps a (p ∷ rest) = moved_to k ps a p ∷ moved k ps (a + new_size p) rest

-- The pieces into which `form` cuts a kernel, and the place past the last of them.
abbrev pub pieces_of : Form → List Instr → List Piece
pieces_of form k = map (piece form) k

abbrev pub new_end : Form → List Instr → ℕ
new_end form k = start_of 0 (pieces_of form k) (length (pieces_of form k))

-- The instructions of the kernel that a relayout by `form` writes.
abbrev pub relaid_by : Form → List Instr → List Instr
relaid_by form k = moved k (pieces_of form k) 0 (pieces_of form k)

-- The form that unpacking gives: every word is long.
abbrev pub long_form : Form
long_form w = none

-- Every instruction is long already.
unfoldable pub AllLong : List Instr → Type 0
AllLong [] = Unit {0}
AllLong (i ∷ rest) = (i.size ≡ 2) × AllLong rest
