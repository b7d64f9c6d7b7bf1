-- What a kernel is besides its places: its words without their distances, and the numbers of the instructions that these lead to; and how far two kernels
-- are the same so. Assumes nothing.
use Rattle.std.specs.Prelude.{Bool, true, false, cond, ◌&&◌, List, [], ◌∷◌, map, ℕ, suc, eqb, ℤ}
use Rattle.paper.specs.Bits.{put}
use Rattle.paper.specs.Operation.{operation}
use Rattle.paper.specs.Kernel.{Instr}
use Rattle.paper.specs.Jump.{Distance, distances, targets_of, place_of}
use Rattle.paper.specs.Packing.{index}

-- A word with some distances replaced by 0.
unfoldable pub blanked : List Distance → ℕ → ℕ
blanked [] w = w
blanked (f ∷ fs) w = blanked fs (put w f.lo f.width 0)

-- A word without its distances; what is no branch has none, and stays as it is.
abbrev pub blank : ℕ → ℕ
blank w = blanked (distances (operation w)) w

-- The number of the instruction at which a jump lands, the end counting as how many there are.
abbrev pub goal_of : List Instr → ℤ → ℕ
goal_of k z = index k (place_of z)

-- An instruction without its place: its word without its distances, and the numbers of the instructions that they lead to.
pub record Line : Type 0 where
  pub word : ℕ
  pub goals : List ℕ

abbrev pub line_of : List Instr → Instr → Line
line_of k i = record { word = blank i.word; goals = map (goal_of k) (targets_of i) }

-- A kernel without its places.
abbrev pub program : List Instr → List Line
program k = map (line_of k) k

-- ---- how far two programs are the same

-- Two lists of numbers are the same.
unfoldable pub same_numbers : List ℕ → List ℕ → Bool
same_numbers [] [] = true
same_numbers [] (n ∷ ns) = false
same_numbers (m ∷ ms) [] = false
same_numbers (m ∷ ms) (n ∷ ns) = eqb m n && same_numbers ms ns

-- Two instructions are the same: of what is no branch every bit of the expanded word; of a branch every bit but those of its distances, each of which leads to
-- an instruction of the same number.
abbrev pub same_line : Line → Line → Bool
same_line a b = eqb a.word b.word && same_numbers a.goals b.goals

-- The number of the first instruction, from 0, in which two programs differ; where one is the beginning of the other, the smaller number of instructions.
unfoldable pub agreed : List Line → List Line → ℕ
agreed [] q = 0
agreed (a ∷ p) [] = 0
agreed (a ∷ p) (b ∷ q) = let more = suc (agreed p q) in cond (same_line a b) more 0
