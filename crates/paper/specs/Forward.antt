-- Jumps that go forward: every target lies after the branch itself (02 §14). Assumes nothing.
use Rattle.std.specs.Prelude.{Bool, true, false, ◌&&◌, List, [], ◌∷◌, ℕ, ltb, ℤ, pos, negsuc}
use Rattle.paper.specs.Kernel.{Instr}
use Rattle.paper.specs.Jump.{targets_of}

-- A target lies after place p. What lies below place 0 does not.
abbrev pub lies_after : ℕ → ℤ → Bool
lies_after p (pos q) = ltb p q
lies_after p (negsuc q) = false

-- Every target of a list does.
abbrev pub lie_after : ℕ → List ℤ → Bool
lie_after p [] = true
lie_after p (z ∷ zs) = lies_after p z && lie_after p zs

-- Every target of every instruction lies after the place at which the instruction starts. What is no branch has no target. jmpi counts from its end, so that
-- with distance 0 it goes forward; an if with distance 0 does not.
unfoldable pub forward : List Instr → Bool
forward [] = true
forward (i ∷ rest) = lie_after i.place (targets_of i) && forward rest
