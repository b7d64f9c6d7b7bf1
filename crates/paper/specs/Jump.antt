-- Jumps: where a branch's distance stands, what it reaches, and rule 12 (the paper, "How the road forks"). Assumes nothing.
use Rattle.std.specs.Prelude.{Bool, true, false, cond, ◌&&◌, ◌||◌, List, [], ◌∷◌, map, ℕ, ◌+◌, ◌-◌, ◌*◌, ◌^◌, eqb, ltb, ℤ, pos, negsuc, ◌+ℤ◌}
use Rattle.std.proofs.Math.Option.{Option, none, some}
use Rattle.std.proofs.Math.IntN.{sub_ℕ}
use Rattle.paper.specs.Bits.{bits}
use Rattle.paper.specs.Operation.{Branch, jmpi, if, else, endif, while, break, cont, Operation, plain, nop, branch, unlisted, operation}
use Rattle.paper.specs.Kernel.{Instr, Parsed, bad, good}

-- The place after an instruction.
abbrev pub next_of : Instr → ℕ
next_of i = i.place + i.size

-- From where a distance counts.
pub data Base : Type 0 where
  own_start own_end : Base

-- A distance: `width` bits from bit `lo` on, signed, in places.
pub record Distance : Type 0 where
  pub lo : ℕ
  pub width : ℕ
  pub base : Base

-- JIP and UIP, the two distances of break and cont: bits 111:96 and 127:112, from their own start.
abbrev pub jip : Distance
jip = record { lo = 96; width = 16; base = own_start }

abbrev pub uip : Distance
uip = record { lo = 112; width = 16; base = own_start }

-- The distances of a branch, in the order in which 12 judges them: of if, else, endif and while bits 63:48 from their own start, of jmpi 127:96 from
-- its end, of break and cont JIP first.
abbrev pub distances_of : Branch → List Distance
distances_of jmpi = record { lo = 96; width = 32; base = own_end } ∷ []
distances_of if = record { lo = 48; width = 16; base = own_start } ∷ []
distances_of else = record { lo = 48; width = 16; base = own_start } ∷ []
distances_of endif = record { lo = 48; width = 16; base = own_start } ∷ []
distances_of while = record { lo = 48; width = 16; base = own_start } ∷ []
distances_of break = jip ∷ uip ∷ []
distances_of cont = jip ∷ uip ∷ []

-- What is no branch has none.
abbrev pub distances : Operation → List Distance
distances (plain p) = []
distances nop = []
distances (branch b) = distances_of b
distances unlisted = []

-- The place from which a distance counts, of an instruction from `here` to `next`.
abbrev pub base_of : Base → ℕ → ℕ → ℕ
base_of own_start here next = here
base_of own_end here next = next

-- What d means as a signed number of n bits: d, or d − 2^n where its top bit is set.
abbrev pub signed_of : ℕ → ℕ → ℤ
signed_of n d = cond (ltb d (2 ^ (n - 1))) (pos d) (sub_ℕ d (2 ^ n))

-- Where the distance in word w leads, from an instruction from `here` to `next`. Below 0 lies no place.
abbrev pub reach : Distance → ℕ → ℕ → ℕ → ℤ
reach f w here next = pos (base_of f.base here next) +ℤ signed_of f.width (bits w f.lo f.width)

-- Where some distances in an instruction's word lead.
abbrev pub reached : List Distance → Instr → List ℤ
reached fs i = map (λ f. reach f i.word i.place (next_of i)) fs

-- An instruction's targets: where its distances lead.
abbrev pub targets_of : Instr → List ℤ
targets_of i = reached (distances (operation i.word)) i

-- An accepted jump's target is a place; one below 0, which no accepted kernel has, is written 0.
abbrev pub place_of : ℤ → ℕ
place_of (pos p) = p
place_of (negsuc p) = 0

-- ---- where a jump may land

-- The instruction that starts at place p.
unfoldable pub fetch : List Instr → ℕ → Option Instr
fetch [] p = none
fetch (i ∷ k) p = let later = fetch k p in cond (eqb i.place p) (some i) later

-- The place past the last instruction of a kernel that starts at a.
unfoldable pub end_from : ℕ → List Instr → ℕ
end_from a [] = a
end_from a (i ∷ k) = end_from (next_of i) k

abbrev pub end_of : List Instr → ℕ
end_of k = end_from 0 k

abbrev pub found : Option Instr → Bool
found none = false
found (some i) = true

-- Place p is an instruction's start, or the end.
unfoldable pub lands : List Instr → ℕ → Bool
lands k p = found (fetch k p) || eqb p (end_of k)

-- A jump's target lands there.
abbrev pub jump_lands : List Instr → ℤ → Bool
jump_lands k (pos p) = lands k p
jump_lands k (negsuc p) = false

-- Every target of a list does.
abbrev pub targets_land : List Instr → List ℤ → Bool
targets_land k [] = true
targets_land k (z ∷ zs) = jump_lands k z && targets_land k zs

-- 12: the byte offset of the first branch, in kernel order, of which a target is no instruction start and not the end.
unfoldable pub first_astray : List Instr → List Instr → Option ℕ
first_astray k [] = none
first_astray k (i ∷ rest) = let later = first_astray k rest in cond (targets_land k (targets_of i)) later (some (8 * i.place))

-- A kernel that has parsed, with its jumps judged.
abbrev pub astray : List Instr → Option ℕ → Parsed
astray k none = good k
astray k (some from) = bad 12 from

unfoldable pub with_jumps : Parsed → Parsed
with_jumps (bad n from) = bad n from
with_jumps (good k) = astray k (first_astray k k)
