-- Packing and unpacking: the instructions laid out anew in their order, without gaps, each distance rewritten to reach the same instruction, the
-- end counting as one past the last. Assumes nothing.
use Rattle.std.specs.Prelude.{List, [], ◌∷◌, ◌++◌, map, true, false, ℕ, zero, suc, ◌+◌, ◌-◌, ◌%◌, ◌^◌, eqb}
use Rattle.std.proofs.Math.Option.{Option, none, some}
use Rattle.paper.specs.Bits.{put, bytes_of}
use Rattle.paper.specs.Dictionary.{Dictionary}
use Rattle.paper.specs.Shorten.{shorten}
use Rattle.paper.specs.Operation.{operation}
use Rattle.paper.specs.Kernel.{Instr}
use Rattle.paper.specs.Jump.{Distance, distances, base_of, targets_of, place_of}

-- The number of the instruction that starts at place p, counted from 0; where none starts, how many there are.
unfoldable pub index : List Instr → ℕ → ℕ
index [] p = zero
index (i ∷ k) p = elim (eqb i.place p) [ true ↦ zero | false ↦ suc (index k p) ]

-- An instruction and the short word that it becomes, if any.
pub record Piece : Type 0 where
  pub instr : Instr
  pub short : Option ℕ

-- Which form each word gets.
abbrev pub Form : Type 0
Form = ℕ → Option ℕ

abbrev pub piece : Form → Instr → Piece
piece form i = record { instr = i; short = form i.word }

-- The places that a word takes: one where it is short, else two.
abbrev pub places_taken : Option ℕ → ℕ
places_taken none = 2
places_taken (some s) = 1

abbrev pub new_size : Piece → ℕ
new_size p = places_taken p.short

-- Where piece j starts, if the first starts at a; past the last, the end.
unfoldable pub start_of : ℕ → List Piece → ℕ → ℕ
start_of a ps zero = a
start_of a [] (suc j) = a
start_of a (p ∷ ps) (suc j) = start_of (a + new_size p) ps j

-- The distance that leads from place `from` to place `to`.
abbrev pub distance_to : Distance → ℕ → ℕ → ℕ
distance_to f from to = (to + 2 ^ f.width - from) % 2 ^ f.width

-- The places at which the instructions that i jumps to come to stand.
abbrev pub new_targets : List Instr → List Piece → Instr → List ℕ
new_targets k ps i = map (λ z. start_of 0 ps (index k (place_of z))) (targets_of i)

-- Word w with its distances fs rewritten so that, from an instruction from `here` to `next`, each leads to its place of `to`.
unfoldable pub aimed : List Distance → ℕ → ℕ → ℕ → List ℕ → ℕ
aimed [] w here next to = w
aimed (f ∷ fs) w here next [] = w
aimed (f ∷ fs) w here next (t ∷ to) = aimed fs (put w f.lo f.width (distance_to f (base_of f.base here next) t)) here next to

-- The word of piece p of the pieces ps of kernel k, where it starts at a.
abbrev pub rewritten : List Instr → List Piece → ℕ → Piece → ℕ
rewritten k ps a p =
    let w : ℕ = p.instr.word in aimed (distances (operation w)) w a (a + new_size p) (new_targets k ps p.instr)

-- The bytes of a word in its form.
abbrev pub encode : Option ℕ → ℕ → List ℕ
encode none w = bytes_of 16 w
encode (some s) w = bytes_of 8 s

-- The bytes of the pieces from place a on.
unfoldable pub lay_from : List Instr → List Piece → ℕ → List Piece → List ℕ
lay_from k ps a [] = []
lay_from k ps a (p ∷ rest) = encode p.short (rewritten k ps a p) ++ lay_from k ps (a + new_size p) rest

unfoldable pub relay : Form → List Instr → List ℕ
relay form k = let ps = map (piece form) k in lay_from k ps 0 ps

-- Packing shortens each word that can be; unpacking expands each.
abbrev pub packed : Dictionary → List Instr → List ℕ
packed D k = relay (shorten D) k

abbrev pub unpacked : List Instr → List ℕ
unpacked k = relay (λ _. none) k
