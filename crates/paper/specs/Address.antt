-- Operands by address (02 §7): the byte that an address names, the word with its operands named directly, and 22. Assumes nothing.
use Rattle.std.specs.Prelude.{Bool, true, false, not, cond, ◌&&◌, ◌||◌, List, [], ◌∷◌, ℕ, ◌+◌, ◌*◌, ltb, ℤ, pos, negsuc, ◌+ℤ◌}
use Rattle.paper.specs.Bits.{bits, number_at, put}
use Rattle.paper.specs.Limits.{register_bytes}
use Rattle.paper.specs.Word.{Source, shift_of, dst_indirect, src_indirect, addr_imm, addr_element, dst_by_address, src_by_address}
use Rattle.paper.specs.Operation.{Plain, plain, nop, branch, unlisted, operation, sources}
use Rattle.paper.specs.Legal.{any_of, alignment_broken, reach_broken}
use Rattle.paper.specs.Jump.{signed_of, place_of}

-- ---- the byte that is named

-- The byte address that thirteen bits name: an element of a0 and AddrImm, signed; the sum is exact.
abbrev pub address_of : List ℕ → ℕ → ℤ
address_of addresses field = pos (number_at addresses (2 * addr_element field) 2) +ℤ signed_of 10 (addr_imm field)

-- No byte of the register file has this address.
abbrev pub outside : ℤ → Bool
outside (pos a) = not (ltb a register_bytes)
outside (negsuc a) = true

abbrev pub dst_address : List ℕ → ℕ → ℤ
dst_address addresses w = address_of addresses (dst_indirect w)

abbrev pub src_address : List ℕ → Source → ℕ → ℤ
src_address addresses x w = address_of addresses (src_indirect x w)

-- ---- the word with its operands named directly

-- The word whose operand, with its register and subregister bits from bit k on and its AddrMode fifteen bits above k, is named directly by byte a: a's thirteen
-- bits are register and subregister, so that register×32 + subregister is a, and AddrMode is 0.
abbrev pub named_directly : ℕ → ℕ → ℕ → ℕ
named_directly k a w = put (put w k 13 (bits a 0 13)) (k + 15) 1 0

-- The destination named directly, if it is by address. One outside of the register file is 22, and nobody acts by it.
unfoldable pub dst_direct : List ℕ → ℕ → ℕ
dst_direct addresses w = cond (dst_by_address w) (named_directly 48 (place_of (dst_address addresses w)) w) w

-- So source x.
unfoldable pub src_direct : List ℕ → Source → ℕ → ℕ
src_direct addresses x w =
    cond (src_by_address x w) (named_directly (64 + shift_of x) (place_of (src_address addresses x w)) w) w

-- So each source of a list.
abbrev pub all_direct : List ℕ → List Source → ℕ → ℕ
all_direct addresses [] w = w
all_direct addresses (x ∷ xs) w = all_direct addresses xs (src_direct addresses x w)

-- The word of operation p with every operand that is by address named directly, as a0 stands.
unfoldable pub settled : Plain → List ℕ → ℕ → ℕ
settled p addresses w = all_direct addresses (sources p) (dst_direct addresses w)

-- ---- 22

-- An operand by address begins outside of the register file.
unfoldable pub some_outside : Plain → List ℕ → ℕ → Bool
some_outside p addresses w =
    (dst_by_address w && outside (dst_address addresses w))
    || any_of (λ x. src_by_address x w && outside (src_address addresses x w)) (sources p)

-- An address is judged in place of 10 and 11, over all elements, enabled or not: it begins outside of the register file, or it breaks 10 or 11 where its register
-- is named directly. (What was named directly before has passed both.)
unfoldable pub address_broken : Plain → List ℕ → ℕ → Bool
address_broken p addresses w =
    let v = settled p addresses w in
    some_outside p addresses w || (alignment_broken p v || reach_broken p v)

-- 22: the instruction is of an operation with operands, and an address of it is broken.
unfoldable pub address_stops : List ℕ → ℕ → Bool
address_stops addresses w =
    elim (operation w) [ plain p ↦ address_broken p addresses w | nop ↦ false | branch b ↦ false | unlisted ↦ false ]
