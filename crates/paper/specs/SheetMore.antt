-- Further rows, for the rules that the sheet's own rows leave open: worked out from the paper by hand; and how rows write a step and a run down. Steps and
-- runs themselves stand in crate `worked`. Assumes nothing.
use Rattle.std.specs.Prelude.{Bool, true, false, List, [], ◌∷◌, ◌++◌, map, ℕ, ◌+◌, ◌^◌, ℤ, pos, negsuc, replicate, take, drop}
use Rattle.paper.specs.Bits.{◌at◌, bytes_of}
use Rattle.paper.specs.Operation.{Plain}
use Rattle.paper.specs.Value.{value, modified, stored}
use Rattle.paper.specs.Element.{compares, result}
use Rattle.paper.specs.Enable.{digit}
use Rattle.paper.specs.Calls.{Changed, step_call, run_call}
use Rattle.paper.specs.Assembler.{to, from0, immediate0, immediate1, op, long, copies, blank_dictionary, clear}
use Rattle.paper.specs.Sheet.{Row, ◌gives◌, shown, whole}

-- ---- values: every type's load and store

-- The value of a pattern of type t.
unfoldable pub loads : ℕ → ℕ → List ℕ
loads t pattern = whole (value t pattern)

unfoldable pub rows_load : List Row
rows_load =
    (loads 0 0xFFFFFFFF gives whole (pos 4294967295))
    ∷ (loads 1 0x80000000 gives whole (negsuc 2147483647))
    ∷ (loads 1 0x7FFFFFFF gives whole (pos 2147483647))
    ∷ (loads 2 0xFFFF gives whole (pos 65535))
    ∷ (loads 3 0x8000 gives whole (negsuc 32767))
    ∷ (loads 4 0xFF gives whole (pos 255))
    ∷ (loads 5 0x80 gives whole (negsuc 127))
    ∷ (loads 5 0x7F gives whole (pos 127))
    ∷ []

-- The patterns that a value stores at types ud, d, uw, w, ub, b.
unfoldable pub stores : Bool → ℤ → List ℕ
stores saturated v = map (λ t. stored saturated t v) (0 ∷ 1 ∷ 2 ∷ 3 ∷ 4 ∷ 5 ∷ [])

unfoldable pub rows_store : List Row
rows_store =
    (stores false (negsuc 1) gives 0xFFFFFFFE ∷ 0xFFFFFFFE ∷ 0xFFFE ∷ 0xFFFE ∷ 0xFE ∷ 0xFE ∷ [])
    ∷ (stores false (pos 0x123456789A) gives 0x3456789A ∷ 0x3456789A ∷ 0x789A ∷ 0x789A ∷ 0x9A ∷ 0x9A ∷ [])
    ∷ (stores true (negsuc (2 ^ 40)) gives 0 ∷ 0x80000000 ∷ 0 ∷ 0x8000 ∷ 0 ∷ 0x80 ∷ [])
    ∷ (stores true (pos (2 ^ 40)) gives 0xFFFFFFFF ∷ 0x7FFFFFFF ∷ 0xFFFF ∷ 0x7FFF ∷ 0xFF ∷ 0x7F ∷ [])
    ∷ []

-- ---- modifiers, operations, comparison codes

unfoldable pub rows_operation : List Row
rows_operation =
    (whole (modified 0 (negsuc 4)) gives whole (negsuc 4))
    ∷ (whole (modified 1 (negsuc 4)) gives whole (pos 5))
    ∷ (whole (modified 2 (negsuc 4)) gives whole (pos 5))
    ∷ (whole (modified 3 (pos 5)) gives whole (negsuc 4))
    ∷ (whole (result Plain.sel 0 true (pos 1) (pos 2)) gives whole (pos 1))
    ∷ (whole (result Plain.sel 0 false (pos 1) (pos 2)) gives whole (pos 2))
    ∷ (whole (result Plain.not 0 true (pos 5) (pos 0)) gives whole (pos 0xFFFFFFFA))
    ∷ (whole (result Plain.and 0 true (negsuc 0) (pos 0xF0F0)) gives whole (pos 0xF0F0))
    ∷ (whole (result Plain.or 0 true (pos 0x0F0F) (pos 0xF0F0)) gives whole (pos 0xFFFF))
    ∷ (whole (result Plain.xor 0 true (pos 0x0FF0) (pos 0xFFFF)) gives whole (pos 0xF00F))
    ∷ (whole (result Plain.shl 0 true (pos 5) (negsuc 30)) gives whole (pos 10))
    ∷ (whole (result Plain.asr 0 true (negsuc 7) (pos 1)) gives whole (negsuc 3))
    ∷ (whole (result Plain.mul 0 true (negsuc 2) (pos 7)) gives whole (negsuc 20))
    ∷ (whole (result Plain.cmp 5 true (pos 1) (pos 2)) gives whole (pos 1))
    ∷ (whole (result Plain.cmp 5 true (pos 2) (pos 1)) gives whole (pos 0))
    ∷ []

-- What code c says of −1, 0 and 1.
unfoldable pub says : ℕ → List ℕ
says c = map (λ v. digit (compares c v)) (negsuc 0 ∷ pos 0 ∷ pos 1 ∷ [])

unfoldable pub rows_compare : List Row
rows_compare =
    (says 1 gives 0 ∷ 1 ∷ 0 ∷ [])
    ∷ (says 2 gives 1 ∷ 0 ∷ 1 ∷ [])
    ∷ (says 3 gives 0 ∷ 0 ∷ 1 ∷ [])
    ∷ (says 4 gives 0 ∷ 1 ∷ 1 ∷ [])
    ∷ (says 5 gives 1 ∷ 0 ∷ 0 ∷ [])
    ∷ (says 6 gives 1 ∷ 1 ∷ 0 ∷ [])
    ∷ []

-- ---- one step of one long instruction

unfoldable pub one : ℕ → List ℕ → List ℕ → Changed
one w registers state = step_call blank_dictionary (long (w ∷ [])) registers state

-- The first n bytes of r4.
unfoldable pub r4 : ℕ → Changed → List ℕ
r4 n c = take n (drop 128 c.registers)

-- The first ten bytes of the state: flags, place and masks.
unfoldable pub masks : Changed → List ℕ
masks c = take 10 c.state

-- mov of the word 7 into words of r4.
unfoldable pub sevens : ℕ → ℕ
sevens size = op 0x01 size + to 2 4 0 + immediate0 2 0x00070007

-- cmp of r2's bytes with 0 by code `c`, into null, for `size`.
unfoldable pub against : ℕ → ℕ → ℕ
against c size = op 0x10 size + c at 24 + 4 at 34 + from0 4 2 0 4 3 1 + immediate1 2 0

-- ---- a run

-- Answer and state of a run over long words.
unfoldable pub ran_over : List ℕ → ℕ → List ℕ → List ℕ
ran_over words budget state =
    let c = run_call blank_dictionary (long words) budget clear state in shown c.answer ++ c.state

-- The state's bytes: flags, place, masks, the waiting places of channels 0 to 7 and 8 to 15, and a0, which holds zeros.
unfoldable pub state_is : ℕ → ℕ → ℕ → ℕ → ℕ → ℕ → ℕ → List ℕ
state_is flag0 flag1 place awake waiting low high =
    bytes_of 2 flag0 ++ (bytes_of 2 flag1 ++ (bytes_of 2 place ++ (bytes_of 2 awake ++ (bytes_of 2 waiting ++ (copies 8 (bytes_of 2 low) ++ (copies 8 (bytes_of 2 high) ++ replicate 16 0))))))
