-- break and cont: rows worked out from 02 §9 by hand. Runs stand in crate `worked`, packing and short words in crate `computed`. Assumes nothing.
use Rattle.std.specs.Prelude.{List, [], ◌∷◌, map, ℕ, ◌+◌, ◌-◌, ◌^◌}
use Rattle.paper.specs.Bits.{◌at◌, bytes_of}
use Rattle.paper.specs.Jump.{targets_of, place_of}
use Rattle.paper.specs.Assembler.{op, leave_to}
use Rattle.paper.specs.Sheet.{Row, ◌gives◌}
use Rattle.paper.specs.SheetRefusals.{second_bytes, second_word}

-- ---- both distances

-- Where the two distances lead, from place 10.
unfoldable pub aims : ℕ → List ℕ
aims w = map place_of (targets_of (record { place = 10; size = 2; word = w }))

unfoldable pub rows_aim : List Row
rows_aim =
    -- JIP is 111:96 and the first of the two, UIP 127:112; both count from the branch's own start, and are signed
    (aims (leave_to 0x28 4 6) gives 14 ∷ 16 ∷ [])
    ∷ (aims (leave_to 0x29 (2 ^ 16 - 2) (2 ^ 16 - 10)) gives 8 ∷ 0 ∷ [])
    ∷ (aims (leave_to 0x28 0x7FFF 0 + 0xFFFF at 48) gives 32777 ∷ 10 ∷ [])
    -- 12, at the branch: JIP astray, UIP astray, both, below place 0; the end and the start are no fault
    ∷ (second_word (leave_to 0x28 1 2) gives 12 ∷ 16 ∷ 0 ∷ [])
    ∷ (second_word (leave_to 0x28 2 1) gives 12 ∷ 16 ∷ 0 ∷ [])
    ∷ (second_word (leave_to 0x28 1 1) gives 12 ∷ 16 ∷ 0 ∷ [])
    ∷ (second_word (leave_to 0x29 2 (2 ^ 16 - 3)) gives 12 ∷ 16 ∷ 0 ∷ [])
    ∷ (second_word (leave_to 0x29 4 2) gives 12 ∷ 16 ∷ 0 ∷ [])
    ∷ (second_word (leave_to 0x28 2 (2 ^ 16 - 2)) gives 0 ∷ 0 ∷ 2 ∷ [])
    ∷ (second_word (leave_to 0x29 0 2) gives 0 ∷ 0 ∷ 2 ∷ [])
    ∷ []

-- ---- refusals

unfoldable pub rows_leave_refused : List Row
rows_leave_refused =
    -- the opcodes beside them are not listed
    (second_word 0x26 gives 4 ∷ 16 ∷ 0 ∷ [])
    ∷ (second_word 0x2A gives 4 ∷ 16 ∷ 0 ∷ [])
    -- they have no short form
    ∷ (second_bytes (bytes_of 8 (0x28 + 1 at 29)) gives 5 ∷ 16 ∷ 0 ∷ [])
    ∷ (second_bytes (bytes_of 8 (0x29 + 1 at 29)) gives 5 ∷ 16 ∷ 0 ∷ [])
    -- 6: bit 7 alone
    ∷ (second_word (leave_to 0x28 2 2 + 1 at 7) gives 6 ∷ 16 ∷ 0 ∷ [])
    ∷ (second_word (leave_to 0x28 2 2 + 0xFFFF at 47 + 63 at 90) gives 0 ∷ 0 ∷ 2 ∷ [])
    -- 7: size 8, the second quarter, WECtrl; PredCtrl, as on if; the other control fields
    ∷ (second_word (op 0x28 3 + 2 at 96 + 2 at 112) gives 7 ∷ 16 ∷ 0 ∷ [])
    ∷ (second_word (op 0x29 0 + 2 at 96 + 2 at 112) gives 7 ∷ 16 ∷ 0 ∷ [])
    ∷ (second_word (op 0x28 3 + 1 at 12 + 2 at 96 + 2 at 112) gives 7 ∷ 16 ∷ 0 ∷ [])
    ∷ (second_word (leave_to 0x29 2 2 + 1 at 12) gives 7 ∷ 16 ∷ 0 ∷ [])
    ∷ (second_word (leave_to 0x28 2 2 + 1 at 9) gives 7 ∷ 16 ∷ 0 ∷ [])
    ∷ (second_word (leave_to 0x29 2 2 + 1 at 9) gives 7 ∷ 16 ∷ 0 ∷ [])
    ∷ (second_word (leave_to 0x28 2 2 + 11 at 16 + 1 at 20) gives 0 ∷ 0 ∷ 2 ∷ [])
    ∷ (second_word (leave_to 0x28 2 2 + 3 at 16) gives 7 ∷ 16 ∷ 0 ∷ [])
    ∷ (second_word (leave_to 0x29 2 2 + 12 at 16) gives 7 ∷ 16 ∷ 0 ∷ [])
    ∷ (second_word (leave_to 0x28 2 2 + 1 at 8) gives 7 ∷ 16 ∷ 0 ∷ [])
    ∷ (second_word (leave_to 0x29 2 2 + 1 at 24) gives 7 ∷ 16 ∷ 0 ∷ [])
    -- 7 comes before 12
    ∷ (second_word (leave_to 0x28 1 1 + 1 at 9) gives 7 ∷ 16 ∷ 0 ∷ [])
    ∷ []
