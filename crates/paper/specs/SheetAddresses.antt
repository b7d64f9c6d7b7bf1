-- Registers by address and a0 (02 §7), of one instruction: rows worked out from the paper by hand. Steps and runs stand in crate `worked`. Assumes nothing.
use Rattle.std.specs.Prelude.{List, [], ◌∷◌, ◌++◌, refl, ℕ, ◌+◌, ◌-◌, replicate}
use Rattle.std.proofs.Math.Option.{Option, none, some}
use Rattle.paper.specs.Bits.{◌at◌, bytes_of}
use Rattle.paper.specs.Machine.{Channel, off, awake, State, stops, or_spent}
use Rattle.paper.specs.Assembler.{to, from0, from1, immediate0, op, nop_word}
use Rattle.paper.specs.Sheet.{Row, ◌gives◌}
use Rattle.paper.specs.SheetRefusals.{second_word}
use Rattle.paper.specs.SheetHolds.{Hold}

-- ---- words

-- A destination and sources by address, with stride 1 or the codes of VertStride, Width, HorzStride: type, element of a0, AddrImm in ten bits.
unfoldable pub to_by : ℕ → ℕ → ℕ → ℕ
to_by t element more = 1 at 32 + t at 34 + more at 48 + element at 58 + 1 at 61 + 1 at 63

unfoldable pub from0_by : ℕ → ℕ → ℕ → ℕ → ℕ → ℕ → ℕ
from0_by t element more v w h = 1 at 37 + t at 39 + more at 64 + element at 74 + 1 at 79 + h at 80 + w at 82 + v at 85

unfoldable pub from1_by : ℕ → ℕ → ℕ → ℕ → ℕ → ℕ → ℕ
from1_by t element more v w h = 1 at 42 + t at 44 + more at 96 + element at 106 + 1 at 111 + h at 112 + w at 114 + v at 117

-- a0 as a destination with stride 1, and as first source: type, byte, codes.
unfoldable pub to_a0 : ℕ → ℕ → ℕ
to_a0 t sub = t at 34 + sub at 48 + 0x10 at 53 + 1 at 61

unfoldable pub from_a0 : ℕ → ℕ → ℕ → ℕ → ℕ → ℕ
from_a0 t sub v w h = t at 39 + sub at 64 + 0x10 at 69 + h at 80 + w at 82 + v at 85

-- Type ub from two bytes side by side, by an element of a0 and AddrImm, into r4.
unfoldable pub bytes_by : ℕ → ℕ → ℕ
bytes_by element more = op 0x01 1 + to 4 4 0 + from0_by 4 element more 2 1 1

-- ---- what is served

unfoldable pub rows_by : List Row
rows_by =
    -- 10 and 11 are not judged before a run, 9 is
    (second_word (op 0x01 4 + to 1 4 0 + from0_by 1 7 3 4 3 1) gives 0 ∷ 0 ∷ 2 ∷ [])
    ∷ (second_word (op 0x01 1 + to_by 1 7 1023 + from0 1 2 0 2 1 1) gives 0 ∷ 0 ∷ 2 ∷ [])
    ∷ (second_word (op 0x01 4 + to 1 4 0 + from0_by 1 0 0 15 3 1) gives 9 ∷ 16 ∷ 0 ∷ [])
    ∷ (second_word (op 0x01 4 + to_by 1 0 0 - 1 at 61 + from0 1 2 0 4 3 1) gives 9 ∷ 16 ∷ 0 ∷ [])
    -- an operand that is named keeps 10 and 11 beside one by address
    ∷ (second_word (op 0x01 1 + to 1 4 1 + from0_by 1 0 0 2 1 1) gives 10 ∷ 16 ∷ 0 ∷ [])
    ∷ (second_word (op 0x01 4 + to_by 1 0 0 + from0 1 127 0 4 3 1) gives 11 ∷ 16 ∷ 0 ∷ [])
    ∷ []

unfoldable pub rows_a0 : List Row
rows_a0 =
    -- 7: another operation, another type of any operand, another register of file 00, a0 or null with AddrMode 1
    (second_word (op 0x40 0 + to_a0 2 0 + from0 2 2 0 0 0 0 + from1 2 2 0 0 0 0) gives 7 ∷ 16 ∷ 0 ∷ [])
    ∷ (second_word (op 0x01 0 + to_a0 3 0 + from0 2 2 0 0 0 0) gives 7 ∷ 16 ∷ 0 ∷ [])
    ∷ (second_word (op 0x01 0 + to_a0 2 0 + from0 3 2 0 0 0 0) gives 7 ∷ 16 ∷ 0 ∷ [])
    ∷ (second_word (op 0x01 0 + to 3 4 0 + from_a0 2 0 0 0 0) gives 7 ∷ 16 ∷ 0 ∷ [])
    ∷ (second_word (op 0x01 0 + 3 at 34 + from_a0 2 0 0 0 0) gives 7 ∷ 16 ∷ 0 ∷ [])
    ∷ (second_word (op 0x01 0 + 2 at 34 + from_a0 2 0 0 0 0) gives 0 ∷ 0 ∷ 2 ∷ [])
    ∷ (second_word (op 0x01 0 + to_a0 2 0 + immediate0 3 0) gives 7 ∷ 16 ∷ 0 ∷ [])
    ∷ (second_word (op 0x01 0 + to_a0 2 0 + immediate0 2 0) gives 0 ∷ 0 ∷ 2 ∷ [])
    ∷ (second_word (op 0x01 0 + to_a0 2 0 + 1 at 53 + immediate0 2 0) gives 7 ∷ 16 ∷ 0 ∷ [])
    ∷ (second_word (op 0x01 0 + to_a0 2 0 + 1 at 63 + immediate0 2 0) gives 7 ∷ 16 ∷ 0 ∷ [])
    ∷ (second_word (op 0x01 0 + 2 at 34 + 1 at 63 + immediate0 2 0) gives 7 ∷ 16 ∷ 0 ∷ [])
    ∷ (second_word (op 0x01 0 + to 2 4 0 + from_a0 2 0 0 0 0 + 1 at 79) gives 7 ∷ 16 ∷ 0 ∷ [])
    -- 9, 10, and 11 past its sixteen bytes
    ∷ (second_word (op 0x01 0 + to_a0 2 0 - 1 at 61 + immediate0 2 0) gives 9 ∷ 16 ∷ 0 ∷ [])
    ∷ (second_word (op 0x01 0 + to_a0 2 1 + immediate0 2 0) gives 10 ∷ 16 ∷ 0 ∷ [])
    ∷ (second_word (op 0x01 3 + to_a0 2 0 + immediate0 2 0) gives 0 ∷ 0 ∷ 2 ∷ [])
    ∷ (second_word (op 0x01 3 + to_a0 2 2 + immediate0 2 0) gives 11 ∷ 16 ∷ 0 ∷ [])
    ∷ (second_word (op 0x01 4 + to_a0 2 0 + immediate0 2 0) gives 11 ∷ 16 ∷ 0 ∷ [])
    ∷ (second_word (op 0x01 3 + to 2 4 0 + from_a0 2 2 4 3 1) gives 11 ∷ 16 ∷ 0 ∷ [])
    ∷ (second_word (op 0x01 0 + to_a0 2 16 + immediate0 2 0) gives 11 ∷ 16 ∷ 0 ∷ [])
    -- a0: a shape on which the machine hangs; another register of file 00, null among them; the second source of an add
    ∷ (second_word (op 0x01 3 + to 2 4 0 + from_a0 2 0 15 3 1) gives 9 ∷ 16 ∷ 0 ∷ [])
    ∷ (second_word (op 0x01 0 + to 2 4 0 + from_a0 2 0 0 0 0 + 1 at 69) gives 7 ∷ 16 ∷ 0 ∷ [])
    ∷ (second_word (op 0x01 0 + to 2 4 0 + 2 at 39) gives 7 ∷ 16 ∷ 0 ∷ [])
    ∷ (second_word (op 0x40 0 + to 2 4 0 + from0 2 2 0 0 0 0 + 2 at 44 + 0x10 at 101) gives 7 ∷ 16 ∷ 0 ∷ [])
    ∷ []

-- ---- what stops a run

-- A verdict, 0 for none.
unfoldable pub or_none : Option ℕ → ℕ
or_none none = 0
or_none (some v) = v

-- The verdict with which a run stops at place 0 of one long word, with a0.0 and one channel.
unfoldable pub stopped : ℕ → ℕ → Channel → ℕ
stopped w first c =
    let s : State = record { store = record { registers = []; flag0 = 0; flag1 = 0; addresses = bytes_of 2 first ++ replicate 14 0 }; channels = c ∷ []; place = 0 } in
    or_none (stops (record { place = 0; size = 2; word = w } ∷ []) s)

unfoldable pub rows_stop : List Row
rows_stop =
    -- the last two bytes of the register file, and one byte further; enabled or not
    (stopped (bytes_by 0 0) 4094 awake ∷ [] gives 0 ∷ [])
    ∷ (stopped (bytes_by 0 0) 4095 awake ∷ [] gives 22 ∷ [])
    ∷ (stopped (bytes_by 0 0) 4095 off ∷ [] gives 22 ∷ [])
    ∷ (stopped nop_word 4095 awake ∷ [] gives 0 ∷ [])
    -- with the budget spent only the end is told
    ∷ (or_spent none ∷ or_spent (some 20) ∷ or_spent (some 22) ∷ [] gives 21 ∷ 20 ∷ 21 ∷ [])
    ∷ []

-- ---- every one of them holds

pub rows_by_hold : Hold rows_by
unfolding Hold to_by from0_by rows_by
rows_by_hold = refl

pub rows_a0_hold : Hold rows_a0
unfolding Hold to_a0 from_a0 rows_a0
rows_a0_hold = refl

pub rows_stop_hold : Hold rows_stop
unfolding Hold from0_by bytes_by or_none stopped rows_stop
rows_stop_hold = refl
