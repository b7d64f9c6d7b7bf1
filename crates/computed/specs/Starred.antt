-- The bench sheet's starred rows A, B, H and I: calls that are lent a dictionary; and the smallest index among repeats. Assumes nothing.
use Rattle.std.specs.Prelude.{List, [], ◌∷◌, ◌++◌, refl, ℕ, ◌+◌, ◌-◌, ◌^◌, take, set}
use Rattle.paper.specs.Bits.{◌at◌, bytes_of}
use Rattle.paper.specs.Calls.{check_call, pack_call, unpack_call, shorten_call, expand_call, run_call}
use Rattle.paper.specs.Assembler.{dwords, structured_to, nop_word, long, numbers, zeros, blank_dictionary, dictionary_a, clear, begin}
use Rattle.paper.specs.Sheet.{Row, ◌gives◌, shown, written, room, long_a, short_a, kernel_i}
use Rattle.paper.specs.SheetHolds.{Hold}

-- ---- A

pub rows_a : List Row
rows_a =
    (written (expand_call dictionary_a (bytes_of 8 short_a) (room 17)) gives 0 ∷ 0 ∷ 16 ∷ bytes_of 16 long_a ++ room 1)
    ∷ (written (shorten_call dictionary_a (bytes_of 16 long_a) (room 9)) gives 0 ∷ 0 ∷ 8 ∷ bytes_of 8 short_a ++ room 1)
    ∷ (shown (check_call dictionary_a (bytes_of 8 short_a)) gives 0 ∷ 0 ∷ 1 ∷ [])
    ∷ (written (pack_call dictionary_a (bytes_of 16 long_a) (room 8)) gives 0 ∷ 0 ∷ 8 ∷ bytes_of 8 short_a)
    ∷ (written (unpack_call dictionary_a (bytes_of 8 short_a) (room 16)) gives 0 ∷ 0 ∷ 16 ∷ bytes_of 16 long_a)
    ∷ []

-- ---- B: the same add with an immediate as second source

dictionary_b : List ℕ
dictionary_b = numbers (take 1 zeros ++ (0x6000 ∷ take 32 zeros ++ (0x9CA5 ∷ take 64 zeros ++ (0x468 ∷ take 28 zeros))))

shorten_b : ℕ → List ℕ
shorten_b v = written (shorten_call dictionary_b (bytes_of 16 (dwords 0x00600040 0x20801CA5 0x008D0040 v)) (room 8))

pub rows_b : List Row
rows_b =
    (shorten_b 4095 gives 0 ∷ 0 ∷ 8 ∷ bytes_of 8 (0xE0004140 + 0xFF020478 at 32))
    ∷ (shorten_b (2 ^ 32 - 4096) gives 0 ∷ 0 ∷ 8 ∷ bytes_of 8 (0xE0004140 + 0x00020480 at 32))
    ∷ (shorten_b 4096 gives 13 ∷ 0 ∷ 0 ∷ room 8)
    ∷ (shorten_b (2 ^ 32 - 4097) gives 13 ∷ 0 ∷ 0 ∷ room 8)
    ∷ []

-- ---- H

kernel_h : List ℕ
kernel_h = long ((structured_to 0x22 6 + 1 at 16) ∷ nop_word ∷ structured_to 0x24 4 ∷ nop_word ∷ structured_to 0x25 2 ∷ [])

steps_h : ℕ → List ℕ
steps_h flag = shown (run_call blank_dictionary kernel_h 1000000 clear (begin 0xFFFF flag 0)).answer

pub rows_h : List Row
rows_h =
    (steps_h 0x00FF gives 20 ∷ 0 ∷ 5 ∷ [])
    ∷ (steps_h 0xFFFF gives 20 ∷ 0 ∷ 4 ∷ [])
    ∷ (steps_h 0 gives 20 ∷ 0 ∷ 3 ∷ [])
    ∷ []

-- ---- I: of jmpi(+2), add, nop only add is short

pub rows_i : List Row
rows_i =
    (written (pack_call dictionary_a (kernel_i 2 (bytes_of 16 long_a)) (room 40)) gives 0 ∷ 0 ∷ 40 ∷ kernel_i 1 (bytes_of 8 short_a))
    ∷ (written (unpack_call dictionary_a (kernel_i 1 (bytes_of 8 short_a)) (room 48)) gives 0 ∷ 0 ∷ 48 ∷ kernel_i 2 (bytes_of 16 long_a))
    ∷ []

-- ---- the smallest index among repeats

-- Case A's dictionary with its control, datatype and source numbers a second time.
repeated : List ℕ
repeated = numbers (set (set (set (set (set (set zeros 1 0x6000) 3 0x6000) 34 0x94A5) 63 0x94A5) 99 0x468) 126 0x468)

pub rows_repeated : List Row
rows_repeated = (written (shorten_call repeated (bytes_of 16 long_a) (room 8)) gives 0 ∷ 0 ∷ 8 ∷ bytes_of 8 short_a) ∷ []

-- ---- all of them hold

pub rows_a_hold : Hold rows_a
unfolding Hold rows_a
rows_a_hold = refl

pub rows_b_hold : Hold rows_b
unfolding Hold dictionary_b shorten_b rows_b
rows_b_hold = refl

pub rows_h_hold : Hold rows_h
unfolding Hold kernel_h steps_h rows_h
rows_h_hold = refl

pub rows_i_hold : Hold rows_i
unfolding Hold rows_i
rows_i_hold = refl

pub rows_repeated_hold : Hold rows_repeated
unfolding Hold repeated rows_repeated
rows_repeated_hold = refl
