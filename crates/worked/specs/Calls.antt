-- What the calls give that are lent a dictionary: each of their refusals, and what just passes. Assumes nothing.
use Rattle.std.specs.Prelude.{List, [], ◌∷◌, ◌++◌, refl, ℕ, ◌+◌, ◌-◌, ◌^◌, take, set}
use Rattle.paper.specs.Bits.{◌at◌, bytes_of}
use Rattle.paper.specs.Calls.{pack_call, shorten_call, expand_call, decode_call, decode_part, start_call, step_call, run_call}
use Rattle.paper.specs.Assembler.{dwords, jmpi_to, nop_word, long, numbers, zeros, blank_dictionary, dictionary_a, clear, begin}
use Rattle.paper.specs.Sheet.{Row, ◌gives◌, shown, written, room, long_a, short_a}
use Rattle.paper.specs.SheetMore.{state_is}
use Rattle.paper.specs.SheetHolds.{Hold}

-- A run of no steps over a nop, from the given state.
unstepped : List ℕ → List ℕ
unstepped state = shown (run_call blank_dictionary (long (nop_word ∷ [])) 0 clear state).answer

rows_call : List Row
rows_call =
    -- 1, 16, 15
    (shown (run_call blank_dictionary [] 0 (take 4095 clear) (begin 0 0 0)).answer gives 1 ∷ 0 ∷ 0 ∷ [])
    ∷ (shown (run_call blank_dictionary [] 0 clear (take 57 (begin 0 0 0))).answer gives 1 ∷ 0 ∷ 0 ∷ [])
    ∷ (shown (run_call blank_dictionary [] 1000001 clear (begin 0 0 0)).answer gives 16 ∷ 0 ∷ 0 ∷ [])
    ∷ (unstepped (state_is 0 0 2 0 0xFFFF 0 2) gives 20 ∷ 0 ∷ 0 ∷ [])
    ∷ (unstepped (state_is 0 0 1 0 0 0 0) gives 15 ∷ 0 ∷ 0 ∷ [])
    ∷ (unstepped (state_is 0 0 0 0 0xFF00 0 1) gives 15 ∷ 0 ∷ 0 ∷ [])
    ∷ (unstepped (state_is 0 0 0 0x8000 0xFF00 0 0) gives 15 ∷ 0 ∷ 0 ∷ [])
    ∷ (unstepped (state_is 0 0 0 0 0xFF00 2 0) gives 15 ∷ 0 ∷ 0 ∷ [])
    -- a step at the end is 20
    ∷ (shown (step_call blank_dictionary [] clear (begin 1 0 0)).answer gives 20 ∷ 0 ∷ 0 ∷ [])
    -- one word: 1, 2, 4, 5, 14
    ∷ (written (shorten_call dictionary_a (bytes_of 15 long_a) (room 8)) gives 1 ∷ 0 ∷ 0 ∷ room 8)
    ∷ (written (expand_call dictionary_a (bytes_of 16 short_a) (room 16)) gives 1 ∷ 0 ∷ 0 ∷ room 16)
    ∷ (written (shorten_call (numbers (set zeros 127 (2 ^ 12))) (bytes_of 16 long_a) (room 8)) gives 2 ∷ 0 ∷ 0 ∷ room 8)
    ∷ (written (shorten_call dictionary_a (bytes_of 16 0x03) (room 8)) gives 4 ∷ 0 ∷ 0 ∷ room 8)
    ∷ (written (shorten_call dictionary_a (bytes_of 16 (0x7E + 1 at 29)) (room 8)) gives 5 ∷ 0 ∷ 0 ∷ room 8)
    ∷ (written (expand_call dictionary_a (bytes_of 8 0x7E) (room 16)) gives 5 ∷ 0 ∷ 0 ∷ room 16)
    ∷ (written (expand_call dictionary_a (bytes_of 8 (0x24 + 1 at 29)) (room 16)) gives 5 ∷ 0 ∷ 0 ∷ room 16)
    ∷ (written (shorten_call dictionary_a (bytes_of 16 (jmpi_to 0)) (room 8)) gives 13 ∷ 0 ∷ 0 ∷ room 8)
    ∷ (written (shorten_call dictionary_a (bytes_of 16 long_a) (room 7)) gives 14 ∷ 0 ∷ 0 ∷ room 7)
    ∷ (written (pack_call dictionary_a (bytes_of 16 long_a) (room 7)) gives 14 ∷ 0 ∷ 0 ∷ room 7)
    -- packing takes long words only
    ∷ (written (pack_call dictionary_a (bytes_of 8 short_a) (room 16)) gives 5 ∷ 0 ∷ 0 ∷ room 16)
    -- decoding: any place, 3 with offset 0 at or past the end
    ∷ (shown (decode_call dictionary_a (bytes_of 16 long_a ++ bytes_of 8 short_a) 2) gives 0 ∷ 0 ∷ 8 ∷ [])
    ∷ (decode_part dictionary_a (bytes_of 16 long_a ++ bytes_of 8 short_a) 2 gives bytes_of 8 short_a)
    ∷ (shown (decode_call dictionary_a (bytes_of 16 long_a) 2) gives 3 ∷ 0 ∷ 0 ∷ [])
    ∷ (shown (decode_call dictionary_a (bytes_of 16 long_a) (2 ^ 64 - 1)) gives 3 ∷ 0 ∷ 0 ∷ [])
    ∷ (shown (decode_call dictionary_a (bytes_of 12 long_a) 1) gives 3 ∷ 8 ∷ 0 ∷ [])
    -- the start
    ∷ (written (start_call 0xA5A5 0x1234 0x5678 (room 58)) gives 0 ∷ 0 ∷ 0 ∷ state_is 0x1234 0x5678 0 0xA5A5 0 0 0)
    ∷ (written (start_call 0xA5A5 0 0 (room 57)) gives 1 ∷ 0 ∷ 0 ∷ room 57)
    ∷ []

-- ---- the subregister entry's top five bits, which an immediate covers

-- Row B's dictionary with 0x7C00 as the first subregister number: its low ten bits are those of subregister 0, and its top five are set.
covered : List ℕ
covered = numbers (set (set (set (set zeros 1 0x6000) 34 0x9CA5) 64 0x7C00) 99 0x468)

-- Row B's add with the immediate 5, and its short word.
long_five : ℕ
long_five = dwords 0x00600040 0x20801CA5 0x008D0040 5

short_five : ℕ
short_five = 0xE0004140 + 0x05020400 at 32

rows_covered : List Row
rows_covered =
    (written (shorten_call covered (bytes_of 16 long_five) (room 8)) gives 0 ∷ 0 ∷ 8 ∷ bytes_of 8 short_five)
    ∷ (written (expand_call covered (bytes_of 8 short_five) (room 16)) gives 0 ∷ 0 ∷ 16 ∷ bytes_of 16 long_five)
    ∷ []

-- ---- all of them hold

rows_call_hold : Hold rows_call
unfolding Hold unstepped rows_call
rows_call_hold = refl

rows_covered_hold : Hold rows_covered
unfolding Hold covered long_five short_five rows_covered
rows_covered_hold = refl
