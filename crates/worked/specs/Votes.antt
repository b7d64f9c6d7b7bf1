-- Steps by any and all, beside the table of `paper`: what is enabled, and what each branch does. Assumes nothing.
use Rattle.std.specs.Prelude.{List, [], ◌∷◌, refl, ℕ, ◌+◌, ◌-◌, ◌^◌}
use Rattle.paper.specs.Bits.{◌at◌}
use Rattle.paper.specs.Assembler.{to, from0, immediate1, op, structured_to, nop_word, clear, ramp, begin}
use Rattle.paper.specs.Sheet.{Row, ◌gives◌}
use Rattle.paper.specs.SheetMore.{one, r4, masks, sevens, against, ran_over, state_is}
use Rattle.paper.specs.SheetHolds.{Hold}

-- sel(16) of r2's bytes and 9, by any16, into words of r4.
selected : ℕ
selected = op 0x02 4 + 10 at 16 + to 2 4 0 + from0 4 2 0 5 4 1 + immediate1 2 0x00090009

pub rows_counted : List Row
rows_counted =
    -- a disabled channel's bit counts in its group: channel 1 is off, and its bit lets channel 0 work; off too, its missing bit stops channel 0
    (r4 4 (one (sevens 1 + 4 at 16) clear (begin 1 2 0)) gives 7 ∷ 0 ∷ 0 ∷ 0 ∷ [])
    ∷ (r4 4 (one (sevens 1 + 5 at 16) clear (begin 1 1 0)) gives 0 ∷ 0 ∷ 0 ∷ 0 ∷ [])
    -- in the second quarter groups are those of channels 8 to 15
    ∷ (r4 8 (one (sevens 3 + 1 at 12 + 4 at 16) clear (begin 0xFFFF 0x0804 0)) gives 0 ∷ 0 ∷ 0 ∷ 0 ∷ 7 ∷ 0 ∷ 7 ∷ 0 ∷ [])
    -- if: the eight of which one says so go on
    ∷ (ran_over ((structured_to 0x22 4 + 8 at 16) ∷ nop_word ∷ []) 1 (begin 0xFFFF 0x0100 0) gives 21 ∷ 0 ∷ 1 ∷ state_is 0x0100 0 2 0xFF00 0x00FF 4 0)
    ∷ []

rows_voted : List Row
rows_voted =
    -- any and all of two; inverted after the vote
    (r4 8 (one (sevens 2 + 4 at 16) clear (begin 0xFFFF 2 0)) gives 7 ∷ 0 ∷ 7 ∷ 0 ∷ 0 ∷ 0 ∷ 0 ∷ 0 ∷ [])
    ∷ (r4 8 (one (sevens 2 + 5 at 16) clear (begin 0xFFFF 0xE 0)) gives 0 ∷ 0 ∷ 0 ∷ 0 ∷ 7 ∷ 0 ∷ 7 ∷ 0 ∷ [])
    ∷ (r4 8 (one (sevens 2 + 5 at 16 + 1 at 20) clear (begin 0xFFFF 0xE 0)) gives 7 ∷ 0 ∷ 7 ∷ 0 ∷ 0 ∷ 0 ∷ 0 ∷ 0 ∷ [])
    -- in f0.1
    ∷ (r4 8 (one (sevens 2 + 4 at 16 + 1 at 89) clear (begin 0xFFFF 0xF 8)) gives 0 ∷ 0 ∷ 0 ∷ 0 ∷ 7 ∷ 0 ∷ 7 ∷ 0 ∷ [])
    -- in the second quarter groups of 4 and 8
    ∷ (r4 10 (one (sevens 3 + 1 at 12 + 7 at 16) clear (begin 0xFFFF 0x0FFF 0)) gives 7 ∷ 0 ∷ 7 ∷ 0 ∷ 7 ∷ 0 ∷ 7 ∷ 0 ∷ 0 ∷ 0 ∷ [])
    ∷ (r4 4 (one (sevens 3 + 1 at 12 + 8 at 16) clear (begin 0xFFFF 0x8000 0)) gives 7 ∷ 0 ∷ 7 ∷ 0 ∷ [])
    ∷ (r4 4 (one (sevens 3 + 1 at 12 + 8 at 16) clear (begin 0xFFFF 0x00FF 0)) gives 0 ∷ 0 ∷ 0 ∷ 0 ∷ [])
    -- sel chooses by the vote of all sixteen
    ∷ (r4 4 (one selected (ramp 16 1 64 5 1 clear) (begin 3 0x8000 0)) gives 5 ∷ 0 ∷ 6 ∷ 0 ∷ [])
    ∷ (r4 4 (one selected (ramp 16 1 64 5 1 clear) (begin 3 0 0)) gives 9 ∷ 0 ∷ 9 ∷ 0 ∷ [])
    -- cmp on the groups of 4 that have a bit: r2's bytes are 0, 1, 2, …, none of which but the first is 0
    ∷ (masks (one (against 2 4 + 6 at 16) (ramp 16 1 64 0 1 clear) (begin 0xFFFF 0x0801 0)) gives 0x0E ∷ 0x0F ∷ 0 ∷ 0 ∷ 2 ∷ 0 ∷ 0xFF ∷ 0xFF ∷ 0 ∷ 0 ∷ [])
    -- while: the eight that all say so go back
    ∷ (ran_over (nop_word ∷ (structured_to 0x27 (2 ^ 16 - 2) + 9 at 16) ∷ []) 2 (begin 0xFFFF 0xFF7F 0)
    gives 21 ∷ 0 ∷ 2 ∷ state_is 0xFF7F 0 0 0xFF00 0x00FF 4 0)
    -- else and endif carry a vote and do not ask it
    ∷ (ran_over ((structured_to 0x24 2 + 11 at 16) ∷ (structured_to 0x25 2 + 10 at 16) ∷ []) 9 (begin 0xFFFF 0 0) gives 20 ∷ 0 ∷ 2 ∷ state_is 0 0 4 0xFFFF 0 0 0)
    ∷ []

rows_voted_hold : Hold rows_voted
unfolding Hold selected rows_voted
rows_voted_hold = refl

pub rows_counted_hold : Hold rows_counted
unfolding Hold rows_counted
rows_counted_hold = refl
