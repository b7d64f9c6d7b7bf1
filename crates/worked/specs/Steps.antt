-- One step of one long instruction: which channels it writes, and what it leaves in the flags. Rows worked out from the paper by hand. Assumes nothing.
use Rattle.std.specs.Prelude.{List, [], ◌∷◌, refl, ◌+◌}
use Rattle.paper.specs.Bits.{◌at◌}
use Rattle.paper.specs.Assembler.{to, from0, immediate1, op, clear, ramp, begin}
use Rattle.paper.specs.Sheet.{Row, ◌gives◌}
use Rattle.paper.specs.SheetMore.{one, r4, masks, sevens, against}
use Rattle.paper.specs.SheetHolds.{Hold}

pub rows_enable : List Row
rows_enable =
    -- a channel that is off writes nothing
    (r4 8 (one (sevens 2) clear (begin 0x0005 0 0)) gives 7 ∷ 0 ∷ 0 ∷ 0 ∷ 7 ∷ 0 ∷ 0 ∷ 0 ∷ [])
    -- WECtrl writes for channels that are off, and wakes none
    ∷ (r4 8 (one (sevens 2 + 1 at 9) clear (begin 0 0 0)) gives 7 ∷ 0 ∷ 7 ∷ 0 ∷ 7 ∷ 0 ∷ 7 ∷ 0 ∷ [])
    ∷ (masks (one (sevens 2 + 1 at 9) clear (begin 0 0 0)) gives 0 ∷ 0 ∷ 0 ∷ 0 ∷ 2 ∷ 0 ∷ 0 ∷ 0 ∷ 0 ∷ 0 ∷ [])
    -- a predicate, and the same inverted, on f0.0 and on f0.1
    ∷ (r4 6 (one (sevens 2 + 1 at 16) clear (begin 0xFFFF 2 0)) gives 0 ∷ 0 ∷ 7 ∷ 0 ∷ 0 ∷ 0 ∷ [])
    ∷ (r4 6 (one (sevens 2 + 1 at 16 + 1 at 20) clear (begin 0xFFFF 2 0)) gives 7 ∷ 0 ∷ 0 ∷ 0 ∷ 7 ∷ 0 ∷ [])
    ∷ (r4 6 (one (sevens 2 + 1 at 16 + 1 at 89) clear (begin 0xFFFF 2 4)) gives 0 ∷ 0 ∷ 0 ∷ 0 ∷ 7 ∷ 0 ∷ [])
    -- the second quarter's channels are 8 to 15
    ∷ (r4 6 (one (sevens 3 + 1 at 12) clear (begin 0x0202 0 0)) gives 0 ∷ 0 ∷ 7 ∷ 0 ∷ 0 ∷ 0 ∷ [])
    -- sel's predicate chooses and masks nothing
    ∷ (r4 4 (one (op 0x02 1 + 1 at 16 + to 2 4 0 + from0 4 2 0 2 1 1 + immediate1 2 0x00090009) (ramp 2 1 64 5 1 clear) (begin 3 1 0)) gives 5 ∷ 0 ∷ 9 ∷ 0 ∷ [])
    -- all sources are read before anything is written: r4's bytes 0 and 1 into its bytes 1 and 2
    ∷ (r4 3 (one (op 0x01 1 + to 4 4 1 + from0 4 4 0 2 1 1) (ramp 3 1 128 5 1 clear) (begin 3 0 0)) gives 5 ∷ 5 ∷ 6 ∷ [])
    -- signed bytes into dwords
    ∷ (r4 8 (one (op 0x01 1 + to 1 4 0 + from0 5 2 0 2 1 1) (ramp 2 1 64 0x7F 1 clear) (begin 3 0 0)) gives 0x7F ∷ 0 ∷ 0 ∷ 0 ∷ 0x80 ∷ 0xFF ∷ 0xFF ∷ 0xFF ∷ [])
    ∷ []

pub rows_flag : List Row
rows_flag =
    -- r2's bytes are 0, 1, 2, … : cmp.z holds for channel 0 alone, and only the chosen flag changes
    (masks (one (against 1 4) (ramp 16 1 64 0 1 clear) (begin 0xFFFF 0xFFFF 0xABCD)) gives 1 ∷ 0 ∷ 0xCD ∷ 0xAB ∷ 2 ∷ 0 ∷ 0xFF ∷ 0xFF ∷ 0 ∷ 0 ∷ [])
    ∷ (masks (one (against 2 4 + 1 at 89) (ramp 16 1 64 0 1 clear) (begin 0xFFFF 5 6)) gives 5 ∷ 0 ∷ 0xFE ∷ 0xFF ∷ 2 ∷ 0 ∷ 0xFF ∷ 0xFF ∷ 0 ∷ 0 ∷ [])
    -- the bits of disabled channels stay: half of the channels off; so in f0.1, and in the second quarter; and where the inverted predicate fails
    ∷ (masks (one (against 1 4) (ramp 16 1 64 0 1 clear) (begin 0x00FF 0xFFFF 0xFFFF)) gives 1 ∷ 0xFF ∷ 0xFF ∷ 0xFF ∷ 2 ∷ 0 ∷ 0xFF ∷ 0 ∷ 0 ∷ 0 ∷ [])
    ∷ (masks (one (against 1 4 + 1 at 89) (ramp 16 1 64 0 1 clear) (begin 0x00FF 5 0xFFFF)) gives 5 ∷ 0 ∷ 1 ∷ 0xFF ∷ 2 ∷ 0 ∷ 0xFF ∷ 0 ∷ 0 ∷ 0 ∷ [])
    ∷ (masks (one (against 1 3 + 1 at 12) (ramp 16 1 64 0 1 clear) (begin 0x0FFF 0xFFFF 0)) gives 0xFF ∷ 0xF1 ∷ 0 ∷ 0 ∷ 2 ∷ 0 ∷ 0xFF ∷ 0x0F ∷ 0 ∷ 0 ∷ [])
    ∷ (masks (one (against 1 4 + 1 at 16 + 1 at 20) (ramp 16 1 64 0 1 clear) (begin 0xFFFF 0xA55A 0)) gives 0x5B ∷ 0xA5 ∷ 0 ∷ 0 ∷ 2 ∷ 0 ∷ 0xFF ∷ 0xFF ∷ 0 ∷ 0 ∷ [])
    -- of eight channels the other eight bits stay
    ∷ (masks (one (against 2 3) (ramp 16 1 64 0 1 clear) (begin 0xFFFF 0xA55A 0)) gives 0xFE ∷ 0xA5 ∷ 0 ∷ 0 ∷ 2 ∷ 0 ∷ 0xFF ∷ 0xFF ∷ 0 ∷ 0 ∷ [])
    ∷ (masks (one (against 2 3 + 1 at 12) (ramp 16 1 64 0 1 clear) (begin 0xFFFF 0x00A5 0)) gives 0xA5 ∷ 0xFE ∷ 0 ∷ 0 ∷ 2 ∷ 0 ∷ 0xFF ∷ 0xFF ∷ 0 ∷ 0 ∷ [])
    ∷ []

-- ---- all of them hold

pub rows_enable_hold : Hold rows_enable
unfolding Hold rows_enable
rows_enable_hold = refl

pub rows_flag_hold : Hold rows_flag
unfolding Hold rows_flag
rows_flag_hold = refl
