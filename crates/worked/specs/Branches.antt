-- Runs over branches: who waits where, and where the road goes on. Rows worked out from the paper by hand. Assumes nothing.
use Rattle.std.specs.Prelude.{List, [], ◌∷◌, refl, ◌+◌, ◌-◌, ◌^◌}
use Rattle.paper.specs.Bits.{◌at◌}
use Rattle.paper.specs.Assembler.{structured_to, jmpi_to, nop_word, begin}
use Rattle.paper.specs.Sheet.{Row, ◌gives◌}
use Rattle.paper.specs.SheetMore.{ran_over, state_is}
use Rattle.paper.specs.SheetHolds.{Hold}

pub rows_branch : List Row
rows_branch =
    -- while with eight channels leaving: they wait behind it, and the others go back
    (ran_over (nop_word ∷ (structured_to 0x27 (2 ^ 16 - 2) + 1 at 16) ∷ []) 2 (begin 0xFFFF 0x00FF 0)
    gives 21 ∷ 0 ∷ 2 ∷ state_is 0x00FF 0 0 0x00FF 0xFF00 0 4)
    -- while without a channel that stays goes on
    ∷ (ran_over ((structured_to 0x27 0 + 1 at 16) ∷ []) 9 (begin 0xFFFF 0 0) gives 20 ∷ 0 ∷ 1 ∷ state_is 0 0 2 0xFFFF 0 0 0)
    -- if with half the channels: the others wait at the target
    ∷ (ran_over ((structured_to 0x22 4 + 1 at 16) ∷ nop_word ∷ []) 1 (begin 0xFFFF 0x00FF 0) gives 21 ∷ 0 ∷ 1 ∷ state_is 0x00FF 0 2 0x00FF 0xFF00 0 4)
    -- else: channels that wait next are woken there, though no channel is awake
    ∷ (ran_over ((structured_to 0x22 4 + 1 at 16) ∷ structured_to 0x24 4 ∷ nop_word ∷ []) 3 (begin 0xFFFF 0x00FF 0)
    gives 20 ∷ 0 ∷ 3 ∷ state_is 0x00FF 0 6 0xFF00 0x00FF 6 0)
    -- endif: jumps if no channel is awake and none waits next; goes on if one waits there
    ∷ (ran_over (structured_to 0x25 4 ∷ nop_word ∷ nop_word ∷ []) 1 (begin 0 0 0) gives 21 ∷ 0 ∷ 1 ∷ state_is 0 0 4 0 0 0 0)
    ∷ (ran_over (structured_to 0x25 4 ∷ nop_word ∷ nop_word ∷ []) 1 (state_is 0 0 0 0 0xFF00 0 2) gives 21 ∷ 0 ∷ 1 ∷ state_is 0 0 2 0 0xFF00 0 2)
    -- jmpi: by flag bit 0, inverted or not, whatever the mask
    ∷ (ran_over ((jmpi_to 2 + 1 at 16) ∷ nop_word ∷ []) 1 (begin 0 1 0) gives 20 ∷ 0 ∷ 1 ∷ state_is 1 0 4 0 0 0 0)
    ∷ (ran_over ((jmpi_to 2 + 1 at 16) ∷ nop_word ∷ []) 1 (begin 0 2 0) gives 21 ∷ 0 ∷ 1 ∷ state_is 2 0 2 0 0 0 0)
    ∷ (ran_over ((jmpi_to 2 + 1 at 16 + 1 at 20) ∷ nop_word ∷ []) 1 (begin 0 2 0) gives 20 ∷ 0 ∷ 1 ∷ state_is 2 0 4 0 0 0 0)
    -- a loop that never ends spends its budget; an empty kernel is at its end
    ∷ (ran_over (jmpi_to (2 ^ 32 - 2) ∷ []) 50 (begin 0xFFFF 0 0) gives 21 ∷ 0 ∷ 50 ∷ state_is 0 0 0 0xFFFF 0 0 0)
    ∷ (ran_over [] 0 (begin 0xFFFF 0 0) gives 20 ∷ 0 ∷ 0 ∷ state_is 0 0 0 0xFFFF 0 0 0)
    ∷ []

pub rows_branch_hold : Hold rows_branch
unfolding Hold rows_branch
rows_branch_hold = refl
