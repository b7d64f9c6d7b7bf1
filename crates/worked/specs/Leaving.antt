-- Runs over break and cont, in a loop that is left early: rows worked out from 02 §9 by hand. Assumes nothing.
use Rattle.std.specs.Prelude.{List, [], ◌∷◌, refl, ℕ, ◌+◌, ◌-◌, ◌^◌}
use Rattle.paper.specs.Bits.{◌at◌}
use Rattle.paper.specs.Assembler.{structured_to, leave_to, nop_word, begin}
use Rattle.paper.specs.Sheet.{Row, ◌gives◌}
use Rattle.paper.specs.SheetMore.{ran_over, state_is}
use Rattle.paper.specs.SheetHolds.{Hold}

-- The given word at place 0, a nop at 2, while by f0.1 back to 0 at 4, and a nop at 6; the end is 8. What a run of it answers and leaves.
leaves : ℕ → ℕ → List ℕ → List ℕ
leaves w budget state = ran_over (w ∷ nop_word ∷ (structured_to 0x27 (2 ^ 16 - 4) + 1 at 16 + 1 at 89) ∷ nop_word ∷ []) budget state

pub rows_leave : List Row
rows_leave =
    -- break of eight channels: they wait behind the loop, and the others go on in it, and round again
    (leaves (leave_to 0x28 4 6 + 1 at 16) 1 (begin 0xFFFF 0x00FF 0xFFFF) gives 21 ∷ 0 ∷ 1 ∷ state_is 0x00FF 0xFFFF 2 0xFF00 0x00FF 6 0)
    ∷ (leaves (leave_to 0x28 4 6 + 1 at 16) 3 (begin 0xFFFF 0x00FF 0xFFFF) gives 21 ∷ 0 ∷ 3 ∷ state_is 0x00FF 0xFFFF 0 0xFF00 0x00FF 6 0)
    -- once the others leave too, those that wait at UIP wake there
    ∷ (leaves (leave_to 0x28 4 6 + 1 at 16) 9 (begin 0xFFFF 0x00FF 0) gives 20 ∷ 0 ∷ 4 ∷ state_is 0x00FF 0 8 0xFFFF 0 0 0)
    -- break of all channels jumps to JIP, over the nop; they wake at UIP
    ∷ (leaves (leave_to 0x28 4 6 + 1 at 16) 1 (begin 0xFFFF 0xFFFF 0xFFFF) gives 21 ∷ 0 ∷ 1 ∷ state_is 0xFFFF 0xFFFF 4 0 0xFFFF 6 6)
    ∷ (leaves (leave_to 0x28 4 6 + 1 at 16) 9 (begin 0xFFFF 0xFFFF 0xFFFF) gives 20 ∷ 0 ∷ 3 ∷ state_is 0xFFFF 0xFFFF 8 0xFFFF 0 0 0)
    -- but not where a channel waits at the next place, though none is awake
    ∷ (leaves (leave_to 0x28 4 6 + 1 at 16) 1 (state_is 0x00FF 0 0 0x00FF 0xFF00 0 2) gives 21 ∷ 0 ∷ 1 ∷ state_is 0x00FF 0 2 0 0xFFFF 6 2)
    -- without a predicate all awake channels wait; those that are off stay off, and those that wait keep their places
    ∷ (leaves (leave_to 0x28 4 6) 1 (begin 0x00FF 0 0) gives 21 ∷ 0 ∷ 1 ∷ state_is 0 0 4 0 0x00FF 6 0)
    ∷ (leaves (leave_to 0x28 4 6) 1 (state_is 0 0 0 0x00FF 0xFF00 0 8) gives 21 ∷ 0 ∷ 1 ∷ state_is 0 0 4 0 0xFFFF 6 8)
    -- where no predicate holds nobody waits; where nobody is awake either, JIP is taken
    ∷ (leaves (leave_to 0x28 4 6 + 1 at 16) 1 (begin 0xFFFF 0 0) gives 21 ∷ 0 ∷ 1 ∷ state_is 0 0 2 0xFFFF 0 0 0)
    ∷ (leaves (leave_to 0x28 4 6 + 1 at 16) 1 (begin 0 0 0) gives 21 ∷ 0 ∷ 1 ∷ state_is 0 0 4 0 0 0 0)
    -- the predicate inverted, and by a vote of eight
    ∷ (leaves (leave_to 0x28 4 6 + 1 at 16 + 1 at 20) 1 (begin 0xFFFF 0x00FF 0) gives 21 ∷ 0 ∷ 1 ∷ state_is 0x00FF 0 2 0x00FF 0xFF00 0 6)
    ∷ (leaves (leave_to 0x28 4 6 + 8 at 16) 1 (begin 0xFFFF 0x0100 0) gives 21 ∷ 0 ∷ 1 ∷ state_is 0x0100 0 2 0x00FF 0xFF00 0 6)
    -- those that wait at the branch's own place wake first
    ∷ (leaves (leave_to 0x28 4 6) 1 (state_is 0 0 0 0x00FF 0xFF00 0 0) gives 21 ∷ 0 ∷ 1 ∷ state_is 0 0 4 0 0xFFFF 6 6)
    -- cont of eight channels: they wait at the while, the others pass the nop, and all go round again
    ∷ (leaves (leave_to 0x29 4 4 + 1 at 16) 1 (begin 0xFFFF 0x00FF 0xFFFF) gives 21 ∷ 0 ∷ 1 ∷ state_is 0x00FF 0xFFFF 2 0xFF00 0x00FF 4 0)
    ∷ (leaves (leave_to 0x29 4 4 + 1 at 16) 3 (begin 0xFFFF 0x00FF 0xFFFF) gives 21 ∷ 0 ∷ 3 ∷ state_is 0x00FF 0xFFFF 0 0xFFFF 0 0 0)
    -- cont of all channels jumps to JIP, where they wait, and goes round again
    ∷ (leaves (leave_to 0x29 4 4) 2 (begin 0xFFFF 0 0xFFFF) gives 21 ∷ 0 ∷ 2 ∷ state_is 0 0xFFFF 0 0xFFFF 0 0 0)
    -- cont acts as break does, whatever its distances
    ∷ (leaves (leave_to 0x29 4 6 + 1 at 16) 9 (begin 0xFFFF 0xFFFF 0xFFFF) gives 20 ∷ 0 ∷ 3 ∷ state_is 0xFFFF 0xFFFF 8 0xFFFF 0 0 0)
    ∷ []

pub rows_leave_hold : Hold rows_leave
unfolding Hold leaves rows_leave
rows_leave_hold = refl
