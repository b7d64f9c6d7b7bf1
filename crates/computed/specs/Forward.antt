-- Jumps that go forward, and runs that end at their bound or never: rows worked out from 02 §14 by hand. Assumes nothing.
use Rattle.std.specs.Prelude.{List, [], ◌∷◌, refl, ℕ, ◌-◌, ◌^◌}
use Rattle.paper.specs.Calls.{forward_call}
use Rattle.paper.specs.Assembler.{structured_to, jmpi_to, leave_to, nop_word, long, blank_dictionary, begin}
use Rattle.paper.specs.Sheet.{Row, ◌gives◌, shown}
use Rattle.paper.specs.SheetMore.{ran_over, state_is}
use Rattle.paper.specs.SheetHolds.{Hold}

-- What forward says of long words.
ahead : List ℕ → List ℕ
ahead words = shown (forward_call blank_dictionary (long words))

-- Every kind of branch, each with its targets after it: jmpi, if, else, break, cont, while and endif, and a nop. With all channels awake and no predicate each
-- leads to the next instruction.
every_kind : List ℕ
every_kind =
    jmpi_to 0 ∷ structured_to 0x22 4 ∷ structured_to 0x24 2 ∷ leave_to 0x28 2 2 ∷ leave_to 0x29 2 2 ∷ structured_to 0x27 2 ∷ structured_to 0x25 2 ∷ nop_word ∷ []

-- jmpi to itself: 2 places back from its end.
on_itself : ℕ
on_itself = jmpi_to (2 ^ 32 - 2)

pub rows_forward : List Row
rows_forward =
    -- no jump at all, in a kernel of none and in one of a nop
    (ahead [] gives 0 ∷ 0 ∷ 1 ∷ [])
    ∷ (ahead (nop_word ∷ []) gives 0 ∷ 0 ∷ 1 ∷ [])
    -- jmpi counts from its end: 0 is after it, −2 is itself
    ∷ (ahead (jmpi_to 0 ∷ []) gives 0 ∷ 0 ∷ 1 ∷ [])
    ∷ (ahead (on_itself ∷ []) gives 0 ∷ 0 ∷ 0 ∷ [])
    -- the others count from their start: 0 is itself, 2 is after it
    ∷ (ahead (structured_to 0x22 0 ∷ []) gives 0 ∷ 0 ∷ 0 ∷ [])
    ∷ (ahead (structured_to 0x22 2 ∷ []) gives 0 ∷ 0 ∷ 1 ∷ [])
    -- one jump back among others is enough
    ∷ (ahead (structured_to 0x22 4 ∷ nop_word ∷ structured_to 0x27 (2 ^ 16 - 2) ∷ structured_to 0x25 2 ∷ []) gives 0 ∷ 0 ∷ 0 ∷ [])
    ∷ (ahead every_kind gives 0 ∷ 0 ∷ 1 ∷ [])
    -- of break and cont both targets count: JIP forward and UIP itself, and the other way
    ∷ (ahead (leave_to 0x28 2 0 ∷ []) gives 0 ∷ 0 ∷ 0 ∷ [])
    ∷ (ahead (leave_to 0x29 0 2 ∷ []) gives 0 ∷ 0 ∷ 0 ∷ [])
    ∷ (ahead (leave_to 0x29 2 2 ∷ []) gives 0 ∷ 0 ∷ 1 ∷ [])
    -- what check refuses: a jump that lands nowhere
    ∷ (ahead (nop_word ∷ jmpi_to 1 ∷ []) gives 12 ∷ 16 ∷ 0 ∷ [])
    -- a run of eight instructions with forward jumps takes eight steps, and not fewer
    ∷ (ran_over every_kind 8 (begin 0xFFFF 0 0) gives 20 ∷ 0 ∷ 8 ∷ state_is 0 0 16 0xFFFF 0 0 0)
    ∷ (ran_over every_kind 7 (begin 0xFFFF 0 0) gives 21 ∷ 0 ∷ 7 ∷ state_is 0 0 14 0xFFFF 0 0 0)
    -- one step of jmpi to itself leaves the state as it was, so that no run over it ends
    ∷ (ran_over (on_itself ∷ []) 1 (begin 0xFFFF 0 0) gives 21 ∷ 0 ∷ 1 ∷ begin 0xFFFF 0 0)
    ∷ []

pub rows_forward_hold : Hold rows_forward
unfolding Hold ahead every_kind on_itself rows_forward
rows_forward_hold = refl
