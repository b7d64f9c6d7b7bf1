-- Steps and runs over registers by address and a0 (02 §7): rows worked out from the paper by hand. Assumes nothing.
use Rattle.std.specs.Prelude.{List, [], ◌∷◌, ◌++◌, refl, ℕ, ◌+◌, ◌-◌, ◌^◌, take, drop, set, replicate}
use Rattle.paper.specs.Bits.{◌at◌, bytes_of}
use Rattle.paper.specs.Calls.{step_call, run_call}
use Rattle.paper.specs.Assembler.{to, from0, from1, immediate0, immediate1, op, nop_word, long, blank_dictionary, clear, ramp, begin}
use Rattle.paper.specs.Sheet.{Row, ◌gives◌, shown}
use Rattle.paper.specs.SheetMore.{one, r4}
use Rattle.paper.specs.SheetAddresses.{to_by, from0_by, from1_by, to_a0, from_a0, bytes_by}
use Rattle.paper.specs.SheetHolds.{Hold}

-- ---- words

-- Type ub from two bytes of r2 into an address, by an element of a0 and AddrImm.
bytes_to : ℕ → ℕ → ℕ
bytes_to element more = op 0x01 1 + to_by 4 element more + from0 4 2 0 2 1 1

-- Sixteen dwords from an address into r4 and r5.
dwords_by : ℕ
dwords_by = op 0x01 4 + to 1 4 0 + from0_by 1 0 0 4 3 1

-- One word from an address into r4.
word_by : ℕ
word_by = op 0x01 0 + to 2 4 0 + from0_by 2 0 0 0 0 0

-- sel of two bytes from an address and of 9, by f0.0, into words of r4.
sel_by : ℕ
sel_by = op 0x02 1 + 1 at 16 + to 2 4 0 + from0_by 4 0 0 2 1 1 + immediate1 2 0x00090009

-- ---- states and what is left

-- A start with a mask and with a0.0 and a0.1; the others are 0.
begin_at : ℕ → ℕ → ℕ → List ℕ
begin_at mask first second = take 42 (begin mask 0 0) ++ (bytes_of 2 first ++ (bytes_of 2 second ++ replicate 12 0))

-- r2's bytes are 5, 6, 7, ….
fives : List ℕ
fives = ramp 16 1 64 5 1 clear

-- What a step of one word says, and what it leaves in the state.
says : ℕ → List ℕ → List ℕ
says w state = shown (one w fives state).answer

leaves : ℕ → List ℕ → List ℕ
leaves w state = (one w fives state).state

-- a0 after a step.
a0_after : ℕ → List ℕ → List ℕ
a0_after w state = drop 42 (leaves w state)

-- A state at another place, with channel 2 waiting for place 0, and with a0.7 alone.
at_place : ℕ → List ℕ → List ℕ
at_place p state = take 4 state ++ (bytes_of 2 p ++ drop 6 state)

with_waiting : List ℕ → List ℕ
with_waiting state = take 8 state ++ (bytes_of 2 4 ++ drop 10 state)

begin_last : ℕ → ℕ → List ℕ
begin_last mask last = take 42 (begin mask 0 0) ++ (replicate 14 0 ++ bytes_of 2 last)

-- A run over a kernel's bytes, and over long words: the answer, the place, and r4's first two bytes.
ran_bytes : List ℕ → ℕ → List ℕ → List ℕ
ran_bytes kernel budget state =
    let c = run_call blank_dictionary kernel budget fives state in
    shown c.answer ++ (take 2 (drop 4 c.state) ++ r4 2 c)

runs : List ℕ → ℕ → List ℕ → List ℕ
runs words budget state = ran_bytes (long words) budget state

-- ---- rows

rows_reach : List Row
rows_reach =
    -- a0.0 + 4, a0.1 − 6: byte 64 is r2's first
    (r4 2 (one (bytes_by 0 4) fives (begin_at 3 60 0)) gives 5 ∷ 6 ∷ [])
    ∷ (r4 2 (one (bytes_by 1 (2 ^ 10 - 6)) fives (begin_at 3 0 70)) gives 5 ∷ 6 ∷ [])
    -- into an address: byte 128 is r4's first; only for the channel that is awake
    ∷ (r4 2 (one (bytes_to 0 4) fives (begin_at 3 124 0)) gives 5 ∷ 6 ∷ [])
    ∷ (r4 2 (one (bytes_to 0 4) fives (begin_at 2 124 0)) gives 0 ∷ 6 ∷ [])
    -- src1 too: r2's bytes, and the same from one byte on
    ∷ (r4 2 (one (op 0x40 1 + to 4 4 0 + from0 4 2 0 2 1 1 + from1_by 4 0 0 2 1 1) fives (begin_at 3 65 0)) gives 11 ∷ 13 ∷ [])
    -- a destination by address over its source: all is read before anything is written
    ∷ (take 3 (drop 64 (one (op 0x01 1 + to_by 4 0 1 + from0_by 4 0 0 2 1 1) fives (begin_at 3 64 0)).registers) gives 5 ∷ 5 ∷ 6 ∷ [])
    -- both edges of the register file
    ∷ (says (bytes_by 0 0) (begin_at 3 0 0) gives 0 ∷ 0 ∷ 0 ∷ [])
    ∷ (says (bytes_by 0 0) (begin_at 3 4094 0) gives 0 ∷ 0 ∷ 0 ∷ [])
    ∷ (says (bytes_by 0 511) (begin_at 3 3583 0) gives 0 ∷ 0 ∷ 0 ∷ [])
    -- two registers side by side
    ∷ (says dwords_by (begin_at 3 64 0) gives 0 ∷ 0 ∷ 0 ∷ [])
    ∷ []

rows_stray : List Row
rows_stray =
    -- below 0; the sum does not wrap; past the last byte, by its first element and by its last
    (says (bytes_by 0 (2 ^ 10 - 4)) (begin_at 3 3 0) gives 22 ∷ 0 ∷ 0 ∷ [])
    ∷ (says (bytes_by 0 1) (begin_at 3 0xFFFF 0) gives 22 ∷ 0 ∷ 0 ∷ [])
    ∷ (says (bytes_by 0 0) (begin_at 3 4096 0) gives 22 ∷ 0 ∷ 0 ∷ [])
    ∷ (says (bytes_by 0 0) (begin_at 3 8256 0) gives 22 ∷ 0 ∷ 0 ∷ [])
    ∷ (says (bytes_by 0 0) (begin_at 3 4095 0) gives 22 ∷ 0 ∷ 0 ∷ [])
    ∷ (says (bytes_to 0 0) (begin_at 3 4095 0) gives 22 ∷ 0 ∷ 0 ∷ [])
    -- misaligned; across three registers
    ∷ (says word_by (begin_at 1 65 0) gives 22 ∷ 0 ∷ 0 ∷ [])
    ∷ (says word_by (begin_at 1 66 0) gives 0 ∷ 0 ∷ 0 ∷ [])
    ∷ (says dwords_by (begin_at 3 68 0) gives 22 ∷ 0 ∷ 0 ∷ [])
    -- enabled or not: with no channel awake
    ∷ (says (bytes_by 0 0) (begin_at 0 4095 0) gives 22 ∷ 0 ∷ 0 ∷ [])
    -- nothing changes
    ∷ (leaves (bytes_by 0 0) (begin_at 3 4095 7) gives begin_at 3 4095 7)
    -- in a run's middle: the steps before it are kept; the budget spent in front of it is 21; the end is 20
    ∷ (runs (bytes_by 1 4 ∷ bytes_by 0 0 ∷ []) 9 (begin_at 3 4095 60) gives 22 ∷ 16 ∷ 1 ∷ 2 ∷ 0 ∷ 5 ∷ 6 ∷ [])
    ∷ (runs (bytes_by 1 4 ∷ bytes_by 0 0 ∷ []) 1 (begin_at 3 4095 60) gives 21 ∷ 0 ∷ 1 ∷ 2 ∷ 0 ∷ 5 ∷ 6 ∷ [])
    ∷ (runs (bytes_by 1 4 ∷ bytes_by 0 0 ∷ []) 0 (begin_at 3 4095 60) gives 21 ∷ 0 ∷ 0 ∷ 0 ∷ 0 ∷ 0 ∷ 0 ∷ [])
    ∷ (runs (bytes_by 1 4 ∷ bytes_by 1 4 ∷ []) 2 (begin_at 3 4095 60) gives 20 ∷ 0 ∷ 2 ∷ 4 ∷ 0 ∷ 5 ∷ 6 ∷ [])
    -- after a short word, which takes one place
    ∷ (ran_bytes (bytes_of 8 (nop_word + 1 at 29) ++ long (bytes_by 0 0 ∷ [])) 9 (begin_at 3 4095 60) gives 22 ∷ 8 ∷ 1 ∷ 1 ∷ 0 ∷ 0 ∷ 0 ∷ [])
    -- a0 written, and used in the next step
    ∷ (runs ((op 0x01 0 + to_a0 2 0 + immediate0 2 0x00410041) ∷ bytes_by 0 0 ∷ []) 9 (begin_at 3 0 0) gives 20 ∷ 0 ∷ 2 ∷ 4 ∷ 0 ∷ 6 ∷ 7 ∷ [])
    ∷ (runs ((op 0x01 0 + to_a0 2 0 + immediate0 2 0xFFFFFFFF) ∷ bytes_by 0 0 ∷ []) 9 (begin_at 3 0 0) gives 22 ∷ 16 ∷ 1 ∷ 2 ∷ 0 ∷ 0 ∷ 0 ∷ [])
    ∷ []

rows_moved : List Row
rows_moved =
    -- from registers; into itself by region, all read first; where the channel is awake
    (a0_after (op 0x01 1 + to_a0 2 2 + from0 2 2 0 2 1 1) (begin_at 3 1 2) gives 1 ∷ 0 ∷ 5 ∷ 6 ∷ 7 ∷ 8 ∷ replicate 10 0)
    ∷ (a0_after (op 0x01 1 + to_a0 2 2 + from_a0 2 0 2 1 1) (begin_at 3 1 2) gives 1 ∷ 0 ∷ 1 ∷ 0 ∷ 2 ∷ 0 ∷ replicate 10 0)
    ∷ (a0_after (op 0x01 1 + to_a0 2 2 + from_a0 2 0 2 1 1) (begin_at 2 1 2) gives 1 ∷ 0 ∷ 2 ∷ 0 ∷ 2 ∷ 0 ∷ replicate 10 0)
    ∷ (r4 4 (one (op 0x01 1 + to 2 4 0 + from_a0 2 0 0 0 0) fives (begin_at 3 258 2)) gives 2 ∷ 1 ∷ 2 ∷ 1 ∷ [])
    -- negated, and clamped
    ∷ (a0_after (op 0x01 0 + to_a0 2 0 + from_a0 2 2 0 0 0 + 2 at 77) (begin_at 1 9 1) gives 0xFF ∷ 0xFF ∷ 1 ∷ 0 ∷ replicate 12 0)
    ∷ (a0_after (op 0x01 0 + to_a0 2 0 + from_a0 2 2 0 0 0 + 2 at 77 + 1 at 31) (begin_at 1 9 1) gives 0 ∷ 0 ∷ 1 ∷ 0 ∷ replicate 12 0)
    ∷ []

rows_beside : List Row
rows_beside =
    -- the last element of a0; AddrImm at its least, −512
    (r4 2 (one (bytes_by 7 0) fives (begin_last 3 64)) gives 5 ∷ 6 ∷ [])
    ∷ (r4 2 (one (bytes_by 0 0x200) fives (begin_at 3 576 0)) gives 5 ∷ 6 ∷ [])
    -- a step names its instruction
    ∷ (shown (step_call blank_dictionary (long (bytes_by 1 4 ∷ bytes_by 0 0 ∷ [])) fives (at_place 2 (begin_at 3 4095 60))).answer gives 22 ∷ 16 ∷ 0 ∷ [])
    -- no channel wakes in front of a broken address, and no register is written
    ∷ (leaves (bytes_by 0 0) (with_waiting (begin_at 3 4095 0)) gives with_waiting (begin_at 3 4095 0))
    ∷ (take 4 (drop 4092 (one (bytes_to 0 0) fives (begin_at 3 4095 0)).registers) gives replicate 4 0)
    -- any one of the operands may be the broken one
    ∷ (says (op 0x40 1 + to 4 4 0 + from0 4 2 0 2 1 1 + from1_by 4 0 0 2 1 1) (begin_at 3 4095 0) gives 22 ∷ 0 ∷ 0 ∷ [])
    ∷ (says (op 0x01 1 + to_by 4 1 0 + from0_by 4 0 0 2 1 1) (begin_at 3 4095 64) gives 22 ∷ 0 ∷ 0 ∷ [])
    ∷ (says (op 0x01 1 + to_by 4 0 0 + from0_by 4 1 0 2 1 1) (begin_at 3 4095 64) gives 22 ∷ 0 ∷ 0 ∷ [])
    -- cmp (equal) of r2's bytes, by address and named: both channels set flag 0
    ∷ (take 2 (leaves (op 0x10 1 + 1 at 24 + 4 at 34 + 1 at 61 + from0_by 4 0 0 2 1 1 + from1 4 2 0 2 1 1) (begin_at 3 64 0)) gives 3 ∷ 0 ∷ [])
    -- sel by address, where channel 0's bit alone is set; the address is judged though no channel takes that source
    ∷ (r4 4 (one sel_by fives (set (begin_at 3 64 0) 0 1)) gives 5 ∷ 0 ∷ 9 ∷ 0 ∷ [])
    ∷ (says sel_by (begin_at 3 4095 0) gives 22 ∷ 0 ∷ 0 ∷ [])
    -- of an immediate AddrMode is not looked at; in the second source it is a bit of the number
    ∷ (says (op 0x01 0 + to 2 4 0 + immediate0 2 0 + 1 at 79) (begin_at 1 0xFFFF 0xFFFF) gives 0 ∷ 0 ∷ 0 ∷ [])
    ∷ (r4 4 (one (op 0x40 0 + to 1 4 0 + from0 1 4 0 0 0 0 + immediate1 1 (1 at 15)) fives (begin_at 1 0xFFFF 0xFFFF)) gives 0 ∷ 0x80 ∷ 0 ∷ 0 ∷ [])
    ∷ []

-- Every one of them holds.
rows_reach_hold : Hold rows_reach
unfolding Hold to_by from0_by from1_by bytes_by bytes_to dwords_by begin_at fives says rows_reach
rows_reach_hold = refl

rows_stray_hold : Hold rows_stray
unfolding Hold from0_by to_by to_a0 bytes_by bytes_to dwords_by word_by begin_at fives says leaves ran_bytes runs rows_stray
rows_stray_hold = refl

rows_moved_hold : Hold rows_moved
unfolding Hold to_a0 from_a0 begin_at fives leaves a0_after rows_moved
rows_moved_hold = refl

rows_beside_hold : Hold rows_beside
unfolding Hold to_by from0_by from1_by bytes_by bytes_to sel_by begin_at begin_last at_place with_waiting fives says leaves rows_beside
rows_beside_hold = refl
