-- The parts of which steps, packing, pairs and answers are made, each at a few numbers, without a dictionary and without registers: rows worked out from the
-- paper by hand. The calls made of them stand in crates `worked` and `computed`. Assumes nothing.
use Rattle.std.specs.Prelude.{false, cond, List, [], ◌∷◌, map, refl, ℕ, ◌+◌, ◌-◌, ◌^◌, eqb}
use Rattle.std.proofs.Math.Option.{Option, none, some}
use Rattle.paper.specs.Bits.{◌at◌, bytes_of}
use Rattle.paper.specs.Operation.{Branch, jmpi, if, else, endif, while, break, cont}
use Rattle.paper.specs.Shorten.{index_of}
use Rattle.paper.specs.Enable.{digit, holds, flag_after}
use Rattle.paper.specs.Kernel.{Instr, bad, good}
use Rattle.paper.specs.Jump.{jip, uip}
use Rattle.paper.specs.Forward.{forward}
use Rattle.paper.specs.Machine.{Channel, off, awake, waiting, State, wake, Ways, onward, act}
use Rattle.paper.specs.State.{state_of}
use Rattle.paper.specs.Packing.{aimed, relay}
use Rattle.paper.specs.Program.{blanked, program, same_numbers, agreed}
use Rattle.paper.specs.Calls.{deliver, paired_as, fresh_store, stepped_as}
use Rattle.paper.specs.Assembler.{op, structured_to, jmpi_to, leave_to, nop_word}
use Rattle.paper.specs.Sheet.{Row, ◌gives◌, shown, written, room, long_a, short_a, kernel_i}
use Rattle.paper.specs.SheetMore.{state_is}
use Rattle.paper.specs.SheetHolds.{Hold}

-- ---- flags and predicates

-- The predicates of channels 0 to 3 in a word, by flag f0.0.
unfoldable pub holding : ℕ → ℕ → List ℕ
holding w flag = map (λ m. digit (holds w (fresh_store [] flag 0) m)) (0 ∷ 1 ∷ 2 ∷ 3 ∷ [])

unfoldable pub rows_holding : List Row
rows_holding =
    -- no predicate; each channel by itself, and inverted; any of two, in an instruction of 16
    (holding (op 0x01 4) 8 gives 1 ∷ 1 ∷ 1 ∷ 1 ∷ [])
    ∷ (holding (op 0x01 4 + 1 at 16) 8 gives 0 ∷ 0 ∷ 0 ∷ 1 ∷ [])
    ∷ (holding (op 0x01 4 + 1 at 16 + 1 at 20) 8 gives 1 ∷ 1 ∷ 1 ∷ 0 ∷ [])
    ∷ (holding (op 0x01 4 + 4 at 16) 8 gives 0 ∷ 0 ∷ 1 ∷ 1 ∷ [])
    -- cmp on channels 0 to 3 and on 8 to 15, which never holds, where only channel 1 or 9 is enabled: the bits of the others stay
    ∷ (flag_after 0xFFFF 0 4 (eqb 1) (λ _. false) ∷ flag_after 0xFFFF 8 8 (eqb 9) (λ _. false) ∷ [] gives 0xFFFD ∷ 0xFDFF ∷ [])
    ∷ []

-- ---- channels and branches

-- A channel as a number: 0 off, 1 awake, 2 + p waiting at place p.
unfoldable pub numbered : Channel → ℕ
numbered off = 0
numbered awake = 1
numbered (waiting p) = 2 + p

-- A place, and the channels.
unfoldable pub standing : State → List ℕ
standing s = s.place ∷ map numbered s.channels

-- To place 2 or, by a jump, to place 4; the channels that are parked wait at place 6.
unfoldable pub ways : Ways
ways = record { next = 2; jump = 4; wait = 6 }

-- What a branch does by f0.0, where channel 0's bit alone is set.
unfoldable pub acts : Branch → List Channel → List ℕ
acts b cs = standing (act b (1 at 16) ways (fresh_store [] 1 0) cs)

-- Two channels that are awake, one off, one waiting far away.
unfoldable pub four : List Channel
four = awake ∷ awake ∷ off ∷ waiting 8 ∷ []

unfoldable pub rows_acting : List Row
rows_acting =
    -- who waits at a place wakes there
    (map (λ c. numbered (wake 6 c)) (off ∷ awake ∷ waiting 6 ∷ waiting 8 ∷ []) gives 0 ∷ 1 ∷ 1 ∷ 10 ∷ [])
    -- on to the next place if a channel is awake or waits there; else to the jump
    ∷ (onward ways (off ∷ awake ∷ []) ∷ onward ways (off ∷ waiting 2 ∷ []) ∷ onward ways (off ∷ waiting 4 ∷ []) ∷ [] gives 2 ∷ 2 ∷ 4 ∷ [])
    -- if: the failing wait; else: all that are awake; endif: none
    ∷ (acts if four gives 2 ∷ 1 ∷ 8 ∷ 0 ∷ 10 ∷ [])
    ∷ (acts else four gives 4 ∷ 8 ∷ 8 ∷ 0 ∷ 10 ∷ [])
    ∷ (acts endif four gives 2 ∷ 1 ∷ 1 ∷ 0 ∷ 10 ∷ [])
    -- while: the failing wait at the next place, and the others go back; where all fail it goes on
    ∷ (acts while four gives 4 ∷ 1 ∷ 4 ∷ 0 ∷ 10 ∷ [])
    ∷ (acts while (off ∷ awake ∷ []) gives 2 ∷ 0 ∷ 1 ∷ [])
    -- break and cont: those whose predicate holds wait; a channel that waits at the next place keeps them from jumping
    ∷ (acts break four gives 2 ∷ 8 ∷ 1 ∷ 0 ∷ 10 ∷ [])
    ∷ (acts cont four gives 2 ∷ 8 ∷ 1 ∷ 0 ∷ 10 ∷ [])
    ∷ (acts break (awake ∷ off ∷ []) gives 4 ∷ 8 ∷ 0 ∷ [])
    ∷ (acts break (awake ∷ waiting 2 ∷ []) gives 2 ∷ 8 ∷ 4 ∷ [])
    -- jmpi: by channel 0's bit, though it is off
    ∷ (acts jmpi (off ∷ awake ∷ []) gives 4 ∷ 0 ∷ 1 ∷ [])
    ∷ []

-- ---- kernels

-- A long word at a place, and one that stands there short.
unfoldable pub long_at : ℕ → ℕ → Instr
long_at p w = record { place = p; size = 2; word = w }

unfoldable pub short_at : ℕ → ℕ → Instr
short_at p w = record { place = p; size = 1; word = w }

-- Case I's kernel and its packed form: jmpi over an add to a nop, where only the add is short.
unfoldable pub instrs_i : List Instr
instrs_i = long_at 0 (jmpi_to 2) ∷ long_at 2 long_a ∷ long_at 4 (nop_word + 1 at 14) ∷ []

unfoldable pub packed_i : List Instr
packed_i = long_at 0 (jmpi_to 1) ∷ short_at 2 long_a ∷ long_at 3 (nop_word + 1 at 14) ∷ []

-- The short word of case A, for its long word alone.
unfoldable pub only_a : ℕ → Option ℕ
only_a w = cond (eqb w long_a) (some short_a) none

unfoldable pub rows_laid : List Row
rows_laid =
    -- the smallest index, and 32 where there is none
    (index_of (λ _. 5) 16 5 ∷ index_of (λ i. i) 16 7 ∷ index_of (λ _. 5) 16 6 ∷ [] gives 0 ∷ 7 ∷ 32 ∷ [])
    -- laid out anew, each distance rewritten; both of break and cont
    ∷ (relay only_a instrs_i gives kernel_i 1 (bytes_of 8 short_a))
    ∷ (relay (λ _. none) packed_i gives kernel_i 2 (bytes_of 16 long_a))
    ∷ (aimed (jip ∷ uip ∷ []) (leave_to 0x28 9 9) 4 6 (10 ∷ 2 ∷ []) ∷ [] gives leave_to 0x28 6 (2 ^ 16 - 2) ∷ [])
    -- what lies after an if is forward, the if itself is not
    ∷ (digit (forward (long_at 0 (structured_to 0x22 2) ∷ [])) ∷ digit (forward (long_at 0 (structured_to 0x22 0) ∷ [])) ∷ [] gives 1 ∷ 0 ∷ [])
    ∷ []

-- ---- a kernel and one that was sent for it

-- One nop and two.
unfoldable pub nops : List Instr
nops = long_at 0 nop_word ∷ []

unfoldable pub two_nops : List Instr
two_nops = long_at 0 nop_word ∷ long_at 2 nop_word ∷ []

unfoldable pub rows_paired : List Row
rows_paired =
    -- how many instructions agree: all of a kernel and its packed form; none where the first word differs in a bit
    (agreed (program instrs_i) (program packed_i) ∷ agreed (program nops) (program (long_at 0 (nop_word + 1 at 14) ∷ [])) ∷ [] gives 3 ∷ 0 ∷ [])
    -- the same; one is the beginning of the other; the sent one is refused, and the long one is to be loaded
    ∷ (shown (paired_as (room 16) (room 16) (good nops) (good nops)) gives 0 ∷ 0 ∷ 16 ∷ [])
    ∷ (shown (paired_as (room 32) (room 16) (good two_nops) (good nops)) gives 31 ∷ 1 ∷ 32 ∷ [])
    ∷ (shown (paired_as (room 16) (room 32) (good nops) (good two_nops)) gives 31 ∷ 1 ∷ 16 ∷ [])
    ∷ (shown (paired_as (room 16) (room 32) (good nops) (bad 4 16)) gives 4 ∷ 16 ∷ 16 ∷ [])
    ∷ (shown (paired_as (room 16) (room 32) (bad 5 0) (bad 4 16)) gives 5 ∷ 0 ∷ 0 ∷ [])
    ∷ []

-- ---- what a call leaves

-- A state in which channel 0 is awake and channel 2 waits at place 0, where the state stands.
unfoldable pub about_to_wake : List ℕ
about_to_wake = state_is 0 0 0 1 4 0 0

unfoldable pub rows_left : List Row
rows_left =
    -- a result with a byte to spare, and with a byte too few
    (written (deliver (1 ∷ 2 ∷ []) (room 3)) gives 0 ∷ 0 ∷ 2 ∷ 1 ∷ 2 ∷ room 1)
    ∷ (written (deliver (1 ∷ 2 ∷ []) (room 1)) gives 14 ∷ 0 ∷ 0 ∷ room 1)
    -- a step that 22 stops changes nothing, not even who is awake
    ∷ ((stepped_as (some 22) [] about_to_wake (state_of [] about_to_wake) (state_of [] about_to_wake)).state gives about_to_wake)
    ∷ []

-- ---- every one of them holds

pub rows_holding_hold : Hold rows_holding
unfolding Hold holding rows_holding
rows_holding_hold = refl

pub rows_acting_hold : Hold rows_acting
unfolding Hold numbered standing ways acts four rows_acting
rows_acting_hold = refl

pub rows_laid_hold : Hold rows_laid
unfolding Hold long_at short_at instrs_i packed_i only_a rows_laid
rows_laid_hold = refl

pub rows_paired_hold : Hold rows_paired
unfolding Hold blanked same_numbers agreed long_at short_at instrs_i packed_i nops two_nops rows_paired
rows_paired_hold = refl

pub rows_left_hold : Hold rows_left
unfolding Hold about_to_wake rows_left
rows_left_hold = refl
