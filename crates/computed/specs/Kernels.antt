-- Kernels that are lent with a dictionary: their refusals and what just passes; break and cont packed, and their short forms refused. Assumes nothing.
use Rattle.std.specs.Prelude.{List, [], ◌∷◌, ◌++◌, refl, ℕ, ◌+◌, ◌-◌, ◌^◌, replicate, take, set}
use Rattle.paper.specs.Bits.{◌at◌, bytes_of}
use Rattle.paper.specs.Limits.{kernel_bytes}
use Rattle.paper.specs.Calls.{check_call, pack_call, unpack_call, shorten_call, expand_call}
use Rattle.paper.specs.Assembler.{leave_to, nop_word, long, numbers, zeros, blank_dictionary, dictionary_a}
use Rattle.paper.specs.Sheet.{Row, ◌gives◌, shown, written, room, long_a, short_a}
use Rattle.paper.specs.SheetHolds.{Hold}

-- The check of a nop and then the given bytes: what is refused stands at byte 16.
second : List ℕ → List ℕ
second bytes = shown (check_call blank_dictionary (long (nop_word ∷ []) ++ bytes))

-- A short nop.
short_nop : List ℕ
short_nop = bytes_of 8 (nop_word + 1 at 29)

pub rows_kernel : List Row
rows_kernel =
    (shown (check_call (take 511 blank_dictionary) []) gives 1 ∷ 0 ∷ 0 ∷ [])
    ∷ (shown (check_call blank_dictionary (replicate (kernel_bytes + 1) 0)) gives 1 ∷ 0 ∷ 0 ∷ [])
    ∷ (shown (check_call (numbers (set zeros 0 (2 ^ 17))) []) gives 2 ∷ 0 ∷ 0 ∷ [])
    ∷ (shown (check_call (numbers (set zeros 0 (2 ^ 17 - 1))) []) gives 0 ∷ 0 ∷ 0 ∷ [])
    ∷ (second (1 ∷ 2 ∷ 3 ∷ []) gives 3 ∷ 16 ∷ 0 ∷ [])
    ∷ (second (bytes_of 12 nop_word) gives 3 ∷ 16 ∷ 0 ∷ [])
    ∷ (second (bytes_of 8 (0x22 + 1 at 29)) gives 5 ∷ 16 ∷ 0 ∷ [])
    ∷ (second short_nop gives 0 ∷ 0 ∷ 2 ∷ [])
    ∷ []

-- ---- break and cont

-- A break to the nop and to the end; an add, the nop, an add; and a cont back to the nop and to the break. Only the adds shorten.
between : ℕ → ℕ → ℕ → ℕ → List ℕ → List ℕ
between jip uip back far add =
    long (leave_to 0x28 jip uip ∷ []) ++ (add ++ (long ((nop_word + 1 at 14) ∷ []) ++ (add ++ long (leave_to 0x29 back far ∷ []))))

pub rows_around : List Row
rows_around =
    -- packing rewrites both distances, forward and back, and unpacking too
    (written (pack_call dictionary_a (between 4 10 (2 ^ 16 - 4) (2 ^ 16 - 8) (bytes_of 16 long_a)) (room 64))
    gives 0 ∷ 0 ∷ 64 ∷ between 3 8 (2 ^ 16 - 3) (2 ^ 16 - 6) (bytes_of 8 short_a))
    ∷ (written (unpack_call dictionary_a (between 3 8 (2 ^ 16 - 3) (2 ^ 16 - 6) (bytes_of 8 short_a)) (room 80))
    gives 0 ∷ 0 ∷ 80 ∷ between 4 10 (2 ^ 16 - 4) (2 ^ 16 - 8) (bytes_of 16 long_a))
    -- they have no short form
    ∷ (second (bytes_of 8 (0x28 + 1 at 29)) gives 5 ∷ 16 ∷ 0 ∷ [])
    ∷ (second (bytes_of 8 (0x29 + 1 at 29)) gives 5 ∷ 16 ∷ 0 ∷ [])
    ∷ (written (expand_call blank_dictionary (bytes_of 8 (0x28 + 1 at 29)) (room 1)) gives 5 ∷ 0 ∷ 0 ∷ room 1)
    ∷ (written (shorten_call blank_dictionary (bytes_of 16 (leave_to 0x29 2 2)) (room 1)) gives 13 ∷ 0 ∷ 0 ∷ room 1)
    ∷ []

-- ---- all of them hold

pub rows_kernel_hold : Hold rows_kernel
unfolding Hold second short_nop rows_kernel
rows_kernel_hold = refl

pub rows_around_hold : Hold rows_around
unfolding Hold second between rows_around
rows_around_hold = refl
