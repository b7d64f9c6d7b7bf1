-- A long kernel and one that was sent for it: rows worked out from 02 §11 by hand. Assumes nothing.
use Rattle.std.specs.Prelude.{List, [], ◌∷◌, refl, ℕ, ◌+◌, take, set}
use Rattle.paper.specs.Bits.{◌at◌, bytes_of}
use Rattle.paper.specs.Program.{blanked, same_numbers, agreed}
use Rattle.paper.specs.Calls.{pair_call, load_part}
use Rattle.paper.specs.Assembler.{jmpi_to, nop_word, long, numbers, zeros, dictionary_a}
use Rattle.paper.specs.Sheet.{Row, ◌gives◌, shown, long_a, short_a, kernel_i}
use Rattle.paper.specs.SheetHolds.{Hold}

-- The answer to a pair under case A's dictionary.
paired : List ℕ → List ℕ → List ℕ
paired longer sent = shown (pair_call dictionary_a longer sent)

-- Case I's kernel: jmpi over an add, and a nop that has no short form. It is 48 bytes long, 40 packed, where its jmpi holds 1.
kernel_long : List ℕ
kernel_long = kernel_i 2 (bytes_of 16 long_a)

kernel_sent : List ℕ
kernel_sent = kernel_i 1 (bytes_of 8 short_a)

-- Case A's dictionary with its control number 1 once more, as number 5.
repeated_a : List ℕ
repeated_a = numbers (set (set (set (set zeros 1 0x6000) 5 0x6000) 34 0x94A5) 99 0x468)

rows_pair : List Row
rows_pair =
    -- packed, and not packed
    (paired kernel_long kernel_sent gives 0 ∷ 0 ∷ 40 ∷ [])
    ∷ (paired kernel_long kernel_long gives 0 ∷ 0 ∷ 48 ∷ [])
    -- a short word that is not the smallest
    ∷ (shown (pair_call repeated_a (bytes_of 16 long_a) (bytes_of 8 (short_a + 4 at 8))) gives 0 ∷ 0 ∷ 8 ∷ [])
    -- a distance that leads an instruction too short, one too far to the end, and nowhere: the sent kernel's own refusal
    ∷ (paired kernel_long (kernel_i 0 (bytes_of 8 short_a)) gives 31 ∷ 0 ∷ 48 ∷ [])
    ∷ (paired kernel_long (kernel_i 3 (bytes_of 8 short_a)) gives 31 ∷ 0 ∷ 48 ∷ [])
    ∷ (paired kernel_long (kernel_i 2 (bytes_of 8 short_a)) gives 12 ∷ 0 ∷ 48 ∷ [])
    -- another register in the second instruction; a bit that nobody reads in the first
    ∷ (paired kernel_long (kernel_i 2 (bytes_of 16 (long_a + 1 at 69))) gives 31 ∷ 1 ∷ 48 ∷ [])
    ∷ (paired (long (nop_word ∷ [])) (long ((nop_word + 1 at 14) ∷ [])) gives 31 ∷ 0 ∷ 16 ∷ [])
    -- one is the beginning of the other
    ∷ (paired (long (nop_word ∷ nop_word ∷ [])) (long (nop_word ∷ [])) gives 31 ∷ 1 ∷ 32 ∷ [])
    ∷ (paired (long (nop_word ∷ [])) (long (nop_word ∷ nop_word ∷ [])) gives 31 ∷ 1 ∷ 16 ∷ [])
    -- a jump to the end, which is instruction 1 of the long kernel: the sent kernel's end is its instruction 2
    ∷ (paired (long (jmpi_to 0 ∷ [])) (long (jmpi_to 2 ∷ nop_word ∷ [])) gives 31 ∷ 0 ∷ 16 ∷ [])
    ∷ (paired (long (jmpi_to 0 ∷ [])) (long (jmpi_to 0 ∷ nop_word ∷ [])) gives 31 ∷ 1 ∷ 16 ∷ [])
    -- the long kernel's refusal comes first and loads nothing; then the sent one's
    ∷ (paired (long (nop_word ∷ 0x03 ∷ [])) (long (0x03 ∷ [])) gives 4 ∷ 16 ∷ 0 ∷ [])
    ∷ (paired (long (nop_word ∷ [])) (long (nop_word ∷ 0x03 ∷ [])) gives 4 ∷ 16 ∷ 16 ∷ [])
    ∷ (paired (bytes_of 8 short_a) (bytes_of 8 short_a) gives 5 ∷ 0 ∷ 0 ∷ [])
    ∷ (shown (pair_call (take 511 dictionary_a) [] []) gives 1 ∷ 0 ∷ 0 ∷ [])
    -- empty kernels
    ∷ (paired [] [] gives 0 ∷ 0 ∷ 0 ∷ [])
    ∷ (paired [] (long (nop_word ∷ [])) gives 31 ∷ 0 ∷ 0 ∷ [])
    ∷ (paired (long (nop_word ∷ [])) [] gives 31 ∷ 0 ∷ 16 ∷ [])
    -- the part to load
    ∷ (load_part dictionary_a kernel_long kernel_sent gives kernel_sent)
    ∷ (load_part dictionary_a kernel_long (kernel_i 0 (bytes_of 8 short_a)) gives kernel_long)
    ∷ (load_part dictionary_a kernel_long (kernel_i 2 (bytes_of 8 short_a)) gives kernel_long)
    ∷ (load_part dictionary_a (bytes_of 8 short_a) (bytes_of 8 short_a) gives [])
    ∷ []

-- Every one of them holds.
rows_pair_hold : Hold rows_pair
unfolding Hold blanked same_numbers agreed pair_call load_part paired kernel_long kernel_sent repeated_a rows_pair
rows_pair_hold = refl
