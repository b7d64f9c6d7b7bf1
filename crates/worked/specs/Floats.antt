-- Steps over floats, and the fixed kernel's run, beside the table of `paper`. Assumes nothing.
use Rattle.std.specs.Prelude.{List, [], ◌∷◌, ◌++◌, refl, ℕ, ◌+◌, take, drop}
use Rattle.std.specs.Float.Ieee.{add, mul, of_bits, to_bits, eq, ne, lt, le}
use Rattle.paper.specs.Bits.{◌at◌}
use Rattle.paper.specs.Single.{compares_floats, sign_modified}
use Rattle.paper.specs.Restricted.{restricted_float, vector_float}
use Rattle.paper.specs.Element.{float_result}
use Rattle.paper.specs.Calls.{Changed, check_call, run_call}
use Rattle.paper.specs.Placing.{placement_of, place_kernel, loaded_with, place_load_call}
use Rattle.paper.specs.Assembler.{to, from0, from1, immediate0, immediate1, op, numbers, blank_dictionary, clear, begin}
use Rattle.paper.specs.Sheet.{Row, ◌gives◌, shown}
use Rattle.paper.specs.SheetMore.{one, r4}
use Rattle.paper.specs.SheetFloats.{six_of, some_record}
use Rattle.paper.specs.SheetHolds.{Hold}

-- r2's dwords.
second_is : List ℕ → List ℕ
second_is words = take 64 clear ++ (numbers words ++ drop (64 + 16) clear)

-- r2 holds −3, 2^-149, ∞ and a NaN.
some : List ℕ
some = second_is (0xC0400000 ∷ 1 ∷ 0x7F800000 ∷ 0xFFC12345 ∷ [])

-- Four channels of r2 into r4.
four : ℕ → ℕ → ℕ
four code more = op code 2 + to 7 4 0 + from0 7 2 0 3 2 1 + more

rows_floats : List Row
rows_floats =
    -- mov copies bits; negated; where the channel is awake
    (r4 16 (one (four 0x01 0) some (begin 15 0 0)) gives numbers (0xC0400000 ∷ 1 ∷ 0x7F800000 ∷ 0xFFC12345 ∷ []))
    ∷ (r4 16 (one (four 0x01 (2 at 77)) some (begin 5 0 0)) gives numbers (0x40400000 ∷ 0 ∷ 0xFF800000 ∷ 0 ∷ []))
    -- plus itself, times itself
    ∷ (r4 16 (one (four 0x40 (from1 7 2 0 3 2 1)) some (begin 15 0 0)) gives numbers (0xC0C00000 ∷ 2 ∷ 0x7F800000 ∷ 0x7FC00000 ∷ []))
    ∷ (r4 16 (one (four 0x41 (from1 7 2 0 3 2 1)) some (begin 15 0 0)) gives numbers (0x41100000 ∷ 0 ∷ 0x7F800000 ∷ 0x7FC00000 ∷ []))
    -- times an immediate, 0.5
    ∷ (r4 16 (one (four 0x41 (immediate1 7 0x3F000000)) some (begin 15 0 0)) gives numbers (0xBFC00000 ∷ 0 ∷ 0x7F800000 ∷ 0x7FC00000 ∷ []))
    -- plus 1, −2, 0, 0.5; and these four moved
    ∷ (r4 16 (one (four 0x40 (immediate1 5 0x2000C030)) some (begin 15 0 0)) gives numbers (0xC0000000 ∷ 0xC0000000 ∷ 0x7F800000 ∷ 0x7FC00000 ∷ []))
    ∷ (r4 16 (one (op 0x01 2 + to 7 4 0 + immediate0 5 0x2000C030) some (begin 15 0 0)) gives numbers (0x3F800000 ∷ 0xC0000000 ∷ 0 ∷ 0x3F000000 ∷ []))
    -- cmp with itself: ge but for the NaN, as whole numbers and as flags; nz for the NaN alone
    ∷ (r4 16 (one (four 0x10 (from1 7 2 0 3 2 1 + 4 at 24)) some (begin 15 0 0)) gives numbers (1 ∷ 1 ∷ 1 ∷ 0 ∷ []))
    ∷ (take 2 (one (four 0x10 (from1 7 2 0 3 2 1 + 4 at 24)) some (begin 15 0xFF 0)).state gives 0xF7 ∷ 0 ∷ [])
    ∷ (take 2 (one (four 0x10 (from1 7 2 0 3 2 1 + 2 at 24)) some (begin 15 0 0)).state gives 8 ∷ 0 ∷ [])
    -- code 5 in a register is type b, as before
    ∷ (r4 4 (one (op 0x01 2 + to 4 4 0 + from0 5 2 0 3 2 1) some (begin 15 0 0)) gives 0 ∷ 0 ∷ 0x40 ∷ 0xC0 ∷ [])
    ∷ []

-- Tiles at (1, 2) and (−1, 0.5) among sixteen, and where the kernel leaves them.
tiles : List ℕ
tiles =
    take 64 clear ++ (numbers (0x3F800000 ∷ 0xBF800000 ∷ [])
    ++ (take 56 clear ++ (numbers (0x40000000 ∷ 0x3F000000 ∷ []) ++ drop (64 + 8 + 56 + 8) clear)))

ran_placed : ℕ → Changed
ran_placed mask = run_call blank_dictionary place_kernel 100 (loaded_with some_record tiles) (begin mask 0 0)

rows_kernel : List Row
rows_kernel =
    -- accepted; loaded, and with a byte less
    (shown (check_call blank_dictionary place_kernel) gives 0 ∷ 0 ∷ 8 ∷ [])
    ∷ (shown (place_load_call (take 23 some_record) clear).answer gives 1 ∷ 0 ∷ 0 ∷ [])
    ∷ (shown (place_load_call some_record (take 4095 clear)).answer gives 1 ∷ 0 ∷ 0 ∷ [])
    ∷ (shown (place_load_call some_record clear).answer gives 0 ∷ 0 ∷ 0 ∷ [])
    ∷ (shown (ran_placed 0xFFFF).answer gives 20 ∷ 0 ∷ 8 ∷ [])
    -- 9 and 2·−1 + 3·0.5 + 1 = 0.5; the other tiles stand at (0, 0), and go to (1, 0.5)
    ∷ (take 12 (drop 256 (ran_placed 0xFFFF).registers) gives numbers (0x41100000 ∷ 0x3F000000 ∷ 0x3F800000 ∷ []))
    -- 14.5 and 4·−1 + 5·0.5 + 0.5 = −1
    ∷ (take 12 (drop 320 (ran_placed 0xFFFF).registers) gives numbers (0x41680000 ∷ 0xBF800000 ∷ 0x3F000000 ∷ []))
    -- the second tile's channel is off
    ∷ (take 12 (drop 320 (ran_placed 0x0005).registers) gives numbers (0x41680000 ∷ 0 ∷ 0x3F000000 ∷ []))
    ∷ []

rows_floats_hold : Hold rows_floats
unfolding Hold add mul of_bits to_bits eq ne lt le compares_floats sign_modified restricted_float vector_float float_result second_is some four rows_floats
rows_floats_hold = refl

rows_kernel_hold : Hold rows_kernel
unfolding Hold add mul of_bits to_bits float_result sign_modified placement_of place_kernel loaded_with place_load_call six_of some_record tiles ran_placed rows_kernel
rows_kernel_hold = refl
