-- Rows for floats and placements (02 §8): worked out from the paper by hand. Steps and runs over them stand in crate `worked`. Assumes nothing.
use Rattle.std.specs.Prelude.{true, false, List, [], ◌∷◌, ◌++◌, map, refl, ℕ, ◌+◌, ◌*◌, length, take, drop}
use Rattle.std.specs.Float.Ieee.{add, mul, of_bits, to_bits, eq, ne, lt, le}
use Rattle.paper.specs.Bits.{bits, ◌at◌}
use Rattle.paper.specs.Operation.{Plain}
use Rattle.paper.specs.Single.{sum, product, compares_floats, sign_modified}
use Rattle.paper.specs.Restricted.{restricted_float, vector_float}
use Rattle.paper.specs.Element.{Element, float_result, made, meets}
use Rattle.paper.specs.Enable.{digit}
use Rattle.paper.specs.Placing.{placement_of, point_bytes, order_of, place_kernel, place_call, place_kernel_call, place_load_call, loaded_with}
use Rattle.paper.specs.Assembler.{to, from0, from1, immediate0, immediate1, op, numbers}
use Rattle.paper.specs.Sheet.{Row, ◌gives◌, written, room}
use Rattle.paper.specs.SheetRefusals.{second_word}
use Rattle.paper.specs.SheetHolds.{Hold}

-- ---- sums and products

unfoldable pub sums : ℕ → ℕ → List ℕ
sums x y = sum x y ∷ sum y x ∷ []

unfoldable pub products : ℕ → ℕ → List ℕ
products x y = product x y ∷ product y x ∷ []

unfoldable pub rows_sum : List Row
rows_sum =
    -- 1 + 2; 0.1 + 0.2, rounded
    (sums 0x3F800000 0x40000000 gives 0x40400000 ∷ 0x40400000 ∷ [])
    ∷ (sums 0x3DCCCCCD 0x3E4CCCCD gives 0x3E99999A ∷ 0x3E99999A ∷ [])
    -- ties: 2^24 + 1 to the even one below, 2^24 + 2 + 1 to the even one above; a little more than a tie
    ∷ (sums 0x4B800000 0x3F800000 gives 0x4B800000 ∷ 0x4B800000 ∷ [])
    ∷ (sums 0x4B800001 0x3F800000 gives 0x4B800002 ∷ 0x4B800002 ∷ [])
    ∷ (sums 0x4B800000 0x3F800001 gives 0x4B800001 ∷ 0x4B800001 ∷ [])
    -- zeros: 1 − 1, −0 + −0, 0 + −0
    ∷ (sums 0x3F800000 0xBF800000 gives 0 ∷ 0 ∷ [])
    ∷ (sums 0x80000000 0x80000000 gives 0x80000000 ∷ 0x80000000 ∷ [])
    ∷ (sums 0 0x80000000 gives 0 ∷ 0 ∷ [])
    -- subnormal numbers are kept, and become normal
    ∷ (sums 1 1 gives 2 ∷ 2 ∷ [])
    ∷ (sums 0x007FFFFF 1 gives 0x00800000 ∷ 0x00800000 ∷ [])
    -- overflow, from the tie past the largest number on
    ∷ (sums 0x7F7FFFFF 0x7F7FFFFF gives 0x7F800000 ∷ 0x7F800000 ∷ [])
    ∷ (sums 0x7F7FFFFF 0x73000000 gives 0x7F800000 ∷ 0x7F800000 ∷ [])
    ∷ (sums 0x7F7FFFFF 0x72FFFFFF gives 0x7F7FFFFF ∷ 0x7F7FFFFF ∷ [])
    -- infinities; a NaN, whatever its bits
    ∷ (sums 0xFF800000 0x7F7FFFFF gives 0xFF800000 ∷ 0xFF800000 ∷ [])
    ∷ (sums 0x7F800000 0xFF800000 gives 0x7FC00000 ∷ 0x7FC00000 ∷ [])
    ∷ (sums 0xFF812345 0x3F800000 gives 0x7FC00000 ∷ 0x7FC00000 ∷ [])
    ∷ (sums 0xFF812345 0x7FFFFFFF gives 0x7FC00000 ∷ 0x7FC00000 ∷ [])
    ∷ []

unfoldable pub rows_product : List Row
rows_product =
    -- 3 × 0.5; 0.1 × 0.1, rounded
    (products 0x40400000 0x3F000000 gives 0x3FC00000 ∷ 0x3FC00000 ∷ [])
    ∷ (products 0x3DCCCCCD 0x3DCCCCCD gives 0x3C23D70B ∷ 0x3C23D70B ∷ [])
    -- 2^-149 × 0.5 and 3·2^-149 × 0.5: ties, to 0 and to 2·2^-149
    ∷ (products 1 0x3F000000 gives 0 ∷ 0 ∷ [])
    ∷ (products 3 0x3F000000 gives 2 ∷ 2 ∷ [])
    -- zeros have signs
    ∷ (products 0x80000000 0x3F800000 gives 0x80000000 ∷ 0x80000000 ∷ [])
    ∷ (products 0x80000000 0xBF800000 gives 0 ∷ 0 ∷ [])
    -- 2^127 × −2; 0 × −∞; ∞ × −1; a NaN
    ∷ (products 0x7F000000 0xC0000000 gives 0xFF800000 ∷ 0xFF800000 ∷ [])
    ∷ (products 0 0xFF800000 gives 0x7FC00000 ∷ 0x7FC00000 ∷ [])
    ∷ (products 0x7F800000 0xBF800000 gives 0xFF800000 ∷ 0xFF800000 ∷ [])
    ∷ (products 0x7F800001 0 gives 0x7FC00000 ∷ 0x7FC00000 ∷ [])
    ∷ []

-- ---- the six conditions, z nz g ge l le

unfoldable pub conditions : ℕ → ℕ → List ℕ
conditions x y = map (λ c. digit (compares_floats c x y)) (1 ∷ 2 ∷ 3 ∷ 4 ∷ 5 ∷ 6 ∷ [])

unfoldable pub rows_condition : List Row
rows_condition =
    -- −1 and 2^-149; 1 and 1; ∞ and the largest number; −0 is 0
    (conditions 0xBF800000 1 gives 0 ∷ 1 ∷ 0 ∷ 0 ∷ 1 ∷ 1 ∷ [])
    ∷ (conditions 0x3F800000 0x3F800000 gives 1 ∷ 0 ∷ 0 ∷ 1 ∷ 0 ∷ 1 ∷ [])
    ∷ (conditions 0x7F800000 0x7F7FFFFF gives 0 ∷ 1 ∷ 1 ∷ 1 ∷ 0 ∷ 0 ∷ [])
    ∷ (conditions 0x80000000 0 gives 1 ∷ 0 ∷ 0 ∷ 1 ∷ 0 ∷ 1 ∷ [])
    -- ∞ and ∞, of which there is no difference
    ∷ (conditions 0x7F800000 0x7F800000 gives 1 ∷ 0 ∷ 0 ∷ 1 ∷ 0 ∷ 1 ∷ [])
    -- a NaN on either side, and on both: only nz
    ∷ (conditions 0x7FC00000 0x3F800000 gives 0 ∷ 1 ∷ 0 ∷ 0 ∷ 0 ∷ 0 ∷ [])
    ∷ (conditions 0x3F800000 0xFF800001 gives 0 ∷ 1 ∷ 0 ∷ 0 ∷ 0 ∷ 0 ∷ [])
    ∷ (conditions 0x7FC00000 0x7FC00000 gives 0 ∷ 1 ∷ 0 ∷ 0 ∷ 0 ∷ 0 ∷ [])
    ∷ []

-- ---- one element

-- A float read under a modifier.
unfoldable pub read : ℕ → ℕ → Element
read m x = record { kind = 7; modifier = m; pattern = x }

-- What mov stores under each modifier.
unfoldable pub moved : ℕ → List ℕ
moved x = map (λ m. made Plain.mov 0 true false 7 (read m x) (read 0 0)) (0 ∷ 1 ∷ 2 ∷ 3 ∷ [])

unfoldable pub rows_element : List Row
rows_element =
    -- a modifier changes the sign bit and nothing else, of a NaN and of zeros too
    (moved 0xC0400000 gives 0xC0400000 ∷ 0x40400000 ∷ 0x40400000 ∷ 0xC0400000 ∷ [])
    ∷ (moved 0x7F800001 gives 0x7F800001 ∷ 0x7F800001 ∷ 0xFF800001 ∷ 0xFF800001 ∷ [])
    ∷ (moved 0xFFFFFFFF gives 0xFFFFFFFF ∷ 0x7FFFFFFF ∷ 0x7FFFFFFF ∷ 0xFFFFFFFF ∷ [])
    ∷ (moved 0 gives 0 ∷ 0 ∷ 0x80000000 ∷ 0x80000000 ∷ [])
    -- 3 + (−1), |−3| × −0.5
    ∷ (made Plain.add 0 true false 7 (read 0 0x40400000) (read 2 0x3F800000) ∷ [] gives 0x40000000 ∷ [])
    ∷ (made Plain.mul 0 true false 7 (read 1 0xC0400000) (read 3 0x3F000000) ∷ [] gives 0xBFC00000 ∷ [])
    -- cmp stores the whole number 1 or 0: −1 < 1, and |−1| < 1
    ∷ (made Plain.cmp 5 true false 7 (read 0 0xBF800000) (read 0 0x3F800000) ∷ [] gives 1 ∷ [])
    ∷ (made Plain.cmp 5 true false 7 (read 1 0xBF800000) (read 0 0x3F800000) ∷ [] gives 0 ∷ [])
    ∷ (digit (meets 5 (read 0 0xBF800000) (read 0 0x3F800000)) ∷ digit (meets 2 (read 0 0x7FC00000) (read 0 0)) ∷ [] gives 1 ∷ 1 ∷ [])
    ∷ []

-- ---- restricted floats (000, table 4-2): the first and the last of each line

unfoldable pub rows_vector : List Row
rows_vector =
    -- 16 and 31, 8 and 15.5, 4 and 7.75, 2 and 3.875, 1 and 1.9375, 0.5 and 0.96875, 0.25 and 0.484375
    (map restricted_float (0x70 ∷ 0x7F ∷ 0x60 ∷ 0x6F ∷ 0x50 ∷ 0x5F ∷ []) gives 0x41800000 ∷ 0x41F80000 ∷ 0x41000000 ∷ 0x41780000 ∷ 0x40800000 ∷ 0x40F80000 ∷ [])
    ∷ (map restricted_float (0x40 ∷ 0x4F ∷ 0x30 ∷ 0x3F ∷ []) gives 0x40000000 ∷ 0x40780000 ∷ 0x3F800000 ∷ 0x3FF80000 ∷ [])
    ∷ (map restricted_float (0x20 ∷ 0x2F ∷ 0x10 ∷ 0x1F ∷ []) gives 0x3F000000 ∷ 0x3F780000 ∷ 0x3E800000 ∷ 0x3EF80000 ∷ [])
    -- 0.1328125, not the 0.125 that 0x00 would be, and 0.2421875; the zeros; −31 and −0.1328125
    ∷ (map restricted_float (0x01 ∷ 0x0F ∷ []) gives 0x3E080000 ∷ 0x3E780000 ∷ [])
    ∷ (map restricted_float (0x00 ∷ 0x80 ∷ 0xFF ∷ 0x81 ∷ []) gives 0 ∷ 0x80000000 ∷ 0xC1F80000 ∷ 0xBE080000 ∷ [])
    -- the table's extended exponents, of exponents 7 to 0
    ∷ (map (λ e. bits (restricted_float (16 * e + 1)) 23 8) (7 ∷ 6 ∷ 5 ∷ 4 ∷ 3 ∷ 2 ∷ 1 ∷ 0 ∷ []) gives 0x83 ∷ 0x82 ∷ 0x81 ∷ 0x80 ∷ 0x7F ∷ 0x7E ∷ 0x7D ∷ 0x7C ∷ [])
    -- channels 0 to 3 of one immediate: 1, −2, 0, 0.5
    ∷ (map (vector_float 0x2000C030) (0 ∷ 1 ∷ 2 ∷ 3 ∷ []) gives 0x3F800000 ∷ 0xC0000000 ∷ 0 ∷ 0x3F000000 ∷ [])
    ∷ []

-- ---- refusals

-- An operation of a code and size on r2 and r4 into r8, all f, with something more.
unfoldable pub floats : ℕ → ℕ → ℕ → ℕ
floats code size more = op code size + to 7 8 0 + from0 7 2 0 4 3 1 + from1 7 4 0 4 3 1 + more

-- The second word of a kernel passes, or gives this number.
unfoldable pub rows_served : List Row
rows_served =
    -- mov, cmp, add, mul are served; an operation of another kind is 7, and so is Saturate
    (second_word (floats 0x01 4 0) gives 0 ∷ 0 ∷ 2 ∷ [])
    ∷ (second_word (floats 0x10 4 (1 at 24)) gives 0 ∷ 0 ∷ 2 ∷ [])
    ∷ (second_word (floats 0x40 4 0) gives 0 ∷ 0 ∷ 2 ∷ [])
    ∷ (second_word (floats 0x41 4 (2 at 77 + 3 at 109)) gives 0 ∷ 0 ∷ 2 ∷ [])
    ∷ (second_word (floats 0x42 4 0) gives 7 ∷ 16 ∷ 0 ∷ [])
    ∷ (second_word (floats 0x02 4 (1 at 16)) gives 7 ∷ 16 ∷ 0 ∷ [])
    ∷ (second_word (floats 0x05 4 0) gives 7 ∷ 16 ∷ 0 ∷ [])
    ∷ (second_word (floats 0x04 4 0) gives 7 ∷ 16 ∷ 0 ∷ [])
    ∷ (second_word (floats 0x06 4 0) gives 7 ∷ 16 ∷ 0 ∷ [])
    ∷ (second_word (floats 0x07 4 0) gives 7 ∷ 16 ∷ 0 ∷ [])
    ∷ (second_word (floats 0x08 4 0) gives 7 ∷ 16 ∷ 0 ∷ [])
    ∷ (second_word (floats 0x09 4 0) gives 7 ∷ 16 ∷ 0 ∷ [])
    ∷ (second_word (floats 0x0C 4 0) gives 7 ∷ 16 ∷ 0 ∷ [])
    ∷ (second_word (floats 0x40 4 (1 at 31)) gives 7 ∷ 16 ∷ 0 ∷ [])
    -- of vf too
    ∷ (second_word (op 0x05 2 + to 1 8 0 + from0 1 2 0 3 2 1 + immediate1 5 0x30405060) gives 7 ∷ 16 ∷ 0 ∷ [])
    ∷ (second_word (op 0x01 2 + to 7 8 0 + immediate0 5 0x30405060 + 1 at 31) gives 7 ∷ 16 ∷ 0 ∷ [])
    -- 7 comes before the mixture: avg of dwords into f, and a saturated one
    ∷ (second_word (op 0x42 3 + to 7 8 0 + from0 1 2 0 4 3 1 + from1 1 4 0 4 3 1) gives 7 ∷ 16 ∷ 0 ∷ [])
    ∷ (second_word (op 0x40 3 + to 1 8 0 + from0 7 2 0 4 3 1 + from1 1 4 0 4 3 1 + 1 at 31) gives 7 ∷ 16 ∷ 0 ∷ [])
    -- so is a dword moved to a null destination of type f, saturated
    ∷ (second_word (op 0x01 3 + 7 at 34 + 1 at 61 + from0 1 2 0 4 3 1 + 1 at 31) gives 7 ∷ 16 ∷ 0 ∷ [])
    -- code 6 is still no type, and code 4 none of an immediate
    ∷ (second_word (op 0x01 3 + to 6 8 0 + from0 7 2 0 4 3 1) gives 7 ∷ 16 ∷ 0 ∷ [])
    ∷ (second_word (op 0x01 2 + to 7 8 0 + immediate0 4 0) gives 7 ∷ 16 ∷ 0 ∷ [])
    ∷ (second_word (op 0x01 2 + to 7 8 0 + immediate0 6 0) gives 7 ∷ 16 ∷ 0 ∷ [])
    -- a0 is moved as words only
    ∷ (second_word (op 0x01 0 + to 7 8 0 + 7 at 39 + 0x10 at 69) gives 7 ∷ 16 ∷ 0 ∷ [])
    ∷ []

unfoldable pub rows_mixed : List Row
rows_mixed =
    -- 8: each operand of another type
    (second_word (op 0x40 3 + to 1 8 0 + from0 7 2 0 4 3 1 + from1 7 4 0 4 3 1) gives 8 ∷ 16 ∷ 0 ∷ [])
    ∷ (second_word (op 0x40 3 + to 7 8 0 + from0 1 2 0 4 3 1 + from1 7 4 0 4 3 1) gives 8 ∷ 16 ∷ 0 ∷ [])
    ∷ (second_word (op 0x40 3 + to 7 8 0 + from0 7 2 0 4 3 1 + from1 1 4 0 4 3 1) gives 8 ∷ 16 ∷ 0 ∷ [])
    ∷ (second_word (op 0x40 3 + to 7 8 0 + from0 7 2 0 4 3 1 + immediate1 1 5) gives 8 ∷ 16 ∷ 0 ∷ [])
    -- code 5 in a register is b, and no float
    ∷ (second_word (op 0x40 2 + to 7 8 0 + from0 7 2 0 3 2 1 + from1 5 4 0 3 2 1) gives 8 ∷ 16 ∷ 0 ∷ [])
    -- a null destination by its type
    ∷ (second_word (op 0x10 3 + 1 at 24 + 1 at 34 + 1 at 61 + from0 7 2 0 4 3 1 + from1 7 4 0 4 3 1) gives 8 ∷ 16 ∷ 0 ∷ [])
    ∷ (second_word (op 0x10 3 + 1 at 24 + 7 at 34 + 1 at 61 + from0 1 2 0 4 3 1 + from1 1 4 0 4 3 1) gives 8 ∷ 16 ∷ 0 ∷ [])
    ∷ (second_word (op 0x10 3 + 1 at 24 + 7 at 34 + 1 at 61 + from0 7 2 0 4 3 1 + from1 7 4 0 4 3 1) gives 0 ∷ 0 ∷ 2 ∷ [])
    -- what mov does not read is no operand
    ∷ (second_word (op 0x01 3 + to 1 8 0 + from0 1 2 0 4 3 1 + 1 at 42 + 7 at 44) gives 0 ∷ 0 ∷ 2 ∷ [])
    -- immediates: f with unequal halves; a modifier on a src0 immediate; one that is not last
    ∷ (second_word (op 0x40 3 + to 7 8 0 + from0 7 2 0 4 3 1 + immediate1 7 0x3FC00001) gives 0 ∷ 0 ∷ 2 ∷ [])
    ∷ (second_word (op 0x01 3 + to 7 8 0 + immediate0 7 0x3FC00000) gives 0 ∷ 0 ∷ 2 ∷ [])
    ∷ (second_word (op 0x01 3 + to 7 8 0 + immediate0 7 0x3FC00000 + 2 at 77) gives 8 ∷ 16 ∷ 0 ∷ [])
    ∷ (second_word (op 0x40 3 + to 7 8 0 + immediate0 7 0x3FC00000 + 1 at 42 + 7 at 44) gives 8 ∷ 16 ∷ 0 ∷ [])
    -- vf: four channels, and eight; into another type than f
    ∷ (second_word (op 0x01 2 + to 7 8 0 + immediate0 5 0x30405060) gives 0 ∷ 0 ∷ 2 ∷ [])
    ∷ (second_word (op 0x01 3 + to 7 8 0 + immediate0 5 0x30405060) gives 8 ∷ 16 ∷ 0 ∷ [])
    ∷ (second_word (op 0x41 2 + to 7 8 0 + from0 7 2 0 3 2 1 + immediate1 5 0x30405060) gives 0 ∷ 0 ∷ 2 ∷ [])
    ∷ (second_word (op 0x41 3 + to 7 8 0 + from0 7 2 0 4 3 1 + immediate1 5 0x30405060) gives 8 ∷ 16 ∷ 0 ∷ [])
    ∷ (second_word (op 0x01 2 + to 1 8 0 + immediate0 5 0x30405060) gives 8 ∷ 16 ∷ 0 ∷ [])
    -- of vf: a modifier on a src0 immediate; one that is not last; compared
    ∷ (second_word (op 0x01 2 + to 7 8 0 + immediate0 5 0x30405060 + 1 at 77) gives 8 ∷ 16 ∷ 0 ∷ [])
    ∷ (second_word (op 0x40 2 + to 7 8 0 + immediate0 5 0x30405060 + 1 at 42 + 7 at 44) gives 8 ∷ 16 ∷ 0 ∷ [])
    ∷ (second_word (op 0x10 2 + 3 at 24 + to 7 8 0 + from0 7 2 0 3 2 1 + immediate1 5 0x30405060) gives 0 ∷ 0 ∷ 2 ∷ [])
    -- 10 and 11 by four bytes an element
    ∷ (second_word (op 0x01 0 + to 7 8 2 + from0 7 2 0 0 0 0) gives 10 ∷ 16 ∷ 0 ∷ [])
    ∷ (second_word (op 0x01 4 + to 7 8 4 + from0 7 2 0 4 3 1) gives 11 ∷ 16 ∷ 0 ∷ [])
    ∷ []

-- ---- placements

-- A record by its six patterns.
unfoldable pub six_of : ℕ → ℕ → ℕ → ℕ → ℕ → ℕ → List ℕ
six_of a b c d e f = numbers (a ∷ b ∷ c ∷ d ∷ e ∷ f ∷ [])

-- 2, 3, 1, 4, 5, 0.5.
unfoldable pub some_record : List ℕ
some_record = six_of 0x40000000 0x40400000 0x3F800000 0x40800000 0x40A00000 0x3F000000

-- An order's answer: a point, with one byte of room more.
unfoldable pub ordered : ℕ → List ℕ → ℕ → ℕ → List ℕ
ordered order bytes x y = written (place_call order bytes (record { x = x; y = y }) (room 9))

unfoldable pub rows_place : List Row
rows_place =
    -- keep leaves a NaN's bits and −0
    (ordered 0 some_record 0xFF812345 0x80000000 gives 0 ∷ 0 ∷ 8 ∷ numbers (0xFF812345 ∷ 0x80000000 ∷ []) ++ room 1)
    -- (1, 2) shifted by 1 and 0.5
    ∷ (ordered 1 some_record 0x3F800000 0x40000000 gives 0 ∷ 0 ∷ 8 ∷ numbers (0x40000000 ∷ 0x40200000 ∷ []) ++ room 1)
    -- (1, 2) placed: 2·1 + 3·2 + 1 = 9, 4·1 + 5·2 + 0.5 = 14.5
    ∷ (ordered 2 some_record 0x3F800000 0x40000000 gives 0 ∷ 0 ∷ 8 ∷ numbers (0x41100000 ∷ 0x41680000 ∷ []) ++ room 1)
    -- sums from the left: (2^24 + 1) + 1 is 2^24, and (1 + 1) + 2^24 is 2^24 + 2; from the right each would be the other
    ∷ (ordered 2 (six_of 0x4B800000 0x3F800000 0x3F800000 0x3F800000 0x3F800000 0x4B800000) 0x3F800000 0x3F800000 gives 0 ∷ 0 ∷ 8 ∷ numbers (0x4B800000 ∷ 0x4B800001 ∷ []) ++ room 1)
    -- each is rounded, nothing is fused: with a = x = 1 + 2^-12 and c = −(1 + 2^-11) the product's last bit is lost
    ∷ (ordered 2 (six_of 0x3F800800 0 0xBF801000 0 0 0) 0x3F800800 0 gives 0 ∷ 0 ∷ 8 ∷ numbers (0 ∷ 0 ∷ []) ++ room 1)
    -- a shift is no placement by 1, 0, c, 0, 1, f: −0 shifted by −0 stays, and is placed at +0; 0·∞ of the other coordinate is a NaN
    ∷ (ordered 1 (six_of 0 0 0x80000000 0 0 0) 0x80000000 0x7F800000 gives 0 ∷ 0 ∷ 8 ∷ numbers (0x80000000 ∷ 0x7F800000 ∷ []) ++ room 1)
    ∷ (ordered 2 (six_of 0x3F800000 0 0x80000000 0 0x3F800000 0) 0x80000000 0x3F800000 gives 0 ∷ 0 ∷ 8 ∷ numbers (0 ∷ 0x3F800000 ∷ []) ++ room 1)
    ∷ (ordered 2 (six_of 0x3F800000 0 0x80000000 0 0x3F800000 0) 0x80000000 0x7F800000 gives 0 ∷ 0 ∷ 8 ∷ numbers (0x7FC00000 ∷ 0x7F800000 ∷ []) ++ room 1)
    -- 1, 7, 14, in this order
    ∷ (written (place_call 3 (take 23 some_record) (record { x = 0; y = 0 }) (room 7)) gives 1 ∷ 0 ∷ 0 ∷ room 7)
    ∷ (written (place_call 3 some_record (record { x = 0; y = 0 }) (room 7)) gives 7 ∷ 0 ∷ 0 ∷ room 7)
    ∷ (written (place_call 2 some_record (record { x = 0; y = 0 }) (room 7)) gives 14 ∷ 0 ∷ 0 ∷ room 7)
    -- the fixed kernel's room
    ∷ (take 3 (written (place_kernel_call (room 127))) gives 14 ∷ 0 ∷ 0 ∷ [])
    ∷ (take 3 (written (place_kernel_call (room 128))) gives 0 ∷ 0 ∷ 128 ∷ [])
    -- its first word: mul(16) r8:f, r6.0<0;1,0>:f, r2<8;8,1>:f
    ∷ (take 16 place_kernel gives numbers (0x00800041 ∷ 0x210077BD ∷ 0x000000C0 ∷ 0x008D0040 ∷ []))
    -- loading: the bytes of r6 and no other; a record of another size
    ∷ (written (place_load_call (take 23 some_record) (room 7)) gives 1 ∷ 0 ∷ 0 ∷ room 7)
    ∷ (take 28 (drop 190 (loaded_with some_record (room 220))) gives room 2 ++ (some_record ++ room 2))
    ∷ (length (loaded_with some_record (room 220)) ∷ [] gives 220 ∷ [])
    ∷ []

-- Every one of them holds.
pub rows_sum_hold : Hold rows_sum
unfolding Hold add of_bits to_bits sums rows_sum
rows_sum_hold = refl

pub rows_product_hold : Hold rows_product
unfolding Hold mul of_bits to_bits products rows_product
rows_product_hold = refl

pub rows_condition_hold : Hold rows_condition
unfolding Hold compares_floats of_bits eq ne lt le conditions rows_condition
rows_condition_hold = refl

pub rows_element_hold : Hold rows_element
unfolding Hold add mul of_bits to_bits eq ne lt le compares_floats sign_modified float_result read moved rows_element
rows_element_hold = refl

pub rows_vector_hold : Hold rows_vector
unfolding Hold restricted_float vector_float rows_vector
rows_vector_hold = refl

pub rows_served_hold : Hold rows_served
unfolding Hold floats rows_served
rows_served_hold = refl

pub rows_mixed_hold : Hold rows_mixed
unfolding Hold rows_mixed
rows_mixed_hold = refl

pub rows_place_hold : Hold rows_place
unfolding Hold add mul of_bits to_bits placement_of point_bytes order_of place_kernel loaded_with place_call place_kernel_call place_load_call six_of some_record ordered rows_place
rows_place_hold = refl
