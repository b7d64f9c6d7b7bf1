-- The short word and its expansion (the paper, "The short word"). Assumes nothing.
use Rattle.std.specs.Prelude.{Bool, true, false, cond, List, [], ◌∷◌, ℕ, ◌+◌, ◌*◌, ◌-◌, ◌^◌, ltb}
use Rattle.paper.specs.Bits.{bits, bit, ◌at◌}
use Rattle.paper.specs.Rows.{Row, row, assemble}
use Rattle.paper.specs.Word.{immediate_form}
use Rattle.paper.specs.Dictionary.{Dictionary, control, datatype, subregister, source}

-- A 64-bit number is a short word if its bit 29 is set.
abbrev pub is_short : ℕ → Bool
is_short s = bit s 29

-- The short word's five indices into the dictionary's tables.
abbrev pub control_index : ℕ → ℕ
control_index s = bits s 8 5

abbrev pub datatype_index : ℕ → ℕ
datatype_index s = bits s 13 5

abbrev pub subregister_index : ℕ → ℕ
subregister_index s = bits s 18 5

abbrev pub src0_index : ℕ → ℕ
src0_index s = bits s 30 5

abbrev pub src1_index : ℕ → ℕ
src1_index s = bits s 35 5

abbrev pub src1_register : ℕ → ℕ
src1_register s = bits s 56 8

-- A 13-bit number, sign-extended to 32 bits.
abbrev pub extended : ℕ → ℕ
extended v = cond (ltb v 4096) v (v + (2 ^ 32 - 2 ^ 13))

-- Bits 63:0 of the expanded word: s is the short word, c, t and b are its control, datatype and subregister numbers.
abbrev pub low_rows : ℕ → ℕ → ℕ → ℕ → List Row
low_rows s c t b =
    row 7 s 0  -- 6:0 Opcode
    ∷ row 1 0 0  -- 7
    ∷ row 16 c 0  -- 23:8, control but for its bit 16
    ∷ row 4 s 24  -- 27:24 CondModifier
    ∷ row 1 s 23  -- 28 AccWrCtrl
    ∷ row 1 0 0  -- 29
    ∷ row 1 s 7  -- 30 DebugCtrl
    ∷ row 1 c 16  -- 31, control's bit 16
    ∷ row 15 t 0  -- 46:32, datatype but for its top three bits
    ∷ row 1 0 0  -- 47
    ∷ row 5 b 0  -- 52:48, subregister's low five
    ∷ row 8 s 40  -- 60:53, the destination's register
    ∷ row 3 t 15  -- 63:61, datatype's top three
    ∷ []

-- Bits 127:96, in immediate form and else: x is the second source number.
abbrev pub top_rows : Bool → ℕ → ℕ → ℕ → List Row
top_rows true s b x = row 32 (extended (src1_index s at 8 + src1_register s)) 0 ∷ []
top_rows false s b x =
    row 5 b 10  -- 100:96, subregister's top five
    ∷ row 8 s 56  -- 108:101, src1's register
    ∷ row 12 x 0  -- 120:109
    ∷ row 7 0 0  -- 127:121
    ∷ []

-- Bits 127:64: a is the first source number.
abbrev pub high_rows : Bool → ℕ → ℕ → ℕ → ℕ → List Row
high_rows immediate s b a x =
    row 5 b 5  -- 68:64, subregister's middle five
    ∷ row 8 s 48  -- 76:69, src0's register
    ∷ row 12 a 0  -- 88:77
    ∷ row 1 s 28  -- 89, flag choice
    ∷ row 6 0 0  -- 95:90
    ∷ top_rows immediate s b x

unfoldable pub expand_low : Dictionary → ℕ → ℕ
expand_low D s =
    assemble (low_rows s (control D (control_index s)) (datatype D (datatype_index s)) (subregister D (subregister_index s)))

unfoldable pub expand_high : Dictionary → ℕ → ℕ
expand_high D s =
    assemble
    (high_rows (immediate_form (expand_low D s)) s (subregister D (subregister_index s)) (source D (src0_index s)) (source D (src1_index s)))

-- The long word that short word s stands for.
unfoldable pub expand : Dictionary → ℕ → ℕ
expand D s = expand_low D s + expand_high D s * 2 ^ 64
