-- The bench sheet's starred rows C to G, computed over the definitions that the contracts cite, and what its other rows name. A row is what the definitions
-- give and what the sheet says. A, B, H and I, which are lent a dictionary, stand in crate `computed`. Assumes nothing.
use Rattle.std.specs.Prelude.{Bool, true, false, List, [], ◌∷◌, ◌++◌, map, ℕ, zero, suc, ◌+◌, ℤ, pos, negsuc, replicate}
use Rattle.paper.specs.Bits.{◌at◌}
use Rattle.paper.specs.Operation.{Plain}
use Rattle.paper.specs.Value.{value, modified, stored}
use Rattle.paper.specs.Element.{result}
use Rattle.paper.specs.Region.{element_at, src_region}
use Rattle.paper.specs.Word.{src0}
use Rattle.paper.specs.Calls.{Answer, number_of, offset_of, count_of, Written}
use Rattle.paper.specs.Assembler.{dwords, from0, op, jmpi_to, nop_word, long}

pub record Row : Type 0 where
  pub got : List ℕ
  pub want : List ℕ

infix 20 ◌gives◌
unfoldable pub ◌gives◌ : List ℕ → List ℕ → Row
got gives want = record { got = got; want = want }

-- An answer's three numbers.
unfoldable pub shown : Answer → List ℕ
shown a = number_of a ∷ offset_of a ∷ count_of a ∷ []

-- An answer's three numbers and the output.
unfoldable pub written : Written → List ℕ
written r = shown r.answer ++ r.output

-- A whole number: 0 and n for n, 1 and n for −n.
unfoldable pub whole : ℤ → List ℕ
whole (pos n) = 0 ∷ n ∷ []
whole (negsuc n) = 1 ∷ suc n ∷ []

-- The numbers from n on, `count` of them.
unfoldable pub count : ℕ → ℕ → List ℕ
count n zero = []
count n (suc c) = n ∷ count (suc n) c

-- A lent output of n bytes.
unfoldable pub room : ℕ → List ℕ
room n = replicate n 0xEE

-- ---- A, the word of an add, long and short

unfoldable pub long_a : ℕ
long_a = dwords 0x00600040 0x208014A5 0x008D0040 0x008D0060

unfoldable pub short_a : ℕ
short_a = 0xE0004140 + 0x03020418 at 32

-- ---- C to F: one element of type w (code 3), and whole numbers

unfoldable pub stored_w : Bool → ℤ → List ℕ
stored_w saturated v = whole (value 3 (stored saturated 3 v))

unfoldable pub rows_cdef : List Row
rows_cdef =
    (stored_w false (result Plain.add 0 true (value 3 30000) (value 3 10000)) gives whole (negsuc 25535))
    ∷ (stored_w true (result Plain.add 0 true (value 3 30000) (value 3 10000)) gives whole (pos 32767))
    ∷ (stored_w false (result Plain.mov 0 true (modified 1 (value 3 0x8000)) (pos 0)) gives whole (negsuc 32767))
    ∷ (stored_w true (result Plain.mov 0 true (modified 1 (value 3 0x8000)) (pos 0)) gives whole (pos 32767))
    ∷ (whole (result Plain.avg 0 true (negsuc 1) (pos 0)) gives whole (negsuc 0))
    ∷ (whole (result Plain.avg 0 true (pos 3) (pos 4)) gives whole (pos 4))
    ∷ (whole (result Plain.shl 0 true (pos 5) (pos 33)) gives whole (pos 10))
    ∷ (whole (result Plain.shr 0 true (pos 5) (pos 33)) gives whole (pos 2))
    ∷ (whole (result Plain.asr 0 true (negsuc 4) (pos 33)) gives whole (negsuc 2))
    ∷ []

-- ---- G: bytes of r0, so that elements are numbered by their bytes

unfoldable pub rows_g : List Row
rows_g =
    (map (element_at (src_region src0 (op 0x01 4 + from0 4 0 0 1 2 3))) (count 0 16)
    gives 0 ∷ 4 ∷ 8 ∷ 12 ∷ 1 ∷ 5 ∷ 9 ∷ 13 ∷ 2 ∷ 6 ∷ 10 ∷ 14 ∷ 3 ∷ 7 ∷ 11 ∷ 15 ∷ [])
    ∷ (map (element_at (src_region src0 (op 0x01 4 + from0 4 0 0 3 2 1))) (count 0 16) gives count 0 16)
    ∷ []

-- ---- I: jmpi(+2), add, nop, only add short: the nop carries a ThreadCtrl that the dictionary has not

unfoldable pub kernel_i : ℕ → List ℕ → List ℕ
kernel_i distance add = long (jmpi_to distance ∷ []) ++ (add ++ long ((nop_word + 1 at 14) ∷ []))
