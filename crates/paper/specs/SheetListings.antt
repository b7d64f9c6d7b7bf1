-- Listings, of one instruction: rows worked out from 02 §1 by hand. The calls stand in crate `computed`. Assumes nothing.
use Rattle.std.specs.Prelude.{List, [], ◌∷◌, ◌++◌, refl, ℕ, take, drop}
use Rattle.paper.specs.Kernel.{Instr}
use Rattle.paper.specs.Text.{decimal_by, decimal, hexes, line, hex_from}
use Rattle.paper.specs.Listing.{instr_text, candidate}
use Rattle.paper.specs.Sheet.{Row, ◌gives◌, long_a}
use Rattle.paper.specs.SheetHolds.{Hold}

-- Case A's six lines as 02 §1 prints them: 67 bytes.
unfoldable pub text_a : List ℕ
text_a =
    112 ∷ 108 ∷ 97 ∷ 99 ∷ 101 ∷ 61 ∷ 48 ∷ 10 ∷ 102 ∷ 111 ∷ 114 ∷ 109 ∷ 61 ∷ 115 ∷ 104 ∷ 111 ∷ 114 ∷ 116 ∷ 10 ∷ 119 ∷ 48 ∷ 61 ∷ 48 ∷ 48 ∷ 54 ∷ 48 ∷ 48 ∷ 48 ∷ 52 ∷ 48 ∷ 10 ∷ 119 ∷ 49 ∷ 61 ∷ 50 ∷ 48 ∷ 56 ∷ 48 ∷ 49 ∷ 52 ∷ 97 ∷ 53 ∷ 10 ∷ 119 ∷ 50 ∷ 61 ∷ 48 ∷ 48 ∷ 56 ∷ 100 ∷ 48 ∷ 48 ∷ 52 ∷ 48 ∷ 10 ∷ 119 ∷ 51 ∷ 61 ∷ 48 ∷ 48 ∷ 56 ∷ 100 ∷ 48 ∷ 48 ∷ 54 ∷ 48 ∷ 10 ∷ []

-- The same word left long: 66 bytes.
unfoldable pub long_text_a : List ℕ
long_text_a = take 13 text_a ++ (108 ∷ 111 ∷ 110 ∷ 103 ∷ drop 18 text_a)

-- An instruction's place, size and word.
unfoldable pub told : Instr → List ℕ
told i = i.place ∷ i.size ∷ i.word ∷ []

unfoldable pub rows_lines : List Row
rows_lines =
    -- case A's word, short and long, and its lines
    (instr_text (record { place = 0; size = 1; word = long_a }) gives text_a)
    ∷ (instr_text (record { place = 0; size = 2; word = long_a }) gives long_text_a)
    -- the instruction whose lines they can be
    ∷ (told (candidate text_a 0 0) gives 0 ∷ 1 ∷ long_a ∷ [])
    ∷ (told (candidate long_text_a 0 0) gives 0 ∷ 2 ∷ long_a ∷ [])
    ∷ []

-- Every one of them holds.
pub rows_lines_hold : Hold rows_lines
unfolding Hold decimal_by decimal hexes line hex_from instr_text candidate text_a long_text_a told rows_lines
rows_lines_hold = refl
