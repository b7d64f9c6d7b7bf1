-- The definitions compute: a hundred instructions are checked, packed, and run for some steps. Assumes nothing.
use Rattle.std.specs.Prelude.{List, [], ◌∷◌, ◌++◌, refl, ℕ}
use Rattle.paper.specs.Bits.{bytes_of}
use Rattle.paper.specs.Calls.{check_call, pack_call, run_call}
use Rattle.paper.specs.Assembler.{copies, dictionary_a, clear, begin}
use Rattle.paper.specs.SheetHolds.{Hold}
use Rattle.paper.specs.Sheet.{Row, ◌gives◌, shown, written, room, long_a, short_a}

-- Case A's add a hundred times over, long and short.
hundred_long : List ℕ
hundred_long = copies 100 (bytes_of 16 long_a)

hundred_short : List ℕ
hundred_short = copies 100 (bytes_of 8 short_a)

rows_checked : List Row
rows_checked = (shown (check_call dictionary_a hundred_long) gives 0 ∷ 0 ∷ 100 ∷ []) ∷ []

rows_packed : List Row
rows_packed = (written (pack_call dictionary_a hundred_long (room 801)) gives 0 ∷ 0 ∷ 800 ∷ hundred_short ++ room 1) ∷ []

rows_run : List Row
rows_run = (shown (run_call dictionary_a hundred_short 7 clear (begin 0xFFFF 0 0)).answer gives 21 ∷ 0 ∷ 7 ∷ []) ∷ []

rows_checked_hold : Hold rows_checked
unfolding Hold hundred_long hundred_short rows_checked
rows_checked_hold = refl

rows_packed_hold : Hold rows_packed
unfolding Hold hundred_long hundred_short rows_packed
rows_packed_hold = refl

rows_run_hold : Hold rows_run
unfolding Hold hundred_long hundred_short rows_run
rows_run_hold = refl
