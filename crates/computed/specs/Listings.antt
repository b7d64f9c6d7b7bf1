-- Listings, written and read by calls that are lent a dictionary: rows worked out from 02 §1 by hand. Assumes nothing.
use Rattle.std.specs.Prelude.{List, [], ◌∷◌, ◌++◌, refl, ℕ, ◌+◌, take, drop, set}
use Rattle.paper.specs.Bits.{bytes_of}
use Rattle.paper.specs.Text.{decimal_by, decimal, hexes, line, found, hex_from}
use Rattle.paper.specs.Listing.{instr_text, listing, word_taken, form_taken, candidate, instr_at, lines_from, astray_lines, with_targets, read_listing, short_of, kernel_of, list_call, read_call}
use Rattle.paper.specs.Assembler.{jmpi_to, nop_word, long, blank_dictionary, dictionary_a}
use Rattle.paper.specs.Sheet.{Row, ◌gives◌, written, room, long_a, short_a}
use Rattle.paper.specs.SheetListings.{text_a, long_text_a}
use Rattle.paper.specs.SheetHolds.{Hold}

-- The same lines at a place of one digit.
placed : ℕ → List ℕ → List ℕ
placed p lines = set lines 6 (48 + p)

-- The lines of a long word at a place.
long_lines : ℕ → ℕ → List ℕ
long_lines p w = instr_text (record { place = p; size = 2; word = w })

-- What reading a text gives, with eight bytes of room, under case A's dictionary.
reads : List ℕ → List ℕ
reads text = written (read_call dictionary_a text (room 8))

-- Refused as 30 with that byte; the room is as it was.
fault_at : ℕ → List ℕ
fault_at from = 30 ∷ from ∷ 0 ∷ room 8

rows_listed : List Row
rows_listed =
    -- listed, with room to spare, to the byte, and one byte short
    (written (list_call dictionary_a (bytes_of 8 short_a) (room 69)) gives 0 ∷ 0 ∷ 67 ∷ text_a ++ room 2)
    ∷ (written (list_call dictionary_a (bytes_of 8 short_a) (room 67)) gives 0 ∷ 0 ∷ 67 ∷ text_a)
    ∷ (written (list_call dictionary_a (bytes_of 8 short_a) (room 66)) gives 14 ∷ 0 ∷ 0 ∷ room 66)
    ∷ (written (list_call dictionary_a (bytes_of 16 long_a) (room 66)) gives 0 ∷ 0 ∷ 66 ∷ long_text_a)
    -- places go on by one after a short word and by two after a long one
    ∷ (written (list_call dictionary_a (bytes_of 8 short_a ++ (bytes_of 16 long_a ++ bytes_of 8 short_a)) (room 200))
    gives 0 ∷ 0 ∷ 200 ∷ text_a ++ (placed 1 long_text_a ++ placed 3 text_a))
    -- what check refuses: a jump that lands nowhere, a dictionary of another size
    ∷ (written (list_call dictionary_a (long (jmpi_to 1 ∷ [])) (room 2)) gives 12 ∷ 0 ∷ 0 ∷ room 2)
    ∷ (written (list_call (take 511 dictionary_a) [] (room 2)) gives 1 ∷ 0 ∷ 0 ∷ room 2)
    -- the empty kernel
    ∷ (written (list_call dictionary_a [] []) gives 0 ∷ 0 ∷ 0 ∷ [])
    ∷ []

rows_read : List Row
rows_read =
    -- read again, with room to spare, to the byte, and one byte short
    (written (read_call dictionary_a text_a (room 9)) gives 0 ∷ 0 ∷ 8 ∷ bytes_of 8 short_a ++ room 1)
    ∷ (reads text_a gives 0 ∷ 0 ∷ 8 ∷ bytes_of 8 short_a)
    ∷ (written (read_call dictionary_a text_a (room 7)) gives 14 ∷ 0 ∷ 0 ∷ room 7)
    ∷ (written (read_call dictionary_a long_text_a (room 16)) gives 0 ∷ 0 ∷ 16 ∷ bytes_of 16 long_a)
    ∷ (written (read_call dictionary_a (text_a ++ (placed 1 long_text_a ++ placed 3 text_a)) (room 32))
    gives 0 ∷ 0 ∷ 32 ∷ bytes_of 8 short_a ++ (bytes_of 16 long_a ++ bytes_of 8 short_a))
    -- the empty text
    ∷ (written (read_call dictionary_a [] []) gives 0 ∷ 0 ∷ 0 ∷ [])
    -- 1 and 2 before 30, 30 before 14
    ∷ (written (read_call (take 511 dictionary_a) (10 ∷ []) (room 2)) gives 1 ∷ 0 ∷ 0 ∷ room 2)
    ∷ (written (read_call (set dictionary_a 3 1) (10 ∷ []) (room 2)) gives 2 ∷ 0 ∷ 0 ∷ room 2)
    ∷ (written (read_call dictionary_a (10 ∷ []) []) gives 30 ∷ 0 ∷ 0 ∷ [])
    ∷ []

rows_faulty : List Row
rows_faulty =
    -- cut off before its last newline; a byte after it; another place; a leading zero; an upper-case digit; CRLF; a line missing; another form
    (reads (take 66 text_a) gives fault_at 0)
    ∷ (reads (text_a ++ (10 ∷ [])) gives fault_at 67)
    ∷ (reads (placed 1 text_a) gives fault_at 0)
    ∷ (reads (text_a ++ text_a) gives fault_at 67)
    ∷ (reads (take 6 text_a ++ (48 ∷ drop 6 text_a)) gives fault_at 0)
    ∷ (reads (set text_a 49 68) gives fault_at 0)
    ∷ (reads (take 7 text_a ++ (13 ∷ drop 7 text_a)) gives fault_at 0)
    ∷ (reads (take 55 text_a) gives fault_at 0)
    ∷ (reads (set text_a 14 72) gives fault_at 0)
    -- bit 29; an operation that is not listed (4); mul of dwords (8); no short word for it under another dictionary, where it can be long
    ∷ (reads (set text_a 22 50) gives fault_at 0)
    ∷ (reads (set text_a 29 51) gives fault_at 0)
    ∷ (reads (set text_a 29 49) gives fault_at 0)
    ∷ (written (read_call blank_dictionary text_a (room 8)) gives fault_at 0)
    ∷ (written (read_call blank_dictionary long_text_a (room 16)) gives 0 ∷ 0 ∷ 16 ∷ bytes_of 16 long_a)
    -- a jump to the end, and one that lands nowhere, which is told after all the rest
    ∷ (written (read_call dictionary_a (long_lines 0 nop_word ++ long_lines 2 (jmpi_to 0)) (room 32)) gives 0 ∷ 0 ∷ 32 ∷ long (nop_word ∷ jmpi_to 0 ∷ []))
    ∷ (reads (long_lines 0 nop_word ++ long_lines 2 (jmpi_to 1)) gives fault_at 66)
    ∷ (reads (long_lines 0 nop_word ++ (long_lines 2 (jmpi_to 1) ++ (10 ∷ []))) gives fault_at 132)
    ∷ []

rows_listed_hold : Hold rows_listed
unfolding Hold decimal_by decimal hexes line found hex_from instr_text listing word_taken form_taken candidate instr_at lines_from astray_lines with_targets read_listing short_of kernel_of list_call read_call text_a long_text_a placed long_lines reads fault_at rows_listed
rows_listed_hold = refl

rows_read_hold : Hold rows_read
unfolding Hold decimal_by decimal hexes line found hex_from instr_text listing word_taken form_taken candidate instr_at lines_from astray_lines with_targets read_listing short_of kernel_of list_call read_call text_a long_text_a placed long_lines reads fault_at rows_read
rows_read_hold = refl

rows_faulty_hold : Hold rows_faulty
unfolding Hold decimal_by decimal hexes line found hex_from instr_text listing word_taken form_taken candidate instr_at lines_from astray_lines with_targets read_listing short_of kernel_of list_call read_call text_a long_text_a placed long_lines reads fault_at rows_faulty
rows_faulty_hold = refl
