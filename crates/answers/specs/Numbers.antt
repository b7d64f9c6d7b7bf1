-- Which numbers of the paper's list each call answers: 0, 20 and 21 are verdicts; 22, an address that is broken, is a verdict of a run and refuses a step; the others
-- are refusals. Assumes nothing.
use Rattle.std.specs.Prelude.{Bool, ◌&&◌, ◌||◌, ℕ, eqb, leb}

-- 1 to m.
abbrev pub one_to : ℕ → ℕ → Bool
one_to m n = leb 1 n && leb n m

-- Check: accepted, or 1 to 12 or 17.
abbrev pub check_numbers : ℕ → Bool
check_numbers n = one_to 12 n || (eqb n 0 || eqb n 17)

-- Forward: what check answers.
abbrev pub forward_numbers : ℕ → Bool
forward_numbers n = check_numbers n

-- Pack: 14 too, and never 17: one long word too many is too many bytes, which is 1.
abbrev pub pack_numbers : ℕ → Bool
pack_numbers n = one_to 12 n || (eqb n 0 || eqb n 14)

-- Unpack: 17 too.
abbrev pub unpack_numbers : ℕ → Bool
unpack_numbers n = one_to 12 n || (eqb n 0 || (eqb n 14 || eqb n 17))

-- Pair: accepted, 31, or what check refuses.
abbrev pub pair_numbers : ℕ → Bool
pair_numbers n = one_to 12 n || (eqb n 0 || (eqb n 17 || eqb n 31))

-- Expand: 0, 1, 2, 4, 5 or 14.
abbrev pub expand_numbers : ℕ → Bool
expand_numbers n = eqb n 0 || (eqb n 1 || (eqb n 2 || (eqb n 4 || (eqb n 5 || eqb n 14))))

-- Shorten: 13 too.
abbrev pub shorten_numbers : ℕ → Bool
shorten_numbers n = expand_numbers n || eqb n 13

-- Decode: 0, or 1 to 11.
abbrev pub decode_numbers : ℕ → Bool
decode_numbers n = one_to 11 n || eqb n 0

-- Start: 0 or 1.
abbrev pub start_numbers : ℕ → Bool
start_numbers n = eqb n 0 || eqb n 1

-- Step: 0, 20, 22, or 1 to 12, 15 or 17.
abbrev pub step_numbers : ℕ → Bool
step_numbers n = one_to 12 n || (eqb n 0 || (eqb n 15 || (eqb n 17 || (eqb n 20 || eqb n 22))))

-- Run: 20, 21, 22, or 1 to 12, 15, 16 or 17.
abbrev pub run_numbers : ℕ → Bool
run_numbers n = one_to 12 n || (eqb n 15 || (eqb n 16 || (eqb n 17 || (eqb n 20 || (eqb n 21 || eqb n 22)))))

-- Reading a log: 0, 1 or 32.
abbrev pub log_read_numbers : ℕ → Bool
log_read_numbers n = eqb n 0 || (eqb n 1 || eqb n 32)

-- Appending to it: 14 too.
abbrev pub log_append_numbers : ℕ → Bool
log_append_numbers n = log_read_numbers n || eqb n 14

-- List: what check answers, and 14.
abbrev pub list_numbers : ℕ → Bool
list_numbers n = unpack_numbers n

-- Read: 0, 1, 2, 14 or 30.
abbrev pub read_numbers : ℕ → Bool
read_numbers n = eqb n 0 || (eqb n 1 || (eqb n 2 || (eqb n 14 || eqb n 30)))

-- Place: 0, 1, 7 or 14.
abbrev pub place_numbers : ℕ → Bool
place_numbers n = eqb n 0 || (eqb n 1 || (eqb n 7 || eqb n 14))

-- The fixed kernel: 0 or 14.
abbrev pub place_kernel_numbers : ℕ → Bool
place_kernel_numbers n = eqb n 0 || eqb n 14

-- A record loaded for it: 0 or 1.
abbrev pub place_load_numbers : ℕ → Bool
place_load_numbers n = start_numbers n
