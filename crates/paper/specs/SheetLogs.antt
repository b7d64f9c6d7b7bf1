-- Logs of runs: rows worked out from 02 §12 by hand. Assumes nothing.
use Rattle.std.specs.Prelude.{List, [], ◌∷◌, ◌++◌, refl, ℕ, ◌+◌, ◌*◌, ◌^◌, length, replicate, take}
use Rattle.paper.specs.Text.{decimal_by, decimal, line, found, digits_from}
use Rattle.paper.specs.Enable.{how_many}
use Rattle.paper.specs.Log.{Entry, entry, entry_legal, record_text, log_text, item_at, read_items, record_at, read_from, reading, log_sized, log_read_call, log_runs_call, log_part, added_at, appended, log_append_call, awake_count, entry_of, log_run_call}
use Rattle.paper.specs.Sheet.{Row, ◌gives◌, shown, written, room}
use Rattle.paper.specs.SheetHolds.{Hold}

-- The record of a first run of case K with mask 0xFFFF, as 02 §12 has it: 48 bytes.
unfoldable pub first_text : List ℕ
first_text =
    114 ∷ 117 ∷ 110 ∷ 61 ∷ 48 ∷ 10 ∷ 118 ∷ 101 ∷ 114 ∷ 100 ∷ 105 ∷ 99 ∷ 116 ∷ 61 ∷ 50 ∷ 48 ∷ 10 ∷ 115 ∷ 116 ∷ 101 ∷ 112 ∷ 115 ∷ 61 ∷ 48 ∷ 10 ∷ 112 ∷ 108 ∷ 97 ∷ 99 ∷ 101 ∷ 61 ∷ 48 ∷ 10 ∷ 97 ∷ 119 ∷ 97 ∷ 107 ∷ 101 ∷ 61 ∷ 49 ∷ 54 ∷ 10 ∷ 101 ∷ 110 ∷ 100 ∷ 61 ∷ 49 ∷ 10 ∷ []

-- A second record, torn off in its verdict;
unfoldable pub next_torn : List ℕ
next_torn =
    114 ∷ 117 ∷ 110 ∷ 61 ∷ 49 ∷ 10 ∷ 118 ∷ 101 ∷ 114 ∷ 100 ∷ 105 ∷ 99 ∷ 116 ∷ 61 ∷ 50 ∷ []

-- with a leading zero;
unfoldable pub zero_twice : List ℕ
zero_twice =
    114 ∷ 117 ∷ 110 ∷ 61 ∷ 49 ∷ 10 ∷ 118 ∷ 101 ∷ 114 ∷ 100 ∷ 105 ∷ 99 ∷ 116 ∷ 61 ∷ 50 ∷ 48 ∷ 10 ∷ 115 ∷ 116 ∷ 101 ∷ 112 ∷ 115 ∷ 61 ∷ 48 ∷ 48 ∷ []

-- with a step too many;
unfoldable pub too_many : List ℕ
too_many =
    114 ∷ 117 ∷ 110 ∷ 61 ∷ 49 ∷ 10 ∷ 118 ∷ 101 ∷ 114 ∷ 100 ∷ 105 ∷ 99 ∷ 116 ∷ 61 ∷ 50 ∷ 48 ∷ 10 ∷ 115 ∷ 116 ∷ 101 ∷ 112 ∷ 115 ∷ 61 ∷ 49 ∷ 48 ∷ 48 ∷ 48 ∷ 48 ∷ 48 ∷ 49 ∷ []

-- with as many steps as there may be, torn off before the newline;
unfoldable pub most_steps : List ℕ
most_steps =
    114 ∷ 117 ∷ 110 ∷ 61 ∷ 49 ∷ 10 ∷ 118 ∷ 101 ∷ 114 ∷ 100 ∷ 105 ∷ 99 ∷ 116 ∷ 61 ∷ 50 ∷ 50 ∷ 10 ∷ 115 ∷ 116 ∷ 101 ∷ 112 ∷ 115 ∷ 61 ∷ 49 ∷ 48 ∷ 48 ∷ 48 ∷ 48 ∷ 48 ∷ 48 ∷ []

-- with the first one's number;
unfoldable pub run_again : List ℕ
run_again =
    114 ∷ 117 ∷ 110 ∷ 61 ∷ 48 ∷ []

-- with a place too far;
unfoldable pub place_far : List ℕ
place_far =
    114 ∷ 117 ∷ 110 ∷ 61 ∷ 49 ∷ 10 ∷ 118 ∷ 101 ∷ 114 ∷ 100 ∷ 105 ∷ 99 ∷ 116 ∷ 61 ∷ 50 ∷ 49 ∷ 10 ∷ 115 ∷ 116 ∷ 101 ∷ 112 ∷ 115 ∷ 61 ∷ 57 ∷ 10 ∷ 112 ∷ 108 ∷ 97 ∷ 99 ∷ 101 ∷ 61 ∷ 56 ∷ 49 ∷ 57 ∷ 51 ∷ 10 ∷ []

-- without its last newline.
unfoldable pub all_but_last : List ℕ
all_but_last =
    114 ∷ 117 ∷ 110 ∷ 61 ∷ 49 ∷ 10 ∷ 118 ∷ 101 ∷ 114 ∷ 100 ∷ 105 ∷ 99 ∷ 116 ∷ 61 ∷ 50 ∷ 49 ∷ 10 ∷ 115 ∷ 116 ∷ 101 ∷ 112 ∷ 115 ∷ 61 ∷ 57 ∷ 10 ∷ 112 ∷ 108 ∷ 97 ∷ 99 ∷ 101 ∷ 61 ∷ 56 ∷ 49 ∷ 57 ∷ 50 ∷ 10 ∷ 97 ∷ 119 ∷ 97 ∷ 107 ∷ 101 ∷ 61 ∷ 48 ∷ 10 ∷ 101 ∷ 110 ∷ 100 ∷ 61 ∷ 49 ∷ []

-- A state with every channel awake at place 0.
unfoldable pub all_awake : List ℕ
all_awake = replicate 6 0 ++ (255 ∷ 255 ∷ replicate 50 0)

unfoldable pub first_entry : Entry
first_entry = entry 20 0 0 16

-- How many bytes are whole records after the first one and more text, and how many records.
unfoldable pub read_after : List ℕ → List ℕ
read_after more = shown (log_read_call (first_text ++ more) (48 + length more)) ++ shown (log_runs_call (first_text ++ more) (48 + length more))

unfoldable pub rows_log : List Row
rows_log =
    (record_text 0 first_entry gives first_text)
    -- appended to an empty log, with room to the byte, and one byte short
    ∷ (written (log_append_call (room 50) 0 first_entry) gives 0 ∷ 0 ∷ 48 ∷ first_text ++ room 2)
    ∷ (written (log_append_call (room 48) 0 first_entry) gives 0 ∷ 0 ∷ 48 ∷ first_text)
    ∷ (written (log_append_call (room 47) 0 first_entry) gives 14 ∷ 0 ∷ 0 ∷ room 47)
    -- the run's answer, with an offset that is passed over, and its state
    ∷ (written (log_run_call (room 48) 0 (20 + 2 ^ 8 * 77) all_awake) gives 0 ∷ 0 ∷ 48 ∷ first_text)
    ∷ (written (log_run_call (room 48) 0 20 (take 57 all_awake)) gives 1 ∷ 0 ∷ 0 ∷ room 48)
    -- whole, cut off, and torn tails
    ∷ (read_after [] gives 0 ∷ 0 ∷ 48 ∷ 0 ∷ 0 ∷ 1 ∷ [])
    ∷ (shown (log_read_call first_text 47) gives 0 ∷ 0 ∷ 0 ∷ [])
    ∷ (shown (log_runs_call first_text 0) gives 0 ∷ 0 ∷ 0 ∷ [])
    ∷ (read_after next_torn gives 0 ∷ 0 ∷ 48 ∷ 0 ∷ 0 ∷ 1 ∷ [])
    ∷ (read_after most_steps gives 0 ∷ 0 ∷ 48 ∷ 0 ∷ 0 ∷ 1 ∷ [])
    ∷ (read_after all_but_last gives 0 ∷ 0 ∷ 48 ∷ 0 ∷ 0 ∷ 1 ∷ [])
    ∷ (read_after (all_but_last ++ (10 ∷ [])) gives 0 ∷ 0 ∷ 98 ∷ 0 ∷ 0 ∷ 2 ∷ [])
    -- no beginning of a log
    ∷ (read_after zero_twice gives 32 ∷ 0 ∷ 0 ∷ 32 ∷ 0 ∷ 0 ∷ [])
    ∷ (read_after too_many gives 32 ∷ 0 ∷ 0 ∷ 32 ∷ 0 ∷ 0 ∷ [])
    ∷ (read_after run_again gives 32 ∷ 0 ∷ 0 ∷ 32 ∷ 0 ∷ 0 ∷ [])
    ∷ (read_after place_far gives 32 ∷ 0 ∷ 0 ∷ 32 ∷ 0 ∷ 0 ∷ [])
    -- a count over the buffer is 1, before 32; 32 before 14; the count given beside 14
    ∷ (shown (log_read_call run_again 6) gives 1 ∷ 0 ∷ 0 ∷ [])
    ∷ (written (log_append_call (room 3) 4 (entry 23 0 0 0)) gives 1 ∷ 0 ∷ 0 ∷ room 3)
    ∷ (written (log_append_call (room 3) 0 (entry 23 0 0 0)) gives 32 ∷ 0 ∷ 0 ∷ room 3)
    ∷ (written (log_append_call (room 99) 0 (entry 20 0 0 17)) gives 32 ∷ 0 ∷ 0 ∷ room 99)
    ∷ (written (log_append_call (room 99) 0 (entry 20 0 8193 16)) gives 32 ∷ 0 ∷ 0 ∷ room 99)
    ∷ (written (log_append_call (first_text ++ next_torn) 63 first_entry) gives 14 ∷ 0 ∷ 63 ∷ first_text ++ next_torn)
    -- the torn tail is cut off first
    ∷ (written (log_append_call (take 40 first_text ++ room 10) 40 first_entry) gives 0 ∷ 0 ∷ 48 ∷ first_text ++ room 2)
    -- the whole records as a part
    ∷ (log_part (first_text ++ next_torn) 63 gives first_text)
    ∷ (log_part (first_text ++ run_again) 53 gives [])
    ∷ (log_part first_text 49 gives [])
    ∷ []

-- Every one of them holds.
pub rows_log_hold : Hold rows_log
unfolding Hold decimal_by decimal line found digits_from how_many entry_legal record_text log_text item_at read_items record_at read_from reading log_sized log_read_call log_runs_call log_part added_at appended log_append_call awake_count entry_of log_run_call first_text next_torn zero_twice too_many most_steps run_again place_far all_but_last all_awake first_entry read_after rows_log
rows_log_hold = refl
