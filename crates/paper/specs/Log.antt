-- A log of finished runs in the first bytes of a lent buffer (02 §12): a record's text, a log, what is read of a log that was cut off at any byte, what
-- appending leaves, and the full outcome of each call. Assumes nothing.
use Rattle.std.specs.Prelude.{Bool, true, cond, ◌&&◌, List, [], ◌∷◌, ◌++◌, ◌≡◌, ℕ, zero, suc, ◌+◌, ◌/◌, ◌%◌, ◌^◌, eqb, ltb, leb, length, take, drop}
use Rattle.paper.specs.Limits.{budget_limit, last_place, state_length}
use Rattle.paper.specs.Enable.{how_many}
use Rattle.paper.specs.Machine.{Channel, is_awake}
use Rattle.paper.specs.State.{half, awake_bit}
use Rattle.paper.specs.Text.{decimal, line, Found, whole, torn, other, found, digits_from}
use Rattle.paper.specs.Calls.{Answer, verdict, refusal, refusal_with, Written, kept}

-- ---- records and logs

-- What a finished run leaves in the log: its verdict, its steps, its place, and how many channels are awake at the end.
pub record Entry : Type 0 where
  pub verdict : ℕ
  pub steps : ℕ
  pub place : ℕ
  pub awake : ℕ

abbrev pub entry : ℕ → ℕ → ℕ → ℕ → Entry
entry number steps place awake = record { verdict = number; steps = steps; place = place; awake = awake }

-- Verdict is 20 to 22, steps to 1,000,000, place to 8,192, awake to 16.
unfoldable pub entry_legal : Entry → Bool
entry_legal e =
    (leb 20 e.verdict && leb e.verdict 22) && (leb e.steps budget_limit && (leb e.place last_place && leb e.awake 16))

-- `run=`, `verdict=`, `steps=`, `place=`, `awake=`, `end=`.
abbrev pub run_name : List ℕ
run_name = 114 ∷ 117 ∷ 110 ∷ 61 ∷ []

abbrev pub verdict_name : List ℕ
verdict_name = 118 ∷ 101 ∷ 114 ∷ 100 ∷ 105 ∷ 99 ∷ 116 ∷ 61 ∷ []

abbrev pub steps_name : List ℕ
steps_name = 115 ∷ 116 ∷ 101 ∷ 112 ∷ 115 ∷ 61 ∷ []

abbrev pub place_name : List ℕ
place_name = 112 ∷ 108 ∷ 97 ∷ 99 ∷ 101 ∷ 61 ∷ []

abbrev pub awake_name : List ℕ
awake_name = 97 ∷ 119 ∷ 97 ∷ 107 ∷ 101 ∷ 61 ∷ []

abbrev pub end_name : List ℕ
end_name = 101 ∷ 110 ∷ 100 ∷ 61 ∷ []

-- A record: six lines.
unfoldable pub record_text : ℕ → Entry → List ℕ
record_text run e =
    line run_name (decimal run)
    ++ (line verdict_name (decimal e.verdict)
    ++ (line steps_name (decimal e.steps)
    ++ (line place_name (decimal e.place)
    ++ (line awake_name (decimal e.awake)
    ++ line end_name (decimal 1)))))

-- The records of some runs, numbered from a number on. A log is `log_text 0` of legal entries.
unfoldable pub log_text : ℕ → List Entry → List ℕ
log_text run [] = []
log_text run (e ∷ es) = record_text run e ++ log_text (suc run) es

unfoldable pub all_legal : List Entry → Bool
all_legal [] = true
all_legal (e ∷ es) = entry_legal e && all_legal es

-- A beginning of a log: some first bytes of the log of legal entries.
pub record Beginning (s : List ℕ) : Type 0 where
  pub entries : List Entry
  pub legal : all_legal entries ≡ true
  pub rest : List ℕ
  pub is : s ++ rest ≡ log_text 0 entries

-- ---- reading a record

-- How far a record has been read: up to a place; or what stands there is its beginning, torn off by the end; or no record has this text.
pub data Reach : Type 0 where
  upto : ℕ → Reach
  torn_off : Reach
  astray : Reach

abbrev pub reached_to : ℕ → Found → Reach
reached_to next whole = upto next
reached_to next torn = torn_off
reached_to next other = astray

-- The line of that name and number at a place.
abbrev pub exactly_at : List ℕ → List ℕ → ℕ → ℕ → Reach
exactly_at s name v at = reached_to (at + length (line name (decimal v))) (found (line name (decimal v)) (drop at s))

-- A line as it is to be read: its name, and the number that it must have, or the largest that it may have.
pub data Item : Type 0 where
  exactly : List ℕ → ℕ → Item
  at_most : List ℕ → ℕ → Item

-- The line at a place. Where the largest number is given, the line's number is the one that the digits there make: if they are torn off, every number that
-- they begin is at least as large.
unfoldable pub item_at : List ℕ → Item → ℕ → Reach
item_at s (exactly name v) at = exactly_at s name v at
item_at s (at_most name limit) at =
    let v = digits_from 0 (drop (at + length name) s) in
    cond (leb v limit) (exactly_at s name v at) astray

-- What has been reached, and one line more.
abbrev pub further : List ℕ → Item → Reach → Reach
further s i (upto at) = item_at s i at
further s i torn_off = torn_off
further s i astray = astray

unfoldable pub read_items : List ℕ → List Item → Reach → Reach
read_items s [] r = r
read_items s (i ∷ is) r = read_items s is (further s i r)

-- The lines of a record of that run. The verdicts 20 to 22 are a 2 and a digit to 2.
abbrev pub items : ℕ → List Item
items run =
    exactly run_name run
    ∷ at_most (verdict_name ++ (50 ∷ [])) 2
    ∷ at_most steps_name budget_limit
    ∷ at_most place_name last_place
    ∷ at_most awake_name 16
    ∷ exactly end_name 1
    ∷ []

-- The record of that run at a place.
unfoldable pub record_at : List ℕ → ℕ → ℕ → Reach
record_at s run at = read_items s (items run) (upto at)

-- ---- reading a log

-- How many records are whole, and how many bytes they take; or the text is no beginning of a log.
pub data Reading : Type 0 where
  readable : ℕ → ℕ → Reading
  unreadable : Reading

-- By what stands at a place after so many whole records: one more, a torn one, or none.
abbrev pub onward : Reach → ℕ → ℕ → (ℕ → Reading) → Reading
onward (upto next) run at go = go next
onward torn_off run at go = readable run at
onward astray run at go = unreadable

-- After `run` whole records, from a place on. The first argument counts the records down: there are fewer than bytes.
unfoldable pub read_from : ℕ → List ℕ → ℕ → ℕ → Reading
read_from zero s run at = readable run at
read_from (suc f) s run at = onward (record_at s run at) run at (read_from f s (suc run))

-- The whole records are counted from 0. What is left after them must be the beginning of one more.
unfoldable pub reading : List ℕ → Reading
reading s = read_from (length s) s 0 0

-- ---- the calls: the log is the buffer's first `count` bytes. 1, 32, 14

-- A count over the buffer is 1; so is a buffer too long for a count of 32 bits.
unfoldable pub log_sized : List ℕ → ℕ → Bool
log_sized log count = leb count (length log) && ltb (length log) (2 ^ 32)

-- The whole records' bytes, and their number.
abbrev pub bytes_read : Reading → Answer
bytes_read (readable runs bytes) = verdict 0 bytes
bytes_read unreadable = refusal 32 0

abbrev pub runs_read : Reading → Answer
runs_read (readable runs bytes) = verdict 0 runs
runs_read unreadable = refusal 32 0

unfoldable pub log_read_call : List ℕ → ℕ → Answer
log_read_call log count = cond (log_sized log count) (bytes_read (reading (take count log))) (refusal 1 0)

unfoldable pub log_runs_call : List ℕ → ℕ → Answer
log_runs_call log count = cond (log_sized log count) (runs_read (reading (take count log))) (refusal 1 0)

-- The whole records, as a part of the buffer; empty on refusal.
abbrev pub part_read : List ℕ → Reading → List ℕ
part_read log (readable runs bytes) = take bytes log
part_read log unreadable = []

unfoldable pub log_part : List ℕ → ℕ → List ℕ
log_part log count = cond (log_sized log count) (part_read log (reading (take count log))) []

-- A text from a place of the buffer on, where it has room: the count is then the place after it, and all other bytes stay. Else 14 with the count given, and
-- nothing is written.
unfoldable pub added_at : List ℕ → ℕ → ℕ → List ℕ → Written
added_at log count at text =
    cond (leb (at + length text) (length log))
    (record { answer = verdict 0 (at + length text); output = take at log ++ (text ++ drop (at + length text) log) })
    (kept (refusal_with 14 0 count) log)

-- The record goes where the whole records stop, and its run is their number.
abbrev pub appended_to : List ℕ → ℕ → Entry → Reading → Written
appended_to log count e (readable runs bytes) = added_at log count bytes (record_text runs e)
appended_to log count e unreadable = kept (refusal 32 0) log

-- 32: no beginning of a log, or a value out of range. Then 14.
unfoldable pub appended : List ℕ → ℕ → Entry → Written
appended log count e =
    cond (entry_legal e) (appended_to log count e (reading (take count log))) (kept (refusal 32 0) log)

unfoldable pub log_append_call : List ℕ → ℕ → Entry → Written
log_append_call log count e = cond (log_sized log count) (appended log count e) (kept (refusal 1 0) log)

-- How many channels are awake by the state's awake mask: its ones.
unfoldable pub awake_count : List ℕ → ℕ
awake_count state = how_many (awake_bit state) 16

-- The same of channels.
unfoldable pub awake_among : List Channel → ℕ
awake_among [] = 0
awake_among (c ∷ cs) = cond (is_awake c) 1 0 + awake_among cs

-- What a run leaves in the log, by the number in which its answer crossed to C, whose offset is passed over, and the state's place and awake mask.
unfoldable pub entry_of : ℕ → List ℕ → Entry
entry_of answer state =
    record { verdict = answer % 2 ^ 8; steps = answer / 2 ^ 32; place = half state 4; awake = awake_count state }

-- 1 of the state's length too. The state is not judged.
unfoldable pub log_run_call : List ℕ → ℕ → ℕ → List ℕ → Written
log_run_call log count answer state =
    cond (log_sized log count && eqb (length state) state_length) (appended log count (entry_of answer state)) (kept (refusal 1 0) log)
