-- What the answers of reading a log are in the paper's terms. Assumes nothing.
use Rattle.std.specs.Prelude.{cond, List, ℕ, ◌≤◌, take, Option, Some, None, Result, Ok, Err}
use Rattle.paper.specs.Log as paper
use Rattle.paper.specs.Log.{upto, torn_off, astray, reached_to, readable, unreadable, reading, log_sized}
use Rattle.text.specs.declared.read.Unread.{Unread}
use Rattle.text.specs.declared.read.Unread.TheVariants.{Torn, Other}
use Rattle.words.specs.declared.refusal.Refusal.{Refusal}
use Rattle.words.specs.declared.refusal.Refusal.TheVariants.{WrongSize, NoLog}
use Rattle.run_log.specs.declared.write.Entry.{Entry}
use Rattle.run_log.specs.declared.read.Records.{Records}

abbrev pub reach_is : Result ℕ Unread → paper.Reach
reach_is (Ok at) = upto at
reach_is (Err Torn) = torn_off
reach_is (Err Other) = astray

abbrev pub reading_is : Option Records → paper.Reading
reading_is (Some r) = readable r.runs r.bytes
reading_is None = unreadable

-- What was read lies within so many bytes, and there are at most as many records.
abbrev pub Within : ℕ → paper.Reading → Type 0
Within n (readable runs bytes) = (runs ≤ n) × (bytes ≤ n)
Within n unreadable = Unit {0}

abbrev pub entry_is : Entry → paper.Entry
entry_is e = record { verdict = e.verdict; steps = e.steps; place = e.place; awake = e.awake }

-- The whole records of what was read, or its refusal.
abbrev pub records_read : paper.Reading → Result Records Refusal
records_read (readable runs bytes) = Ok (record { runs = runs; bytes = bytes })
records_read unreadable = Err NoLog

-- Those of a log in the first bytes of a buffer.
unfoldable pub log_records : List ℕ → ℕ → Result Records Refusal
log_records log count = cond (log_sized log count) (records_read (reading (take count log))) (Err WrongSize)
