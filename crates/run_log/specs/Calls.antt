-- What the calls answer, by the buffer's size, the entry, and what was read. Assumes nothing.
use Rattle.std.specs.Prelude.{◌≡◌, refl, Bool, true, false, cond, ◌&&◌, Option, Some, None, ok_or, Result, Ok, Err, IfOk, List, [], ℕ, ◌/◌, ◌%◌, ◌^◌, ◌≤◌, ◌<◌, leb, length, take}
use Rattle.std.proofs.Common.{sym, subst, arith, length-take, length-take-le}
use borrow.Author.Tests.{leb-true, ltb-true, eq-eqb, ne_eqb}
use Rattle.paper.specs.Bits.{bit}
use Rattle.paper.specs.Limits.{state_length}
use Rattle.paper.specs.Enable.{how_many}
use Rattle.paper.specs.State.{half}
use Rattle.paper.specs.Calls.{Answer, verdict, refusal, Written, kept}
use Rattle.paper.specs.Log.{Entry, entry_legal, Reading, readable, unreadable, reading, record_text, added_at, log_sized, bytes_read, runs_read, log_read_call, log_runs_call, part_read, log_part, appended_to, appended, log_append_call, awake_count, entry_of, log_run_call}
use Rattle.laws.specs.Truth.{both_true}
use Rattle.words.specs.declared.refusal.Refusal.{Refusal}
use Rattle.words.specs.declared.refusal.Refusal.TheVariants.{WrongSize, NoLog}
use Rattle.words.specs.Refusals.{number}
use Rattle.run_log.specs.declared.read.Records.{Records}
use Rattle.run_log.specs.Meaning.{reading_is, Within, records_read, log_records}

-- What was read lies within.
pub within_bytes : (n m runs bytes : ℕ) (q : Reading) → q ≡ readable runs bytes → Within n q → n ≤ m → bytes ≤ m
within_bytes n m runs bytes q e w h = let k = subst (Within n) e w in omega (arith, k.1)

-- The answer is a, and the buffer then holds l.
abbrev Gives : Written → Answer → List ℕ → Type 0
Gives w a l = (a ≡ w.answer) × (l ≡ w.output)

-- What the calls answer to the records, or their refusal.
abbrev bytes_of : Result Records Refusal → Answer
bytes_of (Ok r) = verdict 0 r.bytes
bytes_of (Err r) = refusal (number r) 0

abbrev runs_of : Result Records Refusal → Answer
runs_of (Ok r) = verdict 0 r.runs
runs_of (Err r) = refusal (number r) 0

abbrev part_of : List ℕ → Result Records Refusal → List ℕ
part_of log (Ok r) = take r.bytes log
part_of log (Err r) = []

-- The entry is legal, or is not.
abbrev added_when : Bool → List ℕ → ℕ → Entry → Result Records Refusal → Written
added_when legal log count e (Ok r) = cond legal (added_at log count r.bytes (record_text r.runs e)) (kept (refusal 32 0) log)
added_when legal log count e (Err r) = kept (refusal (number r) 0) log

abbrev added_to : List ℕ → ℕ → Entry → Result Records Refusal → Written
added_to log count e r = added_when (entry_legal e) log count e r

module _ (log : List ℕ) (count : ℕ) where
  pub sized_count : log_sized log count ≡ true → count ≤ length log
  unfolding log_sized
  sized_count h = leb-true count (length log) (both_true (leb count (length log)) _ h).0

  pub sized_bits : log_sized log count ≡ true → length log < 2 ^ 32
  unfolding log_sized
  sized_bits h = ltb-true (length log) (2 ^ 32) (both_true (leb count (length log)) _ h).1

  pub part_length : log_sized log count ≡ true → count ≡ length (take count log)
  part_length h = sym (length-take-le count log (sized_count h))

  pub part_most : length (take count log) ≤ length log
  part_most = omega (arith, length-take count log)

  -- ---- the records

  pub records_unsized : log_sized log count ≡ false → Err WrongSize ≡ log_records log count
  unfolding log_records
  records_unsized h = rw h

  pub records_are : (o : Option Records) → log_sized log count ≡ true → reading_is o ≡ reading (take count log) → ok_or o NoLog ≡ log_records log count
  unfolding log_records
  records_are (Some r) h e = rw (h, ← e)
  records_are None h e = rw (h, ← e)

  pub records_inside : (o : Option Records) → Within (length (take count log)) (reading_is o) → IfOk (ok_or o NoLog) (λ r. r.bytes ≤ length log)
  records_inside (Some r) h = omega (arith, part_most, h.1)
  records_inside None h = tt

  -- ---- reading

  pub read_is : (q : Reading) → log_sized log count ≡ true → reading (take count log) ≡ q → bytes_read q ≡ log_read_call log count
  unfolding log_read_call
  read_is q h e = rw (h, e)

  pub runs_is : (q : Reading) → log_sized log count ≡ true → reading (take count log) ≡ q → runs_read q ≡ log_runs_call log count
  unfolding log_runs_call
  runs_is q h e = rw (h, e)

  pub read_says : (r : Result Records Refusal) → log_records log count ≡ r → bytes_of r ≡ log_read_call log count
  unfolding log_records log_read_call
  read_says r e = rw (← e) (go (log_sized log count) (reading (take count log)))
    where
      go : (b : Bool) (q : Reading) → bytes_of (cond b (records_read q) (Err WrongSize)) ≡ cond b (bytes_read q) (refusal 1 0)
      go true (readable runs bytes) = refl
      go true unreadable = refl
      go false q = refl

  pub runs_says : (r : Result Records Refusal) → log_records log count ≡ r → runs_of r ≡ log_runs_call log count
  unfolding log_records log_runs_call
  runs_says r e = rw (← e) (go (log_sized log count) (reading (take count log)))
    where
      go : (b : Bool) (q : Reading) → runs_of (cond b (records_read q) (Err WrongSize)) ≡ cond b (runs_read q) (refusal 1 0)
      go true (readable runs bytes) = refl
      go true unreadable = refl
      go false q = refl

  pub part_says : (r : Result Records Refusal) → log_records log count ≡ r → part_of log r ≡ log_part log count
  unfolding log_records log_part
  part_says r e = rw (← e) (go (log_sized log count) (reading (take count log)))
    where
      go : (b : Bool) (q : Reading) → part_of log (cond b (records_read q) (Err WrongSize)) ≡ cond b (part_read log q) []
      go true (readable runs bytes) = refl
      go true unreadable = refl
      go false q = refl

  -- ---- appending

  pub append_says : (e : Entry) (r : Result Records Refusal) → log_records log count ≡ r → added_to log count e r ≡ log_append_call log count e
  unfolding log_records log_append_call appended
  append_says e r w = rw (← w) (go (log_sized log count) (entry_legal e) (reading (take count log)))
    where
      go : (b l : Bool) (q : Reading)
          → added_when l log count e (cond b (records_read q) (Err WrongSize)) ≡ cond b (cond l (appended_to log count e q) (kept (refusal 32 0) log)) (kept (refusal 1 0) log)
      go true true (readable runs bytes) = refl
      go true false (readable runs bytes) = refl
      go true true unreadable = refl
      go true false unreadable = refl
      go false l q = refl

  pub append_refused : (e : Entry) (r : Refusal) → log_records log count ≡ Err r → Gives (log_append_call log count e) (refusal (number r) 0) log
  append_refused e r w = rw (← append_says e (Err r) w) (refl, refl)

  pub append_unsized : (e : Entry) → log_sized log count ≡ false → Gives (log_append_call log count e) (refusal 1 0) log
  unfolding log_append_call
  append_unsized e h = rw h (refl, refl)

  pub append_illegal : (e : Entry) → log_sized log count ≡ true → entry_legal e ≡ false → Gives (log_append_call log count e) (refusal 32 0) log
  unfolding log_append_call appended
  append_illegal e h g = rw (h, g) (refl, refl)

  pub append_is : (e : Entry) (q : Reading) → log_sized log count ≡ true → entry_legal e ≡ true → reading (take count log) ≡ q
      → appended_to log count e q ≡ log_append_call log count e
  unfolding log_append_call appended
  append_is e q h g w = rw (h, g, w)

  pub append_whole : (e : Entry) (r : Records) → log_records log count ≡ Ok r → entry_legal e ≡ true
      → added_at log count r.bytes (record_text r.runs e) ≡ log_append_call log count e
  append_whole e r w h = rw (← append_says e (Ok r) w, h)

  -- ---- logging a run

  and-false : (b : Bool) → (b && false) ≡ false
  and-false true = refl
  and-false false = refl

  and-true : (b : Bool) → (b && true) ≡ b
  and-true true = refl
  and-true false = refl

  pub run_unsized : (answer : ℕ) (state : List ℕ) → (length state ≡ state_length → ⊥) → Gives (log_run_call log count answer state) (refusal 1 0) log
  unfolding log_run_call
  run_unsized answer state h = rw (ne_eqb (length state) state_length h, and-false (log_sized log count)) (refl, refl)

  pub run_is : (answer : ℕ) (state : List ℕ) → length state ≡ state_length → log_append_call log count (entry_of answer state) ≡ log_run_call log count answer state
  unfolding log_run_call log_append_call
  run_is answer state h = rw (eq-eqb (length state) state_length h, and-true (log_sized log count))

-- What a run leaves in the log, by what was read of its state.
pub entry_is : (answer : ℕ) (state : List ℕ) (place mask awake : ℕ) → place ≡ half state 4 → mask ≡ half state 6 → awake ≡ how_many (bit mask) 16
    → ◌≡◌ {A = Entry} (record { verdict = answer % 256; steps = answer / 4294967296; place = place; awake = awake }) (entry_of answer state)
unfolding entry_of awake_count
entry_is answer state place mask awake p m a = rw (p, a, m)
