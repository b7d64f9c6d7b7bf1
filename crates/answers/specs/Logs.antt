-- The answers of the calls on logs fit too, since a buffer has less than 2^32 bytes. Assumes nothing.
use Rattle.std.specs.Prelude.{Bool, true, ◌&&◌, List, ◌≡◌, ℕ, ◌+◌, ◌^◌, ◌≤◌, ◌<◌, leb, take}
use Rattle.std.proofs.Math.Path.{refl}
use Rattle.std.proofs.Common.{arith}
use Rattle.std.proofs.Math.Dec.{eqb}
use Rattle.paper.specs.Limits.{state_length}
use Rattle.std.proofs.Math.ListN.{length}
use borrow.Author.Tests.{leb-true}
use Rattle.paper.specs.Calls.{verdict, refusal, refusal_with, Written}
use Rattle.paper.specs.Log.{Entry, entry_legal, record_text, Reading, readable, unreadable, reading, log_sized, bytes_read, runs_read, log_read_call, log_runs_call, added_at, appended_to, appended, log_append_call, entry_of, log_run_call}
use Rattle.laws.specs.Truth.{both_true}
use Rattle.run_log.specs.Logs.{read_within}
use Rattle.run_log.specs.Calls.{sized_count, sized_bits, part_most}
use Rattle.answers.specs.Numbers.{log_read_numbers, log_append_numbers}
use Rattle.answers.specs.Small.{small_refusal, small_verdict, small_counts}
use Rattle.answers.specs.Calls.{Fine, by_cond}

no : (numbers : ℕ → Bool) (number : ℕ) → numbers number ≡ true → number ≤ 32 → Fine numbers (refusal number 0)
no numbers number l h = record { listed = l; small = small_refusal number 0 (omega arith) (omega arith) }

counted : (numbers : ℕ → Bool) (count : ℕ) → numbers 0 ≡ true → count < 2 ^ 32 → Fine numbers (verdict 0 count)
counted numbers count l h = record { listed = l; small = small_verdict 0 count (omega arith) h }

full : (numbers : ℕ → Bool) (count : ℕ) → numbers 14 ≡ true → count < 2 ^ 32 → Fine numbers (refusal_with 14 0 count)
full numbers count l h = record { listed = l; small = small_counts 14 0 count (omega arith) (omega arith) h }

-- ---- reading

module _ (log : List ℕ) (count : ℕ) where
  pub log_read_fine : Fine log_read_numbers (log_read_call log count)
  unfolding log_read_call
  log_read_fine =
      by_cond (Fine log_read_numbers) (log_sized log count) _ _ (λ h. go (sized_bits log count h) (reading (take count log)) refl)
      (λ _. no log_read_numbers 1 refl (omega arith))
    where
      go : length log < 2 ^ 32 → (q : Reading) → reading (take count log) ≡ q → Fine log_read_numbers (bytes_read q)
      go h (readable runs bytes) e =
          counted log_read_numbers bytes refl (omega (arith, (read_within (take count log) runs bytes e).1, part_most log count))
      go h unreadable e = no log_read_numbers 32 refl (omega arith)

  pub log_runs_fine : Fine log_read_numbers (log_runs_call log count)
  unfolding log_runs_call
  log_runs_fine =
      by_cond (Fine log_read_numbers) (log_sized log count) _ _ (λ h. go (sized_bits log count h) (reading (take count log)) refl)
      (λ _. no log_read_numbers 1 refl (omega arith))
    where
      go : length log < 2 ^ 32 → (q : Reading) → reading (take count log) ≡ q → Fine log_read_numbers (runs_read q)
      go h (readable runs bytes) e =
          counted log_read_numbers runs refl (omega (arith, (read_within (take count log) runs bytes e).0, part_most log count))
      go h unreadable e = no log_read_numbers 32 refl (omega arith)

  -- ---- appending

  added_fine : (at : ℕ) (text : List ℕ) → count ≤ length log → length log < 2 ^ 32 → Fine log_append_numbers (added_at log count at text).answer
  unfolding added_at
  added_fine at text h k =
      by_cond (λ (w : Written). Fine log_append_numbers w.answer) (leb (at + length text) (length log)) _ _
      (λ e. let m = leb-true (at + length text) (length log) e in counted log_append_numbers (at + length text) refl (omega arith))
      (λ _. full log_append_numbers count refl (omega arith))

  pub appended_fine : (e : Entry) → log_sized log count ≡ true → Fine log_append_numbers (appended log count e).answer
  unfolding appended
  appended_fine e h =
      by_cond (λ (w : Written). Fine log_append_numbers w.answer) (entry_legal e) _ _ (λ _. go (reading (take count log)))
      (λ _. no log_append_numbers 32 refl (omega arith))
    where
      go : (q : Reading) → Fine log_append_numbers (appended_to log count e q).answer
      go (readable runs bytes) = added_fine bytes (record_text runs e) (sized_count log count h) (sized_bits log count h)
      go unreadable = no log_append_numbers 32 refl (omega arith)

  pub log_append_fine : (e : Entry) → Fine log_append_numbers (log_append_call log count e).answer
  unfolding log_append_call
  log_append_fine e =
      by_cond (λ (w : Written). Fine log_append_numbers w.answer) (log_sized log count) _ _ (appended_fine e)
      (λ _. no log_append_numbers 1 refl (omega arith))

  pub log_run_fine : (answer : ℕ) (state : List ℕ) → Fine log_append_numbers (log_run_call log count answer state).answer
  unfolding log_run_call
  log_run_fine answer state =
      by_cond (λ (w : Written). Fine log_append_numbers w.answer) (log_sized log count && eqb (length state) state_length) _ _
      (λ e. appended_fine (entry_of answer state) (both_true (log_sized log count) (eqb (length state) state_length) e).0)
      (λ _. no log_append_numbers 1 refl (omega arith))
