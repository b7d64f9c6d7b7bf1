-- What is promised of logs holds. Assumes nothing.
use Rattle.std.specs.Prelude.{Bool, true, false, cond, List, [], ◌∷◌, ◌++◌, ◌≡◌, ℕ, ◌+◌, ◌≤◌, length}
use Rattle.std.proofs.Math.Path.{refl, ap}
use Rattle.std.proofs.Common.{sym, ◌∙◌, subst, arith}
use Rattle.std.proofs.Math.ListN.{take}
use Rattle.paper.specs.Calls.{verdict, refusal, number_of, count_of, Written}
use Rattle.paper.specs.Log.{Entry, entry, record_text, log_text, Beginning, Reading, readable, unreadable, reading, log_sized, bytes_read, log_read_call, log_runs_call, part_read, log_part, log_append_call, entry_of}
use Rattle.contracts.specs.Contracts.{number_in, count_in, Wrote, LogReadPromise, LogRunsPromise}
use Rattle.run_log.specs.Records.{Legal, legal-is}
use Rattle.run_log.specs.Logs.{CutAt}
use Rattle.run_log.specs.Beginnings.{all_are, cut_reading, begins_reads, reads_begins}
use Rattle.run_log.specs.Appends.{whole_first, goes_on, awake_counted}
use Rattle.run_log.specs.Calls.{read_is, runs_is, run_is}
use Rattle.promises.specs.Promises.{CutLog, Logs, result}
use Rattle.promises.specs.OutcomesHold.{answers}

-- A log that is cut off, as the laws have it.
abbrev cut_at : (log : List ℕ) (count : ℕ) (entries : List Entry) → CutLog log count entries → CutAt (take count log) 0 0
cut_at log count entries c =
    let z : 0 + length entries ≡ length entries = omega arith in
    record {
      entries = entries;
      legal = all_are entries c.legal;
      next = c.next;
      next-legal = legal-is c.next c.next-legal;
      bytes = c.bytes;
      short = rw z c.short;
      is = c.is ∙ ap (λ (n : ℕ). log_text 0 entries ++ take c.bytes (record_text n c.next)) (sym z);
    }

-- The number and the count of an answer that is a verdict 0.
module _ (log : List ℕ) (count r : ℕ) where
  read_told : (n : ℕ) → LogReadPromise log count r → verdict 0 n ≡ log_read_call log count → (number_in r ≡ 0) × (count_in r ≡ n)
  read_told n p e =
      let t = answers.log_read log count r p in
      (t.number ∙ ap number_of (sym e), t.count ∙ ap count_of (sym e))

  runs_told : (n : ℕ) → LogRunsPromise log count r → verdict 0 n ≡ log_runs_call log count → (number_in r ≡ 0) × (count_in r ≡ n)
  runs_told n p e =
      let t = answers.log_runs log count r p in
      (t.number ∙ ap number_of (sym e), t.count ∙ ap count_of (sym e))

  reads_back : (entries : List Entry) → CutLog log count entries → LogReadPromise log count r → (number_in r ≡ 0) × (result r log ≡ log_text 0 entries)
  reads_back entries c p =
      let d = cut_at log count entries c in
      let t = read_told (length (log_text 0 entries)) p (read_is log count _ c.sized (cut_reading (take count log) d)) in
      (t.0, ap (λ (n : ℕ). take n log) t.1 ∙ whole_first log count d)

  counts_back : (entries : List Entry) → CutLog log count entries → LogRunsPromise log count r → (number_in r ≡ 0) × (count_in r ≡ length entries)
  counts_back entries c p =
      runs_told (length entries) p (runs_is log count _ c.sized (cut_reading (take count log) (cut_at log count entries c)))

  reads_beginning : log_sized log count ≡ true → Beginning (take count log) → LogReadPromise log count r → number_in r ≡ 0
  reads_beginning h b p =
      let k = begins_reads (take count log) b in
      (read_told (length (log_text 0 k.0.entries)) p (read_is log count _ h k.1)).0

  reads_only : LogReadPromise log count r → number_in r ≡ 0 → Beginning (take count log)
  unfolding log_read_call
  reads_only p zero = go (log_sized log count) (sym (answers.log_read log count r p).number ∙ zero)
    where
      by : (q : Reading) → reading (take count log) ≡ q → number_of (bytes_read q) ≡ 0 → Beginning (take count log)
      by (readable runs bytes) w e = reads_begins (take count log) runs bytes w
      by unreadable w e = absurd (omega arith)

      go : (b : Bool) → number_of (cond b (bytes_read (reading (take count log))) (refusal 1 0)) ≡ 0 → Beginning (take count log)
      go true e = by (reading (take count log)) refl e
      go false e = absurd (omega arith)

  part_result : LogReadPromise log count r → log_part log count ≡ result r log
  unfolding log_part log_read_call
  part_result p = go (log_sized log count) ∙ ap (λ (n : ℕ). take n log) (sym (answers.log_read log count r p).count)
    where
      by : (q : Reading) → part_read log q ≡ take (count_of (bytes_read q)) log
      by (readable runs bytes) = refl
      by unreadable = refl

      go : (b : Bool) → cond b (part_read log (reading (take count log))) [] ≡ take (count_of (cond b (bytes_read (reading (take count log))) (refusal 1 0))) log
      go true = by (reading (take count log))
      go false = refl

  goes : (entries : List Entry) → CutLog log count entries → (d : Entry) → Legal d → length (log_text 0 (entries ++ (d ∷ []))) ≤ length log
      → ((log_append_call log count d).answer ≡ verdict 0 (length (log_text 0 (entries ++ (d ∷ []))))) × (take (length (log_text 0 (entries ++ (d ∷ [])))) (log_append_call log count d).output ≡ log_text 0 (entries ++ (d ∷ [])))
  goes entries c d h k = goes_on log count (cut_at log count entries c) d c.sized h k

pub logs : Logs
unfolding entry_of
logs =
    record {
      reads_back = λ log count entries c r p. reads_back log count r entries c p;
      counts_back = λ log count entries c r p. counts_back log count r entries c p;
      reads = λ log count h b r p. reads_beginning log count r h b p;
      reads_only = λ log count r p zero. reads_only log count r p zero;
      goes_on = λ log count entries c v steps place awake h k r log' p.
          let d = entry v steps place awake in
          let g = goes log count r entries c d (legal-is d h) k in
          let t = answers.log_append log count v steps place awake r log' p in
          let n : count_in r ≡ length (log_text 0 (entries ++ (d ∷ []))) = t.count ∙ ap count_of g.0 in
          (t.number ∙ ap number_of g.0, (λ i. take (n i) (p.1 i)) ∙ g.1);
      part = λ log count r p. part_result log count r p;
      logs_run = λ log count answer state r log' p h. subst (λ (w : Written). Wrote w r log') (sym (run_is log count answer state h)) p;
      awake = awake_counted;
    }
