-- The contract of each call admits one outcome only. Assumes nothing.
use Rattle.std.specs.Prelude.{List, ◌≡◌, ℕ}
use Rattle.std.proofs.Common.{sym, ◌∙◌}
use Rattle.paper.specs.Log.{entry, log_append_call, log_run_call}
use Rattle.paper.specs.Listing.{list_call, read_call}
use Rattle.paper.specs.Placing.{place_call, place_kernel_call, place_load_call}
use Rattle.paper.specs.Calls.{Written, Changed, pack_call, unpack_call, shorten_call, expand_call, start_call, step_call, run_call}
use Rattle.contracts.specs.Contracts.{Wrote, Left}
use Rattle.contracts.specs.OneOutcome.{OneOutcome}

-- Two outcomes that both are what a call promises are one.
one_written : (w : Written) (r s : ℕ) (out' out'' : List ℕ) → Wrote w r out' → Wrote w s out'' → (r ≡ s) × (out' ≡ out'')
one_written w r s out' out'' p q = (p.0 ∙ sym q.0, p.1 ∙ sym q.1)

one_changed : (c : Changed) (r s : ℕ) (registers' registers'' state' state'' : List ℕ) → Left c r registers' state' → Left c s registers'' state''
    → (r ≡ s) × (registers' ≡ registers'') × (state' ≡ state'')
one_changed c r s registers' registers'' state' state'' p q = (p.0 ∙ sym q.0, p.1 ∙ sym q.1, p.2 ∙ sym q.2)

pub one_outcome : OneOutcome
one_outcome =
    record {
      check = λ dictionary kernel r s p q. p ∙ sym q;
      forward = λ dictionary kernel r s p q. p ∙ sym q;
      pack = λ dictionary kernel out. one_written (pack_call dictionary kernel out);
      unpack = λ dictionary kernel out. one_written (unpack_call dictionary kernel out);
      pair = λ dictionary long sent r s p q. p ∙ sym q;
      shorten = λ dictionary word out. one_written (shorten_call dictionary word out);
      expand = λ dictionary word out. one_written (expand_call dictionary word out);
      decode = λ dictionary kernel place r s p q. p ∙ sym q;
      start = λ mask flag0 flag1 state. one_written (start_call mask flag0 flag1 state);
      step = λ dictionary kernel registers state. one_changed (step_call dictionary kernel registers state);
      run = λ dictionary kernel budget registers state. one_changed (run_call dictionary kernel budget registers state);
      log_append = λ log count verdict steps place awake. one_written (log_append_call log count (entry verdict steps place awake));
      log_read = λ log count r s p q. p ∙ sym q;
      log_runs = λ log count r s p q. p ∙ sym q;
      log_run = λ log count answer state. one_written (log_run_call log count answer state);
      list = λ dictionary kernel out. one_written (list_call dictionary kernel out);
      read = λ dictionary text out. one_written (read_call dictionary text out);
      place = λ order six x y out. one_written (place_call order six (record { x = x; y = y }) out);
      place_kernel = λ out. one_written (place_kernel_call out);
      place_load = λ six registers. one_written (place_load_call six registers);
    }
