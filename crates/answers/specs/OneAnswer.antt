-- The calls inside Rattle leave nothing open either: what each ensures admits one answer, and one final content of each buffer that is lent for writing.
-- Assumes nothing.
use Rattle.std.specs.Prelude.{List, ◌≡◌, ℕ}
use Rattle.paper.specs.Calls.{check_call, forward_call, pack_call, unpack_call, pair_call, shorten_call, expand_call, decode_call, start_call, step_call, run_call}
use Rattle.paper.specs.Log.{Entry, log_read_call, log_runs_call, log_append_call, log_run_call}
use Rattle.paper.specs.Listing.{list_call, read_call}
use Rattle.paper.specs.Placing.{Point, place_call, place_kernel_call, place_load_call}
use Rattle.words.specs.Answer.{Answer, answer_is, Wrote, Left, one_answer, one_written, one_changed}

-- `check`, `forward`, `pack`, `unpack`, `pair`, `shorten_word`, `expand_word`, `decode_size`, `start`, `step` and `run`; of logs `append`, `whole_bytes`,
-- `whole_runs` and `append_run`; of listings `list` and `read`.
pub record OneAnswer : Type 0 where
  pub check : (dictionary kernel : List ℕ) (r s : Answer) → answer_is r ≡ check_call dictionary kernel → answer_is s ≡ check_call dictionary kernel → r ≡ s
  pub forward : (dictionary kernel : List ℕ) (r s : Answer)
      → answer_is r ≡ forward_call dictionary kernel → answer_is s ≡ forward_call dictionary kernel → r ≡ s
  pub pack : (dictionary kernel out : List ℕ) (r s : Answer) (out' out'' : List ℕ)
      → Wrote (pack_call dictionary kernel out) r out' → Wrote (pack_call dictionary kernel out) s out'' → (r ≡ s) × (out' ≡ out'')
  pub unpack : (dictionary kernel out : List ℕ) (r s : Answer) (out' out'' : List ℕ)
      → Wrote (unpack_call dictionary kernel out) r out' → Wrote (unpack_call dictionary kernel out) s out'' → (r ≡ s) × (out' ≡ out'')
  pub pair : (dictionary long sent : List ℕ) (r s : Answer)
      → answer_is r ≡ pair_call dictionary long sent → answer_is s ≡ pair_call dictionary long sent → r ≡ s
  pub shorten : (dictionary word out : List ℕ) (r s : Answer) (out' out'' : List ℕ)
      → Wrote (shorten_call dictionary word out) r out' → Wrote (shorten_call dictionary word out) s out'' → (r ≡ s) × (out' ≡ out'')
  pub expand : (dictionary word out : List ℕ) (r s : Answer) (out' out'' : List ℕ)
      → Wrote (expand_call dictionary word out) r out' → Wrote (expand_call dictionary word out) s out'' → (r ≡ s) × (out' ≡ out'')
  pub decode : (dictionary kernel : List ℕ) (place : ℕ) (r s : Answer)
      → answer_is r ≡ decode_call dictionary kernel place → answer_is s ≡ decode_call dictionary kernel place → r ≡ s
  pub start : (mask flag0 flag1 : ℕ) (state : List ℕ) (r s : Answer) (state' state'' : List ℕ)
      → Wrote (start_call mask flag0 flag1 state) r state' → Wrote (start_call mask flag0 flag1 state) s state'' → (r ≡ s) × (state' ≡ state'')
  pub step : (dictionary kernel registers state : List ℕ) (r s : Answer) (registers' registers'' state' state'' : List ℕ)
      → Left (step_call dictionary kernel registers state) r registers' state' → Left (step_call dictionary kernel registers state) s registers'' state''
      → (r ≡ s) × (registers' ≡ registers'') × (state' ≡ state'')
  pub run : (dictionary kernel : List ℕ) (budget : ℕ) (registers state : List ℕ) (r s : Answer) (registers' registers'' state' state'' : List ℕ)
      → Left (run_call dictionary kernel budget registers state) r registers' state' → Left (run_call dictionary kernel budget registers state) s registers'' state''
      → (r ≡ s) × (registers' ≡ registers'') × (state' ≡ state'')
  pub log_append : (log : List ℕ) (count : ℕ) (e : Entry) (r s : Answer) (log' log'' : List ℕ)
      → Wrote (log_append_call log count e) r log' → Wrote (log_append_call log count e) s log'' → (r ≡ s) × (log' ≡ log'')
  pub log_read : (log : List ℕ) (count : ℕ) (r s : Answer) → answer_is r ≡ log_read_call log count → answer_is s ≡ log_read_call log count → r ≡ s
  pub log_runs : (log : List ℕ) (count : ℕ) (r s : Answer) → answer_is r ≡ log_runs_call log count → answer_is s ≡ log_runs_call log count → r ≡ s
  pub log_run : (log : List ℕ) (count answer : ℕ) (state : List ℕ) (r s : Answer) (log' log'' : List ℕ)
      → Wrote (log_run_call log count answer state) r log' → Wrote (log_run_call log count answer state) s log'' → (r ≡ s) × (log' ≡ log'')
  pub list : (dictionary kernel out : List ℕ) (r s : Answer) (out' out'' : List ℕ)
      → Wrote (list_call dictionary kernel out) r out' → Wrote (list_call dictionary kernel out) s out'' → (r ≡ s) × (out' ≡ out'')
  pub read : (dictionary text out : List ℕ) (r s : Answer) (out' out'' : List ℕ)
      → Wrote (read_call dictionary text out) r out' → Wrote (read_call dictionary text out) s out'' → (r ≡ s) × (out' ≡ out'')
  pub place : (order : ℕ) (six : List ℕ) (at : Point) (out : List ℕ) (r s : Answer) (out' out'' : List ℕ)
      → Wrote (place_call order six at out) r out' → Wrote (place_call order six at out) s out'' → (r ≡ s) × (out' ≡ out'')
  pub place_kernel : (out : List ℕ) (r s : Answer) (out' out'' : List ℕ) → Wrote (place_kernel_call out) r out' → Wrote (place_kernel_call out) s out'' → (r ≡ s) × (out' ≡ out'')
  pub place_load : (six registers : List ℕ) (r s : Answer) (registers' registers'' : List ℕ)
      → Wrote (place_load_call six registers) r registers' → Wrote (place_load_call six registers) s registers'' → (r ≡ s) × (registers' ≡ registers'')

pub one_outcome : OneAnswer
one_outcome =
    record {
      check = λ dictionary kernel. one_answer (check_call dictionary kernel);
      forward = λ dictionary kernel. one_answer (forward_call dictionary kernel);
      pack = λ dictionary kernel out. one_written (pack_call dictionary kernel out);
      unpack = λ dictionary kernel out. one_written (unpack_call dictionary kernel out);
      pair = λ dictionary long sent. one_answer (pair_call dictionary long sent);
      shorten = λ dictionary word out. one_written (shorten_call dictionary word out);
      expand = λ dictionary word out. one_written (expand_call dictionary word out);
      decode = λ dictionary kernel place. one_answer (decode_call dictionary kernel place);
      start = λ mask flag0 flag1 state. one_written (start_call mask flag0 flag1 state);
      step = λ dictionary kernel registers state. one_changed (step_call dictionary kernel registers state);
      run = λ dictionary kernel budget registers state. one_changed (run_call dictionary kernel budget registers state);
      log_append = λ log count e. one_written (log_append_call log count e);
      log_read = λ log count. one_answer (log_read_call log count);
      log_runs = λ log count. one_answer (log_runs_call log count);
      log_run = λ log count answer state. one_written (log_run_call log count answer state);
      list = λ dictionary kernel out. one_written (list_call dictionary kernel out);
      read = λ dictionary text out. one_written (read_call dictionary text out);
      place = λ order six at out. one_written (place_call order six at out);
      place_kernel = λ out. one_written (place_kernel_call out);
      place_load = λ six registers. one_written (place_load_call six registers);
    }
