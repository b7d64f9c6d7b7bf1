-- Every answer is one of the paper's list, and an output that the paper confines is kept. Assumes nothing.
-- That a refusal changes nothing, and so that demand 1 holds, is in proofs/RefusalsHold.
use Rattle.std.specs.Prelude.{Bool, List, ◌≡◌, ℕ, length, drop}
use Rattle.std.proofs.Common.{sym, ap, ◌∙◌}
use Rattle.paper.specs.Calls.{Answer, as_number, Written, check_call, forward_call, pack_call, unpack_call, pair_call, shorten_call, expand_call, decode_call, start_call, step_call, run_call, number_of}
use Rattle.laws.specs.Calls.{Confined}
use Rattle.paper.specs.Log.{entry, log_append_call, log_read_call, log_runs_call, log_run_call}
use Rattle.paper.specs.Listing.{list_call, read_call}
use Rattle.paper.specs.Placing.{place_call, place_kernel_call, place_load_call}
use Rattle.answers.specs.Logs.{log_append_fine, log_read_fine, log_runs_fine, log_run_fine}
use Rattle.answers.specs.Listings.{list_fine, read_fine}
use Rattle.answers.specs.Placings.{place_fine, place_kernel_fine, place_load_fine}
use Rattle.contracts.specs.Contracts.{number_in, offset_in, count_in, Wrote}
use Rattle.answers.specs.Numbers.{check_numbers, forward_numbers, pack_numbers, unpack_numbers, pair_numbers, shorten_numbers, expand_numbers, decode_numbers, start_numbers, step_numbers, run_numbers, log_read_numbers, log_append_numbers, list_numbers, read_numbers, place_numbers, place_kernel_numbers, place_load_numbers}
use Rattle.promises.specs.Promises.{Told, Answers, Kept}
use Rattle.answers.specs.Small.{number_back, offset_back, count_back}
use Rattle.answers.specs.Calls.{Fine, check_fine, forward_fine, pack_fine, unpack_fine, pair_fine, shorten_fine, expand_fine, decode_fine, start_fine, step_fine, run_fine}

-- ---- every answer is one of the paper's

-- The three parts of an answer that fits in the one number.
told : (numbers : ℕ → Bool) (a : Answer) (r : ℕ) → Fine numbers a → r ≡ as_number a → Told numbers a r
told numbers a r f e =
    let n : number_in r ≡ number_of a = ap number_in e ∙ number_back a f.small in
    record {
      listed = ap numbers n ∙ f.listed;
      number = n;
      offset = ap offset_in e ∙ offset_back a f.small;
      count = ap count_in e ∙ count_back a f.small;
    }

pub answers : Answers
answers =
    record {
      check = λ dictionary kernel r p. told check_numbers (check_call dictionary kernel) r (check_fine dictionary kernel) p;
      forward = λ dictionary kernel r p. told forward_numbers (forward_call dictionary kernel) r (forward_fine dictionary kernel) p;
      pack = λ dictionary kernel out r out' p. told pack_numbers (pack_call dictionary kernel out).answer r (pack_fine dictionary kernel out) p.0;
      unpack = λ dictionary kernel out r out' p. told unpack_numbers (unpack_call dictionary kernel out).answer r (unpack_fine dictionary kernel out) p.0;
      pair = λ dictionary long sent r p. told pair_numbers (pair_call dictionary long sent) r (pair_fine dictionary long sent) p;
      shorten = λ dictionary word out r out' p. told shorten_numbers (shorten_call dictionary word out).answer r (shorten_fine dictionary word out) p.0;
      expand = λ dictionary word out r out' p. told expand_numbers (expand_call dictionary word out).answer r (expand_fine dictionary word out) p.0;
      decode = λ dictionary kernel place r p. told decode_numbers (decode_call dictionary kernel place) r (decode_fine dictionary kernel place) p;
      start = λ mask flag0 flag1 state r state' p. told start_numbers (start_call mask flag0 flag1 state).answer r (start_fine mask flag0 flag1 state) p.0;
      step = λ dictionary kernel registers state r registers' state' p.
          told step_numbers (step_call dictionary kernel registers state).answer r (step_fine dictionary kernel registers state) p.0;
      run = λ dictionary kernel budget registers state r registers' state' p.
          told run_numbers (run_call dictionary kernel budget registers state).answer r (run_fine dictionary kernel budget registers state) p.0;
      log_append = λ log count v steps place awake r log' p.
          told log_append_numbers (log_append_call log count (entry v steps place awake)).answer r (log_append_fine log count (entry v steps place awake)) p.0;
      log_read = λ log count r p. told log_read_numbers (log_read_call log count) r (log_read_fine log count) p;
      log_runs = λ log count r p. told log_read_numbers (log_runs_call log count) r (log_runs_fine log count) p;
      log_run = λ log count answer state r log' p.
          told log_append_numbers (log_run_call log count answer state).answer r (log_run_fine log count answer state) p.0;
      list = λ dictionary kernel out r out' p. told list_numbers (list_call dictionary kernel out).answer r (list_fine dictionary kernel out) p.0;
      read = λ dictionary text out r out' p. told read_numbers (read_call dictionary text out).answer r (read_fine dictionary text out) p.0;
      place = λ order six x y out r out' p.
          told place_numbers (place_call order six (record { x = x; y = y }) out).answer r (place_fine order six (record { x = x; y = y }) out) p.0;
      place_kernel = λ out r out' p. told place_kernel_numbers (place_kernel_call out).answer r (place_kernel_fine out) p.0;
      place_load = λ six registers r registers' p. told place_load_numbers (place_load_call six registers).answer r (place_load_fine six registers) p.0;
    }

-- ---- a refusal changes nothing

-- An output that the paper confines to the result is kept.
pub kept : (numbers : ℕ → Bool) (w : Written) (out : List ℕ) (r : ℕ) (out' : List ℕ) → Fine numbers w.answer → Confined out w → Wrote w r out' → Kept out r out'
kept numbers w out r out' f c p =
    let t = told numbers w.answer r f p.0 in
    record {
      refused = λ n. p.1 ∙ c.refused (λ e. n (t.number ∙ e));
      fits = rw t.count c.fits;
      rest = (λ i. drop (t.count i) (p.1 i)) ∙ c.rest ∙ ap (λ (n : ℕ). drop n out) (sym t.count);
      same = ap length p.1 ∙ c.same;
    }
