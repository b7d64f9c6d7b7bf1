-- A refusal changes nothing, and so demand 1 holds. Assumes nothing.
use Rattle.std.specs.Prelude.{◌≡◌, ℕ, ◌*◌, length, take, drop}
use Rattle.std.proofs.Common.{inl, inr, sym, ap, ◌∙◌, arith}
use Rattle.paper.specs.Calls.{pack_call, unpack_call, shorten_call, expand_call, decode_part}
use Rattle.laws.specs.Calls.{pack_confined, unpack_confined, shorten_confined, expand_confined, start_confined, decode_refused, step-unchanged, run-unchanged, list_confined, read_confined, place_confined, place_kernel_confined, place_load_unchanged}
use Rattle.paper.specs.Log.{entry, log_append_call, log_run_call}
use Rattle.paper.specs.Listing.{list_call, read_call}
use Rattle.paper.specs.Placing.{Point, place_call, place_kernel_call}
use Rattle.run_log.specs.Appends.{append_confined, run_confined}
use Rattle.answers.specs.Logs.{log_append_fine, log_run_fine}
use Rattle.answers.specs.Listings.{list_fine, read_fine}
use Rattle.answers.specs.Placings.{place_fine, place_kernel_fine}
use Rattle.contracts.specs.Contracts.{count_in}
use Rattle.answers.specs.Numbers.{pack_numbers, unpack_numbers, shorten_numbers, expand_numbers, log_append_numbers, list_numbers, read_numbers, place_numbers, place_kernel_numbers}
use Rattle.contracts.proofs.OneOutcomeHolds.{one_outcome}
use Rattle.promises.specs.Promises.{Refusals, Demand1}
use Rattle.promises.specs.Results.{decode_inside, part_are, part_length}
use Rattle.answers.specs.Calls.{pack_fine, unpack_fine, shorten_fine, expand_fine}
use Rattle.promises.specs.OutcomesHold.{answers, kept}

-- ---- a refusal changes nothing

refusals : Refusals
refusals =
    record {
      pack = λ dictionary kernel out r out'.
          kept pack_numbers (pack_call dictionary kernel out) out r out' (pack_fine dictionary kernel out) (pack_confined dictionary kernel out);
      unpack = λ dictionary kernel out r out'.
          kept unpack_numbers (unpack_call dictionary kernel out) out r out' (unpack_fine dictionary kernel out) (unpack_confined dictionary kernel out);
      shorten = λ dictionary word out r out'.
          kept shorten_numbers (shorten_call dictionary word out) out r out' (shorten_fine dictionary word out) (shorten_confined dictionary word out);
      expand = λ dictionary word out r out'.
          kept expand_numbers (expand_call dictionary word out) out r out' (expand_fine dictionary word out) (expand_confined dictionary word out);
      start = λ mask flag0 flag1 state r state' p n.
          let t = answers.start mask flag0 flag1 state r state' p in
          p.1 ∙ (start_confined mask flag0 flag1 state).refused (λ e. n (t.number ∙ e));
      step = λ dictionary kernel registers state r registers' state' p n.
          let t = answers.step dictionary kernel registers state r registers' state' p in
          let u = step-unchanged dictionary kernel registers state (λ e. n (t.number ∙ e)) in
          (p.1 ∙ u.same_registers, p.2 ∙ u.same_state);
      run = λ dictionary kernel budget registers state r registers' state' p n m a.
          let t = answers.run dictionary kernel budget registers state r registers' state' p in
          let u = run-unchanged dictionary kernel budget registers state (λ e. n (t.number ∙ e)) (λ e. m (t.number ∙ e)) (λ e. a (t.number ∙ e)) in
          (p.1 ∙ u.same_registers, p.2 ∙ u.same_state);
      log_append = λ log count v steps place awake r log'.
          kept log_append_numbers (log_append_call log count (entry v steps place awake)) log r log' (log_append_fine log count (entry v steps place awake))
          (append_confined log count (entry v steps place awake));
      log_run = λ log count answer state r log'.
          kept log_append_numbers (log_run_call log count answer state) log r log' (log_run_fine log count answer state) (run_confined log count answer state);
      list = λ dictionary kernel out r out'.
          kept list_numbers (list_call dictionary kernel out) out r out' (list_fine dictionary kernel out) (list_confined dictionary kernel out);
      read = λ dictionary text out r out'.
          kept read_numbers (read_call dictionary text out) out r out' (read_fine dictionary text out) (read_confined dictionary text out);
      place = λ order six x y out r out'.
          let at : Point = record { x = x; y = y } in
          kept place_numbers (place_call order six at out) out r out' (place_fine order six at out) (place_confined order six at out);
      place_kernel = λ out r out'. kept place_kernel_numbers (place_kernel_call out) out r out' (place_kernel_fine out) (place_kernel_confined out);
      place_load = λ six registers r registers' p n.
          let t = answers.place_load six registers r registers' p in
          p.1 ∙ place_load_unchanged six registers (λ e. n (t.number ∙ e));
    }

-- ---- the demand

pub demand_1 : Demand1
demand_1 =
    record {
      one_outcome = one_outcome;
      answers = answers;
      refusals = refusals;
      decodes_inside = λ dictionary kernel place r p zero.
          let t = answers.decode dictionary kernel place r p in
          let i = decode_inside dictionary kernel place (sym t.number ∙ zero) in
          rw t.count (i.size, i.ends);
      decodes_part = λ dictionary kernel place r p.
          let t = answers.decode dictionary kernel place r p in
          let long : length (decode_part dictionary kernel place) ≡ count_in r = part_length dictionary kernel place ∙ sym t.count in
          record {
            are = part_are dictionary kernel place ∙ ap (λ (n : ℕ). take n (drop (8 * place) kernel)) (sym t.count);
            counted = long;
            empty = λ n. decode_refused dictionary kernel place (λ e. n (t.number ∙ e));
            whole = λ none zero.
                let i = decode_inside dictionary kernel place (sym t.number ∙ zero) in
                let no : length (decode_part dictionary kernel place) ≡ 0 = ap length none in
                elim i.size [ inl e ↦ omega (arith, t.count) | inr e ↦ omega (arith, t.count) ];
          };
    }
