-- What the calls leave alone: a refusal changes nothing that was lent, a step at the end changes nothing, and of a lent buffer only the result's
-- bytes are written. Assumes nothing.
use Rattle.std.specs.Prelude.{◌≡◌, refl, Bool, true, false, not, cond, ◌&&◌, ◌||◌, List, [], ◌++◌, ℕ, zero, suc, ◌*◌, ◌≤◌, ltb, eqb, length, drop}
use Rattle.std.proofs.Common.{ap, ◌∙◌, sym, arith, length-append, length-drop, ltb-false, eqb-true}
use Rattle.std.proofs.Math.Option.{Option, none, some}
use Rattle.std.proofs.Math.Seq.{drop-append_seam}
use Rattle.paper.specs.Bits.{bytes_of, number_at}
use Rattle.paper.specs.Limits.{dictionary_bytes, register_bytes, state_length, budget_limit}
use Rattle.paper.specs.Dictionary.{Dictionary, dictionary_of, in_range}
use Rattle.paper.specs.Expand.{is_short, expand}
use Rattle.paper.specs.Shorten.{shorten}
use Rattle.paper.specs.Operation.{operation, is_listed, is_branch}
use Rattle.paper.specs.Kernel.{Instr, long_and_short, long_only, Parsed, bad, good}
use Rattle.paper.specs.Machine.{State, step, stops, run, start_from, start}
use Rattle.paper.specs.State.{state_of, state_legal, state_bytes}
use Rattle.paper.specs.Packing.{Form, relay}
use Rattle.paper.specs.Calls.{Answer, verdict, refusal, refusal_with, number_of, count_of, Written, kept, deliver, judged_kernel, accepted, relaid, pack_call, unpack_call, one_word}
use Rattle.paper.specs.Calls.{shortened, shorten_call, expand_call}
use Rattle.paper.specs.Calls.{Decoded, undecoded, decoded, decode_at, decoded_as, decode_call, part_of, decode_part, fresh_store, start_call}
use Rattle.paper.specs.Calls.{Changed, unchanged, all_sized, on_state, stopped_as, stepped_as, step_call, ran_as, run_call}
use Rattle.laws.specs.Runs.{Verdict, ended, spent, astray, verdict_says}
use Rattle.paper.specs.Listing.{listing, listed_as, list_call, Listing, faulty, listed, read_listing, kernel_of, read_as, read_call}
use Rattle.paper.specs.Placing.{Point, record_bytes, placement_of, point_bytes, order_of, is_order, answered, place_kernel, loaded_with, place_call, place_kernel_call, place_load_call}
use Rattle.laws.specs.StateBytes.{length-state_bytes}

-- ---- calls that write a result into a lent buffer

-- What such a call leaves of the buffer `out`: all of it unless the answer is 0; what stands past the count's bytes, and its length, in any case.
pub record Confined (out : List ℕ) (r : Written) : Type 0 where
  pub refused : (number_of r.answer ≡ 0 → ⊥) → r.output ≡ out
  pub fits : count_of r.answer ≤ length out
  pub rest : drop (count_of r.answer) r.output ≡ drop (count_of r.answer) out
  pub same : length r.output ≡ length out

-- A refusal leaves all.
confined_refusal : (number offset : ℕ) (out : List ℕ) → Confined out (kept (refusal number offset) out)
confined_refusal number offset out = record { refused = λ _. refl; fits = omega arith; rest = refl; same = refl }

-- A choice between two answers leaves what both leave.
confined_cond : (out : List ℕ) (b : Bool) (x y : Written) → Confined out x → Confined out y → Confined out (cond b x y)
confined_cond out true x y h g = h
confined_cond out false x y h g = g

-- A result that fits takes the place of the first bytes only.
delivered : (result out : List ℕ) → length result ≤ length out
    → Confined out (record { answer = verdict 0 (length result); output = result ++ drop (length result) out })
delivered result out h =
    record {
      refused = λ n. absurd (n refl);
      fits = h;
      rest = drop-append_seam result (drop (length result) out);
      same = simp (length-append, length-drop) (omega arith);
    }

-- Delivering a result, or 14.
confined_deliver : (result out : List ℕ) → Confined out (deliver result out)
unfolding deliver
confined_deliver result out = pick (ltb (length out) (length result)) refl
  where
    pick : (b : Bool) → ltb (length out) (length result) ≡ b
        → Confined out (cond b (kept (refusal 14 0) out) (record { answer = verdict 0 (length result); output = result ++ drop (length result) out }))
    pick true e = confined_refusal 14 0 out
    pick false e = delivered result out (ltb-false (length out) (length result) e)

-- A kernel laid out again, or its refusal.
confined_relaid : (form : Form) (out : List ℕ) (parsed : Parsed) → Confined out (relaid form out parsed)
confined_relaid form out (bad number offset) = confined_refusal number offset out
confined_relaid form out (good k) = confined_deliver (relay form k) out

-- Packing writes no byte of `out` past the packed kernel, and none at all on refusal.
pub pack_confined : (dictionary kernel out : List ℕ) → Confined out (pack_call dictionary kernel out)
unfolding pack_call
pack_confined dictionary kernel out = confined_relaid (shorten (dictionary_of dictionary)) out (accepted long_only dictionary kernel)

-- Unpacking likewise.
pub unpack_confined : (dictionary kernel out : List ℕ) → Confined out (unpack_call dictionary kernel out)
unfolding unpack_call
unpack_confined dictionary kernel out = confined_relaid (λ _. none) out (accepted long_and_short dictionary kernel)

-- The checks of a single word leave what its form leaves.
confined_word : (dictionary : List ℕ) (fits : Bool) (w : ℕ) (out : List ℕ) (further : Written)
    → Confined out further → Confined out (one_word dictionary fits w out further)
unfolding one_word
confined_word dictionary fits w out further h =
    confined_cond out (not (eqb (length dictionary) dictionary_bytes && fits)) _ _ (confined_refusal 1 0 out)
    (confined_cond out (not (in_range (dictionary_of dictionary))) _ _ (confined_refusal 2 0 out)
    (confined_cond out (not (is_listed (operation w))) _ _ (confined_refusal 4 0 out) h))

-- A short word, or 13.
confined_shortened : (s : Option ℕ) (out : List ℕ) → Confined out (shortened s out)
confined_shortened none out = confined_refusal 13 0 out
confined_shortened (some s) out = confined_deliver (bytes_of 8 s) out

-- Shortening writes no byte past the short word, and none at all on refusal.
pub shorten_confined : (dictionary word out : List ℕ) → Confined out (shorten_call dictionary word out)
unfolding shorten_call
shorten_confined dictionary word out =
    confined_word dictionary (eqb (length word) 16) (number_at word 0 16) out _
    (confined_cond out (is_short (number_at word 0 16)) _ _ (confined_refusal 5 0 out)
    (confined_shortened (shorten (dictionary_of dictionary) (number_at word 0 16)) out))

-- Expanding writes no byte past the long word, and none at all on refusal.
pub expand_confined : (dictionary word out : List ℕ) → Confined out (expand_call dictionary word out)
unfolding expand_call
expand_confined dictionary word out =
    let s = number_at word 0 8 in
    confined_word dictionary (eqb (length word) 8) s out _
    (confined_cond out (not (is_short s) || is_branch (operation s)) _ _ (confined_refusal 5 0 out)
    (confined_deliver (bytes_of 16 (expand (dictionary_of dictionary) s)) out))

-- Listing writes no byte past the text, and none at all on refusal.
pub list_confined : (dictionary kernel out : List ℕ) → Confined out (list_call dictionary kernel out)
unfolding list_call
list_confined dictionary kernel out = go (accepted long_and_short dictionary kernel)
  where
    go : (parsed : Parsed) → Confined out (listed_as out parsed)
    go (bad number offset) = confined_refusal number offset out
    go (good k) = confined_deliver (listing k) out

-- Reading writes no byte past the kernel, and none at all on refusal.
pub read_confined : (dictionary text out : List ℕ) → Confined out (read_call dictionary text out)
unfolding read_call
read_confined dictionary text out =
    confined_cond out (not (eqb (length dictionary) dictionary_bytes)) _ _ (confined_refusal 1 0 out)
    (confined_cond out (not (in_range (dictionary_of dictionary))) _ _ (confined_refusal 2 0 out)
    (go (dictionary_of dictionary) (read_listing (dictionary_of dictionary) text)))
  where
    go : (D : Dictionary) (q : Listing) → Confined out (read_as D out q)
    go D (faulty from) = confined_refusal 30 from out
    go D (listed k) = confined_deliver (kernel_of D k) out

-- An order's answer writes no byte past the two patterns, and none at all on refusal.
pub place_confined : (order : ℕ) (bytes : List ℕ) (at : Point) (out : List ℕ) → Confined out (place_call order bytes at out)
unfolding place_call
place_confined order bytes at out =
    confined_cond out (not (eqb (length bytes) record_bytes)) _ _ (confined_refusal 1 0 out)
    (confined_cond out (not (is_order order)) _ _ (confined_refusal 7 0 out)
    (confined_deliver (point_bytes (answered (order_of order (placement_of bytes)) at)) out))

-- The fixed kernel is written where it has room, and nothing past it.
pub place_kernel_confined : (out : List ℕ) → Confined out (place_kernel_call out)
unfolding place_kernel_call
place_kernel_confined out = confined_deliver place_kernel out

-- A record that is not loaded leaves the registers as they were.
pub place_load_unchanged : (bytes registers : List ℕ) → (number_of (place_load_call bytes registers).answer ≡ 0 → ⊥)
    → (place_load_call bytes registers).output ≡ registers
unfolding place_load_call
place_load_unchanged bytes registers = pick (eqb (length bytes) record_bytes && eqb (length registers) register_bytes)
  where
    loaded : Bool → Written
    loaded b = cond b (record { answer = verdict 0 0; output = loaded_with bytes registers }) (kept (refusal 1 0) registers)

    pick : (b : Bool) → (number_of (loaded b).answer ≡ 0 → ⊥) → (loaded b).output ≡ registers
    pick true n = absurd (n refl)
    pick false n = refl

-- ---- decode

-- A refused decode lends out no bytes.
pub decode_refused : (dictionary kernel : List ℕ) (place : ℕ) → (number_of (decode_call dictionary kernel place) ≡ 0 → ⊥)
    → decode_part dictionary kernel place ≡ []
unfolding decode_call decode_part
decode_refused dictionary kernel place = go (decode_at dictionary kernel place)
  where
    go : (d : Decoded) → (number_of (decoded_as d) ≡ 0 → ⊥) → part_of kernel (8 * place) d ≡ []
    go (undecoded number offset) h = refl
    go (decoded size w) h = absurd (h refl)

-- ---- start

-- A start has as many channels as are asked for.
sixteen : (mask n c : ℕ) → length (start_from mask n c) ≡ c
unfolding start_from
sixteen mask n zero = refl
sixteen mask n (suc c) = ap suc (sixteen mask (suc n) c)

-- What a start leaves of the state's bytes: all of them unless the answer is 0, and their length in any case.
pub record StartConfined (bytes : List ℕ) (r : Written) : Type 0 where
  pub refused : (number_of r.answer ≡ 0 → ⊥) → r.output ≡ bytes
  pub same : length r.output ≡ length bytes

-- A refused start leaves the state as it was, and any start its length.
pub start_confined : (mask flag0 flag1 : ℕ) (bytes : List ℕ) → StartConfined bytes (start_call mask flag0 flag1 bytes)
unfolding start_call
start_confined mask flag0 flag1 bytes = pick (eqb (length bytes) state_length) refl
  where
    begun : State
    begun = start (fresh_store [] flag0 flag1) mask

    pick : (b : Bool) → eqb (length bytes) state_length ≡ b
        → StartConfined bytes (cond b (record { answer = verdict 0 0; output = state_bytes begun }) (kept (refusal 1 0) bytes))
    pick true e =
        record {
          refused = λ n. absurd (n refl);
          same = length-state_bytes begun (sixteen mask 0 16) refl ∙ sym (eqb-true (length bytes) state_length e);
        }
    pick false e = record { refused = λ _. refl; same = refl }

-- ---- step and run

-- Registers and state hold what they held.
pub record Unchanged (registers bytes : List ℕ) (r : Changed) : Type 0 where
  pub same_registers : r.registers ≡ registers
  pub same_state : r.state ≡ bytes

-- What holds of two outcomes holds of a choice between them.
by_cond : (Q : Changed → Type 0) (b : Bool) (x y : Changed) → Q x → Q y → Q (cond b x y)
by_cond Q true x y h g = h
by_cond Q false x y h g = g

-- What holds of every answer that changes nothing, and of what is done with an accepted kernel and a state, holds of a call on a state.
on_state_lem : (Q : Changed → Type 0) (registers bytes : List ℕ) (go : List Instr → State → Changed)
    → ((a : Answer) → Q (unchanged a registers bytes)) → ((k : List Instr) (s : State) → Q (go k s))
    → (parsed : Parsed) → Q (on_state registers bytes go parsed)
on_state_lem Q registers bytes go h g (bad number offset) = h (refusal number offset)
on_state_lem Q registers bytes go h g (good k) =
    by_cond Q (state_legal k registers bytes) _ _ (g k (state_of registers bytes)) (h (refusal 15 0))

-- An answer that changes nothing.
same : (registers bytes : List ℕ) (a : Answer) → Unchanged registers bytes (unchanged a registers bytes)
same registers bytes a = record { same_registers = refl; same_state = refl }

-- A step that does not answer 0 changes nothing: a refusal does not, 22 neither, nor does 20, the end.
pub step-unchanged : (dictionary kernel registers bytes : List ℕ)
    → (number_of (step_call dictionary kernel registers bytes).answer ≡ 0 → ⊥)
    → Unchanged registers bytes (step_call dictionary kernel registers bytes)
unfolding step_call
step-unchanged dictionary kernel registers bytes =
    by_cond Q (all_sized dictionary kernel registers bytes) _ _
    (on_state_lem Q registers bytes (λ k s. stepped_as (stops k s) registers bytes s (step k s)) (λ a n. same registers bytes a)
    (λ k s. stepped (stops k s) s (step k s)) (judged_kernel long_and_short dictionary kernel))
    (λ n. same registers bytes (refusal 1 0))
  where
    Q : Changed → Type 0
    Q r = (number_of r.answer ≡ 0 → ⊥) → Unchanged registers bytes r

    stepped : (o : Option ℕ) (before after : State) → Q (stepped_as o registers bytes before after)
    stepped none before after n = absurd (n refl)
    stepped (some number) before after n = same registers bytes (stopped_as number before.place 0)

-- The number of what a run answers is its verdict.
pub stopped_number : (number place steps : ℕ) → number_of (stopped_as number place steps) ≡ number
stopped_number number place steps = go (eqb number 22) refl
  where
    go : (t : Bool) → eqb number 22 ≡ t → number_of (cond t (refusal_with 22 (8 * place) steps) (verdict number steps)) ≡ number
    go true e = sym (eqb-true number 22 e)
    go false e = refl

-- Its count is the steps.
pub stopped_count : (number place steps : ℕ) → count_of (stopped_as number place steps) ≡ steps
stopped_count number place steps = go (eqb number 22)
  where
    go : (t : Bool) → count_of (cond t (refusal_with 22 (8 * place) steps) (verdict number steps)) ≡ steps
    go true = refl
    go false = refl

-- A run that answers none of 20, 21 and 22 changes nothing.
pub run-unchanged : (dictionary kernel : List ℕ) (budget : ℕ) (registers bytes : List ℕ)
    → (number_of (run_call dictionary kernel budget registers bytes).answer ≡ 20 → ⊥)
    → (number_of (run_call dictionary kernel budget registers bytes).answer ≡ 21 → ⊥)
    → (number_of (run_call dictionary kernel budget registers bytes).answer ≡ 22 → ⊥)
    → Unchanged registers bytes (run_call dictionary kernel budget registers bytes)
unfolding run_call
run-unchanged dictionary kernel budget registers bytes =
    by_cond Q (not (all_sized dictionary kernel registers bytes)) _ _ (λ e t a. same registers bytes (refusal 1 0))
    (by_cond Q (ltb budget_limit budget) _ _ (λ e t a. same registers bytes (refusal 16 0))
    (on_state_lem Q registers bytes (λ k s. ran_as (run k budget s)) (λ c e t a. same registers bytes c)
    (λ k s e t a. absurd (told k s (verdict_says k budget s) e t a)) (judged_kernel long_and_short dictionary kernel)))
  where
    Q : Changed → Type 0
    Q r = (number_of r.answer ≡ 20 → ⊥) → (number_of r.answer ≡ 21 → ⊥) → (number_of r.answer ≡ 22 → ⊥) → Unchanged registers bytes r

    number : (k : List Instr) (s : State) → number_of (ran_as (run k budget s)).answer ≡ (run k budget s).verdict
    number k s = stopped_number (run k budget s).verdict (run k budget s).state.place (run k budget s).steps

    told : (k : List Instr) (s : State) → Verdict k budget (run k budget s)
        → (number_of (ran_as (run k budget s)).answer ≡ 20 → ⊥) → (number_of (ran_as (run k budget s)).answer ≡ 21 → ⊥)
        → (number_of (ran_as (run k budget s)).answer ≡ 22 → ⊥) → ⊥
    told k s (ended v f) e t a = e (number k s ∙ v)
    told k s (spent v n i f) e t a = t (number k s ∙ v)
    told k s (astray v n i f b) e t a = a (number k s ∙ v)
