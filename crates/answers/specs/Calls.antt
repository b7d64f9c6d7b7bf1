-- Every call's answer has one of that call's numbers, and fits in the number in which it crosses to C. Assumes nothing.
use Rattle.std.specs.Prelude.{Bool, true, false, not, cond, ◌&&◌, ◌||◌, List, ◌≡◌, refl, ℕ, ◌*◌, ◌≤◌, eqb, ltb, leb, length}
use Rattle.std.proofs.Common.{inl, inr, subst, arith, ltb-false, leb-false, le-leb}
use Rattle.std.proofs.Math.Option.{Option, none, some}
use Rattle.std.proofs.lemmas.List.{length-map}
use Rattle.std.proofs.lemmas.Bool.{not-false}
use Rattle.paper.specs.Bits.{bytes_of, number_at}
use Rattle.paper.specs.Limits.{dictionary_bytes, state_length, kernel_bytes, instruction_limit, budget_limit}
use Rattle.paper.specs.Dictionary.{dictionary_of, in_range}
use Rattle.paper.specs.Expand.{is_short, expand}
use Rattle.paper.specs.Shorten.{shorten}
use Rattle.paper.specs.Operation.{operation, is_listed, is_branch}
use Rattle.paper.specs.Kernel.{Instr, Forms, long_and_short, long_only, Judged, refused, passed, judge_at, Parsed, bad, good}
use Rattle.paper.specs.Machine.{State, Outcome, step, stops, stops_on, run}
use Rattle.paper.specs.Address.{address_stops}
use Rattle.paper.specs.Jump.{fetch}
use Rattle.paper.specs.Forward.{forward}
use Rattle.paper.specs.Enable.{digit}
use Rattle.paper.specs.State.{state_of, state_legal}
use Rattle.paper.specs.Packing.{Form, relay}
use Rattle.paper.specs.Calls.{Answer, verdict, refusal, refusal_with, number_of, Written, deliver, sized, accepted, judged_kernel, checked_as, check_call, forward_as, forward_call, relaid, pack_call, unpack_call, paired_as, pair_call}
use Rattle.paper.specs.Program.{line_of, program, agreed}
use Rattle.paper.specs.Calls.{one_word, shortened, shorten_call, expand_call, judged_as, decode_at, decoded_as, decode_call, start_call}
use Rattle.paper.specs.Calls.{Changed, all_sized, on_state, stopped_as, stepped_as, step_call, ran_as, run_call}
use Rattle.laws.specs.Bytes.{length-bytes_of}
use Rattle.laws.specs.Relay.{relay-length, new_end_near}
use Rattle.laws.specs.Agreed.{agreed_few}
use Rattle.laws.specs.Runs.{ran, Verdict, ended, spent, astray, verdict_says}
use Rattle.laws.specs.Masks.{digit_less}
use Rattle.answers.specs.Numbers.{one_to, check_numbers, forward_numbers, pack_numbers, unpack_numbers, pair_numbers, shorten_numbers, expand_numbers, decode_numbers, start_numbers, step_numbers, run_numbers}
use Rattle.answers.specs.Small.{Small, small_refusal, small_verdict, small_counts}
use Rattle.answers.specs.Judging.{Modest, modest_number, modest_above, modest_size, judged_modest}
use Rattle.answers.specs.Kernels.{KernelNo, Near, near_refused, near_number, near_few, near_more, near_fetched, sized_most, judged_near, accepted_near, Few, few_number, long_few}
use Rattle.laws.specs.Truth.{both_true}

-- ---- choices and refusals

-- What holds of both holds of a choice between them.
pub by_cond : {A : Type 0} (Q : A → Type 0) (b : Bool) (x y : A) → (b ≡ true → Q x) → (b ≡ false → Q y) → Q (cond b x y)
by_cond Q true x y h g = h refl
by_cond Q false x y h g = g refl

-- An answer's number is one of those asked for, and the answer fits.
pub record Fine (numbers : ℕ → Bool) (a : Answer) : Type 0 where
  pub listed : numbers (number_of a) ≡ true
  pub small : Small a

-- A refusal of up to 17 at an offset inside the longest kernel or at its end.
pub fine_no : (numbers : ℕ → Bool) (number offset : ℕ) → numbers number ≡ true → number ≤ 17 → offset ≤ kernel_bytes → Fine numbers (refusal number offset)
fine_no numbers number offset l n o = record { listed = l; small = small_refusal number offset (omega arith) (omega arith) }

-- A refusal of up to 31 that counts up to a kernel's bytes.
fine_counts : (numbers : ℕ → Bool) (number offset count : ℕ) → numbers number ≡ true → number ≤ 31 → offset ≤ kernel_bytes → count ≤ kernel_bytes
    → Fine numbers (refusal_with number offset count)
fine_counts numbers number offset count l n o c =
    record { listed = l; small = small_counts number offset count (omega arith) (omega arith) (omega arith) }

-- A verdict up to 21, with a count up to 1,000,000.
fine_told : (numbers : ℕ → Bool) (number count : ℕ) → numbers number ≡ true → number ≤ 21 → count ≤ budget_limit → Fine numbers (verdict number count)
fine_told numbers number count l n c = record { listed = l; small = small_verdict number count (omega arith) (omega arith) }

-- A kernel's refusal, where 1 to 12 are among the numbers, and 17 if it is that.
kernel_no : (others : ℕ → Bool) (number : ℕ) → (number ≡ 17 → others 17 ≡ true) → KernelNo number → (one_to 12 number || others number) ≡ true
kernel_no others number l (inl low) = rw (le-leb 1 number low.0, le-leb number 12 low.1)
kernel_no others number l (inr e) = rw e (l e)

pub fine_bad : (others : ℕ → Bool) (number offset : ℕ) → (number ≡ 17 → others 17 ≡ true) → Near kernel_bytes instruction_limit (bad number offset)
    → Fine (λ n. one_to 12 n || others n) (refusal number offset)
fine_bad others number offset l h =
    let b = near_refused kernel_bytes instruction_limit number offset h in
    fine_no (λ n. one_to 12 n || others n) number offset
    (kernel_no others number l (near_number kernel_bytes instruction_limit number offset h)) b.0 b.1

-- The answer of a call that leaves one buffer, or registers and state, is fine.
abbrev pub FineWritten : (ℕ → Bool) → Written → Type 0
FineWritten numbers r = Fine numbers r.answer

abbrev FineChanged : (ℕ → Bool) → Changed → Type 0
FineChanged numbers r = Fine numbers r.answer

-- ---- check

-- An accepted kernel's count is at most the limit of instructions.
pub check_fine : (dictionary kernel : List ℕ) → Fine check_numbers (check_call dictionary kernel)
unfolding check_call
check_fine dictionary kernel = go (accepted long_and_short dictionary kernel) (accepted_near long_and_short dictionary kernel)
  where
    go : (q : Parsed) → Near kernel_bytes instruction_limit q → Fine check_numbers (checked_as q)
    go (bad number offset) h = fine_bad (λ n. eqb n 0 || eqb n 17) number offset (λ _. refl) h
    go (good k) h = let f = near_few kernel_bytes instruction_limit k h in fine_told check_numbers 0 (length k) refl (omega arith) (omega arith)

-- ---- forward

-- The count is 0 or 1.
pub forward_fine : (dictionary kernel : List ℕ) → Fine forward_numbers (forward_call dictionary kernel)
unfolding forward_call
forward_fine dictionary kernel = go (accepted long_and_short dictionary kernel) (accepted_near long_and_short dictionary kernel)
  where
    go : (q : Parsed) → Near kernel_bytes instruction_limit q → Fine forward_numbers (forward_as q)
    go (bad number offset) h = fine_bad (λ n. eqb n 0 || eqb n 17) number offset (λ _. refl) h
    go (good k) h = fine_told forward_numbers 0 (digit (forward k)) refl (omega arith) (omega (arith, digit_less (forward k)))

-- ---- results

-- A result of up to 1,000,000 bytes, or 14. No kernel and no listing is longer.
pub deliver_fine : (numbers : ℕ → Bool) → numbers 14 ≡ true → numbers 0 ≡ true
    → (result out : List ℕ) → length result ≤ budget_limit → FineWritten numbers (deliver result out)
unfolding deliver
deliver_fine numbers full fine result out h =
    by_cond (FineWritten numbers) (ltb (length out) (length result)) _ _
    (λ _. fine_no numbers 14 0 full (omega arith) (omega arith)) (λ _. fine_told numbers 0 (length result) fine (omega arith) (omega arith))

-- A kernel laid out anew has at most as many long words as a kernel may have, which fill the longest kernel.
relaid_fine : (others : ℕ → Bool) → others 14 ≡ true → others 0 ≡ true
    → (form : Form) (out : List ℕ) (q : Parsed) → Near kernel_bytes instruction_limit q → ((number offset : ℕ) → q ≡ bad number offset → number ≡ 17 → others 17 ≡ true)
    → FineWritten (λ n. one_to 12 n || others n) (relaid form out q)
relaid_fine others full fine form out (bad number offset) h last = fine_bad others number offset (last number offset refl) h
relaid_fine others full fine form out (good k) h last =
    let l = relay-length form k in
    let n = new_end_near form k (near_few kernel_bytes instruction_limit k h) in
    deliver_fine (λ m. one_to 12 m || others m) full fine (relay form k) out (omega arith)

-- So the answers of packing and unpacking are fine.
pub pack_fine : (dictionary kernel out : List ℕ) → Fine pack_numbers (pack_call dictionary kernel out).answer
unfolding pack_call
pack_fine dictionary kernel out =
    relaid_fine (λ n. eqb n 0 || eqb n 14) refl refl (shorten (dictionary_of dictionary)) out (accepted long_only dictionary kernel) (accepted_near long_only dictionary kernel)
    (λ number offset e last. absurd (few_number number offset (subst Few e (long_few dictionary kernel)) last))

pub unpack_fine : (dictionary kernel out : List ℕ) → Fine unpack_numbers (unpack_call dictionary kernel out).answer
unfolding unpack_call
unpack_fine dictionary kernel out =
    relaid_fine (λ n. eqb n 0 || (eqb n 14 || eqb n 17)) refl refl (λ _. none) out (accepted long_and_short dictionary kernel) (accepted_near long_and_short dictionary kernel)
    (λ number offset e last. refl)

-- ---- pair

-- A kernel that is accepted has no more bytes than a kernel may have.
accepted_most : (forms : Forms) (dictionary kernel : List ℕ) (k : List Instr) → accepted forms dictionary kernel ≡ good k → length kernel ≤ kernel_bytes
unfolding accepted
accepted_most forms dictionary kernel k e = go (sized dictionary kernel) refl e
  where
    go : (t : Bool) → sized dictionary kernel ≡ t → cond t (judged_kernel forms dictionary kernel) (bad 1 0) ≡ good k → length kernel ≤ kernel_bytes
    go true h e = sized_most dictionary kernel h
    go false h e = let z : ◌≡◌ {A = ℕ} 0 1 = cc in absurd (omega arith)

-- 31 names an instruction's number, or how many there are; what is loaded is a kernel that was accepted.
pub pair_fine : (dictionary long sent : List ℕ) → Fine pair_numbers (pair_call dictionary long sent)
unfolding pair_call
pair_fine dictionary long sent =
    go (accepted long_only dictionary long) refl (accepted_near long_only dictionary long)
    (accepted long_and_short dictionary sent) refl (accepted_near long_and_short dictionary sent)
  where
    go : (p : Parsed) → accepted long_only dictionary long ≡ p → Near kernel_bytes instruction_limit p
        → (q : Parsed) → accepted long_and_short dictionary sent ≡ q → Near kernel_bytes instruction_limit q → Fine pair_numbers (paired_as long sent p q)
    go (bad number offset) e n q f m = fine_bad (λ x. eqb x 0 || (eqb x 17 || eqb x 31)) number offset (λ _. refl) n
    go (good k) e n (bad number offset) f m =
        let b = near_refused kernel_bytes instruction_limit number offset m in
        fine_counts pair_numbers number offset (length long)
        (kernel_no (λ x. eqb x 0 || (eqb x 17 || eqb x 31)) number (λ _. refl) (near_number kernel_bytes instruction_limit number offset m))
        (omega (arith, b.0)) b.1 (accepted_most long_only dictionary long k e)
    go (good k) e n (good l) f m =
        let same = agreed (program k) (program l) in
        let low = agreed_few (program k) (program l) in
        let few = near_few kernel_bytes instruction_limit k n in
        let lines = length-map k (line_of k) in
        let sent_most = accepted_most long_and_short dictionary sent l f in
        by_cond (Fine pair_numbers) (eqb same (length k) && eqb same (length l)) _ _
        (λ _. fine_told pair_numbers 0 (length sent) refl (omega arith) (omega arith))
        (λ _. fine_counts pair_numbers 31 same (length long) refl (omega arith) (omega arith) (accepted_most long_only dictionary long k e))

-- ---- one word

-- The checks of a single word, where what its form says fits.
word_fine : (numbers : ℕ → Bool) → numbers 1 ≡ true → numbers 2 ≡ true → numbers 4 ≡ true
    → (dictionary : List ℕ) (fits : Bool) (w : ℕ) (out : List ℕ) (further : Written)
    → FineWritten numbers further → FineWritten numbers (one_word dictionary fits w out further)
unfolding one_word
word_fine numbers one two four dictionary fits w out further h =
    by_cond (FineWritten numbers) (not (eqb (length dictionary) dictionary_bytes && fits)) _ _
    (λ _. fine_no numbers 1 0 one (omega arith) (omega arith))
    (λ _. by_cond (FineWritten numbers) (not (in_range (dictionary_of dictionary))) _ _
    (λ _. fine_no numbers 2 0 two (omega arith) (omega arith))
    (λ _. by_cond (FineWritten numbers) (not (is_listed (operation w))) _ _
    (λ _. fine_no numbers 4 0 four (omega arith) (omega arith)) (λ _. h)))

-- A short word has 8 bytes.
shortened_fine : (s : Option ℕ) (out : List ℕ) → FineWritten shorten_numbers (shortened s out)
shortened_fine none out = fine_no shorten_numbers 13 0 refl (omega arith) (omega arith)
shortened_fine (some s) out = deliver_fine shorten_numbers refl refl (bytes_of 8 s) out (rw (length-bytes_of 8 s) (omega arith))

-- So the answers of shortening and expanding are fine.
pub shorten_fine : (dictionary word out : List ℕ) → Fine shorten_numbers (shorten_call dictionary word out).answer
unfolding shorten_call
shorten_fine dictionary word out =
    let w = number_at word 0 16 in
    word_fine shorten_numbers refl refl refl dictionary (eqb (length word) 16) w out _
    (by_cond (FineWritten shorten_numbers) (is_short w) _ _ (λ _. fine_no shorten_numbers 5 0 refl (omega arith) (omega arith))
    (λ _. shortened_fine (shorten (dictionary_of dictionary) w) out))

pub expand_fine : (dictionary word out : List ℕ) → Fine expand_numbers (expand_call dictionary word out).answer
unfolding expand_call
expand_fine dictionary word out =
    let s = number_at word 0 8 in
    let w = expand (dictionary_of dictionary) s in
    word_fine expand_numbers refl refl refl dictionary (eqb (length word) 8) s out _
    (by_cond (FineWritten expand_numbers) (not (is_short s) || is_branch (operation s)) _ _
    (λ _. fine_no expand_numbers 5 0 refl (omega arith) (omega arith))
    (λ _. deliver_fine expand_numbers refl refl (bytes_of 16 w) out (rw (length-bytes_of 16 w) (omega arith))))

-- ---- decode

-- What is said of one instruction: it has at most 16 bytes.
judged_fine : (offset : ℕ) (v : Judged) → offset ≤ kernel_bytes → Modest v → Fine decode_numbers (decoded_as (judged_as offset v))
judged_fine offset (refused number) o m =
    let n = modest_number number m in
    fine_no decode_numbers number offset (rw (le-leb 1 number (modest_above number m), le-leb number 11 n)) (omega arith) o
judged_fine offset (passed size w) o m = let s = modest_size size w m in fine_told decode_numbers 0 (8 * size) refl (omega arith) (omega arith)

-- A place that lies inside has an offset under the kernel's length.
pub decode_fine : (dictionary kernel : List ℕ) (place : ℕ) → Fine decode_numbers (decode_call dictionary kernel place)
unfolding decode_call decode_at
decode_fine dictionary kernel place =
    let D = dictionary_of dictionary in
    by_cond (λ d. Fine decode_numbers (decoded_as d)) (not (sized dictionary kernel)) _ _ (λ _. fine_no decode_numbers 1 0 refl (omega arith) (omega arith))
    (λ right. by_cond (λ d. Fine decode_numbers (decoded_as d)) (not (in_range D)) _ _ (λ _. fine_no decode_numbers 2 0 refl (omega arith) (omega arith))
    (λ _. by_cond (λ d. Fine decode_numbers (decoded_as d)) (leb (length kernel) (8 * place)) _ _ (λ _. fine_no decode_numbers 3 0 refl (omega arith) (omega arith))
    (λ inside.
    let most = sized_most dictionary kernel (not-false _ right) in
    let before = leb-false (length kernel) (8 * place) inside in
    judged_fine (8 * place) (judge_at long_and_short D kernel (8 * place)) (omega arith) (judged_modest long_and_short D kernel (8 * place)))))

-- ---- start, step and run

-- A start answers 0 or 1.
pub start_fine : (mask flag0 flag1 : ℕ) (bytes : List ℕ) → Fine start_numbers (start_call mask flag0 flag1 bytes).answer
unfolding start_call
start_fine mask flag0 flag1 bytes =
    by_cond (FineWritten start_numbers) (eqb (length bytes) state_length) _ _
    (λ _. fine_told start_numbers 0 0 refl (omega arith) (omega arith)) (λ _. fine_no start_numbers 1 0 refl (omega arith) (omega arith))

-- What is done with a state has a fine answer where it has one on every accepted kernel.
state_fine : (others : ℕ → Bool) → others 17 ≡ true → others 15 ≡ true → (registers bytes : List ℕ) (go : List Instr → State → Changed)
    → ((k : List Instr) (s : State) → Near kernel_bytes instruction_limit (good k) → FineChanged (λ n. one_to 12 n || others n) (go k s))
    → (q : Parsed) → Near kernel_bytes instruction_limit q → FineChanged (λ n. one_to 12 n || others n) (on_state registers bytes go q)
state_fine others last illegal registers bytes go h (bad number offset) n = fine_bad others number offset (λ _. last) n
state_fine others last illegal registers bytes go h (good k) n =
    by_cond (FineChanged (λ m. one_to 12 m || others m)) (state_legal k registers bytes) _ _ (λ _. h k (state_of registers bytes) n)
    (λ _. fine_no (λ m. one_to 12 m || others m) 15 0 illegal (omega arith) (omega arith))

-- 22 at an instruction of an accepted kernel: its place is inside, and it counts up to 1,000,000 steps.
fine_astray : (numbers : ℕ → Bool) → numbers 22 ≡ true → (k : List Instr) → Near kernel_bytes instruction_limit (good k)
    → (place : ℕ) (i : Instr) → fetch k place ≡ some i → (steps : ℕ) → steps ≤ budget_limit → Fine numbers (refusal_with 22 (8 * place) steps)
fine_astray numbers l k n place i e steps c =
    let inside = near_fetched kernel_bytes instruction_limit k place i n e in
    record { listed = l; small = small_counts 22 (8 * place) steps (omega arith) (omega arith) (omega arith) }

-- A kernel that is judged once all sizes are right.
lent_near : (dictionary kernel registers bytes : List ℕ) → all_sized dictionary kernel registers bytes ≡ true
    → Near kernel_bytes instruction_limit (judged_kernel long_and_short dictionary kernel)
lent_near dictionary kernel registers bytes e =
    near_more (length kernel) kernel_bytes instruction_limit _ (sized_most dictionary kernel (both_true (sized dictionary kernel) _ e).0)
    (judged_near long_and_short dictionary kernel)

-- A step answers 0, 20, 22 or a refusal, and counts nothing.
pub step_fine : (dictionary kernel registers bytes : List ℕ) → Fine step_numbers (step_call dictionary kernel registers bytes).answer
unfolding step_call
step_fine dictionary kernel registers bytes =
    by_cond (FineChanged step_numbers) (all_sized dictionary kernel registers bytes) _ _
    (λ right. state_fine (λ n. eqb n 0 || (eqb n 15 || (eqb n 17 || (eqb n 20 || eqb n 22)))) refl refl registers bytes
    (λ k s. stepped_as (stops k s) registers bytes s (step k s)) stepped _ (lent_near dictionary kernel registers bytes right))
    (λ _. fine_no step_numbers 1 0 refl (omega arith) (omega arith))
  where
    stepped : (k : List Instr) (s : State) → Near kernel_bytes instruction_limit (good k)
        → FineChanged step_numbers (stepped_as (stops k s) registers bytes s (step k s))
    stepped k s near = go (fetch k s.place) refl (step k s)
      where
        go : (o : Option Instr) → fetch k s.place ≡ o → (after : State)
            → FineChanged step_numbers (stepped_as (stops_on o s.store.addresses) registers bytes s after)
        go none e after = fine_told step_numbers 20 0 refl (omega arith) (omega arith)
        go (some i) e after = by (address_stops s.store.addresses i.word)
          where
            by : (t : Bool) → FineChanged step_numbers (stepped_as (cond t (some 22) none) registers bytes s after)
            by true = fine_astray step_numbers refl k near s.place i e 0 (omega arith)
            by false = fine_told step_numbers 0 0 refl (omega arith) (omega arith)

-- A run makes no more steps than its budget, which is at most 1,000,000.
pub run_fine : (dictionary kernel : List ℕ) (budget : ℕ) (registers bytes : List ℕ)
    → Fine run_numbers (run_call dictionary kernel budget registers bytes).answer
unfolding run_call
run_fine dictionary kernel budget registers bytes =
    by_cond (FineChanged run_numbers) (not (all_sized dictionary kernel registers bytes)) _ _ (λ _. fine_no run_numbers 1 0 refl (omega arith) (omega arith))
    (λ right. by_cond (FineChanged run_numbers) (ltb budget_limit budget) _ _ (λ _. fine_no run_numbers 16 0 refl (omega arith) (omega arith))
    (λ within. state_fine (λ n. eqb n 15 || (eqb n 16 || (eqb n 17 || (eqb n 20 || (eqb n 21 || eqb n 22))))) refl refl registers bytes
    (λ k s. ran_as (run k budget s)) (made (ltb-false budget_limit budget within)) _ (lent_near dictionary kernel registers bytes (not-false _ right))))
  where
    made : budget ≤ budget_limit → (k : List Instr) (s : State) → Near kernel_bytes instruction_limit (good k) → FineChanged run_numbers (ran_as (run k budget s))
    made within k s near = go (verdict_says k budget s)
      where
        o : Outcome
        o = run k budget s

        few : o.steps ≤ budget_limit
        few = let r = (ran (stops k) (step k) budget s).within in omega arith

        go : Verdict k budget o → Fine run_numbers (stopped_as o.verdict o.state.place o.steps)
        go (ended v f) = rw v (fine_told run_numbers 20 o.steps refl (omega arith) few)
        go (spent v n i f) = rw v (fine_told run_numbers 21 o.steps refl (omega arith) few)
        go (astray v n i f a) = rw v (fine_astray run_numbers refl k near o.state.place i f o.steps few)
