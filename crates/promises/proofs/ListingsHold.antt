-- What is promised of listings holds. Assumes nothing.
use Rattle.std.specs.Prelude.{Bool, not, cond, ◌≡◌, ℕ, ◌*◌, ◌≤◌, ltb, length}
use Rattle.std.proofs.Math.Bool.{true, false}
use mathlib.Core.List.{List}
use Rattle.std.proofs.Math.Path.{refl, ap}
use Rattle.std.proofs.Common.{sym, ◌∙◌, subst, arith, eqb-true, eq-eqb}
use Rattle.std.proofs.Math.Dec.{eqb}
use Rattle.std.proofs.Math.Pow.{are_bytes}
use Rattle.paper.specs.Limits.{dictionary_bytes, kernel_bytes, instruction_limit}
use Rattle.paper.specs.Dictionary.{Dictionary, dictionary_of, in_range}
use Rattle.paper.specs.Kernel.{Instr, long_and_short, Parsed, bad, good}
use Rattle.paper.specs.Calls.{refusal, as_number, number_of, offset_of, count_of, Written, kept, deliver, accepted, checked_as, check_call}
use Rattle.paper.specs.Listing.{listing, listed_as, list_call, Listing, faulty, listed, read_listing, kernel_of, read_as, read_call}
use Rattle.laws.specs.Truth.{both_true}
use Rattle.laws.specs.Packing.{kernel_of_lem}
use Rattle.listing.specs.Kernels.{read_text, read_accepted, kernel_length, kernel_items, items_of}
use Rattle.listing.specs.Back.{Smallest, listed_text, listed_read, same_bytes, read_smallest}
use Rattle.listing.specs.Faults.{fault_told}
use Rattle.answers.specs.Kernels.{Near, near_inside, accepted_near}
use Rattle.answers.specs.Listings.{listing_most}
use Rattle.contracts.specs.Contracts.{number_in, offset_in, count_in, ListPromise, ReadPromise}
use Rattle.promises.specs.Promises.{result}
use Rattle.promises.specs.Listings.{ReadBack, Listings}
use Rattle.promises.specs.Results.{near_no_zero, check_accepts, accepted_checks, wrote, result_is, deliver_fits, deliver_room}
use Rattle.promises.specs.OutcomesHold.{answers}
use Rattle.promises.specs.PackingHolds.{items_bytes}
use Rattle.promises.proofs.AlikeHolds.{program_alike}

-- A result is never answered with 30.
deliver_thirty : (bytes out : List ℕ) → number_of (deliver bytes out).answer ≡ 30 → ⊥
unfolding deliver
deliver_thirty bytes out = go (ltb (length out) (length bytes))
  where
    go : (b : Bool) → number_of (cond b (kept (refusal 14 0) out) (wrote bytes out)).answer ≡ 30 → ⊥
    go true e = omega arith
    go false e = omega arith

-- ---- listing

module _ (dictionary kernel out : List ℕ) where
  -- Of an accepted kernel.
  list_good : (k : List Instr) → accepted long_and_short dictionary kernel ≡ good k → list_call dictionary kernel out ≡ deliver (listing k) out
  unfolding list_call
  list_good k e = ap (listed_as out) e

  -- An answer of 0 says that the kernel is accepted, and its listing written.
  list_zero : number_of (list_call dictionary kernel out).answer ≡ 0
      → (k : List Instr) × (accepted long_and_short dictionary kernel ≡ good k) × (list_call dictionary kernel out ≡ wrote (listing k) out)
  unfolding list_call
  list_zero = go (accepted long_and_short dictionary kernel) refl (accepted_near long_and_short dictionary kernel)
    where
      go : (q : Parsed) → accepted long_and_short dictionary kernel ≡ q → Near kernel_bytes instruction_limit q → number_of (listed_as out q).answer ≡ 0
          → (k : List Instr) × (accepted long_and_short dictionary kernel ≡ good k) × (listed_as out q ≡ wrote (listing k) out)
      go (bad number offset) e h z = absurd (near_no_zero number offset h z)
      go (good k) e h z = (k, e, deliver_fits (listing k) out z)

  -- What check refuses.
  list_refused : (number_of (check_call dictionary kernel) ≡ 0 → ⊥) → (list_call dictionary kernel out).answer ≡ check_call dictionary kernel
  unfolding list_call check_call
  list_refused = go (accepted long_and_short dictionary kernel)
    where
      go : (q : Parsed) → (number_of (checked_as q) ≡ 0 → ⊥) → (listed_as out q).answer ≡ checked_as q
      go (bad number offset) z = refl
      go (good k) z = absurd (z refl)

  module _ (r : ℕ) (out' : List ℕ) (p : ListPromise dictionary kernel out r out') where
    list_written : (k : List Instr) → accepted long_and_short dictionary kernel ≡ good k → length (listing k) ≤ length out
        → (number_in r ≡ 0) × (result r out' ≡ listing k)
    list_written k e room =
        let t = answers.list dictionary kernel out r out' p in
        let g = list_good k e in
        let z : number_of (list_call dictionary kernel out).answer ≡ 0 = ap (λ (w : Written). number_of w.answer) g ∙ deliver_room (listing k) out room in
        let f = deliver_fits (listing k) out (deliver_room (listing k) out room) in
        (t.number ∙ z, result_is (listing k) out (list_call dictionary kernel out) (g ∙ f) r out' t.count p.1)

-- The listing of what check accepts has at most 70 bytes an instruction.
listing_near : (dictionary kernel : List ℕ) (k : List Instr) → accepted long_and_short dictionary kernel ≡ good k → length (listing k) ≤ 70 * length k
listing_near dictionary kernel k e =
    listing_most k (near_inside kernel_bytes instruction_limit k (subst (Near kernel_bytes instruction_limit) e (accepted_near long_and_short dictionary kernel)))

-- ---- reading

module _ (dictionary text out : List ℕ) where
  abbrev D : Dictionary
  D = dictionary_of dictionary

  -- Of a text that can be read, under a dictionary that passes 1 and 2.
  read_good : length dictionary ≡ dictionary_bytes → in_range D ≡ true → (k : List Instr) → read_listing D text ≡ listed k
      → read_call dictionary text out ≡ deliver (kernel_of D k) out
  unfolding read_call
  read_good size range k e = rw (eq-eqb (length dictionary) dictionary_bytes size, range, e)

  -- What an answer of 0 says, and what one of 30.
  record Reads : Type 0 where
    size : length dictionary ≡ dictionary_bytes
    range : in_range D ≡ true
    instrs : List Instr
    are : read_listing D text ≡ listed instrs
    whole : read_call dictionary text out ≡ wrote (kernel_of D instrs) out

  by_tests : (Q : Written → Type 0) → Q (kept (refusal 1 0) out) → Q (kept (refusal 2 0) out)
      → (length dictionary ≡ dictionary_bytes → in_range D ≡ true → Q (read_as D out (read_listing D text))) → Q (read_call dictionary text out)
  unfolding read_call
  by_tests Q one two other = go (eqb (length dictionary) dictionary_bytes) refl (in_range D) refl
    where
      go : (a : Bool) → eqb (length dictionary) dictionary_bytes ≡ a → (b : Bool) → in_range D ≡ b
          → Q (cond (not a) (kept (refusal 1 0) out) (cond (not b) (kept (refusal 2 0) out) (read_as D out (read_listing D text))))
      go false e b f = one
      go true e false f = two
      go true e true f = other (eqb-true (length dictionary) dictionary_bytes e) f

  read_zero : number_of (read_call dictionary text out).answer ≡ 0 → Reads
  read_zero = by_tests (λ (w : Written). number_of w.answer ≡ 0 → Reads) (λ z. absurd (omega arith)) (λ z. absurd (omega arith)) (λ a b. go a b (read_listing D text) refl)
    where
      go : length dictionary ≡ dictionary_bytes → in_range D ≡ true → (q : Listing) → read_listing D text ≡ q → number_of (read_as D out q).answer ≡ 0 → Reads
      go a b (faulty from) e z = absurd (omega arith)
      go a b (listed k) e z = record { size = a; range = b; instrs = k; are = e; whole = read_good a b k e ∙ deliver_fits (kernel_of D k) out z }

  read_thirty : number_of (read_call dictionary text out).answer ≡ 30 → read_listing D text ≡ faulty (offset_of (read_call dictionary text out).answer)
  read_thirty =
      by_tests (λ (w : Written). number_of w.answer ≡ 30 → read_listing D text ≡ faulty (offset_of w.answer))
      (λ z. absurd (omega arith)) (λ z. absurd (omega arith)) (λ a b. go (read_listing D text))
    where
      go : (q : Listing) → number_of (read_as D out q).answer ≡ 30 → q ≡ faulty (offset_of (read_as D out q).answer)
      go (faulty from) z = refl
      go (listed k) z = absurd (deliver_thirty (kernel_of D k) out z)

  module _ (r : ℕ) (out' : List ℕ) (p : ReadPromise dictionary text out r out') where
    read_written : (w : Reads) → result r out' ≡ kernel_of D w.instrs
    read_written w =
        let t = answers.read dictionary text out r out' p in
        result_is (kernel_of D w.instrs) out (read_call dictionary text out) w.whole r out' t.count p.1

    reads : number_in r ≡ 0 → Reads
    reads none = read_zero (sym (answers.read dictionary text out r out' p).number ∙ none)

    -- The bench accepts what was read, as the instructions that were listed.
    read_taken : (w : Reads) → accepted long_and_short dictionary (result r out') ≡ good w.instrs
    read_taken w =
        ap (accepted long_and_short dictionary) (read_written w)
        ∙ read_accepted dictionary text w.instrs w.size w.range (read_text D text w.instrs w.are)

    fault : number_in r ≡ 30 → read_listing D text ≡ faulty (offset_in r)
    fault thirty =
        let t = answers.read dictionary text out r out' p in
        read_thirty (sym t.number ∙ thirty) ∙ ap faulty (sym t.offset)

-- ---- there and back

module _ (dictionary kernel : List ℕ) (right : are_bytes kernel ≡ true) (k : List Instr) (e : accepted long_and_short dictionary kernel ≡ good k) where
  back_length : length (kernel_of (dictionary_of dictionary) k) ≡ length kernel
  back_length =
      let h = kernel_of_lem long_and_short dictionary kernel right k e in
      let t = listed_text dictionary kernel right k e in
      omega (arith, kernel_length (dictionary_of dictionary) 0 k t.laid t.able, h.ends)

  back_bytes : are_bytes (kernel_of (dictionary_of dictionary) k) ≡ true
  back_bytes = ap are_bytes (kernel_items (dictionary_of dictionary) k) ∙ items_bytes (items_of (dictionary_of dictionary) k)

  reads_back : (back : List ℕ) → length kernel ≤ length back → (u : ℕ) (back' : List ℕ) → ReadPromise dictionary (listing k) back u back' → ReadBack dictionary kernel u back'
  reads_back back room u back' p =
      let D = dictionary_of dictionary in
      let h = kernel_of_lem long_and_short dictionary kernel right k e in
      let size = eqb-true (length dictionary) dictionary_bytes (both_true (eqb (length dictionary) dictionary_bytes) _ h.sizes).0 in
      let t = answers.read dictionary (listing k) back u back' p in
      let long = back_length in
      let fits : length (kernel_of D k) ≤ length back = omega arith in
      let g = read_good dictionary (listing k) back size h.range k (listed_read dictionary kernel right k e) ∙ deliver_fits (kernel_of D k) back (deliver_room (kernel_of D k) back fits) in
      let is : result u back' ≡ kernel_of D k = result_is (kernel_of D k) back (read_call dictionary (listing k) back) g u back' t.count p.1 in
      let taken : accepted long_and_short dictionary (result u back') ≡ good k =
      ap (accepted long_and_short dictionary) is ∙ read_accepted dictionary (listing k) k size h.range (listed_text dictionary kernel right k e) in
      record {
        zero = t.number ∙ ap (λ (w : Written). number_of w.answer) g;
        long = t.count ∙ ap (λ (w : Written). count_of w.answer) g ∙ long;
        instrs = k;
        given = e;
        taken = taken;
        alike = program_alike dictionary kernel (result u back') right (ap are_bytes is ∙ back_bytes) k k e taken refl;
        same = λ least. is ∙ same_bytes dictionary kernel right k e least;
      }

same_instrs : (k l : List Instr) → good k ≡ good l → k ≡ l
same_instrs k l e = cc

-- ---- the promise

pub listings : Listings
listings =
    record {
      refuses = λ dictionary kernel c q no out r out' p.
          p.0 ∙ ap as_number (list_refused dictionary kernel out (λ z. no ((answers.check dictionary kernel c q).number ∙ z))) ∙ sym q;
      lists = λ dictionary kernel k e out room r out' p. list_written dictionary kernel out r out' p k e room;
      room = λ dictionary kernel c q zero out room r out' p.
          let t = answers.check dictionary kernel c q in
          let g = check_accepts dictionary kernel (sym t.number ∙ zero) in
          let count : count_in c ≡ length g.instrs = t.count ∙ ap count_of (accepted_checks dictionary kernel g.instrs g.are) in
          let most = listing_near dictionary kernel g.instrs g.are in
          (list_written dictionary kernel out r out' p g.instrs g.are (omega arith)).0;
      reads_back = λ dictionary kernel out right r out' p zero back room u back' q.
          let t = answers.list dictionary kernel out r out' p in
          let w = list_zero dictionary kernel out (sym t.number ∙ zero) in
          let is : result r out' ≡ listing w.0 = result_is (listing w.0) out (list_call dictionary kernel out) w.2 r out' t.count p.1 in
          reads_back dictionary kernel right w.0 w.1 back room u back' (subst (λ (s : List ℕ). ReadPromise dictionary s back u back') is q);
      lists_back = λ dictionary text out r out' p zero back room u back' q.
          let w = reads dictionary text out r out' p zero in
          let s : text ≡ listing w.instrs = (read_text (dictionary_of dictionary) text w.instrs w.are).text in
          let l = list_written dictionary (result r out') back u back' q w.instrs (read_taken dictionary text out r out' p w)
          (subst (λ (x : List ℕ). length x ≤ length back) s room) in
          (l.0, l.1 ∙ sym s);
      smallest = λ dictionary text out r out' p zero k e.
          let D = dictionary_of dictionary in
          let w = reads dictionary text out r out' p zero in
          let same : w.instrs ≡ k = same_instrs w.instrs k (sym (read_taken dictionary text out r out' p w) ∙ e) in
          let t = read_text D text w.instrs w.are in
          subst (λ (l : List Instr). Smallest D (result r out') l) same
          (subst (λ (x : List ℕ). Smallest D x w.instrs) (sym (read_written dictionary text out r out' p w)) (read_smallest D w.instrs t.laid t.able));
      others = λ dictionary text out r out' p thirty kernel right k e is.
          let D = dictionary_of dictionary in
          let f = fault dictionary text out r out' p thirty in
          let l : read_listing D text ≡ listed k = ap (read_listing D) is ∙ listed_read dictionary kernel right k e in
          let z : faulty (offset_in r) ≡ listed k = sym f ∙ l in
          let o : ◌≡◌ {A = ℕ} 0 1 = cc in absurd (omega arith);
      faults = λ dictionary text out r out' p thirty. fault_told (dictionary_of dictionary) text (offset_in r) (fault dictionary text out r out' p thirty);
    }
