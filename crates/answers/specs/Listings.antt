-- The answers of listing and reading fit too: an instruction has at most 70 bytes of lines and 16 of kernel, and 30 names one of the first 4,096 × 70 bytes. Assumes
-- nothing.
use Rattle.std.specs.Prelude.{not, ◌||◌, List, [], ◌∷◌, ◌≡◌, refl, ℕ, ◌*◌, ◌≤◌, eqb, length}
use Rattle.std.proofs.Common.{arith, length-append}
use Rattle.paper.specs.Limits.{dictionary_bytes, kernel_bytes, instruction_limit}
use Rattle.paper.specs.Dictionary.{dictionary_of, in_range}
use Rattle.paper.specs.Kernel.{Instr, long_and_short, Parsed, bad, good}
use Rattle.paper.specs.Calls.{accepted}
use Rattle.paper.specs.Listing.{instr_text, listing, listed_as, list_call, Listing, faulty, listed, read_listing, kernel_of, read_as, read_call}
use Rattle.listing.specs.Lines.{lines_most}
use Rattle.listing.specs.Kernels.{few_bytes, read_text}
use Rattle.listing.specs.Faults.{fault_fits}
use Rattle.answers.specs.Numbers.{list_numbers, read_numbers}
use Rattle.answers.specs.Small.{small_refusal}
use Rattle.answers.specs.Kernels.{Inside, Near, near_few, near_inside, accepted_near}
use Rattle.answers.specs.Calls.{Fine, FineWritten, by_cond, fine_no, fine_bad, deliver_fine}

-- ---- listing

-- The listing of instructions that start inside the longest kernel.
pub listing_most : (k : List Instr) → Inside kernel_bytes k → length (listing k) ≤ 70 * length k
unfolding listing Inside
listing_most [] h = omega arith
listing_most (i ∷ k) h =
    let own = lines_most i (omega (arith, h.0)) in
    let others = listing_most k h.1 in
    omega (arith, length-append (instr_text i) (listing k))

pub list_fine : (dictionary kernel out : List ℕ) → Fine list_numbers (list_call dictionary kernel out).answer
unfolding list_call
list_fine dictionary kernel out = go (accepted long_and_short dictionary kernel) (accepted_near long_and_short dictionary kernel)
  where
    go : (q : Parsed) → Near kernel_bytes instruction_limit q → FineWritten list_numbers (listed_as out q)
    go (bad number offset) h = fine_bad (λ n. eqb n 0 || (eqb n 14 || eqb n 17)) number offset (λ _. refl) h
    go (good k) h =
        let few = near_few kernel_bytes instruction_limit k h in
        let most = listing_most k (near_inside kernel_bytes instruction_limit k h) in
        deliver_fine list_numbers refl refl (listing k) out (omega arith)

-- ---- reading

pub read_fine : (dictionary text out : List ℕ) → Fine read_numbers (read_call dictionary text out).answer
unfolding read_call
read_fine dictionary text out =
    by_cond (FineWritten read_numbers) (not (eqb (length dictionary) dictionary_bytes)) _ _ (λ _. fine_no read_numbers 1 0 refl (omega arith) (omega arith))
    (λ _. by_cond (FineWritten read_numbers) (not (in_range (dictionary_of dictionary))) _ _ (λ _. fine_no read_numbers 2 0 refl (omega arith) (omega arith))
    (λ _. go (read_listing (dictionary_of dictionary) text) refl))
  where
    go : (q : Listing) → read_listing (dictionary_of dictionary) text ≡ q → FineWritten read_numbers (read_as (dictionary_of dictionary) out q)
    go (faulty from) e =
        record { listed = refl; small = small_refusal 30 from (omega arith) (fault_fits (dictionary_of dictionary) text from e).1 }
    go (listed k) e =
        let few = (read_text (dictionary_of dictionary) text k e).few in
        let most = few_bytes (dictionary_of dictionary) k in
        deliver_fine read_numbers refl refl (kernel_of (dictionary_of dictionary) k) out (omega arith)
