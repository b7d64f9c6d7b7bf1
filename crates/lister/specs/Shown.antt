-- What the listing program writes (02 §1): the listing of a kernel that is accepted, else the checking program's four lines. Assumes nothing.
use Rattle.std.proofs.Math.Bool.{and-false}
use Rattle.std.specs.Prelude.{List, ◌++◌, refl, ℕ, ◌+◌, ◌<◌, ◌≤◌, take}
use Rattle.std.proofs.Math.Path.{◌≡◌}
use Rattle.std.proofs.Common.{sym, ap, ◌∙◌, ⊎_elim, length-take, take_all, le-ltb}
use Rattle.std.proofs.lemmas.List.{drop-take}
use Rattle.text.specs.Decimals.{below}
use native.Mathlib.Omega.{arith}
use Rattle.std.proofs.Math.ListN.{length, drop}
use Rattle.std.proofs.lemmas.Bool.{lt-leb}
use Rattle.paper.specs.Limits.{dictionary_bytes, kernel_bytes, instruction_limit}
use Rattle.paper.specs.Kernel.{Instr, long_and_short, Parsed, bad, good}
use Rattle.paper.specs.Calls.{verdict, refusal, refusal_with, deliver, accepted}
use Rattle.paper.specs.Listing.{listing, listed_as, list_call}
use Rattle.answers.specs.Kernels.{Near, near_few, near_inside, accepted_near}
use Rattle.answers.specs.Listings.{listing_most}
use Rattle.words.specs.Answer.{refused_as}
use Rattle.std.specs.Prelude as std
use Rattle.front.specs.Printed.{check_text, printed_cut, printed_text, take_in}

abbrev pub shown_as : Parsed → List ℕ → List ℕ
shown_as (bad number offset) said = said
shown_as (good k) said = listing k

unfoldable pub shown : List ℕ → List ℕ → List ℕ
shown dictionary kernel = shown_as (accepted long_and_short dictionary kernel) (check_text dictionary kernel)

-- The same of an input: its first bytes are the dictionary, what follows is the kernel.
unfoldable pub input_shown : List ℕ → List ℕ
input_shown input = shown (take dictionary_bytes input) (drop dictionary_bytes input)

-- ---- laws

-- The most bytes that a listing can have.
abbrev pub most_text : ℕ
most_text = 286720

listed_most : (k : List Instr) → Near kernel_bytes instruction_limit (good k) → length (listing k) ≤ most_text
listed_most k h =
    omega (arith, listing_most k (near_inside kernel_bytes instruction_limit k h), near_few kernel_bytes instruction_limit k h)

-- ---- by what list answers, with room for any listing

module _ (dictionary kernel out : List ℕ) (room : most_text ≤ length out) where
  -- The listing was written.
  pub shown_listed : (number count : ℕ) → verdict number count ≡ (list_call dictionary kernel out).answer
      → (count ≡ length (shown dictionary kernel)) × (count ≤ most_text) × ((list_call dictionary kernel out).output ≡ shown dictionary kernel ++ drop count out)
  unfolding list_call shown deliver
  shown_listed number count = go (accepted long_and_short dictionary kernel) (accepted_near long_and_short dictionary kernel)
    where
      go : (q : Parsed) → Near kernel_bytes instruction_limit q → verdict number count ≡ (listed_as out q).answer
          → (count ≡ length (shown_as q (check_text dictionary kernel))) × (count ≤ most_text) × ((listed_as out q).output ≡ shown_as q (check_text dictionary kernel) ++ drop count out)
      go (bad n offset) h e = let z : ◌≡◌ {A = ℕ} 0 1 = cc in absurd (omega arith)
      go (good k) h e =
          let most = listed_most k h in
          let fits : length (listing k) ≤ length out = omega arith in
          let t : verdict number count ≡ verdict 0 (length (listing k)) = rw (le-ltb (length out) (length (listing k)) fits) at e in
          let c : count ≡ length (listing k) = cc in
          (c, omega arith, rw (le-ltb (length out) (length (listing k)) fits, c) refl)

  -- It was refused.
  pub shown_said : (number offset : ℕ) → refusal number offset ≡ (list_call dictionary kernel out).answer
      → ((list_call dictionary kernel out).output ≡ out) × (check_text dictionary kernel ≡ shown dictionary kernel)
  unfolding list_call shown deliver
  shown_said number offset = go (accepted long_and_short dictionary kernel) (accepted_near long_and_short dictionary kernel)
    where
      go : (q : Parsed) → Near kernel_bytes instruction_limit q → refusal number offset ≡ (listed_as out q).answer
          → ((listed_as out q).output ≡ out) × (check_text dictionary kernel ≡ shown_as q (check_text dictionary kernel))
      go (bad n o) h e = (refl, refl)
      go (good k) h e =
          let most = listed_most k h in
          let fits : length (listing k) ≤ length out = omega arith in
          let t : refusal number offset ≡ verdict 0 (length (listing k)) = rw (le-ltb (length out) (length (listing k)) fits) at e in
          let z : ◌≡◌ {A = ℕ} 0 1 = cc in absurd (omega arith)

  -- It never answers a refusal that counts.
  pub never_counted : (number offset count : ℕ) → refusal_with number offset count ≡ (list_call dictionary kernel out).answer
      → ((list_call dictionary kernel out).output ≡ out) × (check_text dictionary kernel ≡ shown dictionary kernel)
  unfolding list_call shown deliver
  never_counted number offset count = go (accepted long_and_short dictionary kernel) (accepted_near long_and_short dictionary kernel)
    where
      go : (q : Parsed) → Near kernel_bytes instruction_limit q → refusal_with number offset count ≡ (listed_as out q).answer
          → ((listed_as out q).output ≡ out) × (check_text dictionary kernel ≡ shown_as q (check_text dictionary kernel))
      go (bad n o) h e = let z : ◌≡◌ {A = ℕ} 0 1 = cc in absurd (omega arith)
      go (good k) h e =
          let most = listed_most k h in
          let fits : length (listing k) ≤ length out = omega arith in
          let t : refusal_with number offset count ≡ verdict 0 (length (listing k)) = rw (le-ltb (length out) (length (listing k)) fits) at e in
          let z : ◌≡◌ {A = ℕ} 0 1 = cc in absurd (omega arith)

  -- So its refusal has no count, and the four lines are to be written.
  pub shown_refused : (number offset : ℕ) (count : std.Option ℕ) → refused_as number offset count ≡ (list_call dictionary kernel out).answer
      → ((list_call dictionary kernel out).output ≡ out) × (check_text dictionary kernel ≡ shown dictionary kernel)
  shown_refused number offset std.None e = shown_said number offset e
  shown_refused number offset (std.Some count) e = never_counted number offset count e

-- ---- a kernel that is too long

shown_over : (dictionary kernel : List ℕ) → kernel_bytes < length kernel → shown dictionary kernel ≡ check_text dictionary kernel
unfolding shown accepted
shown_over dictionary kernel h = rw (lt-leb _ _ h, and-false)

-- Of an input with a kernel that is too long the program, which reads one byte more than is allowed, writes what the whole input calls for.
pub shown_cut : (dictionary kernel : List ℕ) → kernel_bytes < length kernel → shown dictionary kernel ≡ shown dictionary (take (kernel_bytes + 1) kernel)
shown_cut dictionary kernel h =
    let most : kernel_bytes + 1 ≤ length kernel = omega arith in
    let still : kernel_bytes < length (take (kernel_bytes + 1) kernel) = simp length-take (omega arith) in
    shown_over dictionary kernel h ∙ (ap printed_text (printed_cut dictionary kernel h) ∙ sym (shown_over dictionary (take (kernel_bytes + 1) kernel) still))

-- So what follows the first 66,049 bytes of an input changes nothing.
pub shown_input_cut : (input : List ℕ) → input_shown (take 66049 input) ≡ input_shown input
unfolding input_shown
shown_input_cut input =
    ap (λ (d : List ℕ). shown d (drop dictionary_bytes (take 66049 input))) (take_in dictionary_bytes 66049 input (omega arith))
    ∙ (ap (shown (take dictionary_bytes input)) (drop-take dictionary_bytes (kernel_bytes + 1) input)
    ∙ start (take dictionary_bytes input) (drop dictionary_bytes input))
  where
    start : (dictionary kernel : List ℕ) → shown dictionary (take (kernel_bytes + 1) kernel) ≡ shown dictionary kernel
    start dictionary kernel =
        ⊎_elim
        (λ h. sym (shown_cut dictionary kernel h))
        (λ h. ap (shown dictionary) (take_all (kernel_bytes + 1) kernel (omega arith)))
        (below kernel_bytes (length kernel))
