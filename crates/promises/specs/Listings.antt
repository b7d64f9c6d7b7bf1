-- The promises of 02 §1 of the exported calls: the listing of a kernel, and what is read of a text. Goes on from Promises, in its words; like it, it states and proves
-- nothing. `listings` of ListingsHold is the theorem. `listing` (Listing of `paper`) is the text of instructions, six lines each.
use Rattle.std.specs.Prelude.{true, List, ◌⊎◌, ◌≡◌, ℕ, ◌*◌, ◌≤◌, length}
use Rattle.std.proofs.Math.Pow.{are_bytes}
use Rattle.paper.specs.Limits.{instruction_limit}
use Rattle.paper.specs.Dictionary.{dictionary_of}
use Rattle.paper.specs.Kernel.{Instr, long_and_short, good}
use Rattle.paper.specs.Calls.{accepted}
use Rattle.paper.specs.Listing.{listing}
use Rattle.listing.specs.Back.{Smallest}
use Rattle.listing.specs.Faults.{FaultyLines, FaultyJump}
use Rattle.contracts.specs.Contracts.{number_in, offset_in, count_in, CheckPromise, ListPromise, ReadPromise}
use Rattle.promises.specs.Promises.{result, Alike}

-- A kernel was listed, and what was written read again: read answered u and left back'. What it wrote is as long as the kernel and has the same instructions, with
-- their places, forms and words, so it is the same program, and both run alike; and it is the kernel itself where each short word of the kernel is the smallest
-- for its word (Smallest: Back of `listing`).
pub record ReadBack (dictionary kernel : List ℕ) (u : ℕ) (back' : List ℕ) : Type 0 where
  pub zero : number_in u ≡ 0
  pub long : count_in u ≡ length kernel
  pub instrs : List Instr
  pub given : accepted long_and_short dictionary kernel ≡ good instrs
  pub taken : accepted long_and_short dictionary (result u back') ≡ good instrs
  pub alike : Alike dictionary kernel (result u back')
  pub same : Smallest (dictionary_of dictionary) kernel instrs → result u back' ≡ kernel

pub record Listings : Type 0 where
  -- What check refuses, list refuses: the same number at the same offset.
  pub refuses : (dictionary kernel : List ℕ) (c : ℕ) → CheckPromise dictionary kernel c → (number_in c ≡ 0 → ⊥)
      → (out : List ℕ) (r : ℕ) (out' : List ℕ) → ListPromise dictionary kernel out r out' → r ≡ c
  -- Of a kernel that is accepted as the instructions k it writes their listing, if that has room.
  pub lists : (dictionary kernel : List ℕ) (k : List Instr) → accepted long_and_short dictionary kernel ≡ good k
      → (out : List ℕ) → length (listing k) ≤ length out → (r : ℕ) (out' : List ℕ) → ListPromise dictionary kernel out r out'
      → (number_in r ≡ 0) × (result r out' ≡ listing k)
  -- 70 bytes for each instruction that check counts are always room enough.
  pub room : (dictionary kernel : List ℕ) (c : ℕ) → CheckPromise dictionary kernel c → number_in c ≡ 0
      → (out : List ℕ) → 70 * count_in c ≤ length out → (r : ℕ) (out' : List ℕ) → ListPromise dictionary kernel out r out' → number_in r ≡ 0
  -- Reading what was listed, with room for the kernel, gives it back.
  pub reads_back : (dictionary kernel out : List ℕ) → are_bytes kernel ≡ true → (r : ℕ) (out' : List ℕ) → ListPromise dictionary kernel out r out' → number_in r ≡ 0
      → (back : List ℕ) → length kernel ≤ length back → (u : ℕ) (back' : List ℕ) → ReadPromise dictionary (result r out') back u back'
      → ReadBack dictionary kernel u back'
  -- Listing what was read, with room for the text, gives the text. So only listings of accepted kernels are read.
  pub lists_back : (dictionary text out : List ℕ) (r : ℕ) (out' : List ℕ) → ReadPromise dictionary text out r out' → number_in r ≡ 0
      → (back : List ℕ) → length text ≤ length back → (u : ℕ) (back' : List ℕ) → ListPromise dictionary (result r out') back u back'
      → (number_in u ≡ 0) × (result u back' ≡ text)
  -- Each short word of what was read is the smallest, so that listing and reading it again gives these bytes.
  pub smallest : (dictionary text out : List ℕ) (r : ℕ) (out' : List ℕ) → ReadPromise dictionary text out r out' → number_in r ≡ 0
      → (k : List Instr) → accepted long_and_short dictionary (result r out') ≡ good k → Smallest (dictionary_of dictionary) (result r out') k
  -- 30 says that the text is the listing of no accepted kernel.
  pub others : (dictionary text out : List ℕ) (r : ℕ) (out' : List ℕ) → ReadPromise dictionary text out r out' → number_in r ≡ 30
      → (kernel : List ℕ) → are_bytes kernel ≡ true → (k : List Instr) → accepted long_and_short dictionary kernel ≡ good k → text ≡ listing k → ⊥
  -- Its offset is where the first faulty instruction's lines begin: before it stand the lines of instructions that can be read, and there the lines of none, or of
  -- one too many (FaultyLines); or, jumps coming after all the rest, the whole text can be read so, and there stand the lines of the first branch that leads to no
  -- instruction's start and not to the end (FaultyJump; both: Faults of `listing`).
  pub faults : (dictionary text out : List ℕ) (r : ℕ) (out' : List ℕ) → ReadPromise dictionary text out r out' → number_in r ≡ 30
      → FaultyLines (dictionary_of dictionary) text instruction_limit 0 0 (offset_in r) ⊎ FaultyJump (dictionary_of dictionary) text (offset_in r)
