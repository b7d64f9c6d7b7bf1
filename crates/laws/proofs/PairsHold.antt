-- Unpacking the sent kernel of an accepted pair gives the long kernel, and packing makes such a pair. Assumes nothing.
use Rattle.std.specs.Prelude.{true, List, ◌≡◌, ℕ, ◌^◌, ◌<◌, ◌≤◌, length}
use Rattle.std.proofs.Common.{sym, ap, ◌∙◌, arith}
use Rattle.std.proofs.Math.Pow.{are_bytes}
use Rattle.paper.specs.Limits.{instruction_limit}
use Rattle.paper.specs.Dictionary.{dictionary_of}
use Rattle.paper.specs.Shorten.{shorten}
use Rattle.paper.specs.Kernel.{Instr, long_and_short, long_only, good}
use Rattle.paper.specs.Packing.{packed, unpacked}
use Rattle.paper.specs.Calls.{accepted}
use Rattle.laws.specs.Names.{relaid_by, new_end, long_form}
use Rattle.laws.specs.Moved.{relaid_sound}
use Rattle.laws.specs.Unique.{relaid_long, long_one}
use Rattle.laws.specs.Parse.{long_bytes, long_back}
use Rattle.laws.specs.Relay.{new_end_near}
use Rattle.laws.specs.Packing.{kernel_of_lem, all_long, relay_long}
use Rattle.laws.proofs.PackingHolds.{packed-accepted, packed-program, unpacked-accepted, unpacked-program}
use Rattle.laws.specs.Pairs.{Paired}

-- ---- unpacking

-- The sent kernel with every word long is sound and has its program.
module _ (dictionary long sent : List ℕ) (bytes : are_bytes long ≡ true) (bytes' : are_bytes sent ≡ true) where
  near : (l : List Instr) → length l ≤ instruction_limit → new_end long_form l < 2 ^ 15
  near l few = let n = new_end_near long_form l few in omega arith

  -- Unpacking the sent kernel of an accepted pair gives the long kernel's bytes.
  pub paired_unpacks : (p : Paired dictionary long sent) → unpacked p.shorter ≡ long
  paired_unpacks p =
      let k = p.longer in
      let l = p.shorter in
      let h = kernel_of_lem long_only dictionary long bytes k p.given in
      let g = kernel_of_lem long_and_short dictionary sent bytes' l p.taken in
      let one : relaid_by long_form l ≡ k =
      long_one (relaid_by long_form l) k (relaid_sound long_form l g.sound.laid (near l g.few)) h.sound (relaid_long l) (all_long long k h.words)
      (unpacked-program dictionary sent bytes' l p.taken ∙ sym p.same) in
      relay_long l ∙ ap long_bytes one ∙ long_back long 0 k h.sound.laid h.ends h.words

  -- A pair of which both pass, and the sent kernel unpacks to the long one, is accepted.
  pub unpacks_paired : (l : List Instr) → accepted long_and_short dictionary sent ≡ good l → unpacked l ≡ long → Paired dictionary long sent
  unpacks_paired l e u =
      record {
        longer = relaid_by long_form l;
        shorter = l;
        given = ap (accepted long_only dictionary) (sym u) ∙ unpacked-accepted dictionary sent bytes' l e;
        taken = e;
        same = unpacked-program dictionary sent bytes' l e;
      }

-- ---- packing

-- A kernel and what packing makes of it are accepted.
pub packed_paired : (dictionary kernel : List ℕ) → are_bytes kernel ≡ true → (k : List Instr) → accepted long_only dictionary kernel ≡ good k
    → Paired dictionary kernel (packed (dictionary_of dictionary) k)
packed_paired dictionary kernel bytes k e =
    record {
      longer = k;
      shorter = relaid_by (shorten (dictionary_of dictionary)) k;
      given = e;
      taken = packed-accepted dictionary kernel bytes k e;
      same = sym (packed-program dictionary kernel bytes k e);
    }
