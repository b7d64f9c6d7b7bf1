-- Demand 2 over calls: unpacking what was packed gives the kernel back. Assumes nothing.
use Rattle.std.specs.Prelude.{true, List, ◌++◌, ◌≡◌, ℕ, ◌≤◌, length, drop}
use Rattle.std.proofs.Math.Pow.{are_bytes}
use borrow.Author.Tests.{le-ltb}
use Rattle.paper.specs.Dictionary.{Dictionary, dictionary_of}
use Rattle.paper.specs.Kernel.{Instr, long_only, good}
use Rattle.paper.specs.Packing.{packed}
use Rattle.paper.specs.Calls.{verdict, deliver, accepted, pack_call, unpack_call}
use Rattle.laws.proofs.PackingHolds.{packed-accepted, unpack_pack}

-- ---- demand 2, over calls: unpacking what was packed

module _ (dictionary kernel : List ℕ) (bytes : are_bytes kernel ≡ true) (k : List Instr) (e : accepted long_only dictionary kernel ≡ good k) where
  abbrev D : Dictionary
  D = dictionary_of dictionary

  -- Packing an accepted kernel, where the output has room, answers 0 and the packed bytes.
  pub pack_delivers : (out : List ℕ) → length (packed D k) ≤ length out
      → pack_call dictionary kernel out ≡ record { answer = verdict 0 (length (packed D k)); output = packed D k ++ drop (length (packed D k)) out }
  unfolding pack_call deliver
  pack_delivers out h = rw (e, le-ltb (length out) (length (packed D k)) h)

  -- Unpacking the result, where the output has room, gives the kernel.
  pub unpack_delivers : (out : List ℕ) → length kernel ≤ length out
      → unpack_call dictionary (packed D k) out ≡ record { answer = verdict 0 (length kernel); output = kernel ++ drop (length kernel) out }
  unfolding unpack_call deliver
  unpack_delivers out h =
      rw (packed-accepted dictionary kernel bytes k e, unpack_pack dictionary kernel bytes k e, le-ltb (length out) (length kernel) h)
