-- What is packed or unpacked is accepted, has the same program, and unpacks to the long bytes. Assumes nothing.
use Rattle.std.specs.Prelude.{true, List, ◌≡◌, ℕ, ◌≤◌, eqb, leb, length}
use Rattle.std.proofs.Common.{ap, ◌∙◌, arith, le-leb}
use Rattle.std.proofs.Math.Pow.{are_bytes}
use Rattle.paper.specs.Limits.{kernel_bytes, dictionary_bytes}
use Rattle.paper.specs.Dictionary.{Dictionary, dictionary_of}
use Rattle.paper.specs.Shorten.{shorten}
use Rattle.paper.specs.Kernel.{Instr, Forms, long_and_short, long_only, good}
use Rattle.paper.specs.Packing.{Form, relay, packed, unpacked}
use Rattle.paper.specs.Calls.{judged_kernel, accepted}
use Rattle.paper.specs.Program.{program}
use Rattle.laws.specs.Names.{Sound, relaid_by, long_form}
use Rattle.laws.specs.Moved.{relaid_program, relaid_sound}
use Rattle.laws.specs.Back.{relaid_back}
use Rattle.laws.specs.Parse.{good_jumps, long_bytes, long_back}
use Rattle.laws.specs.Relay.{Right, relay-length, new_end_near, relay_parses}
use Rattle.laws.specs.Truth.{both_true}
use Rattle.laws.specs.Packing.{Kernel, kernel_of_lem, end_bound, shorten_is_right, long_is_right, all_long, relay_long}

-- ---- a relayout is accepted

pub relay-accepted : (forms forms' : Forms) (dictionary kernel : List ℕ) (k : List Instr) → Kernel forms dictionary kernel k
    → (form : Form) → Right forms' (dictionary_of dictionary) form → accepted forms' dictionary (relay form k) ≡ good (relaid_by form k)
unfolding accepted judged_kernel
relay-accepted forms forms' dictionary kernel k h form right =
    let p = both_true (eqb (length dictionary) dictionary_bytes) (leb (length kernel) kernel_bytes) h.sizes in
    let l : length (relay form k) ≤ kernel_bytes = let e = relay-length form k in let n = new_end_near form k h.few in omega arith in
    let s = relaid_sound form k h.sound.laid (end_bound form k h.few) in
    rw (p.0, le-leb (length (relay form k)) kernel_bytes l, h.range, relay_parses forms' (dictionary_of dictionary) form right k h.sane h.few)
    (good_jumps (relaid_by form k) s.land)

-- ---- packing

module _ (dictionary kernel : List ℕ) (bytes : are_bytes kernel ≡ true) (k : List Instr) (e : accepted long_only dictionary kernel ≡ good k) where
  abbrev D : Dictionary
  D = dictionary_of dictionary

  abbrev packed_instrs : List Instr
  packed_instrs = relaid_by (shorten D) k

  -- What is packed is accepted, as the instructions in their order without gaps.
  pub packed-accepted : accepted long_and_short dictionary (packed D k) ≡ good packed_instrs
  packed-accepted = relay-accepted long_only long_and_short dictionary kernel k (kernel_of_lem long_only dictionary kernel bytes k e) (shorten D) (shorten_is_right D)

  -- It is the same program: as many instructions in the same order, each jump reaching the same instruction.
  pub packed-program : program packed_instrs ≡ program k
  packed-program =
      let h = kernel_of_lem long_only dictionary kernel bytes k e in relaid_program (shorten D) k h.sound.laid (end_bound (shorten D) k h.few)

  pub packed-sound : Sound packed_instrs
  packed-sound =
      let h = kernel_of_lem long_only dictionary kernel bytes k e in relaid_sound (shorten D) k h.sound.laid (end_bound (shorten D) k h.few)

  -- Unpacking what was packed gives the long bytes back.
  pub unpack_pack : unpacked packed_instrs ≡ kernel
  unpack_pack =
      let h = kernel_of_lem long_only dictionary kernel bytes k e in
      relay_long packed_instrs
      ∙ ap long_bytes (relaid_back (shorten D) k h.sound (all_long kernel k h.words) (end_bound (shorten D) k h.few))
      ∙ long_back kernel 0 k h.sound.laid h.ends h.words

-- ---- unpacking

module _ (dictionary kernel : List ℕ) (bytes : are_bytes kernel ≡ true) (k : List Instr) (e : accepted long_and_short dictionary kernel ≡ good k) where
  -- What is unpacked is accepted as a kernel of long words, with the same program.
  pub unpacked-accepted : accepted long_only dictionary (unpacked k) ≡ good (relaid_by long_form k)
  unpacked-accepted =
      relay-accepted long_and_short long_only dictionary kernel k (kernel_of_lem long_and_short dictionary kernel bytes k e) long_form
      (long_is_right long_only (dictionary_of dictionary))

  pub unpacked-program : program (relaid_by long_form k) ≡ program k
  unpacked-program =
      let h = kernel_of_lem long_and_short dictionary kernel bytes k e in relaid_program long_form k h.sound.laid (end_bound long_form k h.few)
