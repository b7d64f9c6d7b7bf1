-- What the call answers, as the code comes to it. Assumes nothing.
use Rattle.std.specs.Prelude.{None, Ok, Err, Bool, List, ◌≡◌, ℕ, length}
use Rattle.std.proofs.Common.{sym, ◌∙◌, eq-eqb, ne_eqb}
use Rattle.std.proofs.Math.Path.{ap}
use Rattle.paper.specs.Kernel.{Instr, long_and_short, long_only, good, bad}
use Rattle.paper.specs.Program.{program, agreed}
use Rattle.paper.specs.Calls.{verdict, refusal, refusal_with, accepted, compared_as, paired_as, pair_call, load_part, loaded_by}
use Rattle.paper.specs.Calls as paper
use Rattle.words.specs.declared.answer.Refused.{Refused}
use Rattle.words.specs.Refusals.{number}
use Rattle.words.specs.Answer.{answer_is}
use Rattle.kernel.specs.Marks.{Said, said_is, Says, says_answer, says_refused, says_instrs}
use Rattle.kernel.specs.Accepting.{accepted_kernel}
use Rattle.packer.specs.Forms.{forms_of, kernel_of, Taken}

-- ---- what is said of one kernel

module _ (packs : Bool) (dictionary kernel marks : List ℕ) (said : Said) (says : Says (accepted (forms_of packs) dictionary kernel) said marks) where
  -- It is refused,
  pub said_bad : (f : Refused) → said ≡ Err f → (accepted (forms_of packs) dictionary kernel ≡ bad (number f.refusal) f.offset) × (f.count ≡ None)
  said_bad f e = says_refused (accepted (forms_of packs) dictionary kernel) said marks says f e

  module _ (count : ℕ) (e : said ≡ Ok count) where
    -- or accepted, with these instructions,
    pub said_good : accepted (forms_of packs) dictionary kernel ≡ good (kernel_of packs dictionary kernel)
    unfolding kernel_of
    said_good = (says_instrs (accepted (forms_of packs) dictionary kernel) said marks says count e).0

    pub said_taken : Taken packs dictionary kernel
    said_taken = accepted_kernel (forms_of packs) dictionary kernel (kernel_of packs dictionary kernel) said_good

    -- which are so many.
    pub said_count : count ≡ length (kernel_of packs dictionary kernel)
    said_count =
        let same : verdict 0 count ≡ verdict 0 (length (kernel_of packs dictionary kernel)) =
        ap said_is (sym e) ∙ says_answer (accepted (forms_of packs) dictionary kernel) said marks says ∙ ap paper.checked_as said_good in
        ap paper.count_of same

-- ---- two accepted kernels, of so many instructions, of which the first `same` are the same

module _ (long sent : List ℕ) (k l : List Instr) (longer shorter : ℕ) (p : longer ≡ length k) (q : shorter ≡ length l)
    (same : ℕ) (e : same ≡ agreed (program k) (program l)) where
  pub compared_longer : (same ≡ longer → ⊥) → refusal_with 31 same (length long) ≡ compared_as long sent k l
  compared_longer n = rw (← e, ← p, ne_eqb same longer n)

  pub compared_shorter : same ≡ longer → (same ≡ shorter → ⊥) → refusal_with 31 same (length long) ≡ compared_as long sent k l
  compared_shorter m n = rw (← e, ← p, ← q, eq-eqb same longer m, ne_eqb same shorter n)

  pub compared_whole : same ≡ longer → same ≡ shorter → verdict 0 (length sent) ≡ compared_as long sent k l
  compared_whole m n = rw (← e, ← p, ← q, eq-eqb same longer m, eq-eqb same shorter n)

-- ---- the call

module _ (dictionary long sent : List ℕ) where
  pub paired_bad : (f : Refused) → (accepted long_only dictionary long ≡ bad (number f.refusal) f.offset) × (f.count ≡ None)
      → answer_is (Err f) ≡ pair_call dictionary long sent
  unfolding pair_call
  paired_bad f e = rw (e.0, e.1)

  pub paired_good : (k : List Instr) → accepted long_only dictionary long ≡ good k
      → (a : paper.Answer) → a ≡ paired_as long sent (good k) (accepted long_and_short dictionary sent) → a ≡ pair_call dictionary long sent
  unfolding pair_call
  paired_good k e a f = rw e f

  -- The long kernel being accepted as k, the sent one's refusal, or the comparison.
  module _ (k : List Instr) where
    pub sent_bad : (number offset : ℕ) → accepted long_and_short dictionary sent ≡ bad number offset
        → refusal_with number offset (length long) ≡ paired_as long sent (good k) (accepted long_and_short dictionary sent)
    sent_bad number offset e = rw e

    pub sent_good : (l : List Instr) → accepted long_and_short dictionary sent ≡ good l
        → (a : paper.Answer) → a ≡ compared_as long sent k l → a ≡ paired_as long sent (good k) (accepted long_and_short dictionary sent)
    sent_good l e a f = rw e f

  -- What an answer loads.
  pub load_as : (a : paper.Answer) → a ≡ pair_call dictionary long sent → loaded_by long sent a ≡ load_part dictionary long sent
  unfolding load_part
  load_as a e = ap (loaded_by long sent) e
