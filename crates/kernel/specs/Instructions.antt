-- What going over a kernel's instructions gives, in the paper's terms. Assumes nothing.
use Rattle.std.specs.Prelude.{List, [], ◌∷◌, ◌≡◌, ℕ, ◌+◌, ◌*◌, ◌/◌, ◌<◌, ◌≤◌, length, Option, Some, None, MatchOption}
use Rattle.std.proofs.Common.{◌∙◌}
use Rattle.paper.specs.Dictionary.{dictionary_of}
use Rattle.paper.specs.Kernel.{Instr}
use Rattle.words.specs.Words.{to_word}
use Rattle.kernel.specs.declared.instructions.Instruction.{Instruction}
use Rattle.kernel.specs.declared.instructions.Instructions.{Instructions}
use Rattle.kernel.specs.Standing.{Fetches}
use Rattle.kernel.specs.Reading.{instrs_from}

abbrev pub instr_is : Instruction → Instr
instr_is i = record { place = i.place; size = i.size; word = to_word i.word }

-- Those that are left.
abbrev pub instrs_left : Instructions → List Instr
instrs_left s = instrs_from (dictionary_of s.dictionary.now) s.kernel.now s.from

-- The next one is given, with the size and the word that its bytes say, and those after it are left; or none is left.
abbrev pub Reads : Instructions → Option Instruction → Instructions → Type 0
Reads s r t =
    MatchOption r ((instrs_left s ≡ []) × (instrs_left t ≡ []) × (length s.kernel.now ≤ s.from))
    (λ i. (instrs_left s ≡ instr_is i ∷ instrs_left t)
    × (s.from < length s.kernel.now)
    × (i.place ≡ s.from / 8)
    × Fetches (dictionary_of s.dictionary.now) s.kernel.now s.from i.size (to_word i.word)
    × (t.dictionary.now ≡ s.dictionary.now)
    × (t.kernel.now ≡ s.kernel.now)
    × (t.from ≡ s.from + 8 * i.size))

-- A pass goes over a kernel.
pub record Over (dictionary kernel : List ℕ) (s : Instructions) : Type 0 where
  pub dictionary-is : s.dictionary.now ≡ dictionary
  pub kernel-is : s.kernel.now ≡ kernel

-- It comes to instruction i, and goes on from t.
pub record Comes (dictionary kernel : List ℕ) (s : Instructions) (i : Instruction) (t : Instructions) : Type 0 where
  pub inside : s.from < length kernel
  pub place-is : i.place ≡ s.from / 8
  pub fetched : Fetches (dictionary_of dictionary) kernel s.from i.size (to_word i.word)
  pub next : t.from ≡ s.from + 8 * i.size
  pub over : Over dictionary kernel t

module _ {dictionary kernel : List ℕ} (s : Instructions) (over : Over dictionary kernel s) where
  pub comes : (i : Instruction) (t : Instructions) → Reads s (Some i) t → Comes dictionary kernel s i t
  comes i t r =
      record {
        inside = rw over.kernel-is at r.1;
        place-is = r.2;
        fetched = rw (over.dictionary-is, over.kernel-is) at r.3;
        next = r.6;
        over = record { dictionary-is = r.4 ∙ over.dictionary-is; kernel-is = r.5 ∙ over.kernel-is };
      }

  -- It has come to the end.
  pub ends : (t : Instructions) → Reads s None t → length kernel ≤ s.from
  ends t r = rw over.kernel-is at r.2
