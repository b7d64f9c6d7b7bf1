-- A kernel of bytes as a list of instructions: rules 17 and 3 to 11, instruction by instruction (the paper, "When the bench says no").
-- Assumes nothing.
use Rattle.std.specs.Prelude.{Bool, true, false, not, cond, ◌||◌, List, [], ◌∷◌, ℕ, zero, suc, ◌+◌, ◌-◌, ◌*◌, ◌/◌, eqb, ltb, length}
use Rattle.paper.specs.Bits.{number_at}
use Rattle.paper.specs.Limits.{instruction_limit}
use Rattle.paper.specs.Dictionary.{Dictionary}
use Rattle.paper.specs.Expand.{is_short, expand}
use Rattle.paper.specs.Operation.{operation, is_listed, is_branch}
use Rattle.paper.specs.Legal.{refusal_of}

-- An instruction: where it starts and how long it is, both in places of 8 bytes, and its word, expanded if it is short.
pub record Instr : Type 0 where
  pub place : ℕ
  pub size : ℕ
  pub word : ℕ

-- Which words a kernel may hold: packing takes long ones only.
pub data Forms : Type 0 where
  long_and_short long_only : Forms

abbrev pub takes_short : Forms → Bool
takes_short long_and_short = true
takes_short long_only = false

-- What is said of one instruction: a refusal, or its size in places and its word.
pub data Judged : Type 0 where
  refused : ℕ → Judged
  passed : ℕ → ℕ → Judged

-- 6 to 11 of the expanded word.
abbrev pub judge_word : ℕ → ℕ → Judged
judge_word size w = cond (eqb (refusal_of w) 0) (passed size w) (refused (refusal_of w))

-- 4, 5, then 6 to 11, of a short word.
unfoldable pub judge_short : Forms → Dictionary → ℕ → Judged
judge_short forms D s =
    cond (not (is_listed (operation s))) (refused 4)
    (cond (is_branch (operation s) || not (takes_short forms)) (refused 5)
    (judge_word 1 (expand D s)))

-- 4, then 6 to 11, of a long word.
unfoldable pub judge_long : ℕ → Judged
judge_long w = cond (not (is_listed (operation w))) (refused 4) (judge_word 2 w)

-- 3 to 11 of the instruction that starts at byte `from`: under 8 bytes left, or a long word with under 16, is 3.
unfoldable pub judge_at : Forms → Dictionary → List ℕ → ℕ → Judged
judge_at forms D kernel from =
    let left = length kernel - from in
    let s = number_at kernel from 8 in
    cond (ltb left 8) (refused 3)
    (cond (is_short s) (judge_short forms D s)
    (cond (ltb left 16) (refused 3) (judge_long (number_at kernel from 16))))

-- A kernel's instructions, or a refusal and the byte offset of its instruction.
pub data Parsed : Type 0 where
  bad : ℕ → ℕ → Parsed
  good : List Instr → Parsed

abbrev pub prepend : Instr → Parsed → Parsed
prepend i (bad n from) = bad n from
prepend i (good is) = good (i ∷ is)

-- One instruction's judgement at byte `from`, and then what follows it.
abbrev pub enter : ℕ → Judged → (ℕ → Parsed) → Parsed
enter from (refused n) next = bad n from
enter from (passed size w) next = prepend (record { place = from / 8; size = size; word = w }) (next (from + 8 * size))

-- The instructions from byte `from` of `end` on, of which there may be n more: one more is 17, which comes before 3.
module _ (judge : ℕ → Judged) (end : ℕ) where
  unfoldable pub walk : ℕ → ℕ → Parsed
  walk zero from = cond (ltb from end) (bad 17 from) (good [])
  walk (suc n) from = let rest = enter from (judge from) (walk n) in cond (ltb from end) rest (good [])

unfoldable pub parse : Forms → Dictionary → List ℕ → Parsed
parse forms D kernel = walk (judge_at forms D kernel) (length kernel) instruction_limit 0
