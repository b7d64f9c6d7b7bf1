-- The bench with other rules for one instruction: another judgement in the place of 3 to 11, or only another refusal in the place of 6 to 11, and another step.
-- Each definition is the paper's of the same name with those put in (`ours`). Assumes nothing.
use Rattle.std.specs.Prelude.{not, cond, ◌||◌, List, ◌≡◌, refl, ℕ, ◌-◌, eqb, ltb, length}
use Rattle.std.proofs.Math.Option.{Option, none, some}
use Rattle.paper.specs.Bits.{number_at}
use Rattle.paper.specs.Limits.{instruction_limit, budget_limit}
use Rattle.paper.specs.Dictionary.{Dictionary, dictionary_of, in_range}
use Rattle.paper.specs.Expand.{is_short, expand}
use Rattle.paper.specs.Shorten.{shorten}
use Rattle.paper.specs.Operation.{operation, is_listed, is_branch}
use Rattle.paper.specs.Legal.{refusal_of}
use Rattle.paper.specs.Kernel.{Instr, Forms, long_and_short, long_only, takes_short, Judged, refused, passed, judge_short, judge_long, judge_at, Parsed, bad, walk, parse}
use Rattle.paper.specs.Jump.{fetch, with_jumps}
use Rattle.paper.specs.Machine.{State, Ways, ways_of, step_at, step_on, stops, Outcome, run_with}
use Rattle.paper.specs.Calls.{Answer, refusal, Written, Changed, sized, judged_kernel, accepted, checked_as, check_call, relaid, pack_call, unpack_call}
use Rattle.paper.specs.Calls.{all_sized, unchanged, on_state, stepped_as, step_call, ran_as, run_call}

-- ---- an instruction's judgement, by a rule in the place of 6 to 11

module _ (rule : ℕ → ℕ) where
  abbrev pub judge_word_by : ℕ → ℕ → Judged
  judge_word_by size w = cond (eqb (rule w) 0) (passed size w) (refused (rule w))

  unfoldable pub judge_short_by : Forms → Dictionary → ℕ → Judged
  judge_short_by forms D s =
      cond (not (is_listed (operation s))) (refused 4)
      (cond (is_branch (operation s) || not (takes_short forms)) (refused 5)
      (judge_word_by 1 (expand D s)))

  unfoldable pub judge_long_by : ℕ → Judged
  judge_long_by w = cond (not (is_listed (operation w))) (refused 4) (judge_word_by 2 w)

  unfoldable pub judge_at_by : Forms → Dictionary → List ℕ → ℕ → Judged
  judge_at_by forms D kernel from =
      let left = length kernel - from in
      let s = number_at kernel from 8 in
      cond (ltb left 8) (refused 3)
      (cond (is_short s) (judge_short_by forms D s)
      (cond (ltb left 16) (refused 3) (judge_long_by (number_at kernel from 16))))

-- ---- the bench, by its judgement of an instruction and by its step

-- A judgement of the instruction that starts at a byte of a kernel.
abbrev pub Judgement : Type 0
Judgement = Forms → Dictionary → List ℕ → ℕ → Judged

module _ (judge : Judgement) where
  unfoldable pub parse_by : Forms → Dictionary → List ℕ → Parsed
  parse_by forms D kernel = walk (judge forms D kernel) (length kernel) instruction_limit 0

  unfoldable pub judged_kernel_by : Forms → List ℕ → List ℕ → Parsed
  judged_kernel_by forms dictionary kernel =
      let D = dictionary_of dictionary in
      cond (in_range D) (with_jumps (parse_by forms D kernel)) (bad 2 0)

  unfoldable pub accepted_by : Forms → List ℕ → List ℕ → Parsed
  accepted_by forms dictionary kernel = cond (sized dictionary kernel) (judged_kernel_by forms dictionary kernel) (bad 1 0)

  unfoldable pub check_call_by : List ℕ → List ℕ → Answer
  check_call_by dictionary kernel = checked_as (accepted_by long_and_short dictionary kernel)

  unfoldable pub pack_call_by : List ℕ → List ℕ → List ℕ → Written
  pack_call_by dictionary kernel out = relaid (shorten (dictionary_of dictionary)) out (accepted_by long_only dictionary kernel)

  unfoldable pub unpack_call_by : List ℕ → List ℕ → List ℕ → Written
  unpack_call_by dictionary kernel out = relaid (λ _. none) out (accepted_by long_and_short dictionary kernel)

  module _ (act : ℕ → ℕ → Ways → State → State) where
    unfoldable pub step_on_by : Option Instr → State → State
    step_on_by none s = s
    step_on_by (some i) s = act i.word i.place (ways_of i) s

    abbrev pub step_by : List Instr → State → State
    step_by k s = step_on_by (fetch k s.place) s

    abbrev pub run_by : List Instr → ℕ → State → Outcome
    run_by k n s = run_with (stops k) (step_by k) n s

    unfoldable pub step_call_by : List ℕ → List ℕ → List ℕ → List ℕ → Changed
    step_call_by dictionary kernel registers bytes =
        let judged = judged_kernel_by long_and_short dictionary kernel in
        cond (all_sized dictionary kernel registers bytes)
        (on_state registers bytes (λ k s. stepped_as (stops k s) registers bytes s (step_by k s)) judged)
        (unchanged (refusal 1 0) registers bytes)

    unfoldable pub run_call_by : List ℕ → List ℕ → ℕ → List ℕ → List ℕ → Changed
    run_call_by dictionary kernel budget registers bytes =
        let judged = judged_kernel_by long_and_short dictionary kernel in
        cond (not (all_sized dictionary kernel registers bytes)) (unchanged (refusal 1 0) registers bytes)
        (cond (ltb budget_limit budget) (unchanged (refusal 16 0) registers bytes)
        (on_state registers bytes (λ k s. ran_as (run_by k budget s)) judged))

-- ---- with the paper's rules it is the paper's bench

pub record Ours : Type 1 where
  pub judge : judge_at_by refusal_of ≡ judge_at
  pub check : check_call_by judge_at ≡ check_call
  pub pack : pack_call_by judge_at ≡ pack_call
  pub unpack : unpack_call_by judge_at ≡ unpack_call
  pub step : step_call_by judge_at step_at ≡ step_call
  pub run : run_call_by judge_at step_at ≡ run_call

pub ours : Ours
unfolding judge_short_by judge_long_by judge_at_by parse_by judged_kernel_by accepted_by check_call_by pack_call_by unpack_call_by step_on_by step_call_by run_call_by judge_short judge_long judge_at parse judged_kernel accepted check_call pack_call unpack_call step_on step_call run_call
ours = record { judge = refl; check = refl; pack = refl; unpack = refl; step = refl; run = refl }
