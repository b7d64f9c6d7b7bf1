-- The rules as they stood before break and cont were listed (02 §9): opcodes 0x28 and 0x29 were 4. What an operation asks and does did not change; only which
-- opcodes have one did. Assumes nothing.
use Rattle.std.specs.Prelude.{Bool, not, cond, ◌&&◌, ◌||◌, map, ℕ, ◌-◌, eqb, ltb, length}
use Rattle.paper.specs.Bits.{bits, bit, number_at}
use Rattle.paper.specs.Word.{opcode, immediate_form}
use Rattle.paper.specs.Dictionary.{Dictionary}
use Rattle.paper.specs.Expand.{is_short, expand}
use Rattle.paper.specs.Operation.{Plain, jmpi, if, else, endif, while, Operation, plain, nop, branch, unlisted, is_listed, is_branch}
use Rattle.paper.specs.Legal.{or_else, later}
use Rattle.paper.specs.Kernel.{Forms, takes_short, Judged, refused}
use Rattle.paper.specs.Machine.{State, Ways, wake, perform}
use Rattle.laws.specs.Otherwise.{judge_word_by, Judgement}

-- The operation of an opcode, as it stood.
unfoldable pub former_operation_of : ℕ → Operation
former_operation_of n =
    cond (eqb n 0x01) (plain Plain.mov)
    (cond (eqb n 0x02) (plain Plain.sel)
    (cond (eqb n 0x04) (plain Plain.not)
    (cond (eqb n 0x05) (plain Plain.and)
    (cond (eqb n 0x06) (plain Plain.or)
    (cond (eqb n 0x07) (plain Plain.xor)
    (cond (eqb n 0x08) (plain Plain.shr)
    (cond (eqb n 0x09) (plain Plain.shl)
    (cond (eqb n 0x0C) (plain Plain.asr)
    (cond (eqb n 0x10) (plain Plain.cmp)
    (cond (eqb n 0x40) (plain Plain.add)
    (cond (eqb n 0x41) (plain Plain.mul)
    (cond (eqb n 0x42) (plain Plain.avg)
    (cond (eqb n 0x7E) nop
    (cond (eqb n 0x20) (branch jmpi)
    (cond (eqb n 0x22) (branch if)
    (cond (eqb n 0x24) (branch else)
    (cond (eqb n 0x25) (branch endif)
    (cond (eqb n 0x27) (branch while)
    unlisted))))))))))))))))))

abbrev pub former_operation : ℕ → Operation
former_operation w = former_operation_of (opcode w)

-- ---- 4 to 11 by it, definition by definition as in the paper

unfoldable pub former_reserved : ℕ → Bool
former_reserved w =
    bit w 7
    || (not (is_branch (former_operation w))
    && (bit w 47 || (not (eqb (bits w 90 6) 0) || (not (immediate_form w) && not (eqb (bits w 121 7) 0)))))

unfoldable pub former_refusal : ℕ → ℕ
former_refusal w = or_else (former_reserved w) 6 (later (former_operation w) w)

unfoldable pub former_short : Forms → Dictionary → ℕ → Judged
former_short forms D s =
    cond (not (is_listed (former_operation s))) (refused 4)
    (cond (is_branch (former_operation s) || not (takes_short forms)) (refused 5)
    (judge_word_by former_refusal 1 (expand D s)))

unfoldable pub former_long : ℕ → Judged
former_long w = cond (not (is_listed (former_operation w))) (refused 4) (judge_word_by former_refusal 2 w)

unfoldable pub former_judge : Judgement
former_judge forms D kernel from =
    let left = length kernel - from in
    let s = number_at kernel from 8 in
    cond (ltb left 8) (refused 3)
    (cond (is_short s) (former_short forms D s)
    (cond (ltb left 16) (refused 3) (former_long (number_at kernel from 16))))

-- ---- a step by it

unfoldable pub former_step : ℕ → ℕ → Ways → State → State
former_step w here ways s = perform (former_operation w) w ways s.store (map (wake here) s.channels)
