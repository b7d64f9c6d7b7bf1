-- How large a refusal's number and an instruction's size are. Assumes nothing.
use Rattle.std.specs.Prelude.{Bool, true, false, not, cond, ◌||◌, List, ◌≡◌, refl, ℕ, zero, suc, ◌-◌, ◌<◌, ◌≤◌, eqb, ltb, length}
use Rattle.std.proofs.lemmas.Bool.{false≢true}
use Rattle.std.proofs.Common.{sym, arith}
use Rattle.paper.specs.Bits.{number_at}
use Rattle.paper.specs.Dictionary.{Dictionary}
use Rattle.paper.specs.Expand.{is_short, expand}
use Rattle.paper.specs.Operation.{Operation, plain, nop, branch, unlisted, operation, is_listed, is_branch}
use Rattle.paper.specs.Legal.{reserved_set, plain_served, branch_served, operand_rule_broken, shape_broken, alignment_broken, reach_broken, later, refusal_of}
use Rattle.paper.specs.Kernel.{Forms, takes_short, Judged, refused, passed, judge_word, judge_short, judge_long, judge_at}

-- What is said of one instruction has a number from 1 to 11, or a size up to 2 places.
unfoldable pub Modest : Judged → Type 0
Modest (refused number) = (0 < number) × (number ≤ 11)
Modest (passed size w) = size ≤ 2

-- What that says of a size, and of a number; and how it is said.
pub modest_size : (size w : ℕ) → Modest (passed size w) → size ≤ 2
unfolding Modest
modest_size size w h = h

pub modest_number : (number : ℕ) → Modest (refused number) → number ≤ 11
unfolding Modest
modest_number number h = h.1

pub modest_above : (number : ℕ) → Modest (refused number) → 0 < number
unfolding Modest
modest_above number h = h.0

modest_no : (number : ℕ) → 0 < number → number ≤ 11 → Modest (refused number)
unfolding Modest
modest_no number h g = (h, g)

modest_yes : (size w : ℕ) → size ≤ 2 → Modest (passed size w)
unfolding Modest
modest_yes size w h = h

-- A choice between two modest judgements, or two small numbers.
modest_cond : (b : Bool) (x y : Judged) → Modest x → Modest y → Modest (cond b x y)
modest_cond true x y h g = h
modest_cond false x y h g = g

least_cond : (b : Bool) (x y : ℕ) → x ≤ 11 → y ≤ 11 → cond b x y ≤ 11
least_cond true x y h g = h
least_cond false x y h g = g

-- 6 to 11, or 0.
later_small : (o : Operation) (w : ℕ) → later o w ≤ 11
unfolding later
later_small (plain p) w =
    least_cond (not (plain_served p w)) 7 _ (omega arith)
    (least_cond (operand_rule_broken p w) 8 _ (omega arith)
    (least_cond (shape_broken p w) 9 _ (omega arith)
    (least_cond (alignment_broken p w) 10 _ (omega arith)
    (least_cond (reach_broken p w) 11 0 (omega arith) (omega arith)))))
later_small nop w = omega arith
later_small (branch b) w = least_cond (not (branch_served b w)) 7 0 (omega arith) (omega arith)
later_small unlisted w = omega arith

-- 6 to 11, or 0, of a whole word: no number of the judge's is past 11.
pub refusal_small : (w : ℕ) → refusal_of w ≤ 11
unfolding refusal_of
refusal_small w = least_cond (reserved_set w) 6 (later (operation w) w) (omega arith) (later_small (operation w) w)

-- What is not 0 is above it.
above : (n : ℕ) → eqb n 0 ≡ false → 0 < n
above zero e = absurd (false≢true (sym e))
above (suc n) e = omega arith

-- A word that is judged by 6 to 11.
word_modest : (size w : ℕ) → size ≤ 2 → Modest (judge_word size w)
word_modest size w h = go (eqb (refusal_of w) 0) refl
  where
    go : (b : Bool) → eqb (refusal_of w) 0 ≡ b → Modest (cond b (passed size w) (refused (refusal_of w)))
    go true e = modest_yes size w h
    go false e = modest_no (refusal_of w) (above (refusal_of w) e) (refusal_small w)

-- A short word, a long word.
short_modest : (forms : Forms) (D : Dictionary) (s : ℕ) → Modest (judge_short forms D s)
unfolding judge_short
short_modest forms D s =
    modest_cond (not (is_listed (operation s))) (refused 4) _ (modest_no 4 (omega arith) (omega arith))
    (modest_cond (is_branch (operation s) || not (takes_short forms)) (refused 5) _ (modest_no 5 (omega arith) (omega arith))
    (word_modest 1 (expand D s) (omega arith)))

long_modest : (w : ℕ) → Modest (judge_long w)
unfolding judge_long
long_modest w = modest_cond (not (is_listed (operation w))) (refused 4) _ (modest_no 4 (omega arith) (omega arith)) (word_modest 2 w (omega arith))

-- What is said of the instruction at any byte of a kernel is modest.
pub judged_modest : (forms : Forms) (D : Dictionary) (kernel : List ℕ) (from : ℕ) → Modest (judge_at forms D kernel from)
unfolding judge_at
judged_modest forms D kernel from =
    modest_cond (ltb (length kernel - from) 8) (refused 3) _ (modest_no 3 (omega arith) (omega arith))
    (modest_cond (is_short (number_at kernel from 8)) _ _ (short_modest forms D (number_at kernel from 8))
    (modest_cond (ltb (length kernel - from) 16) (refused 3) _ (modest_no 3 (omega arith) (omega arith)) (long_modest (number_at kernel from 16))))
