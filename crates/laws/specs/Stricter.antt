-- Stricter regions: 9 as it stood before it refused four shapes more, beside 9 as it is; and 9 held to source document 000. Assumes nothing.
use Rattle.std.specs.Prelude.{Bool, true, false, not, cond, ◌&&◌, ◌||◌, List, [], ◌∷◌, ◌≡◌, refl, ℕ, zero, suc, ◌<◌, eqb, ltb, leb}
use Rattle.std.proofs.Common.{⊎_elim, sym, ap, ◌∙◌, arith, eq-or-lt_of_le, le_of_suc-le-suc}
use Rattle.paper.specs.Bits.{bits}
use Rattle.paper.specs.Word.{Source, exec_size, src_field, dst_stride, is_null, is_immediate}
use Rattle.paper.specs.Operation.{Plain, Operation, plain, nop, branch, unlisted, operation, sources}
use Rattle.paper.specs.Legal.{any_of, some_operand, reserved_set, plain_served, branch_served, operand_rule_broken, field_hangs, shape_refused, shape_broken}
use Rattle.paper.specs.Legal.{alignment_broken, reach_broken, or_else, later, refusal_of}
use Rattle.paper.specs.Restrictions.{allowed, same, below, agree, swept}
use Rattle.laws.specs.Truth.{both_true}

-- ---- 9 as it stood

-- A stride or width code is undefined, or ExecSize lies under Width.
abbrev pub shape_refused_before : ℕ → ℕ → Bool
shape_refused_before size field =
    let vert = bits field 8 4 in
    let wide = bits field 5 3 in
    ltb 6 vert || (ltb 4 wide || ltb size wide)

abbrev pub shape_broken_before : Plain → ℕ → Bool
shape_broken_before p w = some_operand p w (eqb (dst_stride w) 0) (λ x. shape_refused_before (exec_size w) (src_field x w))

-- Rules 7 to 11, and 6 to 11, with it.
unfoldable pub later_before : Operation → ℕ → ℕ
later_before (plain p) w =
    or_else (not (plain_served p w)) 7
    (or_else (operand_rule_broken p w) 8
    (or_else (shape_broken_before p w) 9
    (or_else (alignment_broken p w) 10
    (or_else (reach_broken p w) 11
    0))))
later_before nop w = 0
later_before (branch b) w = or_else (not (branch_served b w)) 7 0
later_before unlisted w = 0

unfoldable pub refusal_before : ℕ → ℕ
refusal_before w = or_else (reserved_set w) 6 (later_before (operation w) w)

-- ---- what is refused now

or_assoc : (a b c d : Bool) → (a || (b || (c || d))) ≡ ((a || (b || c)) || d)
or_assoc true b c d = refl
or_assoc false true c d = refl
or_assoc false false c d = refl

-- Twelve source bits are refused now where they were before, or have one of the four shapes.
pub shape_now : (size field : ℕ) → shape_refused size field ≡ (shape_refused_before size field || field_hangs size field)
unfolding shape_refused
shape_now size field = or_assoc (ltb 6 (bits field 8 4)) (ltb 4 (bits field 5 3)) (ltb size (bits field 5 3)) (field_hangs size field)

-- A source that is read from registers has one of the four shapes.
abbrev pub source_hangs : Plain → ℕ → Bool
source_hangs p w = any_of (λ x. not (is_immediate x w) && field_hangs (exec_size w) (src_field x w)) (sources p)

abbrev pub word_hangs : Operation → ℕ → Bool
word_hangs (plain p) w = source_hangs p w
word_hangs nop w = false
word_hangs (branch b) w = false
word_hangs unlisted w = false

parted : (i a b r s : Bool) → ((i && (a || b)) || (r || s)) ≡ (((i && a) || r) || ((i && b) || s))
parted false a b r s = refl
parted true true b r s = refl
parted true false false r s = refl
parted true false true true s = refl
parted true false true false s = refl

-- A test of sources that has two parts is passed by one of them.
any_parted : (i a b : Source → Bool) (xs : List Source)
    → any_of (λ x. i x && (a x || b x)) xs ≡ (any_of (λ x. i x && a x) xs || any_of (λ x. i x && b x) xs)
any_parted i a b [] = refl
any_parted i a b (x ∷ xs) =
    ap (λ (t : Bool). (i x && (a x || b x)) || t) (any_parted i a b xs)
    ∙ parted (i x) (a x) (b x) (any_of (λ y. i y && a y) xs) (any_of (λ y. i y && b y) xs)

or_inner : (d a b : Bool) → (d || (a || b)) ≡ ((d || a) || b)
or_inner true a b = refl
or_inner false a b = refl

-- 9 of all operands.
shape_broken_now : (p : Plain) (w : ℕ) → shape_broken p w ≡ (shape_broken_before p w || source_hangs p w)
unfolding shape_broken
shape_broken_now p w =
    let d = not (is_null w) && eqb (dst_stride w) 0 in
    let before : Source → Bool = λ x. shape_refused_before (exec_size w) (src_field x w) in
    let hang : Source → Bool = λ x. field_hangs (exec_size w) (src_field x w) in
    ap (λ (f : Source → Bool). d || any_of (λ x. not (is_immediate x w) && f x) (sources p)) (λ i x. shape_now (exec_size w) (src_field x w) i)
    ∙ ap (λ (t : Bool). d || t) (any_parted (λ x. not (is_immediate x w)) before hang (sources p))
    ∙ or_inner d _ _

-- A number that leaves 9 unsaid: nothing is refused, or only by a rule that comes after 9.
abbrev pub past_nine : ℕ → Bool
past_nine number = eqb number 0 || leb 10 number

-- The rules in order: reserved bits, fields, operands, shapes before and now, alignment, reach.
in_order : (r s o b h a f : Bool)
    → or_else r 6 (or_else s 7 (or_else o 8 (or_else (b || h) 9 (or_else a 10 (or_else f 11 0)))))
    ≡ (let n = or_else r 6 (or_else s 7 (or_else o 8 (or_else b 9 (or_else a 10 (or_else f 11 0))))) in cond (past_nine n && h) 9 n)
in_order true s o b h a f = refl
in_order false true o b h a f = refl
in_order false false true b h a f = refl
in_order false false false true h a f = refl
in_order false false false false h true f = refl
in_order false false false false h false true = refl
in_order false false false false h false false = refl

never : (t : Bool) (n : ℕ) → n ≡ cond (t && false) 9 n
never true n = refl
never false n = refl

-- Exactly which words are refused otherwise now: those that have one of the four shapes and passed 9 before are refused as 9; every other keeps its answer.
pub refusal_now : (w : ℕ) → refusal_of w ≡ cond (past_nine (refusal_before w) && word_hangs (operation w) w) 9 (refusal_before w)
unfolding refusal_of refusal_before later later_before
refusal_now w = go (operation w)
  where
    go : (o : Operation)
        → or_else (reserved_set w) 6 (later o w)
        ≡ cond (past_nine (or_else (reserved_set w) 6 (later_before o w)) && word_hangs o w) 9 (or_else (reserved_set w) 6 (later_before o w))
    go (plain p) =
        rw (shape_broken_now p w)
        (in_order (reserved_set w) (not (plain_served p w)) (operand_rule_broken p w) (shape_broken_before p w) (source_hangs p w) (alignment_broken p w) (reach_broken p w))
    go nop = never (past_nine (or_else (reserved_set w) 6 0)) (or_else (reserved_set w) 6 0)
    go (branch b) =
        let n = or_else (reserved_set w) 6 (or_else (not (branch_served b w)) 7 0) in never (past_nine n) n
    go unlisted = never (past_nine (or_else (reserved_set w) 6 0)) (or_else (reserved_set w) 6 0)

kept : (t : Bool) (n : ℕ) → cond t 9 n ≡ 0 → n ≡ 0
kept true n e = absurd (let z : ◌≡◌ {A = ℕ} 9 0 = e in omega arith)
kept false n e = e

-- What is accepted now was accepted before.
pub accepted_before : (w : ℕ) → refusal_of w ≡ 0 → refusal_before w ≡ 0
accepted_before w e = kept (past_nine (refusal_before w) && word_hangs (operation w) w) (refusal_before w) (sym (refusal_now w) ∙ e)

-- What was accepted before is refused now, as 9, exactly where a source has one of the four shapes.
pub accepted_now : (w : ℕ) → refusal_before w ≡ 0 → refusal_of w ≡ cond (word_hangs (operation w) w) 9 0
accepted_now w e = refusal_now w ∙ ap (λ (n : ℕ). cond (past_nine n && word_hangs (operation w) w) 9 n) e

-- ---- 9 and source document 000

-- A test that holds at every number below n holds at each.
below_each : (test : ℕ → Bool) (n k : ℕ) → below test n ≡ true → k < n → test k ≡ true
unfolding below
below_each test zero k e h = absurd (omega arith)
below_each test (suc n) k e h =
    let e2 = both_true (test n) (below test n) e in
    ⊎_elim (λ q. ap test q ∙ e2.0) (λ l. below_each test n k e2.1 l) (eq-or-lt_of_le (le_of_suc-le-suc h))

same_equal : (a b : Bool) → same a b ≡ true → a ≡ b
same_equal true b e = sym e
same_equal false true e = e
same_equal false false e = refl

-- Every value of the twelve source bits, at every size: 9 refuses it exactly where 000's restrictions do not allow it.
pub restrictions : (size field : ℕ) → size < 5 → field < 4096 → shape_refused size field ≡ not (allowed size field)
unfolding agree
restrictions size field s h =
    same_equal (shape_refused size field) (not (allowed size field))
    (below_each (λ k. agree k field) 5 size (below_each (λ f. below (λ k. agree k f) 5) 4096 field swept h) s)
