-- The marks that a walk leaves: one for each place at which an instruction starts, and one for the end. Assumes nothing.
use Rattle.std.specs.Prelude.{None, Result, Ok, Err, Bool, true, false, cond, ◌||◌, List, [], ◌≡◌, refl, ℕ, zero, suc, ◌+◌, ◌<◌, ◌≤◌, eqb, ltb, length, get_or, set, replicate}
use Rattle.std.proofs.Math.Bool.{or-true, or-false}
use Rattle.std.proofs.Common.{sym, ap, ap₂, ◌∙◌, arith, get_or-set_same, get_or-set_other, lt-ltb, le-ltb, eqb-true}
use Rattle.std.proofs.lemmas.Bool.{eqb-false}
use Rattle.paper.specs.Limits.{last_place}
use Rattle.paper.specs.Kernel.{Instr, Parsed, bad, good}
use Rattle.paper.specs.Jump.{lands}
use Rattle.paper.specs.Calls.{Answer, verdict, checked_as}
use Rattle.words.specs.declared.refusal.Refusal.{Refusal}
use Rattle.words.specs.declared.answer.Refused.{Refused}
use Rattle.words.specs.Refusals.{number}
use Rattle.words.specs.Answer.{refused_as, refused_at, refused_plain, told_refused}

-- What is said of a kernel: how many instructions it has, or its refusal.
abbrev pub Said : Type 0
Said = Result ℕ Refused

-- The same as check answers it.
abbrev pub said_is : Said → Answer
said_is (Ok count) = verdict 0 count
said_is (Err r) = refused_as (number r.refusal) r.offset r.count

-- How many places there are, from 0 to the largest.
abbrev pub place_count : ℕ
place_count = last_place + 1

-- Place p is marked. No place past the marks is.
unfoldable pub marked : List ℕ → ℕ → Bool
marked marks p = cond (ltb p place_count) (eqb (get_or marks p 0) 1) false

-- The marks of a kernel that is judged so: where it is accepted, the places at which an instruction starts or the kernel ends.
abbrev pub MarksOf : Parsed → List ℕ → Type 0
MarksOf (bad number offset) marks = Unit {0}
MarksOf (good k) marks = (p : ℕ) → marked marks p ≡ lands k p

-- What is said of a kernel that is judged so: the check's answer, and the marks.
unfoldable pub Says : Parsed → Said → List ℕ → Type 0
Says q r marks = (said_is r ≡ checked_as q) × MarksOf q marks

-- The answer that is said is the check's.
pub says_answer : (q : Parsed) (r : Said) (marks : List ℕ) → Says q r marks → said_is r ≡ checked_as q
unfolding Says
says_answer q r marks s = s.0

-- A refusal is said so, whatever the marks.
pub says_bad : (r : Refusal) (offset : ℕ) (marks : List ℕ) → Says (bad (number r) offset) (Err (refused_at r offset)) marks
unfolding Says
says_bad r offset marks = (refl, tt)

-- What an answer that refuses says.
pub says_refused : (q : Parsed) (r : Said) (marks : List ℕ) → Says q r marks → (f : Refused) → r ≡ Err f
    → (q ≡ bad (number f.refusal) f.offset) × (f.count ≡ None)
unfolding Says
says_refused (bad n o) r marks s f e =
    let p = refused_plain _ _ n o f.count (ap said_is (sym e) ∙ s.0) in
    (ap₂ bad (sym p.0) (sym p.1), p.2)
says_refused (good k) r marks s f e = absurd (told_refused _ _ _ _ f.count (sym (ap said_is (sym e) ∙ s.0)))

-- What one that accepts says: there are these instructions, and they start where the marks are.
pub record Accepts (q : Parsed) (marks : List ℕ) : Type 0 where
  pub instrs : List Instr
  pub judged : q ≡ good instrs
  pub land : (p : ℕ) → marked marks p ≡ lands instrs p

pub says_accepted : (q : Parsed) (r : Said) (marks : List ℕ) → Says q r marks → (count : ℕ) → r ≡ Ok count → Accepts q marks
unfolding Says
says_accepted (bad n o) r marks s count e =
    let same = ap said_is (sym e) ∙ s.0 in
    let z : ◌≡◌ {A = ℕ} 0 1 = cc in
    absurd (omega arith)
says_accepted (good k) r marks s count e = record { instrs = k; judged = refl; land = s.1 }

-- The instructions of a kernel that is judged so; none of one that is refused.
abbrev pub instrs_of : Parsed → List Instr
instrs_of (bad number offset) = []
instrs_of (good k) = k

-- The same of those instructions.
pub says_instrs : (q : Parsed) (r : Said) (marks : List ℕ) → Says q r marks → (count : ℕ) → r ≡ Ok count
    → (q ≡ good (instrs_of q)) × ((p : ℕ) → marked marks p ≡ lands (instrs_of q) p)
says_instrs q r marks s count e =
    let a = says_accepted q r marks s count e in
    let same : q ≡ good (instrs_of q) = a.judged ∙ ap (λ (x : Parsed). good (instrs_of x)) (sym a.judged) in
    (same, λ p. a.land p ∙ ap (λ (x : Parsed). lands (instrs_of x) p) (sym a.judged))

-- ---- laws of marks

blank_zero : (n p : ℕ) → get_or {A = ℕ} (replicate n 0) p 0 ≡ 0
blank_zero zero p = refl
blank_zero (suc n) zero = refl
blank_zero (suc n) (suc p) = blank_zero n p

-- Before the first is marked, none is.
pub blank_unmarked : (n p : ℕ) → marked (replicate n 0) p ≡ false
unfolding marked
blank_unmarked n p = rw (blank_zero n p) (either (ltb p place_count))
  where
    either : (t : Bool) → cond t false false ≡ false
    either true = refl
    either false = refl

-- One mark more.
pub mark_more : (m : List ℕ) (q p : ℕ) → q < place_count → length m ≡ place_count → marked (set m q 1) p ≡ (marked m p || eqb q p)
unfolding marked
mark_more m q p h l = go (eqb q p) refl
  where
    go : (t : Bool) → eqb q p ≡ t → marked (set m q 1) p ≡ (marked m p || t)
    go true e =
        let same : q ≡ p = eqb-true q p e in
        let lt : p < place_count = omega arith in
        let one : get_or (set m q 1) p 0 ≡ 1 = ap (λ (x : ℕ). get_or (set m q 1) x 0) (sym same) ∙ get_or-set_same m q 1 0 (omega arith) in
        rw (lt-ltb _ _ lt, one) (sym (or-true (eqb (get_or m p 0) 1)))
    go false e = rw (get_or-set_other m q p 1 0 (λ x. eqb-false q p e (sym x))) (sym (or-false (marked m p)))

-- The code's two tests.
pub marked_inside : (m : List ℕ) (p : ℕ) → p < place_count → marked m p ≡ eqb (get_or m p 0) 1
unfolding marked
marked_inside m p h = rw (lt-ltb _ _ h)

pub marked_past : (m : List ℕ) (p : ℕ) → place_count ≤ p → marked m p ≡ false
unfolding marked
marked_past m p h = rw (le-ltb _ _ h)
