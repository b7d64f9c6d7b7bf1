-- What the calls' answers are in the paper's terms, and what is said of a call: its answer and what it leaves. This admits one outcome only. Assumes nothing.
use Rattle.std.specs.Prelude.{List, ◌≡◌, refl, ℕ, cond, eqb, Option, None, Some, Result, Ok, Err}
use Rattle.std.proofs.Common.{sym, ap, ◌∙◌}
use Rattle.paper.specs.Calls as paper
use Rattle.paper.specs.Calls.{verdict, refusal, refusal_with, Written, Changed}
use Rattle.words.specs.declared.refusal.Refusal.{Refusal}
use Rattle.words.specs.declared.answer.Verdict.{Verdict}
use Rattle.words.specs.declared.answer.Verdict.TheVariants.{Accepted, Ended, Spent}
use Rattle.words.specs.declared.answer.Told.{Told}
use Rattle.words.specs.declared.answer.Refused.{Refused}
use Rattle.words.specs.Refusals.{number, one_refusal}

-- The numbers of the verdicts.
abbrev pub verdict_number : Verdict → ℕ
verdict_number Accepted = 0
verdict_number Ended = 20
verdict_number Spent = 21

-- What the calls answer.
abbrev pub Answer : Type 0
Answer = Result Told Refused

-- A refusal by its number, its offset and its count, if it has one.
abbrev pub refused_as : ℕ → ℕ → Option ℕ → paper.Answer
refused_as n offset None = refusal n offset
refused_as n offset (Some count) = refusal_with n offset count

-- The refusal of what stands at that byte offset, with no count.
abbrev pub refused_at : Refusal → ℕ → Refused
refused_at r offset = record { refusal = r; offset = offset; count = None }

-- Accepted, with that count.
abbrev pub accepting : ℕ → Answer
accepting n = Ok (record { verdict = Accepted; count = n })

abbrev pub answer_is : Answer → paper.Answer
answer_is (Ok t) = verdict (verdict_number t.verdict) t.count
answer_is (Err r) = refused_as (number r.refusal) r.offset r.count

-- The answer is r, and the one lent buffer then holds out'.
abbrev pub Wrote : Written → Answer → List ℕ → Type 0
Wrote w r out' = (answer_is r ≡ w.answer) × (out' ≡ w.output)

-- The answer is r, and registers and state then hold registers' and state'.
abbrev pub Left : Changed → Answer → List ℕ → List ℕ → Type 0
Left c r registers' state' = (answer_is r ≡ c.answer) × (registers' ≡ c.registers) × (state' ≡ c.state)

-- ---- one outcome

-- The verdict of a number, where it is the number of one.
verdict_of : ℕ → Verdict
verdict_of n = cond (eqb n 20) Ended (cond (eqb n 21) Spent Accepted)

verdict_back : (v : Verdict) → verdict_of (verdict_number v) ≡ v
unfolding verdict_of
verdict_back Accepted = refl
verdict_back Ended = refl
verdict_back Spent = refl

-- Verdicts of one number are one verdict.
one_verdict : (v w : Verdict) → verdict_number v ≡ verdict_number w → v ≡ w
one_verdict v w e = sym (verdict_back v) ∙ ap verdict_of e ∙ verdict_back w

-- Refusals that mean the same have one number, one offset and one count.
refused_back : (n o m p : ℕ) (c d : Option ℕ) → refused_as n o c ≡ refused_as m p d → (n ≡ m) × (o ≡ p) × (c ≡ d)
refused_back n o m p None None e = (cc, cc, refl)
refused_back n o m p None (Some d) e = cc
refused_back n o m p (Some c) None e = cc
refused_back n o m p (Some c) (Some d) e = (cc, cc, cc)

-- What means a refusal without a count has none.
pub refused_plain : (n o m p : ℕ) (c : Option ℕ) → refused_as n o c ≡ refusal m p → (n ≡ m) × (o ≡ p) × (c ≡ None)
refused_plain n o m p None e = (cc, cc, refl)
refused_plain n o m p (Some c) e = cc

-- What refuses nothing is no refusal.
pub told_refused : (n c m o : ℕ) (d : Option ℕ) → verdict n c ≡ refused_as m o d → ⊥
told_refused n c m o None e = cc
told_refused n c m o (Some d) e = cc

-- Answers that mean the same are the same.
answer_back : (r s : Answer) → answer_is r ≡ answer_is s → r ≡ s
answer_back (Ok t) (Ok u) e =
    let v : t.verdict ≡ u.verdict = one_verdict t.verdict u.verdict cc in
    let c : t.count ≡ u.count = cc in
    λ i. Ok (record { verdict = v i; count = c i })
answer_back (Ok t) (Err r) e = absurd (told_refused _ _ _ _ r.count e)
answer_back (Err r) (Ok t) e = absurd (told_refused _ _ _ _ r.count (sym e))
answer_back (Err r) (Err s) e =
    let p = refused_back _ _ _ _ r.count s.count e in
    let n : r.refusal ≡ s.refusal = one_refusal r.refusal s.refusal p.0 in
    λ i. Err (record { refusal = n i; offset = p.1 i; count = p.2 i })

pub one_answer : (a : paper.Answer) (r s : Answer) → answer_is r ≡ a → answer_is s ≡ a → r ≡ s
one_answer a r s p q = answer_back r s (p ∙ sym q)

pub one_written : (w : Written) (r s : Answer) (out' out'' : List ℕ) → Wrote w r out' → Wrote w s out'' → (r ≡ s) × (out' ≡ out'')
one_written w r s out' out'' p q = (one_answer w.answer r s p.0 q.0, p.1 ∙ sym q.1)

pub one_changed : (c : Changed) (r s : Answer) (registers' registers'' state' state'' : List ℕ) → Left c r registers' state' → Left c s registers'' state''
    → (r ≡ s) × (registers' ≡ registers'') × (state' ≡ state'')
one_changed c r s registers' registers'' state' state'' p q = (one_answer c.answer r s p.0 q.0, p.1 ∙ sym q.1, p.2 ∙ sym q.2)
