-- A record that stands is read, nothing else is, and a record that is torn off anywhere is told. Assumes nothing.
use Rattle.std.specs.Prelude.{◌≡◌, refl, true, ℕ, ◌+◌, ◌-◌, ◌/◌, ◌%◌, ◌≤◌, ◌<◌, take, drop}
use Rattle.std.proofs.Math.Path.{ap, sym, subst}
use Rattle.std.proofs.Common.{◌∙◌, arith, length-append, le-leb, leb-true}
use mathlib.Core.List.{List, [], ◌∷◌, ◌++◌, append-nil}
use Rattle.std.proofs.Math.ListN.{length}
use Rattle.paper.specs.Limits.{budget_limit, last_place}
use Rattle.paper.specs.Text.{decimal, line}
use Rattle.paper.specs.Log.{Entry, entry_legal, run_name, verdict_name, steps_name, place_name, awake_name, end_name, record_text, upto, torn_off, exactly, items, record_at}
use Rattle.text.specs.Decimals.{decimal_one, decimal_more}
use Rattle.laws.specs.Truth.{both_true}
use Rattle.run_log.specs.Items.{AllAllowed, AllModest, item_text, items_text, item_some, Stands, Tears, items_read, items_torn, items_stand, items_tear}

-- ---- legal entries

pub record Legal (e : Entry) : Type 0 where
  pub verdict-from : 20 ≤ e.verdict
  pub verdict-to : e.verdict ≤ 22
  pub steps : e.steps ≤ budget_limit
  pub place : e.place ≤ last_place
  pub awake : e.awake ≤ 16

pub legal-is : (e : Entry) → entry_legal e ≡ true → Legal e
unfolding entry_legal
legal-is e h =
    let a = both_true _ _ h in
    let v = both_true _ _ a.0 in
    let b = both_true _ _ a.1 in
    let d = both_true _ _ b.1 in
    record {
      verdict-from = leb-true _ _ v.0;
      verdict-to = leb-true _ _ v.1;
      steps = leb-true _ _ b.0;
      place = leb-true _ _ d.0;
      awake = leb-true _ _ d.1;
    }

pub is-legal : (e : Entry) → Legal e → entry_legal e ≡ true
unfolding entry_legal
is-legal e h = rw (le-leb _ _ h.verdict-from, le-leb _ _ h.verdict-to, le-leb _ _ h.steps, le-leb _ _ h.place, le-leb _ _ h.awake)

-- ---- a record as a list of lines

-- The numbers of its lines, as they are read.
abbrev numbers_of : ℕ → Entry → List ℕ
numbers_of run e = run ∷ (e.verdict - 20) ∷ e.steps ∷ e.place ∷ e.awake ∷ 1 ∷ []

-- 20 to 29 are a 2 and a digit.
twenty : (d : ℕ) → d < 10 → decimal (20 + d) ≡ 50 ∷ decimal d
twenty d h =
    let a : (20 + d) / 10 ≡ 2 = omega arith in
    let b : (20 + d) % 10 ≡ d = omega arith in
    decimal_more (20 + d) (omega arith) ∙ rw (a, b, decimal_one 2 (omega arith), decimal_one d h)

verdict_line : (v : ℕ) → 20 ≤ v → v ≤ 22 → line verdict_name (decimal v) ≡ line (verdict_name ++ (50 ∷ [])) (decimal (v - 20))
unfolding line
verdict_line v h k =
    let e : v ≡ 20 + (v - 20) = omega arith in
    ap (λ (r : List ℕ). verdict_name ++ (r ++ (10 ∷ []))) (ap decimal e ∙ twenty (v - 20) (omega arith))

record_lines : (run : ℕ) (e : Entry) → Legal e → record_text run e ≡ items_text (items run) (numbers_of run e)
unfolding record_text items_text item_text
record_lines run e h =
    rw (verdict_line e.verdict h.verdict-from h.verdict-to, append-nil (line end_name (decimal 1)))

items_modest : (run : ℕ) → AllModest (items run)
items_modest run = (tt, (omega arith, (omega arith, (omega arith, (omega arith, (tt, tt))))))

legal_allowed : (run : ℕ) (e : Entry) → Legal e → AllAllowed (items run) (numbers_of run e)
legal_allowed run e h = (refl, (omega (arith, h.verdict-to), (h.steps, (h.place, (h.awake, (refl, tt))))))

-- Numbers that the lines may have are those of a legal entry.
pub record Kept (run : ℕ) (vs : List ℕ) : Type 0 where
  pub entry : Entry
  pub legal : Legal entry
  pub is : vs ≡ numbers_of run entry

kept_entry : (run : ℕ) (vs : List ℕ) → AllAllowed (items run) vs → Kept run vs
kept_entry run (r ∷ v ∷ s ∷ p ∷ a ∷ o ∷ []) h =
    let b : 20 + v - 20 ≡ v = omega arith in
    record {
      entry = record { verdict = 20 + v; steps = s; place = p; awake = a };
      legal = record { verdict-from = omega arith; verdict-to = omega (arith, h.1.0); steps = h.1.1.0; place = h.1.1.1.0; awake = h.1.1.1.1.0 };
      is = rw (h.0, h.1.1.1.1.1.0, b);
    }
kept_entry run [] h = absurd h
kept_entry run (r ∷ []) h = absurd h.1
kept_entry run (r ∷ v ∷ []) h = absurd h.1.1
kept_entry run (r ∷ v ∷ s ∷ []) h = absurd h.1.1.1
kept_entry run (r ∷ v ∷ s ∷ p ∷ []) h = absurd h.1.1.1.1
kept_entry run (r ∷ v ∷ s ∷ p ∷ a ∷ []) h = absurd h.1.1.1.1.1
kept_entry run (r ∷ v ∷ s ∷ p ∷ a ∷ o ∷ x ∷ vs) h = absurd h.1.1.1.1.1.1

-- ---- reading one

-- A record has a byte.
pub record_some : (run : ℕ) (e : Entry) → 0 < length (record_text run e)
unfolding record_text item_text
record_some run e =
    omega (arith, length-append (line run_name (decimal run)) (line verdict_name (decimal e.verdict) ++ (line steps_name (decimal e.steps) ++ (line place_name (decimal e.place) ++ (line awake_name (decimal e.awake) ++ line end_name (decimal 1))))), item_some (exactly run_name run) run)

module _ (s : List ℕ) (run at : ℕ) where
  -- A record that stands is read;
  pub record_read : (rest : List ℕ) (e : Entry) → Legal e → drop at s ≡ record_text run e ++ rest → record_at s run at ≡ upto (at + length (record_text run e))
  unfolding record_at
  record_read rest e h w =
      let t = record_lines run e h in
      items_read s rest (items run) (numbers_of run e) at (items_modest run) (legal_allowed run e h) (w ∙ ap (λ (r : List ℕ). r ++ rest) t)
      ∙ ap (λ (r : List ℕ). upto (at + length r)) (sym t)

  -- one that is torn off is told;
  pub record_torn : (j : ℕ) (e : Entry) → Legal e → j < length (record_text run e) → drop at s ≡ take j (record_text run e) → record_at s run at ≡ torn_off
  unfolding record_at
  record_torn j e h l w =
      let t = record_lines run e h in
      items_torn s (items run) (numbers_of run e) at j (items_modest run) (legal_allowed run e h) (omega (arith, ap length t)) (w ∙ ap (take j) t)

  -- what is read is a record;
  pub record_stands : (next : ℕ) → record_at s run at ≡ upto next → (e : Entry) × (Legal e) × Stands s (record_text run e) at next
  unfolding record_at
  record_stands next w =
      let i = items_stand s (items run) at next w in
      let k = kept_entry run i.numbers i.allowed in
      let t : items_text (items run) i.numbers ≡ record_text run k.entry = ap (items_text (items run)) k.is ∙ sym (record_lines run k.entry k.legal) in
      (k.entry, k.legal, subst (λ (x : List ℕ). Stands s x at next) t i.stands)

  -- and what is torn off is torn off of one.
  pub record_tears : record_at s run at ≡ torn_off → (e : Entry) × (Legal e) × Tears s (record_text run e) at
  unfolding record_at
  record_tears w =
      let i = items_tear s (items run) at w in
      let k = kept_entry run i.numbers i.allowed in
      let t : items_text (items run) i.numbers ≡ record_text run k.entry = ap (items_text (items run)) k.is ∙ sym (record_lines run k.entry k.legal) in
      (k.entry, k.legal, subst (λ (x : List ℕ). Tears s x at) t i.tears)
