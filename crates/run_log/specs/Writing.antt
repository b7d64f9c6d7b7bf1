-- Laws of writing: a record's length, lines that follow each other, and the part of the log that is lent. Assumes nothing.
use Rattle.std.specs.Prelude.{◌≡◌, refl, List, [], ◌++◌, ℕ, ◌+◌, ◌-◌, ◌≤◌, ◌<◌, take, drop}
use Rattle.std.proofs.Common.{ap, ◌∙◌, append_assoc, append-nil, arith, length-append, length-drop, drop_of_length-le, drop-drop, take_all, le-leb}
use Rattle.std.proofs.Math.ListN.{length}
use Rattle.std.proofs.lemmas.List.Edits.{sets, sets-eq}
use Rattle.std.proofs.lemmas.Bool.{lt-leb}
use Rattle.paper.specs.Text.{decimal, line}
use Rattle.paper.specs.Calls.{verdict, refusal_with}
use Rattle.paper.specs.Log.{Entry, run_name, verdict_name, steps_name, place_name, awake_name, end_name, record_text, added_at}
use Rattle.text.specs.Decimals.{length_one}
use Rattle.text.specs.Written.{sets-append, length-line}

-- ---- a record's text

-- Its length, by lines,
pub length_lines : (run : ℕ) (e : Entry) → length (record_text run e)
    ≡ length (line run_name (decimal run)) + (length (line verdict_name (decimal e.verdict)) + (length (line steps_name (decimal e.steps))
    + (length (line place_name (decimal e.place)) + (length (line awake_name (decimal e.awake)) + length (line end_name (decimal 1))))))
unfolding record_text
length_lines run e = simp length-append

-- and by digits.
pub length_record : (run : ℕ) (e : Entry) → length (record_text run e)
    ≡ 41 + length (decimal run) + length (decimal e.verdict) + length (decimal e.steps) + length (decimal e.place) + length (decimal e.awake)
length_record run e =
    omega (
      arith,
      length_lines run e,
      length-line run_name run,
      length-line verdict_name e.verdict,
      length-line steps_name e.steps,
      length-line place_name e.place,
      length-line awake_name e.awake,
      length-line end_name 1,
      length_one 1 (omega arith),
    )

-- The list l is o with the text t stored at the start, and n is the place after it.
pub record Sofar (o t l : List ℕ) (n : ℕ) : Type 0 where
  pub next : n ≡ length t
  pub is : l ≡ sets o 0 t

pub start : (o : List ℕ) → Sofar o [] o 0
start o = record { next = refl; is = refl }

-- One text more.
pub further : {o t l m : List ℕ} {n k : ℕ} (u : List ℕ) → Sofar o t l n → k ≡ n + length u → m ≡ sets l n u → Sofar o (t ++ u) m k
further {o} {t} {l} {m} {n} {k} u s e w =
    let z : n ≡ 0 + length t = omega (arith, s.next) in
    record {
      next = omega (arith, length-append t u, s.next);
      is = w ∙ (ap (λ (r : List ℕ). sets r n u) s.is ∙ (ap (λ (i : ℕ). sets (sets o 0 t) i u) z ∙ sets-append t u o 0));
    }

-- The six lines are the record.
pub record_stored : (run : ℕ) (e : Entry) (o l : List ℕ) (n : ℕ)
    → Sofar o ([] ++ line run_name (decimal run) ++ line verdict_name (decimal e.verdict) ++ line steps_name (decimal e.steps) ++ line place_name (decimal e.place)
    ++ line awake_name (decimal e.awake) ++ line end_name (decimal 1)) l n
    → l ≡ sets o 0 (record_text run e)
unfolding record_text
record_stored run e o l n s =
    let t : [] ++ line run_name (decimal run) ++ line verdict_name (decimal e.verdict) ++ line steps_name (decimal e.steps) ++ line place_name (decimal e.place)
    ++ line awake_name (decimal e.awake) ++ line end_name (decimal 1) ≡ record_text run e = simp append_assoc in
    s.is ∙ ap (sets o 0) t

-- ---- the log

-- A text is stored at the start of the part that begins at a place: the log as a whole.
pub tail_stored : (log text : List ℕ) (at : ℕ) → at + length text ≤ length log
    → take at log ++ (sets (take (length log - at) (drop at log)) 0 text ++ drop (length log - at) (drop at log)) ≡ take at log ++ (text ++ drop (at + length text) log)
tail_stored log text at h =
    let d = length-drop at log in
    let z : drop (length log - at) (drop at log) ≡ [] = drop_of_length-le (drop at log) {i = length log - at} (omega arith) in
    let e : sets (drop at log) 0 text ≡ text ++ drop (at + length text) log =
    sets-eq text (drop at log) 0 (omega arith) ∙ ap (λ (r : List ℕ). text ++ r) (ap (λ (k : ℕ). drop k (drop at log)) (let k : 0 + length text ≡ length text = omega arith in k) ∙ drop-drop (length text) at log) in
    ap (λ (r : List ℕ). take at log ++ r) (ap (λ (r : List ℕ). sets r 0 text ++ drop (length log - at) (drop at log)) (take_all (length log - at) (drop at log) (omega arith))
    ∙ (ap (λ (r : List ℕ). sets (drop at log) 0 text ++ r) z ∙ (append-nil _ ∙ e)))

-- What is answered and left where there is room, and where there is none.
module _ (log text : List ℕ) (count at : ℕ) where
  pub fits_wrote : (l : List ℕ) (n : ℕ) → at + length text ≤ length log → n ≡ length text → l ≡ take at log ++ (text ++ drop (at + length text) log)
      → (verdict 0 (at + n) ≡ (added_at log count at text).answer) × (l ≡ (added_at log count at text).output)
  unfolding added_at
  fits_wrote l n h e w = rw (le-leb (at + length text) (length log) h, e) (refl, w)

  pub full_wrote : length log < at + length text
      → (refusal_with 14 0 count ≡ (added_at log count at text).answer) × (log ≡ (added_at log count at text).output)
  unfolding added_at
  full_wrote h = rw (lt-leb (at + length text) (length log) h) (refl, refl)
