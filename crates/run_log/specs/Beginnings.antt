-- A beginning of a log is exactly what reads; and what an append leaves is the log of the whole records and the new one. Assumes nothing.
use Rattle.std.specs.Prelude.{◌≡◌, refl, true, drop}
use Rattle.std.proofs.Math.Path.{ap, sym}
use Rattle.std.proofs.Common.{◌∙◌, ⊎_elim, take-append-drop}
use mathlib.Core.List.{List, [], ◌∷◌, ◌++◌, append_assoc, append-nil}
use Prim.Native.Nat.{ℕ, suc, ◌+◌, ◌≤◌, ◌<◌}
use native.Mathlib.Omega.{arith}
use Rattle.std.proofs.Math.Nat.{add-zero}
use Rattle.std.proofs.Math.ListN.{length, take}
use Rattle.std.proofs.Math.Seq.{take-append-le, take-append_seam, drop-append_seam}
use Rattle.paper.specs.Log.{Entry, entry_legal, record_text, log_text, all_legal, Beginning, readable, reading}
use Rattle.text.specs.Decimals.{below}
use Rattle.laws.specs.Truth.{both_true}
use Rattle.run_log.specs.Records.{Legal, legal-is, is-legal, record_some}
use Rattle.run_log.specs.Logs.{AllLegal, some_entry, some_legal, CutAt, log_cut, log_reads}

-- ---- legal entries

pub all_are : (es : List Entry) → all_legal es ≡ true → AllLegal es
unfolding all_legal
all_are [] h = tt
all_are (e ∷ es) h = let b = both_true (entry_legal e) (all_legal es) h in (legal-is e b.0, all_are es b.1)

pub are_all : (es : List Entry) → AllLegal es → all_legal es ≡ true
unfolding all_legal
are_all [] h = refl
are_all (e ∷ es) h = rw (is-legal e h.0, are_all es h.1)

one_more : (es : List Entry) (e : Entry) → AllLegal es → Legal e → AllLegal (es ++ (e ∷ []))
one_more [] e h g = (g, tt)
one_more (d ∷ es) e h g = (h.0, one_more es e h.1 g)

-- The log of one entry more.
pub log_more : (run : ℕ) (es : List Entry) (e : Entry) → log_text run (es ++ (e ∷ [])) ≡ log_text run es ++ record_text (run + length es) e
unfolding log_text
log_more run [] e = append-nil (record_text run e) ∙ ap (λ (n : ℕ). record_text n e) (sym (add-zero run))
log_more run (d ∷ es) e =
    let z : suc run + length es ≡ run + suc (length es) = omega arith in
    ap (λ (r : List ℕ). record_text run d ++ r) (log_more (suc run) es e ∙ ap (λ (n : ℕ). log_text (suc run) es ++ record_text n e) z)
    ∙ sym (append_assoc (record_text run d) (log_text (suc run) es) (record_text (run + suc (length es)) e))

-- ---- beginnings

-- Some first bytes of a log are a log that is cut off.
module _ (e : Entry) (es : List Entry) (run : ℕ) (s rest : List ℕ) (is : s ++ rest ≡ record_text run e ++ log_text (suc run) es) where
  torn_first : Legal e → length s < length (record_text run e) → CutAt s run 0
  unfolding log_text
  torn_first h k =
      let z = add-zero run in
      let w : s ≡ take (length s) (record_text run e) =
      sym (take-append_seam s rest) ∙ (ap (take (length s)) is ∙ take-append-le (length s) (record_text run e) (log_text (suc run) es) (omega arith)) in
      record {
        entries = [];
        legal = tt;
        next = e;
        next-legal = h;
        bytes = length s;
        short = rw z k;
        is = w ∙ ap (λ (n : ℕ). take (length s) (record_text n e)) (sym z);
      }

  first_whole : length (record_text run e) ≤ length s → s ≡ record_text run e ++ drop (length (record_text run e)) s
  first_whole k =
      let w : take (length (record_text run e)) s ≡ record_text run e =
      sym (take-append-le (length (record_text run e)) s rest k) ∙ (ap (take (length (record_text run e))) is ∙ take-append_seam (record_text run e) (log_text (suc run) es)) in
      sym (take-append-drop (length (record_text run e)) s) ∙ ap (λ (x : List ℕ). x ++ drop (length (record_text run e)) s) w

  rest_is : length (record_text run e) ≤ length s → drop (length (record_text run e)) s ++ rest ≡ log_text (suc run) es
  rest_is k =
      let t : List ℕ = record_text run e in
      sym (drop-append_seam t (drop (length t) s ++ rest)) ∙ (ap (drop (length t)) (sym (append_assoc t (drop (length t) s) rest) ∙ (ap (λ (x : List ℕ). x ++ rest) (sym (first_whole k)) ∙ is))
      ∙ drop-append_seam t (log_text (suc run) es))

  then_cut : Legal e → length (record_text run e) ≤ length s → CutAt (drop (length (record_text run e)) s) (suc run) 0 → CutAt s run 0
  unfolding log_text
  then_cut h k c =
      let z : suc run + length c.entries ≡ run + suc (length c.entries) = omega arith in
      record {
        entries = e ∷ c.entries;
        legal = (h, c.legal);
        next = c.next;
        next-legal = c.next-legal;
        bytes = c.bytes;
        short = rw (← z) c.short;
        is =
            first_whole k ∙ (ap (λ (x : List ℕ). record_text run e ++ x) (c.is ∙ ap (λ (n : ℕ). log_text (suc run) c.entries ++ take c.bytes (record_text n c.next)) z)
            ∙ sym (append_assoc (record_text run e) (log_text (suc run) c.entries) _));
      }

nothing : (s rest : List ℕ) → s ++ rest ≡ [] → s ≡ []
nothing [] rest e = refl
nothing (x ∷ s) rest e = absurd (let z : ◌≡◌ {A = ℕ} (suc (length (s ++ rest))) 0 = ap length e in omega arith)

begins_cut : (es : List Entry) (run : ℕ) (s rest : List ℕ) → AllLegal es → s ++ rest ≡ log_text run es → CutAt s run 0
unfolding log_text
begins_cut [] run s rest h is =
    let z = add-zero run in
    record {
      entries = [];
      legal = tt;
      next = some_entry;
      next-legal = some_legal;
      bytes = 0;
      short = rw z (record_some run some_entry);
      is = nothing s rest is;
    }
begins_cut (e ∷ es) run s rest h is = ⊎_elim
    (λ k. torn_first e es run s rest is h.0 k)
    (λ k. then_cut e es run s rest is h.0 k
    (begins_cut es (suc run) (drop (length (record_text run e)) s) rest h.1 (rest_is e es run s rest is k)))
    (below (length s) (length (record_text run e)))

-- What is read of a log that is cut off.
pub cut_reading : (s : List ℕ) (c : CutAt s 0 0) → reading s ≡ readable (length c.entries) (length (log_text 0 c.entries))
cut_reading s c =
    let z : 0 + length c.entries ≡ length c.entries = omega arith in
    let w : s ≡ log_text 0 c.entries ++ take c.bytes (record_text (length c.entries) c.next) =
    c.is ∙ ap (λ (n : ℕ). log_text 0 c.entries ++ take c.bytes (record_text n c.next)) z in
    ap reading w ∙ log_cut c.entries c.next c.bytes c.legal c.next-legal (rw (← z) c.short)

-- A beginning of a log is read,
pub begins_reads : (s : List ℕ) → Beginning s → (c : CutAt s 0 0) × (reading s ≡ readable (length c.entries) (length (log_text 0 c.entries)))
begins_reads s b =
    let c = begins_cut b.entries 0 s b.rest (all_are b.entries b.legal) b.is in
    (c, cut_reading s c)

-- and nothing else.
pub reads_begins : (s : List ℕ) (runs bytes : ℕ) → reading s ≡ readable runs bytes → Beginning s
reads_begins s runs bytes w =
    let c = (log_reads s runs bytes w).cut in
    let z : 0 + length c.entries ≡ length c.entries = omega arith in
    let t : List ℕ = record_text (0 + length c.entries) c.next in
    record {
      entries = c.entries ++ (c.next ∷ []);
      legal = are_all _ (one_more c.entries c.next c.legal c.next-legal);
      rest = drop c.bytes t;
      is =
          ap (λ (x : List ℕ). x ++ drop c.bytes t) c.is
          ∙ (append_assoc (log_text 0 c.entries) (take c.bytes t) (drop c.bytes t)
          ∙ (ap (λ (x : List ℕ). log_text 0 c.entries ++ x) (take-append-drop c.bytes t) ∙ sym (log_more 0 c.entries c.next)));
    }
