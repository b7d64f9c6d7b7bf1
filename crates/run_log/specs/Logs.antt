-- A log that was cut off at any byte reads as exactly the records that are whole in it; what reads is a beginning of a log. Assumes nothing.
use Rattle.std.specs.Prelude.{◌≡◌, refl, List, [], ◌∷◌, ◌++◌, ℕ, zero, suc, ◌+◌, ◌≤◌, ◌<◌, length, take, drop}
use Rattle.std.proofs.Common.{ap, ◌∙◌, sym, subst₂, append_assoc, arith, add-zero, length-append, drop_of_length-le}
use Rattle.paper.specs.Log.{Entry, record_text, log_text, Reach, upto, torn_off, astray, record_at, readable, onward, read_from, reading}
use Rattle.text.specs.Reading.{after_text}
use Rattle.run_log.specs.Items.{Stands, Tears}
use Rattle.run_log.specs.Records.{Legal, record_some, record_read, record_torn, record_stands, record_tears}

abbrev pub AllLegal : List Entry → Type 0
AllLegal [] = Unit {0}
AllLegal (e ∷ es) = Legal e × AllLegal es

-- A legal entry.
abbrev pub some_entry : Entry
some_entry = record { verdict = 20; steps = 0; place = 0; awake = 0 }

pub some_legal : Legal some_entry
some_legal =
    record { verdict-from = omega arith; verdict-to = omega arith; steps = omega arith; place = omega arith; awake = omega arith }

-- ---- a log that is cut off

-- The text s from a place on: the records of some runs, numbered from run on, and a part of the next one, which is torn off.
pub record CutAt (s : List ℕ) (run at : ℕ) : Type 0 where
  pub entries : List Entry
  pub legal : AllLegal entries
  pub next : Entry
  pub next-legal : Legal next
  pub bytes : ℕ
  pub short : bytes < length (record_text (run + length entries) next)
  pub is : drop at s ≡ log_text run entries ++ take bytes (record_text (run + length entries) next)

-- What is read of it: the records that are whole.
cut_reads : (es : List Entry) (f : ℕ) (s : List ℕ) (run at : ℕ) (e : Entry) (j : ℕ) → AllLegal es → Legal e → j < length (record_text (run + length es) e)
    → drop at s ≡ log_text run es ++ take j (record_text (run + length es) e) → length es ≤ f
    → read_from f s run at ≡ readable (run + length es) (at + length (log_text run es))
unfolding read_from log_text
cut_reads [] zero s run at e j h g l w m = rw (add-zero run, add-zero at)
cut_reads [] (suc f) s run at e j h g l w m =
    let z = add-zero run in
    let k : record_at s run at ≡ torn_off = record_torn s run at j e g (rw (← z) l) (w ∙ ap (λ (n : ℕ). take j (record_text n e)) z) in
    rw (k, add-zero run, add-zero at)
cut_reads (d ∷ es) zero s run at e j h g l w m = absurd (omega arith)
cut_reads (d ∷ es) (suc f) s run at e j h g l w m =
    let z : run + suc (length es) ≡ suc run + length es = omega arith in
    let w2 : drop at s ≡ record_text run d ++ (log_text (suc run) es ++ take j (record_text (suc run + length es) e)) =
    w ∙ (append_assoc (record_text run d) (log_text (suc run) es) _ ∙ ap (λ (n : ℕ). record_text run d ++ (log_text (suc run) es ++ take j (record_text n e))) z) in
    let k = record_read s run at _ d h.0 w2 in
    let b : at + length (record_text run d) + length (log_text (suc run) es) ≡ at + length (record_text run d ++ log_text (suc run) es) = omega (arith, length-append (record_text run d) (log_text (suc run) es)) in
    ap (λ (r : Reach). onward r run at (read_from f s (suc run))) k
    ∙ (cut_reads es f s (suc run) (at + length (record_text run d)) e j h.1 g (rw (← z) l) (after_text s (record_text run d) _ at w2) (omega arith)
    ∙ rw (b, z))

-- There are fewer records than bytes.
pub count_most : (run : ℕ) (es : List Entry) → length es ≤ length (log_text run es)
unfolding log_text
count_most run [] = omega arith
count_most run (e ∷ es) = omega (arith, count_most (suc run) es, record_some run e, length-append (record_text run e) (log_text (suc run) es))

-- A log that was cut off in a record, at any byte of it, or before its first, reads as the records before that.
pub log_cut : (es : List Entry) (e : Entry) (j : ℕ) → AllLegal es → Legal e → j < length (record_text (length es) e)
    → reading (log_text 0 es ++ take j (record_text (length es) e)) ≡ readable (length es) (length (log_text 0 es))
unfolding reading
log_cut es e j h g l =
    let z : 0 + length es ≡ length es = omega arith in
    let y : 0 + length (log_text 0 es) ≡ length (log_text 0 es) = omega arith in
    let s : List ℕ = log_text 0 es ++ take j (record_text (length es) e) in
    cut_reads es (length s) s 0 0 e j h g (rw z l) (ap (λ (n : ℕ). log_text 0 es ++ take j (record_text n e)) (sym z))
    (omega (arith, count_most 0 es, length-append (log_text 0 es) (take j (record_text (length es) e)))) ∙ rw (z, y)

-- ---- what reads is a log that is cut off

-- It is, with so many whole records in so many bytes.
pub record ReadAs (s : List ℕ) (run at runs bytes : ℕ) : Type 0 where
  pub cut : CutAt s run at
  pub runs-are : runs ≡ run + length cut.entries
  pub bytes-are : bytes ≡ at + length (log_text run cut.entries)

torn_here : (s : List ℕ) (run at : ℕ) (e : Entry) → Legal e → Tears s (record_text run e) at → ReadAs s run at run at
unfolding log_text
torn_here s run at e h t =
    let z = add-zero run in
    record {
      cut =
          record {
            entries = [];
            legal = tt;
            next = e;
            next-legal = h;
            bytes = t.bytes;
            short = rw z t.short;
            is = t.is ∙ ap (λ (n : ℕ). take t.bytes (record_text n e)) (sym z);
          };
      runs-are = sym z;
      bytes-are = sym (add-zero at);
    }

one_more : (s : List ℕ) (run at mid runs bytes : ℕ) (e : Entry) → Legal e → Stands s (record_text run e) at mid → ReadAs s (suc run) mid runs bytes
    → ReadAs s run at runs bytes
unfolding log_text
one_more s run at mid runs bytes e h t r =
    let c = r.cut in
    let z : suc run + length c.entries ≡ run + suc (length c.entries) = omega arith in
    record {
      cut =
          record {
            entries = e ∷ c.entries;
            legal = (h, c.legal);
            next = c.next;
            next-legal = c.next-legal;
            bytes = c.bytes;
            short = rw (← z) c.short;
            is =
                t.is ∙ (ap (λ (x : List ℕ). record_text run e ++ x) (c.is ∙ ap (λ (n : ℕ). log_text (suc run) c.entries ++ take c.bytes (record_text n c.next)) z)
                ∙ sym (append_assoc (record_text run e) (log_text (suc run) c.entries) _));
          };
      runs-are = r.runs-are ∙ z;
      bytes-are = omega (arith, r.bytes-are, t.next-is, length-append (record_text run e) (log_text (suc run) c.entries));
    }

reads_cut : (f : ℕ) (s : List ℕ) (run at runs bytes : ℕ) → length s ≤ at + f → read_from f s run at ≡ readable runs bytes → ReadAs s run at runs bytes
unfolding read_from
reads_cut zero s run at runs bytes m w =
    let a : run ≡ runs = cc in
    let b : at ≡ bytes = cc in
    subst₂ (λ (x y : ℕ). ReadAs s run at x y) a b
    (torn_here s run at some_entry some_legal
    (record { bytes = 0; short = record_some run some_entry; is = drop_of_length-le s {i = at} (omega arith) }))
reads_cut (suc f) s run at runs bytes m w = go (λ mid k v. reads_cut f s (suc run) mid runs bytes k v) (record_at s run at) refl w
  where
    go : ((mid : ℕ) → length s ≤ mid + f → read_from f s (suc run) mid ≡ readable runs bytes → ReadAs s (suc run) mid runs bytes)
        → (r : Reach) → record_at s run at ≡ r → onward r run at (read_from f s (suc run)) ≡ readable runs bytes → ReadAs s run at runs bytes
    go later (upto mid) k v =
        let t = record_stands s run at mid k in
        one_more s run at mid runs bytes t.0 t.1 t.2 (later mid (omega (arith, t.2.next-is, record_some run t.0)) v)
    go later torn_off k v =
        let a : run ≡ runs = cc in
        let b : at ≡ bytes = cc in
        let t = record_tears s run at k in
        subst₂ (λ (x y : ℕ). ReadAs s run at x y) a b (torn_here s run at t.0 t.1 t.2)
    go later astray k v = absurd (let z : ◌≡◌ {A = ℕ} 0 1 = cc in omega arith)

-- So what reads is the records that are said to be whole, and a part of one more.
pub log_reads : (s : List ℕ) (runs bytes : ℕ) → reading s ≡ readable runs bytes → ReadAs s 0 0 runs bytes
unfolding reading
log_reads s runs bytes w = reads_cut (length s) s 0 0 runs bytes (omega arith) w

-- They lie within it, and there are at most as many.
pub read_within : (s : List ℕ) (runs bytes : ℕ) → reading s ≡ readable runs bytes → (runs ≤ length s) × (bytes ≤ length s)
read_within s runs bytes w =
    let r = log_reads s runs bytes w in
    let c = r.cut in
    let n = length-append (log_text 0 c.entries) (take c.bytes (record_text (0 + length c.entries) c.next)) in
    let m : length s ≡ length (log_text 0 c.entries ++ take c.bytes (record_text (0 + length c.entries) c.next)) = ap length c.is in
    (omega (arith, r.runs-are, count_most 0 c.entries), omega (arith, r.bytes-are))
