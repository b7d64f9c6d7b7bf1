-- What was listed and is read again: the same instructions always, and the same bytes where each short word is the smallest. Assumes nothing.
use Rattle.std.specs.Prelude.{Bool, cond, ◌≡◌, ℕ, ◌+◌, ◌*◌, ◌%◌, ◌<◌, ◌≤◌, ◌^◌, eqb}
use Rattle.std.proofs.Math.Bool.{true, false}
use Rattle.std.proofs.lemmas.Bool.{false≢true}
use mathlib.Core.List.{List, [], ◌∷◌, ◌++◌}
use Rattle.std.proofs.Math.Option.{Option, none, some}
use Rattle.std.proofs.Math.Path.{refl, sym, ap, ap₂}
use Rattle.std.proofs.Common.{◌∙◌, subst, length-drop, drop-drop}
use native.Mathlib.Omega.{arith}
use Rattle.std.proofs.Math.ListN.{length, take, drop, take-append-drop}
use Rattle.std.proofs.Math.Seq.{drop-length}
use Rattle.std.proofs.Math.Pow.{are_bytes}
use Rattle.paper.specs.Bits.{number, number_at, bytes_of}
use Rattle.paper.specs.Limits.{instruction_limit}
use Rattle.paper.specs.Dictionary.{Dictionary, dictionary_of}
use Rattle.paper.specs.Shorten.{Shortens, Least, shorten}
use Rattle.paper.specs.Kernel.{Instr, long_and_short, judge_at, good, parse}
use Rattle.paper.specs.Jump.{next_of, end_from}
use Rattle.paper.specs.Packing.{places_taken, encode}
use Rattle.paper.specs.Calls.{accepted}
use Rattle.paper.specs.Listing.{listing, present, form_taken, taken, listed, read_listing, short_of, kernel_of}
use Rattle.text.specs.Reading.{after_text}
use Rattle.laws.specs.Bytes.{number_lt, bytes_of-number, number-bytes_of, bytes_drop}
use Rattle.laws.specs.Names.{Laid}
use Rattle.laws.specs.Shorten.{shorten-some, shorten-none, shorten_only}
use Rattle.laws.specs.Items.{length-encode}
use Rattle.laws.specs.Walk.{Each, Brings, walked}
use Rattle.laws.specs.Judged.{Passed, as_long, as_short, judge_passed}
use Rattle.laws.specs.Parse.{WordAt}
use Rattle.laws.specs.Packing.{kernel_of_lem}
use Rattle.listing.specs.Lines.{Shaped}
use Rattle.listing.specs.Texts.{Readable}
use Rattle.listing.specs.Kernels.{takes_taken, taken_takes, one_form, Text, text_read}

-- ---- an accepted kernel can be listed and read

-- An instruction of one place is a short word for its word; one of two places has its word's bytes.
pub record FormAt (D : Dictionary) (kernel : List ℕ) (from size w : ℕ) : Type 0 where
  pub is_short : Bool
  pub places : size ≡ cond is_short 1 2
  pub room : from + 8 * size ≤ length kernel
  pub shortens : size ≡ 1 → Shortens D w (number_at kernel from 8)

module _ (D : Dictionary) (kernel : List ℕ) (bytes : are_bytes kernel ≡ true) where
  short_fits : (from : ℕ) → number_at kernel from 8 < 2 ^ 64
  unfolding number_at
  short_fits from = number_lt 8 (drop from kernel) (bytes_drop from kernel bytes)

  form_at : (from size w : ℕ) → Passed long_and_short D kernel from size w → (0 < size) × (from + 8 * size ≤ length kernel) × FormAt D kernel from size w
  form_at from size w (as_long room form known legal) = (
    omega arith,
    omega arith,
    record { is_short = false; places = refl; room = omega arith; shortens = λ e. absurd (omega arith) },
  )
  form_at from size w (as_short room form known plain takes legal) = (
    omega arith,
    omega arith,
    record {
      is_short = true;
      places = refl;
      room = omega arith;
      shortens = λ _. record { fits = short_fits from; marked = form; plain = plain; same = refl };
    },
  )

  brings : Brings (judge_at long_and_short D kernel) (length kernel) (FormAt D kernel)
  brings from size w inside e = form_at from size w (judge_passed long_and_short D kernel from inside size w e)

  pub forms_at : (k : List Instr) → parse long_and_short D kernel ≡ good k → Each (FormAt D kernel) k
  unfolding parse
  forms_at k e = (walked (FormAt D kernel) (judge_at long_and_short D kernel) (length kernel) brings instruction_limit 0 refl (omega arith) k e).each

is_there : (D : Dictionary) (w s : ℕ) → w < 2 ^ 128 → Shortens D w s → present (shorten D w) ≡ true
is_there D w s fits h = go (shorten D w) refl
  where
    go : (o : Option ℕ) → shorten D w ≡ o → present o ≡ true
    go none e = absurd (shorten-none D w fits e s h)
    go (some t) e = refl

-- Its form can be taken.
form_taken_lem : (D : Dictionary) (kernel : List ℕ) (i : Instr) → i.word < 2 ^ 128 → FormAt D kernel (8 * i.place) i.size i.word → form_taken D i ≡ true
unfolding form_taken
form_taken_lem D kernel i fits f = go f.is_short f.places
  where
    go : (b : Bool) → i.size ≡ cond b 1 2 → cond (eqb i.size 1) (present (shorten D i.word)) true ≡ true
    go true q = rw q (is_there D i.word (number_at kernel (8 * i.place) 8) fits (f.shortens q))
    go false q = rw q

readable : (D : Dictionary) (kernel : List ℕ) (k : List Instr) → Each (WordAt long_and_short kernel) k → Each (FormAt D kernel) k → Readable D k
unfolding Each Readable
readable D kernel [] words forms = tt
readable D kernel (i ∷ k) words forms =
    let w = words.0 in
    let f = forms.0 in (
      record { is_short = f.is_short; size = f.places; fits = w.fits },
      takes_taken D i (record { long = w.long; legal = w.legal; form = form_taken_lem D kernel i w.fits f }),
      readable D kernel k words.1 forms.1,
    )

-- Reading what was listed gives the kernel's instructions.
pub listed_text : (dictionary kernel : List ℕ) → are_bytes kernel ≡ true → (k : List Instr) → accepted long_and_short dictionary kernel ≡ good k
    → Text (dictionary_of dictionary) (listing k) k
listed_text dictionary kernel bytes k e =
    let D = dictionary_of dictionary in
    let h = kernel_of_lem long_and_short dictionary kernel bytes k e in
    record {
      few = h.few;
      laid = h.sound.laid;
      able = readable D kernel k h.words (forms_at D kernel bytes k h.parses);
      land = h.sound.land;
      text = refl;
    }

pub listed_read : (dictionary kernel : List ℕ) → are_bytes kernel ≡ true → (k : List Instr) → accepted long_and_short dictionary kernel ≡ good k
    → read_listing (dictionary_of dictionary) (listing k) ≡ listed k
listed_read dictionary kernel bytes k e =
    text_read (dictionary_of dictionary) (listing k) k (listed_text dictionary kernel bytes k e)

-- ---- where each short word is the smallest

-- Each short word of a kernel is the smallest that expands to its word.
abbrev pub Smallest : Dictionary → List ℕ → List Instr → Type 0
Smallest D kernel k = Each (λ (from size w : ℕ). size ≡ 1 → Least D w (number_at kernel from 8)) k

module _ (D : Dictionary) (kernel : List ℕ) (bytes : are_bytes kernel ≡ true) where
  short_bytes : (from : ℕ) → from + 8 ≤ length kernel → bytes_of 8 (number_at kernel from 8) ≡ take 8 (drop from kernel)
  unfolding number_at
  short_bytes from h = bytes_of-number 8 (drop from kernel) (bytes_drop from kernel bytes) (rw (length-drop from kernel) (omega arith))

  -- an instruction's bytes, by its form
  own_bytes : (i : Instr) (b : Bool) → i.size ≡ cond b 1 2 → WordAt long_and_short kernel (8 * i.place) i.size i.word
      → FormAt D kernel (8 * i.place) i.size i.word → (i.size ≡ 1 → Least D i.word (number_at kernel (8 * i.place) 8))
      → encode (short_of D i) i.word ≡ take (8 * i.size) (drop (8 * i.place) kernel)
  unfolding short_of
  own_bytes i true q w f least =
      let s = shorten_only D i.word w.fits (some (number_at kernel (8 * i.place) 8)) (least q) in
      let room : 8 * i.place + 8 ≤ length kernel = let r = f.room in omega arith in
      rw (q, ← s) (short_bytes (8 * i.place) room)
  own_bytes i false q w f least = rw q (w.bytes q)

  pub bytes_back : (p : ℕ) (k : List Instr) → Laid p k → 8 * end_from p k ≡ length kernel → Each (WordAt long_and_short kernel) k → Each (FormAt D kernel) k
      → Smallest D kernel k → kernel_of D k ≡ drop (8 * p) kernel
  unfolding kernel_of Laid Each end_from
  bytes_back p [] laid ends words forms least = sym (ap (λ (x : ℕ). drop x kernel) ends ∙ drop-length kernel)
  bytes_back p (i ∷ k) laid ends words forms least =
      let here : i.place ≡ p = laid.0 in
      let next : 8 * p + 8 * i.size ≡ 8 * next_of i = omega arith in
      ap₂ (λ (x y : List ℕ). x ++ y)
      (own_bytes i forms.0.is_short forms.0.places words.0 forms.0 least.0 ∙ ap (λ (x : ℕ). take (8 * i.size) (drop (8 * x) kernel)) here)
      (bytes_back (next_of i) k laid.2 ends words.1 forms.1 least.1 ∙ ap (λ (x : ℕ). drop x kernel) (sym next) ∙ sym (drop-drop (8 * i.size) (8 * p) kernel))
      ∙ take-append-drop (8 * i.size) (drop (8 * p) kernel)

-- Reading what was listed gives the kernel's bytes.
pub same_bytes : (dictionary kernel : List ℕ) → are_bytes kernel ≡ true → (k : List Instr) → accepted long_and_short dictionary kernel ≡ good k
    → Smallest (dictionary_of dictionary) kernel k → kernel_of (dictionary_of dictionary) k ≡ kernel
same_bytes dictionary kernel bytes k e least =
    let D = dictionary_of dictionary in
    let h = kernel_of_lem long_and_short dictionary kernel bytes k e in
    bytes_back D kernel bytes 0 k h.sound.laid h.ends h.words (forms_at D kernel bytes k h.parses) least

-- ---- what was read

module _ (D : Dictionary) (kernel : List ℕ) where
  -- A short instruction that is laid out is the smallest short word for its word.
  own_smallest : (i : Instr) (rest : List ℕ) → Shaped i → taken D i ≡ true → drop (8 * i.place) kernel ≡ encode (short_of D i) i.word ++ rest → i.size ≡ 1
      → Least D i.word (number_at kernel (8 * i.place) 8)
  unfolding short_of number_at form_taken
  own_smallest i rest h t e one = go (shorten D i.word) refl
    where
      short : present (shorten D i.word) ≡ true
      short = rw one at (taken_takes D i t).form

      go : (o : Option ℕ) → shorten D i.word ≡ o → Least D i.word (number 8 (drop (8 * i.place) kernel))
      go none q = absurd (false≢true (ap present (sym q) ∙ short))
      go (some s) q =
          let least = shorten-some D i.word s h.fits q in
          let form : short_of D i ≡ some s = rw one q in
          let is : number 8 (drop (8 * i.place) kernel) ≡ s % 256 ^ 8 =
          ap (number 8) (e ∙ ap (λ (o : Option ℕ). encode o i.word ++ rest) form) ∙ number-bytes_of 8 s rest in
          let fits = least.is.fits in
          let whole : s % 256 ^ 8 ≡ s = omega arith in
          subst (Least D i.word) (sym (is ∙ whole)) least

  smallest_from : (p : ℕ) (k : List Instr) → Laid p k → Readable D k → drop (8 * p) kernel ≡ kernel_of D k → Smallest D kernel k
  unfolding kernel_of Laid Readable Each
  smallest_from p [] laid able e = tt
  smallest_from p (i ∷ k) laid able e =
      let here : i.place ≡ p = laid.0 in
      let size : places_taken (short_of D i) ≡ i.size = (one_form D i able.0 able.1).0 in
      let next : 8 * p + length (encode (short_of D i) i.word) ≡ 8 * next_of i = omega (arith, length-encode (short_of D i) i.word) in
      let rest : drop (8 * next_of i) kernel ≡ kernel_of D k =
      ap (λ (x : ℕ). drop x kernel) (sym next) ∙ after_text kernel (encode (short_of D i) i.word) (kernel_of D k) (8 * p) e in
      (own_smallest i (kernel_of D k) able.0 able.1 (ap (λ (x : ℕ). drop (8 * x) kernel) here ∙ e), smallest_from (next_of i) k laid.2 able.2 rest)

-- Each short word of a kernel that was read is the smallest.
pub read_smallest : (D : Dictionary) (k : List Instr) → Laid 0 k → Readable D k → Smallest D (kernel_of D k) k
read_smallest D k laid able = smallest_from D (kernel_of D k) 0 k laid able refl
