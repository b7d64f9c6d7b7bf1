-- Reading one instruction, as the code does it. Assumes nothing.
use Rattle.std.specs.Prelude as std
use Rattle.std.specs.Prelude.{Some, None, Result, Ok, Err, is_ok, replicate, take, Bool, true, false, cond, ◌&&◌, List, ◌≡◌, refl, ℕ, ◌+◌, ◌-◌, ◌*◌, ◌^◌, ◌≤◌, ◌<◌, eqb, length, drop, get_or}
use Rattle.std.proofs.Math.Option.{Option, none, some}
use Rattle.std.proofs.Common.{sym, ap, ◌∙◌, arith, drop_of_length-le, eq-eqb, ne_eqb}
use Rattle.std.proofs.lemmas.Bool.{false≢true}
use Rattle.std.proofs.lemmas.List.Edits.{sets}
use Rattle.paper.specs.Dictionary.{Dictionary}
use Rattle.paper.specs.Expand.{is_short}
use Rattle.paper.specs.Shorten.{shorten}
use Rattle.paper.specs.Operation.{operation, is_listed}
use Rattle.paper.specs.Legal.{refusal_of}
use Rattle.paper.specs.Kernel.{Instr}
use Rattle.paper.specs.Text.{decimal, line, hex_from, whole, torn, other, found}
use Rattle.paper.specs.Log.{place_name}
use Rattle.paper.specs.Listing.{form_name, form_of, instr_text, word_taken, present, form_taken, taken, word_at, candidate, instr_at}
use Rattle.text.specs.declared.read.Unread.{Unread}
use Rattle.text.specs.declared.read.Unread.TheVariants.{Torn, Other}
use Rattle.text.specs.Decimals.{decimal_most}
use Rattle.text.specs.Meaning.{found_is}
use Rattle.text.specs.Reading.{stored_first}
use Rattle.kernel.specs.Jumps.{instr_of}
use Rattle.kernel.specs.declared.instructions.Instruction.{Instruction}
use Rattle.kernel.specs.Instructions.{instr_is}
use Rattle.listing.specs.Lines.{length_lined, lines_length, from_lt, form_length, sum_joined}

-- What the code finds at a byte: the instruction that can be read there and the byte after its lines; or none.
abbrev pub LinesAt : Option Instr → ℕ → std.Option (Instruction × ℕ) → Type 0
LinesAt o from (Some (i, next)) = (o ≡ some (instr_is i)) × (next ≡ from + length (instr_text (instr_is i)))
LinesAt o from None = o ≡ none

-- ---- digits

pub digits_past : (s : List ℕ) (from : ℕ) → length s < from → (0 ≡ hex_from 0 8 (drop from s)) × (0 < 4294967296)
unfolding hex_from
digits_past s from h = (sym (ap (hex_from 0 8) (drop_of_length-le s {i = from} (omega arith))), omega arith)

pub digits_lt : (s : List ℕ) → hex_from 0 8 s < 4294967296
digits_lt s = from_lt 8 0 1 s (omega arith)

-- Four dwords, in halves.
pub word_halves : (s : List ℕ) (from a b c d : ℕ) → a ≡ hex_from 0 8 (drop (from + 3) s) → b ≡ hex_from 0 8 (drop (from + 15) s)
    → c ≡ hex_from 0 8 (drop (from + 27) s) → d ≡ hex_from 0 8 (drop (from + 39) s) → a + b * 2 ^ 32 + (c + d * 2 ^ 32) * 2 ^ 64 ≡ word_at s from
word_halves s from a b c d p q r t =
    sym (sum_joined a b c d (a + b * 2 ^ 32) (c + d * 2 ^ 32) refl refl) ∙ rw (p, q, r, t)

-- ---- the candidate

-- By its size, which its form's first letter tells, and its word.
pub form_bytes : (b : Bool) → length (form_of (cond b 1 2)) + 1 ≡ 7 - cond b 1 2
form_bytes true = refl
form_bytes false = refl

pub candidate_by : (s : List ℕ) (place from value size lines w : ℕ) → value ≡ from + length (decimal place) + 12 → size ≡ cond (eqb (get_or s value 0) 115) 1 2
    → lines ≡ value + 7 - size → w ≡ word_at s lines → instr_of place size w ≡ candidate s place from
unfolding candidate
candidate_by s place from value size lines w v e l q =
    let value' = from + length (line place_name (decimal place)) + length form_name in
    let same : value ≡ value' = omega (arith, length_lined place_name (decimal place)) in
    let b = eqb (get_or s value' 0) 115 in
    let e' : size ≡ cond b 1 2 = e ∙ ap (λ (x : ℕ). cond (eqb (get_or s x 0) 115) 1 2) same in
    let few = one_or_two b in
    let f = form_bytes b in
    let l' : lines ≡ value' + length (form_of (cond b 1 2)) + 1 = omega arith in
    λ j. record { place = place; size = e' j; word = (q ∙ ap (word_at s) l') j }
  where
    one_or_two : (b : Bool) → cond b 1 2 ≤ 2
    one_or_two true = omega arith
    one_or_two false = omega arith

-- Its lines fit their buffer.
pub lines_fit : (place size w : ℕ) → place < 2 ^ 64 → length (instr_text (instr_of place size w)) ≤ 86
lines_fit place size w h = omega (arith, lines_length (instr_of place size w), decimal_most 19 place (omega arith), form_length size)

-- ---- which can be read

module _ (w : ℕ) where
  pub taken_short : is_short w ≡ true → false ≡ word_taken w
  unfolding word_taken
  taken_short e = rw e

  pub taken_unlisted : is_short w ≡ false → is_listed (operation w) ≡ false → false ≡ word_taken w
  unfolding word_taken
  taken_unlisted e l = rw (e, l)

  pub taken_judged : is_short w ≡ false → is_listed (operation w) ≡ true → (b : Bool) → b ≡ eqb (refusal_of w) 0 → b ≡ word_taken w
  unfolding word_taken
  taken_judged e l b h = rw (e, l) h

-- A long instruction needs no short form.
pub form_long : (o : Option ℕ) (size : ℕ) → (size ≡ 1 → ⊥) → true ≡ cond (eqb size 1) (present o) true
form_long o size h = rw (ne_eqb size 1 h)

pub form_short : (o p : Option ℕ) (size : ℕ) → size ≡ 1 → p ≡ o → present p ≡ cond (eqb size 1) (present o) true
form_short o p size h e = rw (eq-eqb size 1 h, e)

-- Whether an instruction of that size with that word can be read, at any place.
abbrev pub TakenAs : Dictionary → ℕ → ℕ → Bool → Type 0
TakenAs D size w r = (place : ℕ) → r ≡ taken D (instr_of place size w)

pub taken_by : (D : Dictionary) (size w : ℕ) (a b : Bool) → a ≡ word_taken w → b ≡ cond (eqb size 1) (present (shorten D w)) true
    → TakenAs D size w (a && b)
unfolding form_taken
taken_by D size w a b p q place = rw (p, q)

-- ---- the answer

module _ (D : Dictionary) (s : List ℕ) (place from size w : ℕ) (is : instr_of place size w ≡ candidate s place from) where
  abbrev own : Instr
  own = instr_of place size w

  pub instr_some : found (instr_text own) (drop from s) ≡ whole → taken D own ≡ true → instr_at D s place from ≡ some own
  unfolding instr_at
  instr_some f t = rw (← is, f, t)

  pub instr_refused : found (instr_text own) (drop from s) ≡ whole → taken D own ≡ false → instr_at D s place from ≡ none
  unfolding instr_at
  instr_refused f t = rw (← is, f, t)

  pub instr_torn : found (instr_text own) (drop from s) ≡ torn → instr_at D s place from ≡ none
  unfolding instr_at
  instr_torn f = rw (← is, f)

  pub instr_other : found (instr_text own) (drop from s) ≡ other → instr_at D s place from ≡ none
  unfolding instr_at
  instr_other f = rw (← is, f)

  -- What was looked for is the instruction's own lines, as they were written.
  pub looked : (out : List ℕ) (n : ℕ) (r : Result (Unit {0}) Unread) → place < 2 ^ 64 → n ≡ 0 + length (instr_text own) → out ≡ sets (replicate 86 0) 0 (instr_text own)
      → found_is r ≡ found (take n out) (drop from s) → found_is r ≡ found (instr_text own) (drop from s)
  looked out n r h e k f = f ∙ ap (λ (t : List ℕ). found t (drop from s)) (stored_first (replicate 86 0) out (instr_text own) n (lines_fit place size w h) e k)

  pub instr_whole : (r : Result (Unit {0}) Unread) → true ≡ is_ok r → found_is r ≡ found (instr_text own) (drop from s) → found (instr_text own) (drop from s) ≡ whole
  instr_whole (Ok done) h f = sym f
  instr_whole (Err e) h f = absurd (false≢true (sym h))

  pub instr_unread : (r : Result (Unit {0}) Unread) → false ≡ is_ok r → found_is r ≡ found (instr_text own) (drop from s) → instr_at D s place from ≡ none
  instr_unread (Ok done) h f = absurd (false≢true h)
  instr_unread (Err Torn) h f = instr_torn (sym f)
  instr_unread (Err Other) h f = instr_other (sym f)
