-- Laws of writing: lines that follow each other, an instruction's dwords by the halves of its word, and what the call answers. Assumes nothing.
use Rattle.std.specs.Prelude.{Ok, Err, List, [], ◌∷◌, ◌++◌, ◌≡◌, refl, ℕ, ◌+◌, ◌*◌, ◌/◌, ◌%◌, ◌^◌, ◌≤◌, ◌<◌, set}
use Rattle.std.proofs.Common.{append_assoc, sym, ◌∙◌, length-append, lt-ltb, le-ltb, eq-eqb, ne_eqb}
use Rattle.std.proofs.Math.Path.{ap}
use native.Mathlib.Omega.{arith}
use Rattle.std.proofs.Math.Nat.{div-div-eq-div-mul}
use Rattle.std.proofs.Math.ListN.{length, drop}
use Rattle.std.proofs.lemmas.List.Edits.{sets, sets-eq}
use Rattle.paper.specs.Text.{decimal, hexes, line}
use Rattle.paper.specs.Log.{place_name}
use Rattle.paper.specs.Kernel.{long_and_short, good}
use Rattle.paper.specs.Calls.{verdict, refusal, deliver, accepted}
use Rattle.paper.specs.Listing.{form_name, form_of, dword_name, dword, instr_text, listing, list_call}
use Rattle.text.specs.Written.{sets-append}
use Rattle.text.specs.Steps.{length-hexes}
use Rattle.laws.specs.Bits.{bits-low}
use Rattle.words.specs.declared.answer.Refused.{Refused}
use Rattle.words.specs.Answer.{Answer, Wrote}
use Rattle.kernel.specs.Jumps.{instr_of}
use Rattle.kernel.specs.Marks.{Said, Says, says_refused, says_instrs}
use Rattle.kernel.specs.Accepting.{accepted_kernel}
use Rattle.listing.specs.Passing.{instrs_in, Listable}
use Rattle.listing.specs.Lines.{length_lined, lines_length}

-- A name, a text after it and the newline after that are the line.
pub line_stored : (out name text l m : List ℕ) (from a b : ℕ) → a ≡ from + length name → l ≡ sets out from name → b ≡ a + length text → m ≡ sets l a text
    → set m b 10 ≡ sets out from (line name text)
unfolding line
line_stored out name text l m from a b ea el eb em =
    ap (λ (k : ℕ). set m k 10) eb
    ∙ (ap (λ (r : List ℕ). sets r (a + length text) (10 ∷ [])) em
    ∙ (sets-append text (10 ∷ []) l a
    ∙ (ap (λ (r : List ℕ). sets r a (text ++ (10 ∷ []))) el
    ∙ (ap (λ (k : ℕ). sets (sets out from name) k (text ++ (10 ∷ []))) ea ∙ sets-append name (text ++ (10 ∷ [])) out from))))

-- The list l is o with the text t stored from a place on, and n is the place after it.
pub record Sofar (o t l : List ℕ) (from n : ℕ) : Type 0 where
  pub next : n ≡ from + length t
  pub is : l ≡ sets o from t

-- One text more.
pub further : {o t l m : List ℕ} {from n k : ℕ} (u : List ℕ) → Sofar o t l from n → k ≡ n + length u → m ≡ sets l n u → Sofar o (t ++ u) m from k
further {o} {t} {l} {m} {from} {n} {k} u s e w =
    record {
      next = omega (arith, length-append t u, s.next);
      is = w ∙ (ap (λ (r : List ℕ). sets r n u) s.is ∙ (ap (λ (i : ℕ). sets (sets o from t) i u) s.next ∙ sets-append t u o from));
    }

-- ---- dwords by halves

-- Of a number below 2 ^ 64, its halves.
low_half : (v : ℕ) → v / 1 % 2 ^ 32 ≡ v % 2 ^ 32
low_half v = omega arith

high_half : (v : ℕ) → v < 2 ^ 64 → v / 2 ^ 32 % 2 ^ 32 ≡ v / 2 ^ 32
high_half v h = omega arith

top : (lo hi : ℕ) → lo < 2 ^ 64 → (lo + hi * 2 ^ 64) / 2 ^ 64 ≡ hi
top lo hi h = omega arith

module _ (lo hi : ℕ) (fits : lo < 2 ^ 64) (high : hi < 2 ^ 64) where
  dword_0 : dword (lo + hi * 2 ^ 64) 0 ≡ lo % 2 ^ 32
  dword_0 = bits-low 0 32 32 lo hi ∙ low_half lo

  dword_1 : dword (lo + hi * 2 ^ 64) 1 ≡ lo / 2 ^ 32
  dword_1 = bits-low 32 32 0 lo hi ∙ high_half lo fits

  dword_2 : dword (lo + hi * 2 ^ 64) 2 ≡ hi % 2 ^ 32
  dword_2 = ap (λ (x : ℕ). x % 2 ^ 32) (top lo hi fits)

  dword_3 : dword (lo + hi * 2 ^ 64) 3 ≡ hi / 2 ^ 32
  dword_3 =
      let e : (lo + hi * 2 ^ 64) / 2 ^ 96 ≡ hi / 2 ^ 32 =
      sym (div-div-eq-div-mul (lo + hi * 2 ^ 64) (2 ^ 64) (2 ^ 32)) ∙ ap (λ (x : ℕ). x / 2 ^ 32) (top lo hi fits) in
      ap (λ (x : ℕ). x % 2 ^ 32) e ∙ high_half hi high

-- An instruction's six lines, by the halves of its word: its place's, its form's and four of digits.
pub lines_by : (p size lo hi : ℕ) → lo < 2 ^ 64 → hi < 2 ^ 64
    → line place_name (decimal p) ++ line form_name (form_of size) ++ line (dword_name 0) (hexes 8 (lo % 2 ^ 32)) ++ line (dword_name 1) (hexes 8 (lo / 2 ^ 32))
    ++ line (dword_name 2) (hexes 8 (hi % 2 ^ 32)) ++ line (dword_name 3) (hexes 8 (hi / 2 ^ 32)) ≡ instr_text (instr_of p size (lo + hi * 2 ^ 64))
unfolding instr_text
lines_by p size lo hi a b =
    rw (dword_0 lo hi a b, dword_1 lo hi a b, dword_2 lo hi a b, dword_3 lo hi a b) (simp append_assoc)

-- Their lengths.
pub length_hex : (name : List ℕ) (v : ℕ) → length (line name (hexes 8 v)) ≡ length name + 9
length_hex name v = omega (arith, length_lined name (hexes 8 v), length-hexes 8 v)

pub length_parts : (p size w : ℕ) → length (instr_text (instr_of p size w)) ≡ length (line place_name (decimal p)) + (length (line form_name (form_of size)) + 48)
length_parts p size w =
    omega (arith, lines_length (instr_of p size w), length_lined place_name (decimal p), length_lined form_name (form_of size))

-- The line of the form, written out.
pub short_line : (size : ℕ) → size ≡ 1
    → 102 ∷ 111 ∷ 114 ∷ 109 ∷ 61 ∷ 115 ∷ 104 ∷ 111 ∷ 114 ∷ 116 ∷ 10 ∷ [] ≡ line form_name (form_of size)
unfolding line
short_line size e = rw (eq-eqb size 1 e)

pub long_line : (size : ℕ) → (size ≡ 1 → ⊥)
    → 102 ∷ 111 ∷ 114 ∷ 109 ∷ 61 ∷ 108 ∷ 111 ∷ 110 ∷ 103 ∷ 10 ∷ [] ≡ line form_name (form_of size)
unfolding line
long_line size e = rw (ne_eqb size 1 e)

pub short_form : (size : ℕ) → size ≡ 1 → length (form_of size) ≡ 5
short_form size e = rw (eq-eqb size 1 e)

pub long_form : (size : ℕ) → (size ≡ 1 → ⊥) → length (form_of size) ≡ 4
long_form size e = rw (ne_eqb size 1 e)

-- ---- the answer

module _ (text out : List ℕ) where
  pub deliver_short : length out < length text → (refusal 14 0 ≡ (deliver text out).answer) × (out ≡ (deliver text out).output)
  unfolding deliver
  deliver_short h = rw (lt-ltb (length out) (length text) h) (refl, refl)

  pub deliver_written : (n : ℕ) (out' : List ℕ) → length text ≤ length out → n ≡ length text → out' ≡ sets out 0 text
      → (verdict 0 n ≡ (deliver text out).answer) × (out' ≡ (deliver text out).output)
  unfolding deliver
  deliver_written n out' h e w =
      let z : 0 + length text ≡ length text = omega arith in
      let h0 : 0 + length text ≤ length out = omega arith in
      rw (le-ltb (length out) (length text) h, e) (refl, w ∙ (sets-eq text out 0 h0 ∙ ap (λ (x : ℕ). text ++ drop x out) z))

-- ---- the call

module _ (dictionary kernel marks : List ℕ) (said : Said) (says : Says (accepted long_and_short dictionary kernel) said marks) where
  -- What check refuses is refused so.
  pub list_refused : (f : Refused) → said ≡ Err f → (out : List ℕ) → Wrote (list_call dictionary kernel out) (Err f) out
  unfolding list_call
  list_refused f e out =
      let p = says_refused (accepted long_and_short dictionary kernel) said marks says f e in
      rw (p.0, p.1) (refl, refl)

  module _ (count : ℕ) (e : said ≡ Ok count) where
    is-good : accepted long_and_short dictionary kernel ≡ good (instrs_in dictionary kernel)
    unfolding instrs_in
    is-good = (says_instrs (accepted long_and_short dictionary kernel) said marks says count e).0

    -- What it accepts can be listed.
    pub list_taken : Listable dictionary kernel
    list_taken = accepted_kernel long_and_short dictionary kernel (instrs_in dictionary kernel) is-good

    pub list_written : (r : Answer) (out after : List ℕ) → Wrote (deliver (listing (instrs_in dictionary kernel)) out) r after → Wrote (list_call dictionary kernel out) r after
    unfolding list_call
    list_written r out after w = rw is-good w
