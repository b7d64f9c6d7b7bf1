-- What an answer of 0 says of a single word, and what is then written; what 13 says. Assumes nothing.
use Rattle.std.specs.Prelude.{Bool, true, false, not, cond, ◌&&◌, ◌||◌, List, ◌++◌, ◌≡◌, refl, ℕ, ◌≤◌, eqb, length, drop}
use Rattle.std.proofs.Math.Option.{Option, none, some}
use Rattle.std.proofs.Common.{sym, ap, ◌∙◌, arith}
use Rattle.paper.specs.Bits.{bytes_of, number_at}
use Rattle.paper.specs.Limits.{dictionary_bytes}
use Rattle.paper.specs.Dictionary.{dictionary_of, in_range}
use Rattle.paper.specs.Expand.{is_short, expand}
use Rattle.paper.specs.Shorten.{shorten}
use Rattle.paper.specs.Operation.{operation, is_listed, is_branch}
use Rattle.paper.specs.Calls.{refusal, Written, kept, deliver, one_word, shortened, shorten_call, expand_call, number_of, count_of}
use Rattle.laws.specs.Bytes.{length-bytes_of}
use Rattle.promises.specs.Results.{wrote, deliver_fits, deliver_room, deliver_other}

-- ---- the checks of any word

-- What 1, 2 and 4 ask of a single word: its dictionary and its own bytes are as long as they must be, every dictionary number is in range, its opcode is listed.
pub record Fit (dictionary : List ℕ) (fits : Bool) (w : ℕ) : Type 0 where
  pub whole : eqb (length dictionary) dictionary_bytes ≡ true
  pub right : fits ≡ true
  pub range : in_range (dictionary_of dictionary) ≡ true
  pub listed : is_listed (operation w) ≡ true

-- Then only its form is left to be judged;
pub fit_passes : (dictionary : List ℕ) (fits : Bool) (w : ℕ) (out : List ℕ) (further : Written) → Fit dictionary fits w
    → one_word dictionary fits w out further ≡ further
unfolding one_word
fit_passes dictionary fits w out further f = rw (f.whole, f.right, f.range, f.listed)

-- and an answer of 0 says that it is so.
pub zero_fit : (dictionary : List ℕ) (fits : Bool) (w : ℕ) (out : List ℕ) (further : Written)
    → number_of (one_word dictionary fits w out further).answer ≡ 0 → Fit dictionary fits w
unfolding one_word
zero_fit dictionary fits w out further =
    go (eqb (length dictionary) dictionary_bytes) refl fits refl (in_range (dictionary_of dictionary)) refl (is_listed (operation w)) refl
  where
    go : (a : Bool) → eqb (length dictionary) dictionary_bytes ≡ a → (b : Bool) → fits ≡ b → (c : Bool) → in_range (dictionary_of dictionary) ≡ c
        → (d : Bool) → is_listed (operation w) ≡ d
        → number_of (cond (not (a && b)) (kept (refusal 1 0) out) (cond (not c) (kept (refusal 2 0) out) (cond (not d) (kept (refusal 4 0) out) further))).answer ≡ 0
        → Fit dictionary fits w
    go false p b q c r d s e = absurd (omega arith)
    go true p false q c r d s e = absurd (omega arith)
    go true p true q false r d s e = absurd (omega arith)
    go true p true q true r false s e = absurd (omega arith)
    go true p true q true r true s e = record { whole = p; right = q; range = r; listed = s }

-- ---- shorten

-- A short word is there, and its eight bytes are written.
pub record Shorter (short : Option ℕ) (out : List ℕ) (r : Written) : Type 0 where
  pub word : ℕ
  pub is : short ≡ some word
  pub count : count_of r.answer ≡ 8
  pub output : r.output ≡ bytes_of 8 word ++ drop 8 out

-- What 0 and 13 say.
pub record Says (short : Option ℕ) (out : List ℕ) (r : Written) : Type 0 where
  pub fine : number_of r.answer ≡ 0 → Shorter short out r
  pub thirteen : number_of r.answer ≡ 13 → short ≡ none

-- Any other refusal says neither; a choice says what both say.
says_no : (short : Option ℕ) (out : List ℕ) (number : ℕ) → (number ≡ 0 → ⊥) → (number ≡ 13 → ⊥) → Says short out (kept (refusal number 0) out)
says_no short out number a b = record { fine = λ e. absurd (a e); thirteen = λ e. absurd (b e) }

says_cond : (short : Option ℕ) (out : List ℕ) (b : Bool) (x y : Written) → Says short out x → Says short out y → Says short out (cond b x y)
says_cond short out true x y h g = h
says_cond short out false x y h g = g

-- A short word, or none.
says_shortened : (short : Option ℕ) (out : List ℕ) → Says short out (shortened short out)
says_shortened none out = record { fine = λ e. absurd (omega arith); thirteen = λ _. refl }
says_shortened (some s) out =
    record {
      fine = λ e.
          let w = deliver_fits (bytes_of 8 s) out e in
          record {
            word = s;
            is = refl;
            count = ap (λ (r : Written). count_of r.answer) w ∙ length-bytes_of 8 s;
            output = ap (λ (r : Written). r.output) w ∙ ap (λ (n : ℕ). bytes_of 8 s ++ drop n out) (length-bytes_of 8 s);
          };
      thirteen = λ e. absurd (deliver_other (bytes_of 8 s) out e);
    }

pub shorten_says : (dictionary word out : List ℕ)
    → Says (shorten (dictionary_of dictionary) (number_at word 0 16)) out (shorten_call dictionary word out)
unfolding shorten_call one_word
shorten_says dictionary word out =
    let w = number_at word 0 16 in
    let short = shorten (dictionary_of dictionary) w in
    says_cond short out (not (eqb (length dictionary) dictionary_bytes && eqb (length word) 16)) _ _ (says_no short out 1 (λ e. omega arith) (λ e. omega arith))
    (says_cond short out (not (in_range (dictionary_of dictionary))) _ _ (says_no short out 2 (λ e. omega arith) (λ e. omega arith))
    (says_cond short out (not (is_listed (operation w))) _ _ (says_no short out 4 (λ e. omega arith) (λ e. omega arith))
    (says_cond short out (is_short w) _ _ (says_no short out 5 (λ e. omega arith) (λ e. omega arith)) (says_shortened short out))))

-- And it passes the checks of any word.
pub shorten_fit : (dictionary word out : List ℕ) → number_of (shorten_call dictionary word out).answer ≡ 0
    → Fit dictionary (eqb (length word) 16) (number_at word 0 16)
unfolding shorten_call
shorten_fit dictionary word out = zero_fit dictionary (eqb (length word) 16) (number_at word 0 16) out _

-- ---- expand

-- If it answers 0, the long word's bytes are written.
pub expand_writes : (dictionary word out : List ℕ) → number_of (expand_call dictionary word out).answer ≡ 0
    → expand_call dictionary word out ≡ wrote (bytes_of 16 (expand (dictionary_of dictionary) (number_at word 0 8))) out
unfolding expand_call
expand_writes dictionary word out zero =
    let s = number_at word 0 8 in
    let result = bytes_of 16 (expand (dictionary_of dictionary) s) in
    let same = fit_passes dictionary (eqb (length word) 8) s out _ (zero_fit dictionary (eqb (length word) 8) s out _ zero) in
    same ∙ go (not (is_short s) || is_branch (operation s)) result (sym (ap (λ (w : Written). number_of w.answer) same) ∙ zero)
  where
    go : (b : Bool) (result : List ℕ) → number_of (cond b (kept (refusal 5 0) out) (deliver result out)).answer ≡ 0
        → cond b (kept (refusal 5 0) out) (deliver result out) ≡ wrote result out
    go true result e = absurd (omega arith)
    go false result e = deliver_fits result out e

-- It answers 0 to every short word that passes the checks of any word and is no branch, if there is room.
pub expand_room : (dictionary word out : List ℕ) → Fit dictionary (eqb (length word) 8) (number_at word 0 8) → is_short (number_at word 0 8) ≡ true
    → is_branch (operation (number_at word 0 8)) ≡ false → 16 ≤ length out → number_of (expand_call dictionary word out).answer ≡ 0
unfolding expand_call
expand_room dictionary word out f marked plain room =
    let s = number_at word 0 8 in
    let result = bytes_of 16 (expand (dictionary_of dictionary) s) in
    rw (fit_passes dictionary (eqb (length word) 8) s out _ f, marked, plain) (deliver_room result out (rw (length-bytes_of 16 (expand (dictionary_of dictionary) s)) room))
