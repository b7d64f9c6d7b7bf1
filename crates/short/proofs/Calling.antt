-- Laws of the calls on one word as the code goes through them, test by test. Assumes nothing.
use mathlib.Core.Bool.{Bool, true, false}
use mathlib.Core.List.{List}
use mathlib.Core.Path.{◌≡◌, sym, ap, ◌∙◌}
use Prim.Native.Nat.{ℕ, ◌≤◌, ◌<◌}
use borrow.Author.Tests.{lt-ltb, le-ltb, eq-eqb, ne_eqb}
use lib.ListN.{length, drop}
use mathlib.Core.List.{◌++◌}
use Rattle.paper.specs.Limits.{dictionary_bytes}
use Rattle.paper.specs.Bits.{bytes_of, number_at, put_at}
use Rattle.paper.specs.Dictionary.{dictionary_of, in_range}
use Rattle.paper.specs.Expand.{is_short, expand}
use Rattle.paper.specs.Shorten.{shorten}
use Rattle.paper.specs.Operation.{operation, is_listed, is_branch}
use Rattle.paper.specs.Calls.{Answer, refusal, verdict, Written, kept, deliver, one_word, shortened, shorten_call, expand_call}
use Rattle.laws.specs.Bytes.{length-bytes_of}
use native.Mathlib.Omega.{arith}
use Rattle.std.proofs.lemmas.List.{append-nil}
use Rattle.std.proofs.Math.ListN.{drop_of_length-le}
use Rattle.words.specs.Bytes.{front_put}

-- An answer and an output are those of what they make up.
pub as_written : (answer : Answer) (output : List ℕ) (w : Written) → w ≡ kept answer output
    → (answer ≡ w.answer) × (output ≡ w.output)
as_written answer output w e = (ap (λ (x : Written). x.answer) (sym e), ap (λ (x : Written). x.output) (sym e))

-- What is so of a call's answer and output is so of an equal call's.
pub as_called : (answer : Answer) (output : List ℕ) (v w : Written) → w ≡ v
    → (answer ≡ v.answer) × (output ≡ v.output) → (answer ≡ w.answer) × (output ≡ w.output)
as_called answer output v w e h = rw e h

-- ---- delivering bytes

module _ (bytes out : List ℕ) where
  -- The output is too short.
  pub deliver_refused : length out < length bytes → deliver bytes out ≡ kept (refusal 14 0) out
  unfolding deliver
  deliver_refused h = rw (lt-ltb _ _ h)

  -- It is not: then the bytes are its first.
  pub deliver_stored : length bytes ≤ length out → deliver bytes out ≡ kept (verdict 0 (length bytes)) (bytes ++ drop (length bytes) out)
  unfolding deliver
  deliver_stored h = rw (le-ltb _ _ h)

-- A number's bytes in an array of their length.
pub array_put : (n : ℕ) (l : List ℕ) (v : ℕ) → length l ≡ n → put_at l 0 n v ≡ bytes_of n v
array_put n l v h = front_put n l v (omega (arith, h)) ∙ ap (λ (rest : List ℕ). bytes_of n v ++ rest) (drop_of_length-le l {i = n} (omega (arith, h))) ∙ append-nil (bytes_of n v)

-- ---- 1, 2 and 4 of one word

module _ (dictionary : List ℕ) (fits : Bool) (w : ℕ) (out : List ℕ) (further : Written) where
  one_size : (length dictionary ≡ dictionary_bytes → ⊥) → one_word dictionary fits w out further ≡ kept (refusal 1 0) out
  unfolding one_word
  one_size h = rw (ne_eqb _ _ h)

  module _ (sized : length dictionary ≡ dictionary_bytes) where
    one_length : fits ≡ false → one_word dictionary fits w out further ≡ kept (refusal 1 0) out
    unfolding one_word
    one_length h = rw (eq-eqb _ _ sized, h)

    module _ (fit : fits ≡ true) where
      one_range : in_range (dictionary_of dictionary) ≡ false → one_word dictionary fits w out further ≡ kept (refusal 2 0) out
      unfolding one_word
      one_range h = rw (eq-eqb _ _ sized, fit, h)

      module _ (range : in_range (dictionary_of dictionary) ≡ true) where
        one_unlisted : is_listed (operation w) ≡ false → one_word dictionary fits w out further ≡ kept (refusal 4 0) out
        unfolding one_word
        one_unlisted h = rw (eq-eqb _ _ sized, fit, range, h)

        one_further : is_listed (operation w) ≡ true → one_word dictionary fits w out further ≡ further
        unfolding one_word
        one_further h = rw (eq-eqb _ _ sized, fit, range, h)

-- ---- shortening

module _ (dictionary word out : List ℕ) where
  -- 1: the dictionary's length.
  pub shorten_size : (length dictionary ≡ dictionary_bytes → ⊥) → shorten_call dictionary word out ≡ kept (refusal 1 0) out
  unfolding shorten_call
  shorten_size h = one_size dictionary _ _ out _ h

  -- 1: the word's.
  pub shorten-length : length dictionary ≡ dictionary_bytes → (length word ≡ 16 → ⊥) → shorten_call dictionary word out ≡ kept (refusal 1 0) out
  unfolding shorten_call
  shorten-length sized h = one_length dictionary _ _ out _ sized (ne_eqb _ _ h)

  module _ (sized : length dictionary ≡ dictionary_bytes) (fit : length word ≡ 16) where
    -- 2.
    pub shorten_range : in_range (dictionary_of dictionary) ≡ false → shorten_call dictionary word out ≡ kept (refusal 2 0) out
    unfolding shorten_call
    shorten_range h = one_range dictionary _ _ out _ sized (eq-eqb _ _ fit) h

    module _ (range : in_range (dictionary_of dictionary) ≡ true) (w : ℕ) (is : w ≡ number_at word 0 16) where
      -- 4.
      pub shorten_unlisted : is_listed (operation w) ≡ false → shorten_call dictionary word out ≡ kept (refusal 4 0) out
      unfolding shorten_call
      shorten_unlisted h = rw (← is) (one_unlisted dictionary _ w out _ sized (eq-eqb _ _ fit) range h)

      module _ (listed : is_listed (operation w) ≡ true) where
        -- 5.
        pub shorten_marked : is_short w ≡ true → shorten_call dictionary word out ≡ kept (refusal 5 0) out
        unfolding shorten_call
        shorten_marked h = rw (← is) (one_further dictionary _ w out _ sized (eq-eqb _ _ fit) range listed ∙ rw h)

        -- 13, 14, or the short word.
        pub shorten_answer : is_short w ≡ false → shorten_call dictionary word out ≡ shortened (shorten (dictionary_of dictionary) w) out
        unfolding shorten_call
        shorten_answer h = rw (← is) (one_further dictionary _ w out _ sized (eq-eqb _ _ fit) range listed ∙ rw h)

-- ---- expanding

module _ (dictionary word out : List ℕ) where
  -- 1: the dictionary's length.
  pub expand_size : (length dictionary ≡ dictionary_bytes → ⊥) → expand_call dictionary word out ≡ kept (refusal 1 0) out
  unfolding expand_call
  expand_size h = one_size dictionary _ _ out _ h

  -- 1: the word's.
  pub expand-length : length dictionary ≡ dictionary_bytes → (length word ≡ 8 → ⊥) → expand_call dictionary word out ≡ kept (refusal 1 0) out
  unfolding expand_call
  expand-length sized h = one_length dictionary _ _ out _ sized (ne_eqb _ _ h)

  module _ (sized : length dictionary ≡ dictionary_bytes) (fit : length word ≡ 8) where
    -- 2.
    pub expand_range : in_range (dictionary_of dictionary) ≡ false → expand_call dictionary word out ≡ kept (refusal 2 0) out
    unfolding expand_call
    expand_range h = one_range dictionary _ _ out _ sized (eq-eqb _ _ fit) h

    module _ (range : in_range (dictionary_of dictionary) ≡ true) (s : ℕ) (is : s ≡ number_at word 0 8) where
      -- 4.
      pub expand_unlisted : is_listed (operation s) ≡ false → expand_call dictionary word out ≡ kept (refusal 4 0) out
      unfolding expand_call
      expand_unlisted h = rw (← is) (one_unlisted dictionary _ s out _ sized (eq-eqb _ _ fit) range h)

      module _ (listed : is_listed (operation s) ≡ true) where
        -- 5: a long word.
        pub expand_long : is_short s ≡ false → expand_call dictionary word out ≡ kept (refusal 5 0) out
        unfolding expand_call
        expand_long h = rw (← is) (one_further dictionary _ s out _ sized (eq-eqb _ _ fit) range listed ∙ rw h)

        -- 5: a branch.
        pub expand_branch : is_short s ≡ true → is_branch (operation s) ≡ true → expand_call dictionary word out ≡ kept (refusal 5 0) out
        unfolding expand_call
        expand_branch m h = rw (← is) (one_further dictionary _ s out _ sized (eq-eqb _ _ fit) range listed ∙ rw (m, h))

        -- 14, or the long word.
        pub expand_answer : (w : ℕ) → is_short s ≡ true → is_branch (operation s) ≡ false → w ≡ expand (dictionary_of dictionary) s
            → expand_call dictionary word out ≡ deliver (bytes_of 16 w) out
        unfolding expand_call
        expand_answer w m h e = rw (← is) (one_further dictionary _ s out _ sized (eq-eqb _ _ fit) range listed ∙ rw (m, h, ← e))
