-- What the code's answers are in the paper's terms. Assumes nothing.
use Rattle.std.specs.Prelude.{None, Result, Ok, Err, Bool, not, List, [], ℕ, ◌+◌, ◌-◌, ◌*◌, ◌^◌, ◌<◌, ◌≤◌, ltb, take, drop}
use Rattle.std.proofs.Math.Bool.{true, false, cond}
use Rattle.std.proofs.Math.Path.{◌≡◌, refl, ap}
use Rattle.std.proofs.Common.{sym, ◌∙◌, arith}
use Rattle.std.proofs.Math.Nat.{add-sub_cancel_left}
use Rattle.std.proofs.Math.Dec.{leb}
use Rattle.std.proofs.Math.ListN.{length}
use borrow.Author.Tests.{le-leb, lt-leb, leb-false, ltb-true, ltb-false}
use Rattle.paper.specs.Limits.{kernel_bytes}
use Rattle.paper.specs.Dictionary.{dictionary_of, in_range}
use Rattle.paper.specs.Kernel.{long_and_short, Judged, refused, passed, judge_at}
use Rattle.paper.specs.Calls.{sized, accepted, check_call, undecoded, decoded, judged_as, decode_at, decoded_as, decode_call, decode_part}
use Rattle.paper.specs.Calls as paper
use Rattle.words.specs.Words.{to_word}
use Rattle.words.specs.declared.bytes.Word.{Word}
use Rattle.words.specs.declared.answer.Refused.{Refused}
use Rattle.words.specs.Refusals.{number, one_refusal}
use Rattle.kernel.specs.declared.fetch.Fetched.{Fetched}
use Rattle.kernel.specs.Standing.{fits}
use Rattle.kernel.specs.Marks.{Said, said_is, Says, says_answer}
use Rattle.kernel.specs.Accepting.{right_sizes}

-- An instruction as it is decoded, or its refusal.
abbrev pub decoded_is : Result Fetched Refused → paper.Decoded
decoded_is (Err r) = undecoded (number r.refusal) r.offset
decoded_is (Ok f) = decoded f.size (to_word f.word)

-- ---- one outcome

-- A word's halves have 64 bits each, which their types say of the code's.
pub record Halved (w : Word) : Type 0 where
  pub low : w.lo < 2 ^ 64
  pub high : w.hi < 2 ^ 64

-- Such halves are determined by the word that they make up.
word_back : (v w : Word) → Halved v → Halved w → to_word v ≡ to_word w → v ≡ w
word_back v w a b e =
    let low : v.lo ≡ w.lo = omega (arith, a.low, b.low) in
    let high : v.hi ≡ w.hi = omega (arith, a.low, b.low) in
    λ i. record { lo = low i; hi = high i }

-- The word, if there is one, has such halves, and a refusal has no count.
abbrev pub HalvedIn : Result Fetched Refused → Type 0
HalvedIn (Err r) = r.count ≡ None
HalvedIn (Ok f) = Halved f.word

-- What decoding gives is one to one with what it means.
decoded_back : (r s : Result Fetched Refused) → HalvedIn r → HalvedIn s → decoded_is r ≡ decoded_is s → r ≡ s
decoded_back (Err r) (Err s) a b e =
    let n : r.refusal ≡ s.refusal = one_refusal r.refusal s.refusal cc in
    let o : r.offset ≡ s.offset = cc in
    let c : r.count ≡ s.count = a ∙ sym b in
    λ i. Err (record { refusal = n i; offset = o i; count = c i })
decoded_back (Err r) (Ok g) a b e = cc
decoded_back (Ok f) (Err s) a b e = cc
decoded_back (Ok f) (Ok g) a b e =
    let size : f.size ≡ g.size = cc in
    let sum : to_word f.word ≡ to_word g.word = cc in
    let word : f.word ≡ g.word = word_back f.word g.word a b sum in
    λ i. Ok (record { size = size i; word = word i })

-- So what `decode` ensures admits one answer.
pub one_decoded : (d : paper.Decoded) (r s : Result Fetched Refused) → HalvedIn r → HalvedIn s → decoded_is r ≡ d → decoded_is s ≡ d → r ≡ s
one_decoded d r s a b p q = decoded_back r s a b (p ∙ sym q)

-- ---- the check

pub check_says : (dictionary kernel marks : List ℕ) (r : Said) → Says (accepted long_and_short dictionary kernel) r marks
    → (x : Said) → r ≡ x → said_is x ≡ check_call dictionary kernel
unfolding check_call
check_says dictionary kernel marks r s x e = ap said_is (sym e) ∙ says_answer (accepted long_and_short dictionary kernel) r marks s

-- ---- decoding, in the code's order

module _ (dictionary kernel : List ℕ) (place : ℕ) where
  pub decode_size : sized dictionary kernel ≡ false → decode_at dictionary kernel place ≡ undecoded 1 0
  unfolding decode_at
  decode_size h = rw h

  module _ (right : sized dictionary kernel ≡ true) where
    pub decode_range : in_range (dictionary_of dictionary) ≡ false → decode_at dictionary kernel place ≡ undecoded 2 0
    unfolding decode_at
    decode_range h = rw (right, h)

    module _ (range : in_range (dictionary_of dictionary) ≡ true) where
      pub decode_past : ltb (8 * place) (length kernel) ≡ false → decode_at dictionary kernel place ≡ undecoded 3 0
      unfolding decode_at
      decode_past h = rw (right, range, le-leb _ _ (ltb-false _ _ h))

      pub decode_inside : (v : Judged) → ltb (8 * place) (length kernel) ≡ true → judge_at long_and_short (dictionary_of dictionary) kernel (8 * place) ≡ v
          → decode_at dictionary kernel place ≡ judged_as (8 * place) v
      unfolding decode_at
      decode_inside v h j = rw (right, range, lt-leb _ _ (ltb-true _ _ h), j)

  -- ---- the answer

  pub size_as : (d : paper.Decoded) → decode_at dictionary kernel place ≡ d → decoded_as d ≡ decode_call dictionary kernel place
  unfolding decode_call
  size_as d e = ap decoded_as (sym e)

  -- ---- the part

  pub part_none : (number offset : ℕ) → decode_at dictionary kernel place ≡ undecoded number offset → [] ≡ decode_part dictionary kernel place
  unfolding decode_part
  part_none number offset e = rw e

  pub part_some : (size w : ℕ) → decode_at dictionary kernel place ≡ decoded size w
      → take (8 * place + 8 * size - 8 * place) (drop (8 * place) kernel) ≡ decode_part dictionary kernel place
  unfolding decode_part
  part_some size w e = rw (e, add-sub_cancel_left (8 * place) (8 * size))

  -- The part lies in the kernel.
  pub part_fits : (size w : ℕ) → decode_at dictionary kernel place ≡ decoded size w
      → (8 * place + 8 * size ≤ length kernel) × (0 < size) × (length kernel ≤ kernel_bytes)
  unfolding decode_at
  part_fits size w e =
      go (sized dictionary kernel) refl (in_range (dictionary_of dictionary)) refl (leb (length kernel) (8 * place)) refl
      (judge_at long_and_short (dictionary_of dictionary) kernel (8 * place)) refl e
    where
      go : (a : Bool) → sized dictionary kernel ≡ a → (b : Bool) → in_range (dictionary_of dictionary) ≡ b
          → (t : Bool) → leb (length kernel) (8 * place) ≡ t → (v : Judged) → judge_at long_and_short (dictionary_of dictionary) kernel (8 * place) ≡ v
          → cond (not a) (undecoded 1 0) (cond (not b) (undecoded 2 0) (cond t (undecoded 3 0) (judged_as (8 * place) v))) ≡ decoded size w
          → (8 * place + 8 * size ≤ length kernel) × (0 < size) × (length kernel ≤ kernel_bytes)
      go false p b q t r v j e = let z : ◌≡◌ {A = ℕ} 0 1 = cc in absurd (omega arith)
      go true p false q t r v j e = let z : ◌≡◌ {A = ℕ} 0 1 = cc in absurd (omega arith)
      go true p true q true r v j e = let z : ◌≡◌ {A = ℕ} 0 1 = cc in absurd (omega arith)
      go true p true q false r (refused n) j e = let z : ◌≡◌ {A = ℕ} 0 1 = cc in absurd (omega arith)
      go true p true q false r (passed s x) j e =
          let f = fits long_and_short (dictionary_of dictionary) kernel (8 * place) s x (leb-false _ _ r) j in
          let same : s ≡ size = cc in
          (omega (arith, f.room), omega (arith, f.some), (right_sizes dictionary kernel p).kernel-most)
