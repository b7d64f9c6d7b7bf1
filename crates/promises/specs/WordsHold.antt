-- What demand 2 says of a single word: the smallest short word, and expansion back. Assumes nothing.
use Rattle.std.specs.Prelude.{true, List, [], ◌++◌, ◌≡◌, ℕ, ◌^◌, ◌<◌, ◌≤◌, eqb, length, take, drop}
use Rattle.std.proofs.Common.{append-nil, sym, ap, ◌∙◌, mod-eq_of_lt, arith, take_at, take_all, eqb-true, eq-eqb}
use Rattle.std.proofs.Math.Pow.{are_bytes}
use Rattle.paper.specs.Bits.{number_at, bytes_of}
use Rattle.paper.specs.Dictionary.{dictionary_of}
use Rattle.paper.specs.Expand.{expand}
use Rattle.paper.specs.Shorten.{Shortens, Least}
use Rattle.paper.specs.Operation.{operation, is_listed}
use Rattle.paper.specs.Calls.{Written, expand_call, number_of, count_of}
use Rattle.laws.specs.Bytes.{number_lt, bytes_drop, length-bytes_of, number-bytes_of, bytes_of-number}
use Rattle.laws.specs.Expand.{expand_fits, expand-operation}
use Rattle.laws.specs.Shorten.{shorten-some, shorten-none}
use Rattle.contracts.specs.Contracts.{number_in, count_in, ShortenPromise, ExpandPromise}
use Rattle.promises.specs.Results.{wrote}
use Rattle.promises.specs.Words.{Fit, shorten_says, shorten_fit, expand_writes, expand_room}
use Rattle.promises.specs.Promises.{result}
use Rattle.promises.specs.OutcomesHold.{answers}

-- The number of 16 bytes is a word, and bytes that were written are read as the number that they were written from.
word_fits : (word : List ℕ) → are_bytes word ≡ true → number_at word 0 16 < 2 ^ 128
unfolding number_at
word_fits word h = number_lt 16 (drop 0 word) (bytes_drop 0 word h)

read_back : (n v : ℕ) (rest : List ℕ) → v < 256 ^ n → number_at (bytes_of n v ++ rest) 0 n ≡ v
unfolding number_at
read_back n v rest h = number-bytes_of n v rest ∙ mod-eq_of_lt h

-- A word's bytes are those of its number.
word_bytes : (word : List ℕ) → are_bytes word ≡ true → length word ≡ 16 → bytes_of 16 (number_at word 0 16) ≡ word
unfolding number_at
word_bytes word h l = bytes_of-number 16 word h (omega arith) ∙ take_all 16 word (omega arith)

-- So are they where nothing follows.
reads_back : (s : ℕ) → s < 2 ^ 64 → number_at (bytes_of 8 s) 0 8 ≡ s
reads_back s h = ap (λ (x : List ℕ). number_at x 0 8) (sym (append-nil (bytes_of 8 s))) ∙ read_back 8 s [] h

module _ (dictionary word out : List ℕ) (bytes : are_bytes word ≡ true) (r : ℕ) (out' : List ℕ) (p : ShortenPromise dictionary word out r out') where
  -- If spokeshaver_shorten answers 0, then the first eight bytes of the output are the smallest short word that expands to the word: a number of 64 bits
  -- with bit 29 set whose opcode is no branch, and at most every other such number that expands to it.
  pub shorten_least : number_in r ≡ 0 → Least (dictionary_of dictionary) (number_at word 0 16) (number_at out' 0 8)
  shorten_least zero =
      let s = (shorten_says dictionary word out).fine (sym (answers.shorten dictionary word out r out' p).number ∙ zero) in
      let l = shorten-some (dictionary_of dictionary) (number_at word 0 16) s.word (word_fits word bytes) s.is in
      rw (p.1 ∙ s.output, read_back 8 s.word (drop 8 out) l.is.fits) l

  -- If it answers 13, then no short word expands to the word.
  pub shorten_never : number_in r ≡ 13 → (t : ℕ) → Shortens (dictionary_of dictionary) (number_at word 0 16) t → ⊥
  shorten_never thirteen =
      shorten-none (dictionary_of dictionary) (number_at word 0 16) (word_fits word bytes)
      ((shorten_says dictionary word out).thirteen (sym (answers.shorten dictionary word out r out' p).number ∙ thirteen))

  -- Expanding what it wrote gives the word back.
  pub expand_back : number_in r ≡ 0 → (back : List ℕ) → 16 ≤ length back → (u : ℕ) (back' : List ℕ) → ExpandPromise dictionary (result r out') back u back'
      → (number_in u ≡ 0) × (count_in u ≡ 16) × (back' ≡ word ++ drop 16 back)
  expand_back zero back room u back' q =
      let D = dictionary_of dictionary in
      let t = answers.shorten dictionary word out r out' p in
      let fine : _ = sym t.number ∙ zero in
      let s = (shorten_says dictionary word out).fine fine in
      let f = shorten_fit dictionary word out fine in
      let l = shorten-some D (number_at word 0 16) s.word (word_fits word bytes) s.is in
      let short = bytes_of 8 s.word in
      let eight = length-bytes_of 8 s.word in
      let are : result r out' ≡ short =
      (λ i. take ((t.count ∙ s.count) i) ((p.1 ∙ s.output) i)) ∙ take_at short (drop 8 out) 8 eight in
      let reads : number_at (result r out') 0 8 ≡ s.word = ap (λ (x : List ℕ). number_at x 0 8) are ∙ reads_back s.word l.is.fits in
      let v = answers.expand dictionary (result r out') back u back' q in
      let fit : Fit dictionary (eqb (length (result r out')) 8) (number_at (result r out') 0 8) =
      record {
        whole = f.whole;
        right = eq-eqb (length (result r out')) 8 (ap length are ∙ eight);
        range = f.range;
        listed = rw reads (ap is_listed (sym (expand-operation D s.word) ∙ ap operation l.is.same) ∙ f.listed);
      } in
      let ok = expand_room dictionary (result r out') back fit (rw reads l.is.marked) (rw reads l.is.plain) room in
      let w : expand_call dictionary (result r out') back ≡ wrote word back =
      expand_writes dictionary (result r out') back ok
      ∙ ap (λ (x : List ℕ). wrote x back)
      (ap (λ (x : ℕ). bytes_of 16 (expand D x)) reads ∙ ap (bytes_of 16) l.is.same ∙ word_bytes word bytes (eqb-true (length word) 16 f.right)) in
      let sixteen = eqb-true (length word) 16 f.right in (
        v.number ∙ ap (λ (x : Written). number_of x.answer) w,
        v.count ∙ ap (λ (x : Written). count_of x.answer) w ∙ sixteen,
        q.1 ∙ ap (λ (x : Written). x.output) w ∙ ap (λ (n : ℕ). word ++ drop n back) sixteen,
      )

-- What spokeshaver_expand wrote is the expansion.
pub expand_right : (dictionary word out : List ℕ) (r : ℕ) (out' : List ℕ) → ExpandPromise dictionary word out r out' → number_in r ≡ 0
    → number_at out' 0 16 ≡ expand (dictionary_of dictionary) (number_at word 0 8)
expand_right dictionary word out r out' p zero =
    let w = expand (dictionary_of dictionary) (number_at word 0 8) in
    let e = expand_writes dictionary word out (sym (answers.expand dictionary word out r out' p).number ∙ zero) in
    ap (λ (x : List ℕ). number_at x 0 16) (p.1 ∙ ap (λ (x : Written). x.output) e)
    ∙ read_back 16 w (drop (length (bytes_of 16 w)) out) (expand_fits (dictionary_of dictionary) (number_at word 0 8))
