-- What is said of a word whose operands by address are named directly one by one. Assumes nothing.
use Rattle.std.specs.Prelude.{Option, Some, None, Bool, not, cond, ◌&&◌, ◌||◌, ◌≡◌, ℕ, ◌+◌, eqb}
use Rattle.std.proofs.Math.Bool.{true, false}
use mathlib.Core.List.{List, [], ◌∷◌, Memᴰ}
use Rattle.std.proofs.Math.Path.{refl, sym, ap}
use Rattle.std.proofs.Common.{ap₂, ◌∙◌}
use Rattle.paper.specs.Bits.{bits}
use Rattle.paper.specs.Word.{Source, src0, src1, shift_of, src_file, src_addr_mode, src_indirect, dst_by_address, src_by_address}
use Rattle.paper.specs.Operation.{Plain, sources}
use Rattle.paper.specs.Jump.{place_of}
use Rattle.paper.specs.Legal.{any_of, alignment_broken, reach_broken}
use Rattle.paper.specs.Address.{address_of, outside, dst_address, src_address, named_directly, dst_direct, src_direct, all_direct, settled, some_outside, address_broken}
use Rattle.laws.specs.Regions.{LegalPlain, Named, or-false, none_of}
use Rattle.laws.specs.Settled.{spares, named_field, settled_none}
use Rattle.laws.specs.Sources.{reads_two, one_or_two, sources_told}
use Rattle.words.specs.Words.{to_word}
use Rattle.words.specs.declared.bytes.Word.{Word}
use Rattle.judge.specs.Sources.{any_source, any_source_lem}

-- ---- what is said

-- That something is broken; or that it is not, and the word to act by.
abbrev pub Says : Option Word → Bool → ℕ → Type 0
Says (Some v) broken word = (broken ≡ false) × (to_word v ≡ word)
Says None broken word = broken ≡ true

-- The destination is by address, and begins outside of the register file.
abbrev pub dst_outside : List ℕ → ℕ → Bool
dst_outside addresses w = dst_by_address w && outside (dst_address addresses w)

-- Source x is by address, and begins outside of the register file.
abbrev pub src_outside : List ℕ → Source → ℕ → Bool
src_outside addresses x w = src_by_address x w && outside (src_address addresses x w)

-- Some source of an operation is by address, and begins outside.
abbrev pub sources_outside : Plain → List ℕ → ℕ → Bool
sources_outside p addresses w = any_of (λ x. src_outside addresses x w) (sources p)

-- The word with the sources of an operation named directly.
abbrev pub sources_direct : Plain → List ℕ → ℕ → ℕ
sources_direct p addresses w = all_direct addresses (sources p) w

-- A word breaks 10 or 11.
abbrev pub rules_broken : Plain → ℕ → Bool
rules_broken p w = alignment_broken p w || reach_broken p w

-- ---- no operand by address

-- An operand of operation p is by address.
abbrev pub some_addressed : Plain → ℕ → Bool
some_addressed p w = dst_by_address w || any_source p (src_by_address src0 w) (src_by_address src1 w)

-- What every source of a list fails, none of them passes.
none_told : (test : Source → Bool) (xs : List Source) → ((x : Source) → Memᴰ x xs → test x ≡ false) → any_of test xs ≡ false
none_told test [] h = refl
none_told test (x ∷ xs) h = ap₂ ◌||◌ (h x (Memᴰ.head refl)) (none_told test xs (λ y m. h y (Memᴰ.tail m)))

-- If none is, each is named directly.
pub addressed_not : (p : Plain) (w : ℕ) → some_addressed p w ≡ false → Named p w
addressed_not p w e =
    let a = or-false (dst_by_address w) _ e in
    record {
      destination = a.0;
      source = λ x m. none_of (λ y. src_by_address y w) (any_source_lem p (λ y. src_by_address y w) ∙ a.1) m;
    }

-- No address of a legal word is broken, if none of its operands is by address.
pub unaddressed : (p : Plain) (addresses : List ℕ) (w : ℕ) → LegalPlain p w → Named p w → address_broken p addresses w ≡ false
unfolding address_broken some_outside
unaddressed p addresses w legal named =
    ap₂ ◌||◌
    (ap₂ ◌||◌ (ap (λ (b : Bool). b && outside (dst_address addresses w)) named.destination)
    (none_told (λ x. src_outside addresses x w) (sources p)
    (λ x m. ap (λ (b : Bool). b && outside (src_address addresses x w)) (named.source x m))))
    (ap (λ (v : ℕ). alignment_broken p v || reach_broken p v) (settled_none addresses p w named) ∙ ap₂ ◌||◌ legal.alignment legal.reach)

-- Such a word is its own settled word, and is left as it is.
pub says_none : (p : Plain) (addresses : List ℕ) (v : Word) → LegalPlain p (to_word v) → some_addressed p (to_word v) ≡ false
    → Says (Some v) (address_broken p addresses (to_word v)) (settled p addresses (to_word v))
says_none p addresses v legal e =
    let named = addressed_not p (to_word v) e in
    (unaddressed p addresses (to_word v) legal named, sym (settled_none addresses p (to_word v) named))

-- ---- one operand

module _ (addresses : List ℕ) where
  -- Naming the destination keeps every field beside it.
  dst_kept : (w lo n : ℕ) → spares 48 lo n ≡ true → bits (dst_direct addresses w) lo n ≡ bits w lo n
  unfolding dst_direct
  dst_kept w lo n e = go (dst_by_address w)
    where
      go : (t : Bool) → bits (cond t (named_directly 48 (place_of (dst_address addresses w)) w) w) lo n ≡ bits w lo n
      go true = named_field 48 (place_of (dst_address addresses w)) w lo n e
      go false = refl

  -- Naming src0 keeps every field beside it.
  first_kept : (w lo n : ℕ) → spares 64 lo n ≡ true → bits (src_direct addresses src0 w) lo n ≡ bits w lo n
  unfolding src_direct
  first_kept w lo n e = go (src_by_address src0 w)
    where
      go : (t : Bool) → bits (cond t (named_directly 64 (place_of (src_address addresses src0 w)) w) w) lo n ≡ bits w lo n
      go true = named_field 64 (place_of (src_address addresses src0 w)) w lo n e
      go false = refl

  -- Whether a source begins outside is told by three of its fields.
  outside_kept : (x : Source) (v w : ℕ) → src_file x v ≡ src_file x w → src_addr_mode x v ≡ src_addr_mode x w → src_indirect x v ≡ src_indirect x w
      → src_outside addresses x v ≡ src_outside addresses x w
  outside_kept x v w e f g = λ i. (not (eqb (e i) 3) && eqb (f i) 1) && outside (address_of addresses (g i))

  -- Naming the destination keeps what is told of the sources.
  after_dst : (x : Source) (w : ℕ) → src_outside addresses x (dst_direct addresses w) ≡ src_outside addresses x w
  after_dst src0 w = outside_kept src0 _ w (dst_kept w 37 2 refl) (dst_kept w 79 1 refl) (dst_kept w 64 13 refl)
  after_dst src1 w = outside_kept src1 _ w (dst_kept w 42 2 refl) (dst_kept w 111 1 refl) (dst_kept w 96 13 refl)

  -- Naming src0 keeps what is told of src1.
  after_first : (w : ℕ) → src_outside addresses src1 (src_direct addresses src0 w) ≡ src_outside addresses src1 w
  after_first w = outside_kept src1 _ w (first_kept w 42 2 refl) (first_kept w 111 1 refl) (first_kept w 96 13 refl)

  -- The destination is not by address, and stays.
  pub dst_stays : (v : Word) → dst_by_address (to_word v) ≡ false → Says (Some v) (dst_outside addresses (to_word v)) (dst_direct addresses (to_word v))
  unfolding dst_direct
  dst_stays v e = rw e (refl, refl)

  -- The destination is by address, and is named directly by its byte.
  pub dst_names : (w v : Word) (b : ℕ) → dst_by_address (to_word w) ≡ true → outside (dst_address addresses (to_word w)) ≡ false
      → place_of (dst_address addresses (to_word w)) ≡ b → to_word v ≡ named_directly 48 b (to_word w)
      → Says (Some v) (dst_outside addresses (to_word w)) (dst_direct addresses (to_word w))
  unfolding dst_direct
  dst_names w v b e o p n = rw (e, o, p) (refl, n)

  -- The destination is by address, and outside.
  pub dst_breaks : (w : ℕ) → dst_by_address w ≡ true → outside (dst_address addresses w) ≡ true → Says None (dst_outside addresses w) (dst_direct addresses w)
  dst_breaks w e o = rw (e, o)

  -- Source x is not by address, and stays.
  pub src_stays : (x : Source) (v : Word) → src_by_address x (to_word v) ≡ false
      → Says (Some v) (src_outside addresses x (to_word v)) (src_direct addresses x (to_word v))
  unfolding src_direct
  src_stays x v e = rw e (refl, refl)

  -- Source x is by address, and is named directly by its byte.
  pub src_names : (x : Source) (w v : Word) (b : ℕ) → src_by_address x (to_word w) ≡ true → outside (src_address addresses x (to_word w)) ≡ false
      → place_of (src_address addresses x (to_word w)) ≡ b → to_word v ≡ named_directly (64 + shift_of x) b (to_word w)
      → Says (Some v) (src_outside addresses x (to_word w)) (src_direct addresses x (to_word w))
  unfolding src_direct
  src_names x w v b e o p n = rw (e, o, p) (refl, n)

  -- Source x is by address, and outside.
  pub src_breaks : (x : Source) (w : ℕ) → src_by_address x w ≡ true → outside (src_address addresses x w) ≡ true
      → Says None (src_outside addresses x w) (src_direct addresses x w)
  src_breaks x w e o = rw (e, o)

-- ---- one after the other

-- Where the first of two is not broken, the second says of both what it says of the word that it was given.
pub says_on : (v : Word) (first : Bool) (word : ℕ) → (first ≡ false) × (to_word v ≡ word)
    → (r : Option Word) (test : ℕ → Bool) (next : ℕ → ℕ) → Says r (test (to_word v)) (next (to_word v)) → Says r (first || test word) (next word)
says_on v first word a r test next t = rw (a.0, sym a.1) t

module _ (p : Plain) (addresses : List ℕ) (w : ℕ) where
  -- Of two sources one is outside: the first, or the second of the word with the first named.
  two_outside : reads_two p ≡ true → sources_outside p addresses w ≡ (src_outside addresses src0 w || src_outside addresses src1 (src_direct addresses src0 w))
  two_outside e =
      any_source_lem p (λ x. src_outside addresses x w)
      ∙ ap₂ (λ (t b : Bool). src_outside addresses src0 w || (t && b)) e (sym (after_first addresses w))

  -- Of one source it is told by that one.
  one_outside : reads_two p ≡ false → sources_outside p addresses w ≡ (src_outside addresses src0 w || false)
  one_outside e = any_source_lem p (λ x. src_outside addresses x w) ∙ ap (λ (t : Bool). src_outside addresses src0 w || (t && src_outside addresses src1 w)) e

  -- The sources named directly, by whether there are two.
  some_direct : (t : Bool) → reads_two p ≡ t → sources_direct p addresses w ≡ all_direct addresses (one_or_two t) w
  some_direct t e = ap (λ (l : List Source). all_direct addresses l w) (sources_told p ∙ ap one_or_two e)

  -- What is said of the first source and then of the second is said of the sources, if two are read.
  pub says_two : (r : Option Word) → reads_two p ≡ true
      → Says r (src_outside addresses src0 w || src_outside addresses src1 (src_direct addresses src0 w)) (src_direct addresses src1 (src_direct addresses src0 w))
      → Says r (sources_outside p addresses w) (sources_direct p addresses w)
  says_two r e s = rw (two_outside e, some_direct true e) s

  -- What is said of the first source is said of the sources, if one is read.
  pub says_one : (r : Option Word) → reads_two p ≡ false → Says r (src_outside addresses src0 w || false) (src_direct addresses src0 w)
      → Says r (sources_outside p addresses w) (sources_direct p addresses w)
  says_one r e s = rw (one_outside e, some_direct false e) s

  -- Where the first source is outside, one is, whatever more there is.
  pub says_first : src_outside addresses src0 w ≡ true → Says None (sources_outside p addresses w) (sources_direct p addresses w)
  says_first e = rw (any_source_lem p (λ x. src_outside addresses x w), e)

  -- Some operand is outside: the destination, or a source of the word with the destination named.
  all_outside : some_outside p addresses w ≡ (dst_outside addresses w || sources_outside p addresses (dst_direct addresses w))
  unfolding some_outside
  all_outside =
      ap (λ (b : Bool). dst_outside addresses w || b)
      (any_source_lem p (λ x. src_outside addresses x w)
      ∙ sym (ap₂ (any_source p) (after_dst addresses src0 w) (after_dst addresses src1 w))
      ∙ sym (any_source_lem p (λ x. src_outside addresses x (dst_direct addresses w))))

  -- What is said of the destination and then of the sources is said of all operands.
  pub says_all : (r : Option Word)
      → Says r (dst_outside addresses w || sources_outside p addresses (dst_direct addresses w)) (sources_direct p addresses (dst_direct addresses w))
      → Says r (some_outside p addresses w) (settled p addresses w)
  unfolding settled
  says_all r s = rw all_outside s

  -- What is said of all operands and then of 10 and 11 is said of 22.
  pub says_settled : (r : Option Word) → Says r (some_outside p addresses w || rules_broken p (settled p addresses w)) (settled p addresses w)
      → Says r (address_broken p addresses w) (settled p addresses w)
  unfolding address_broken
  says_settled r s = s
