-- The instructions that a kernel's bytes hold, one after the other, whether or not they pass. Assumes nothing.
use Rattle.std.specs.Prelude.{Bool, true, false, cond, ◌&&◌, List, [], ◌∷◌, ◌≡◌, refl, ℕ, zero, suc, ◌+◌, ◌*◌, ◌/◌, ◌<◌, ◌≤◌, ltb, leb, length}
use Rattle.std.proofs.Common.{sym, ap, ap₂, arith, lt-ltb, le-ltb, leb-true}
use borrow.Author.Tests.{le-leb}
use Rattle.paper.specs.Dictionary.{Dictionary}
use Rattle.paper.specs.Kernel.{Instr, Forms}
use Rattle.laws.specs.Truth.{both_true}
use Rattle.kernel.specs.Standing.{size_at, word_at, size_some, Fetches, fits, Stands}

-- The one that starts at byte `from`, and the byte after it.
abbrev pub instr_at : Dictionary → List ℕ → ℕ → Instr
instr_at D kernel from = record { place = from / 8; size = size_at kernel from; word = word_at D kernel from }

abbrev pub after : List ℕ → ℕ → ℕ
after kernel from = from + 8 * size_at kernel from

-- From byte `from` on the bytes are filled by whole instructions, n at the most.
unfoldable pub fills : List ℕ → ℕ → ℕ → Bool
fills kernel zero from = leb (length kernel) from
fills kernel (suc n) from =
    let later = fills kernel n (after kernel from) in cond (ltb from (length kernel)) (leb (after kernel from) (length kernel) && later) true

-- From byte `from` on the bytes are filled by whole instructions.
abbrev pub filled : List ℕ → ℕ → Bool
filled kernel from = fills kernel (length kernel) from

-- The instructions from byte `from` on, n at the most.
unfoldable pub reads : Dictionary → List ℕ → ℕ → ℕ → List Instr
reads D kernel zero from = []
reads D kernel (suc n) from =
    let later = reads D kernel n (after kernel from) in cond (ltb from (length kernel)) (instr_at D kernel from ∷ later) []

-- The instructions from byte `from` on.
abbrev pub instrs_from : Dictionary → List ℕ → ℕ → List Instr
instrs_from D kernel from = reads D kernel (length kernel) from

module _ (D : Dictionary) (kernel : List ℕ) where
  -- One more that may come changes nothing: they are already filled,
  fills_more : (n from : ℕ) → fills kernel n from ≡ true → fills kernel (suc n) from ≡ true
  unfolding fills
  fills_more zero from e = rw (le-ltb from (length kernel) (leb-true _ _ e))
  fills_more (suc n) from e = go (ltb from (length kernel)) refl (fills_more n (after kernel from)) e
    where
      go : (t : Bool) → ltb from (length kernel) ≡ t
          → (fills kernel n (after kernel from) ≡ true → fills kernel (suc n) (after kernel from) ≡ true)
          → cond t (leb (after kernel from) (length kernel) && fills kernel n (after kernel from)) true ≡ true
          → fills kernel (suc (suc n)) from ≡ true
      go true h ih e =
          let p = both_true (leb (after kernel from) (length kernel)) (fills kernel n (after kernel from)) e in
          rw (h, p.0) (ih p.1)
      go false h ih e = rw h

  -- and there are no more than bytes.
  reads_more : (n from : ℕ) → length kernel ≤ from + n → reads D kernel n from ≡ reads D kernel (suc n) from
  unfolding reads
  reads_more zero from few = rw (le-ltb from (length kernel) (omega arith))
  reads_more (suc n) from few =
      let s = size_some kernel from in
      ap (λ (later : List Instr). cond (ltb from (length kernel)) (instr_at D kernel from ∷ later) []) (reads_more n (after kernel from) (omega arith))

  -- What is filled from an instruction on is filled from the next one on,
  pub filled_next : (from : ℕ) → filled kernel from ≡ true → from < length kernel
      → (after kernel from ≤ length kernel) × (filled kernel (after kernel from) ≡ true)
  unfolding fills
  filled_next from e inside = go (length kernel) refl e
    where
      go : (n : ℕ) → length kernel ≡ n → fills kernel n from ≡ true → (after kernel from ≤ length kernel) × (fills kernel n (after kernel from) ≡ true)
      go zero z e = absurd (omega arith)
      go (suc n) z e =
          let p = both_true (leb (after kernel from) (length kernel)) (fills kernel n (after kernel from)) (rw (lt-ltb _ _ inside) at e) in
          (leb-true _ _ p.0, fills_more n (after kernel from) p.1)

  -- and the instructions are that one and those from the next one on.
  pub instrs_next : (from : ℕ) → from < length kernel → instrs_from D kernel from ≡ instr_at D kernel from ∷ instrs_from D kernel (after kernel from)
  unfolding reads
  instrs_next from inside = go (length kernel) refl
    where
      go : (n : ℕ) → length kernel ≡ n → reads D kernel n from ≡ instr_at D kernel from ∷ reads D kernel n (after kernel from)
      go zero z = absurd (omega arith)
      go (suc n) z =
          let s = size_some kernel from in
          rw (lt-ltb _ _ inside) (ap (λ (later : List Instr). instr_at D kernel from ∷ later) (reads_more n (after kernel from) (omega arith)))

  -- As the code finds it.
  pub instrs_here : (from : ℕ) → from < length kernel → (size w : ℕ) → Fetches D kernel from size w
      → instrs_from D kernel from ≡ record { place = from / 8; size = size; word = w } ∷ instrs_from D kernel (from + 8 * size)
  instrs_here from inside size w f = rw (f.size_is, f.word-is) (instrs_next from inside)

  -- At the end there is none.
  pub instrs_none : (from : ℕ) → length kernel ≤ from → instrs_from D kernel from ≡ []
  unfolding reads
  instrs_none from over = go (length kernel)
    where
      go : (n : ℕ) → reads D kernel n from ≡ []
      go zero = refl
      go (suc n) = rw (le-ltb _ _ over)

  -- Instructions that stand in the bytes are those that are read.
  module _ (forms : Forms) where
    stands_reads : (n from : ℕ) (k : List Instr) → length kernel ≤ from + n → Stands forms D kernel from k
        → (fills kernel n from ≡ true) × (reads D kernel n from ≡ k)
    unfolding Stands fills reads
    stands_reads zero from [] few s = (le-leb _ _ (omega arith), refl)
    stands_reads (suc n) from [] few s = (rw (le-ltb from (length kernel) (omega (arith, s))), rw (le-ltb from (length kernel) (omega (arith, s))))
    stands_reads zero from (i ∷ k) few s = absurd (omega (arith, s.0))
    stands_reads (suc n) from (i ∷ k) few s =
        let f = fits forms D kernel from i.size i.word s.0 s.2 in
        let next : from + 8 * i.size ≡ after kernel from = omega (arith, f.size_is) in
        let later = stands_reads n (after kernel from) k (omega (arith, f.some, f.size_is)) (rw next at s.3) in
        let same : instr_at D kernel from ≡ i = λ j. record { place = sym s.1 j; size = f.size_is j; word = f.word-is j } in (
          rw (lt-ltb _ _ s.0, le-leb (after kernel from) (length kernel) (omega (arith, f.room, f.size_is))) later.0,
          rw (lt-ltb _ _ s.0) (ap₂ (λ (i : Instr) (later : List Instr). i ∷ later) same later.1),
        )

    pub stands_filled : (k : List Instr) → Stands forms D kernel 0 k → filled kernel 0 ≡ true
    stands_filled k s = (stands_reads (length kernel) 0 k (omega arith) s).0

    pub stands_read : (k : List Instr) → Stands forms D kernel 0 k → instrs_from D kernel 0 ≡ k
    stands_read k s = (stands_reads (length kernel) 0 k (omega arith) s).1
