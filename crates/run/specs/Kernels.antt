-- An accepted kernel's instructions can be run. Assumes nothing.
use Rattle.std.proofs.Math.Bool.{true}
use Rattle.std.specs.Prelude.{false, List, ◌≡◌, ℕ, ◌*◌, length}
use Rattle.std.proofs.Common.{true≢false, sym, ◌∙◌, arith}
use Rattle.std.proofs.Math.Option.{Option, none, some, none-ne-some, some-injective}
use Rattle.std.proofs.Math.Path.{refl}
use Rattle.paper.specs.Dictionary.{dictionary_of}
use Rattle.paper.specs.Kernel.{Instr, long_and_short}
use Rattle.paper.specs.Jump.{fetch, end_of, lands}
use Rattle.paper.specs.Machine.{ways_of}
use Rattle.paper.specs.Calls.{accepted}
use Rattle.kernel.specs.Marks.{instrs_of, marked}
use Rattle.kernel.specs.Standing.{size_at, word_at, Whole, Fetches, fits}
use Rattle.kernel.specs.Jumps.{instr_of}
use Rattle.kernel.specs.Accepting.{AcceptedKernel, Here, Found, found_here, none_past, lands_here}
use Rattle.machine.specs.Branches.{Within}
use Rattle.run.specs.Running.{Passes, Runnable, ways_within}

-- An accepted kernel's instructions; none of a kernel that is refused.
unfoldable pub instructions : List ℕ → List ℕ → List Instr
instructions dictionary kernel = instrs_of (accepted long_and_short dictionary kernel)

-- The kernel is accepted.
abbrev pub Takes : List ℕ → List ℕ → Type 0
Takes dictionary kernel = AcceptedKernel long_and_short dictionary kernel (instructions dictionary kernel)

-- The marks are the places at which its instructions start, and its end.
abbrev pub MarksLand : List ℕ → List ℕ → List ℕ → Type 0
MarksLand dictionary kernel marks = (p : ℕ) → marked marks p ≡ lands (instructions dictionary kernel) p

-- The kernel is accepted, and the marks are its.
pub record IsAccepted (dictionary kernel marks : List ℕ) : Type 0 where
  pub takes : Takes dictionary kernel
  pub marked : MarksLand dictionary kernel marks

module _ (dictionary kernel : List ℕ) (a : Takes dictionary kernel) where
  abbrev k : List Instr
  k = instructions dictionary kernel

  -- The end is where its bytes end.
  pub end_is : (p : ℕ) → 8 * p ≡ length kernel → p ≡ end_of k
  end_is p e = omega (arith, a.ends)

  -- Another place is not.
  pub end_not : (p : ℕ) → (8 * p ≡ length kernel → ⊥) → p ≡ end_of k → ⊥
  end_not p away e = away (omega (arith, a.ends))

  -- Where an instruction starts, its bytes stand.
  fetched_here : (p : ℕ) (i : Instr) → fetch k p ≡ some i → Here long_and_short (dictionary_of dictionary) kernel k p
  unfolding lands
  fetched_here p i e =
      let there : lands k p ≡ true = rw e in
      lands_here long_and_short dictionary kernel k a p there
      (λ h. none-ne-some i (sym (none_past long_and_short dictionary kernel k a p (omega arith)) ∙ e))

  -- Each passes.
  each_passes : (p : ℕ) (i : Instr) → fetch k p ≡ some i → Passes k p i
  each_passes p i e =
      let D = dictionary_of dictionary in
      let h = fetched_here p i e in
      let size = size_at kernel (8 * p) in
      let word = word_at D kernel (8 * p) in
      let same : i ≡ instr_of p size word = some-injective i (instr_of p size word) (sym e ∙ h.fetched) in
      let g = fits long_and_short D kernel (8 * p) size word h.inside h.passes in
      let f : Found long_and_short D kernel k p size word =
      found_here long_and_short D kernel k p h size word (record { some = g.some; few = g.few; size_is = refl; word-is = refl }) in
      rw same (record { at = refl; some = g.some; legal = f.legal; next = omega (arith, h.whole, a.ends) })

  pub runnable : Runnable k
  runnable = record { sound = a.sound; passes = each_passes }

  -- Where an instruction starts its bytes are there, and what is read of them is the instruction.
  module _ (p : ℕ) (there : lands k p ≡ true) (away : 8 * p ≡ length kernel → ⊥) where
    stands_here : Here long_and_short (dictionary_of dictionary) kernel k p
    stands_here = lands_here long_and_short dictionary kernel k a p there away

    pub bytes_there : Whole kernel (8 * p)
    bytes_there = stands_here.whole

    pub bytes_fetched : (size w : ℕ) → Fetches (dictionary_of dictionary) kernel (8 * p) size w → fetch k p ≡ some (instr_of p size w)
    bytes_fetched size w f = (found_here long_and_short (dictionary_of dictionary) kernel k p stands_here size w f).fetched

    -- It leads to places of 16 bits.
    pub bytes_within : (size w : ℕ) → Fetches (dictionary_of dictionary) kernel (8 * p) size w → Within 65536 (ways_of (instr_of p size w))
    bytes_within size w f = ways_within k runnable 65536 (omega (arith, a.ends, a.sizes.kernel-most)) p (instr_of p size w) (bytes_fetched size w f)

  -- Where none starts, and the kernel does not end, none is fetched.
  pub none_fetched : (p : ℕ) → lands k p ≡ false → fetch k p ≡ none
  unfolding lands
  none_fetched p e = go (fetch k p) refl
    where
      go : (o : Option Instr) → fetch k p ≡ o → o ≡ none
      go none f = refl
      go (some i) f = absurd (true≢false (rw f at e))
