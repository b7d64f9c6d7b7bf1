-- A pass over an accepted kernel that lists its instructions: how it begins, goes on and ends. Assumes nothing.
use mathlib.Core.List.{List, ◌∷◌, ◌++◌}
use Rattle.std.specs.Prelude.{◌≡◌, refl, ℕ, ◌+◌, ◌*◌, ◌/◌, ◌<◌, ◌≤◌}
use Rattle.std.proofs.Math.Path.{sym, ap}
use Rattle.std.proofs.Common.{◌∙◌, subst, arith}
use Rattle.std.proofs.Math.ListN.{length, length-append}
use Rattle.std.proofs.Math.Seq.{sets}
use Rattle.paper.specs.Dictionary.{Dictionary, dictionary_of}
use Rattle.paper.specs.Kernel.{Instr, long_and_short}
use Rattle.paper.specs.Text.{decimal}
use Rattle.paper.specs.Calls.{accepted}
use Rattle.paper.specs.Listing.{form_of, instr_text, listing}
use Rattle.text.specs.Written.{sets-append}
use Rattle.kernel.specs.Standing.{Fetches, Stands, stands_next, stands_end}
use Rattle.kernel.specs.Marks.{instrs_of}
use Rattle.kernel.specs.Jumps.{instr_of}
use Rattle.kernel.specs.Accepting.{AcceptedKernel}
use Rattle.listing.specs.Lines.{lines_length}

-- The instructions of a kernel; none of one that is refused.
unfoldable pub instrs_in : List ℕ → List ℕ → List Instr
instrs_in dictionary kernel = instrs_of (accepted long_and_short dictionary kernel)

-- It is accepted.
abbrev pub Listable : List ℕ → List ℕ → Type 0
Listable dictionary kernel = AcceptedKernel long_and_short dictionary kernel (instrs_in dictionary kernel)

-- ---- the next instruction

-- What stands from byte `from` on is an instruction of that size and word, and those after it.
pub record Standing (D : Dictionary) (kernel : List ℕ) (from size w : ℕ) (rest : List Instr) : Type 0 where
  pub later : List Instr
  pub split : rest ≡ instr_of (from / 8) size w ∷ later
  pub stands : Stands long_and_short D kernel (from + 8 * size) later
  pub room : from + 8 * size ≤ length kernel

module _ (D : Dictionary) (kernel : List ℕ) (from : ℕ) (rest : List Instr) (s : Stands long_and_short D kernel from rest) (inside : from < length kernel) where
  pub next_stands : (size w : ℕ) → Fetches D kernel from size w → Standing D kernel from size w rest
  next_stands size w f =
      let n = stands_next long_and_short D kernel from rest s inside in
      let q : n.instr.size ≡ size = sym (f.size_is ∙ n.fit.size_is) in
      let p : n.instr.place ≡ from / 8 = n.place in
      let r : n.instr.word ≡ w = sym (f.word-is ∙ n.fit.word-is) in
      let same : n.instr ≡ instr_of (from / 8) size w = λ j. record { place = p j; size = q j; word = r j } in
      record {
        later = n.later;
        split = n.split ∙ ap (λ (i : Instr). i ∷ n.later) same;
        stands = subst (λ (x : ℕ). Stands long_and_short D kernel (from + 8 * x) n.later) q n.stands;
        room = omega (arith, n.fit.room);
      }

-- ---- counting the bytes

-- The instructions before byte `from` have n bytes of lines.
pub record Counting (dictionary kernel : List ℕ) (from n : ℕ) : Type 0 where
  pub rest : List Instr
  pub stands : Stands long_and_short (dictionary_of dictionary) kernel from rest
  pub counted : length (listing (instrs_in dictionary kernel)) ≡ n + length (listing rest)
  pub few : n ≤ 11 * from

module _ (dictionary kernel : List ℕ) where
  pub counting_start : Listable dictionary kernel → Counting dictionary kernel 0 0
  counting_start k = record { rest = instrs_in dictionary kernel; stands = k.stands; counted = omega arith; few = omega arith }

  module _ (from n : ℕ) (c : Counting dictionary kernel from n) where
    pub counting_end : length kernel ≤ from → n ≡ length (listing (instrs_in dictionary kernel))
    unfolding listing
    counting_end h =
        let e = stands_end long_and_short (dictionary_of dictionary) kernel from c.rest c.stands h in
        let z : length (listing c.rest) ≡ 0 = ap (λ (l : List Instr). length (listing l)) e in
        omega (arith, c.counted)

    -- The next instruction lies in the kernel,
    pub counting_inside : from < length kernel → (size w : ℕ) → Fetches (dictionary_of dictionary) kernel from size w → from + 8 * size ≤ length kernel
    counting_inside inside size w f = (next_stands (dictionary_of dictionary) kernel from c.rest c.stands inside size w f).room

    -- and its lines are so many bytes more.
    pub counting_next : from < length kernel → (size w : ℕ) → Fetches (dictionary_of dictionary) kernel from size w
        → (m : ℕ) → m ≡ 61 + length (decimal (from / 8)) + length (form_of size) → m ≤ 86 → Counting dictionary kernel (from + 8 * size) (n + m)
    unfolding listing
    counting_next inside size w f m e most =
        let t = next_stands (dictionary_of dictionary) kernel from c.rest c.stands inside size w f in
        let i = instr_of (from / 8) size w in
        let l : length (listing c.rest) ≡ length (instr_text i ++ listing t.later) = ap (λ (l : List Instr). length (listing l)) t.split in
        record {
          rest = t.later;
          stands = t.stands;
          counted = omega (arith, c.counted, l, length-append (instr_text i) (listing t.later), lines_length i);
          few = omega (arith, c.few, f.some);
        }

-- ---- writing them

-- The lines of the instructions before byte `from` stand in `out` before `to`, and nothing else of it has changed.
pub record Writing (dictionary kernel out₀ out : List ℕ) (from to : ℕ) : Type 0 where
  pub rest : List Instr
  pub stands : Stands long_and_short (dictionary_of dictionary) kernel from rest
  pub reaches : to + length (listing rest) ≡ length (listing (instrs_in dictionary kernel))
  pub is : sets out to (listing rest) ≡ sets out₀ 0 (listing (instrs_in dictionary kernel))

module _ (dictionary kernel out₀ : List ℕ) where
  pub writing_start : Listable dictionary kernel → Writing dictionary kernel out₀ out₀ 0 0
  writing_start k = record { rest = instrs_in dictionary kernel; stands = k.stands; reaches = omega arith; is = refl }

  module _ (out : List ℕ) (from to : ℕ) (c : Writing dictionary kernel out₀ out from to) where
    pub writing_end : length kernel ≤ from → out ≡ sets out₀ 0 (listing (instrs_in dictionary kernel))
    unfolding listing
    writing_end h =
        let e = stands_end long_and_short (dictionary_of dictionary) kernel from c.rest c.stands h in
        sym (ap (λ (l : List Instr). sets out to (listing l)) e) ∙ c.is

    module _ (inside : from < length kernel) (size w : ℕ) (f : Fetches (dictionary_of dictionary) kernel from size w) where
      -- there is room for the next lines
      pub writing_room : length (listing (instrs_in dictionary kernel)) ≤ length out → to + length (instr_text (instr_of (from / 8) size w)) ≤ length out
      unfolding listing
      writing_room h =
          let t = next_stands (dictionary_of dictionary) kernel from c.rest c.stands inside size w f in
          let i = instr_of (from / 8) size w in
          let l : length (listing c.rest) ≡ length (instr_text i ++ listing t.later) = ap (λ (l : List Instr). length (listing l)) t.split in
          omega (arith, c.reaches, l, length-append (instr_text i) (listing t.later))

      pub writing_next : (m : ℕ) (out' : List ℕ) → m ≡ to + length (instr_text (instr_of (from / 8) size w)) → out' ≡ sets out to (instr_text (instr_of (from / 8) size w))
          → Writing dictionary kernel out₀ out' (from + 8 * size) m
      unfolding listing
      writing_next m out' e d =
          let t = next_stands (dictionary_of dictionary) kernel from c.rest c.stands inside size w f in
          let i = instr_of (from / 8) size w in
          let l : length (listing c.rest) ≡ length (instr_text i ++ listing t.later) = ap (λ (l : List Instr). length (listing l)) t.split in
          record {
            rest = t.later;
            stands = t.stands;
            reaches = omega (arith, c.reaches, l, length-append (instr_text i) (listing t.later));
            is =
                ap (λ (o : List ℕ). sets o m (listing t.later)) d
                ∙ (ap (λ (x : ℕ). sets (sets out to (instr_text i)) x (listing t.later)) e
                ∙ (sets-append (instr_text i) (listing t.later) out to
                ∙ (sym (ap (λ (l : List Instr). sets out to (listing l)) t.split) ∙ c.is)));
          }
