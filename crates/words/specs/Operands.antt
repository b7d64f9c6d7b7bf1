-- What a source names, in the paper's terms. Assumes nothing.
use Rattle.std.specs.Prelude.{◌≡◌, refl, Bool, true, false, cond, ◌&&◌, ℕ, ◌^◌, ◌<◌, eqb}
use Rattle.std.proofs.Common.{sym, ◌∙◌, true≢false}
use Rattle.std.proofs.Math.Path.{ap, subst}
use Rattle.std.proofs.lemmas.Bool.{false≢true}
use borrow.Author.Tests.{eq-eqb, ne_eqb}
use Rattle.paper.specs.Word.{Source, src_type, is_immediate, immediate}
use Rattle.paper.specs.Value.{type_vf, width, size_of}
use Rattle.paper.specs.Region as paper
use Rattle.words.specs.declared.region.Region.{Region}
use Rattle.words.specs.declared.operand.Operand.{Operand}
use Rattle.words.specs.declared.operand.Operand.TheVariants.{Fixed, Vector, Direct}
use Rattle.words.specs.Regions.{region_is, Small}

abbrev pub operand_is : Operand → paper.Operand
operand_is (Fixed pattern) = paper.fixed pattern
operand_is (Vector four) = paper.vector four
operand_is (Direct r) = paper.direct (region_is r)

-- A pattern has its type's bits, four restricted floats have 32; a region has elements of its type, and small numbers.
unfoldable pub Bounded : ℕ → Operand → Type 0
Bounded kind (Fixed pattern) = pattern < 2 ^ width kind
Bounded kind (Vector four) = four < 2 ^ 32
Bounded kind (Direct r) = Small r × (r.size ≡ size_of kind)

-- What the code names is what the source does.
module _ (x : Source) (w : ℕ) where
  pub fixed_named : (pattern n : ℕ) → is_immediate x w ≡ true → (src_type x w ≡ type_vf → ⊥) → n ≡ width (src_type x w) → (pattern ≡ immediate n w) × (pattern < 2 ^ n)
      → (operand_is (Fixed pattern) ≡ paper.operand_of x w) × Bounded (src_type x w) (Fixed pattern)
  unfolding Bounded
  fixed_named pattern n e t en (ep, h) = (rw (e, ne_eqb (src_type x w) type_vf t, ep, en), rw (← en) h)

  -- What is not told to be of type vf, or is not of it, is of another type.
  pub not_vector : (floats : Bool) → (floats ≡ false → paper.src_is_vector x w ≡ false) → is_immediate x w ≡ true → (floats && eqb (src_type x w) type_vf) ≡ false
      → src_type x w ≡ type_vf → ⊥
  not_vector true h e f t = true≢false (sym (eq-eqb (src_type x w) type_vf t) ∙ f)
  not_vector false h e f t = true≢false (sym (rw (e, eq-eqb (src_type x w) type_vf t)) ∙ h refl)

  pub vector_named : (four : ℕ) → is_immediate x w ≡ true → src_type x w ≡ type_vf → (four ≡ immediate 32 w) × (four < 2 ^ 32)
      → (operand_is (Vector four) ≡ paper.operand_of x w) × Bounded (src_type x w) (Vector four)
  unfolding Bounded
  vector_named four e t (ef, h) = (rw (e, eq-eqb (src_type x w) type_vf t, ef), h)

  pub direct_named : (r : Region) → is_immediate x w ≡ false → (region_is r ≡ paper.src_region x w) × Small r
      → (operand_is (Direct r) ≡ paper.operand_of x w) × Bounded (src_type x w) (Direct r)
  unfolding Bounded
  direct_named r e (er, s) = (rw (e, er), (s, ap (λ (t : paper.Region). t.size) er))

-- ---- which of the three an operand is

is_fixed : paper.Operand → Bool
is_fixed (paper.fixed pattern) = true
is_fixed (paper.vector four) = false
is_fixed (paper.direct r) = false

is_vector : paper.Operand → Bool
is_vector (paper.fixed pattern) = false
is_vector (paper.vector four) = true
is_vector (paper.direct r) = false

pattern_of : paper.Operand → ℕ
pattern_of (paper.fixed pattern) = pattern
pattern_of (paper.vector four) = four
pattern_of (paper.direct r) = 0

region_of : paper.Region → paper.Operand → paper.Region
region_of other (paper.fixed pattern) = other
region_of other (paper.vector four) = other
region_of other (paper.direct r) = r

-- What a source names, by two tests: it is an immediate, of type vf.
abbrev pub chosen : Bool → Bool → ℕ → ℕ → paper.Region → paper.Operand
chosen b v four q s = cond b (cond v (paper.vector four) (paper.fixed q)) (paper.direct s)

-- What is one pattern was chosen as one,
pub fixed_chosen : (b v : Bool) (p four q : ℕ) (s : paper.Region) → paper.fixed p ≡ chosen b v four q s → (b ≡ true) × (v ≡ false) × (p ≡ q)
unfolding is_fixed pattern_of
fixed_chosen true true p four q s e = absurd (true≢false (ap is_fixed e))
fixed_chosen true false p four q s e = (refl, refl, ap pattern_of e)
fixed_chosen false v p four q s e = absurd (true≢false (ap is_fixed e))

-- what is four as four,
pub vector_chosen : (b v : Bool) (p four q : ℕ) (s : paper.Region) → paper.vector p ≡ chosen b v four q s → (b ≡ true) × (v ≡ true) × (p ≡ four)
unfolding is_vector pattern_of
vector_chosen true true p four q s e = (refl, refl, ap pattern_of e)
vector_chosen true false p four q s e = absurd (true≢false (ap is_vector e))
vector_chosen false v p four q s e = absurd (true≢false (ap is_vector e))

-- and what is a region as a region.
pub direct_chosen : (b v : Bool) (four q : ℕ) (r s : paper.Region) → paper.direct r ≡ chosen b v four q s → (b ≡ false) × (r ≡ s)
unfolding is_fixed is_vector region_of
direct_chosen true true four q r s e = absurd (false≢true (ap is_vector e))
direct_chosen true false four q r s e = absurd (false≢true (ap is_fixed e))
direct_chosen false v four q r s e = (refl, ap (region_of s) e)

-- ---- what a match on an operand tells

module _ (x : Source) (w : ℕ) (o : Operand) (named : (operand_is o ≡ paper.operand_of x w) × Bounded (src_type x w) o) where
  fixed_picked : (pattern : ℕ) → o ≡ Fixed pattern
      → (is_immediate x w ≡ true) × (eqb (src_type x w) type_vf ≡ false) × (pattern ≡ immediate (width (src_type x w)) w)
  fixed_picked pattern e =
      fixed_chosen (is_immediate x w) (eqb (src_type x w) type_vf) pattern (immediate 32 w) (immediate (width (src_type x w)) w) (paper.src_region x w)
      (sym (ap operand_is e) ∙ named.0)

  -- It is an immediate of one pattern: this is it,
  pub fixed_told : (pattern : ℕ) → o ≡ Fixed pattern
      → (is_immediate x w ≡ true) × (pattern ≡ immediate (width (src_type x w)) w) × (pattern < 2 ^ width (src_type x w))
  unfolding Bounded
  fixed_told pattern e =
      let picked = fixed_picked pattern e in
      (picked.0, picked.2, subst (Bounded (src_type x w)) e named.1)

  -- and it is not of type vf.
  pub fixed_no_vector : (pattern : ℕ) → o ≡ Fixed pattern → paper.src_is_vector x w ≡ false
  fixed_no_vector pattern e =
      let picked = fixed_picked pattern e in
      rw (picked.0, picked.1)

  -- It is an immediate of four restricted floats: these are its bits.
  pub vector_told : (four : ℕ) → o ≡ Vector four → (paper.src_is_vector x w ≡ true) × (four ≡ immediate 32 w) × (four < 2 ^ 32)
  unfolding Bounded
  vector_told four e =
      let picked = vector_chosen (is_immediate x w) (eqb (src_type x w) type_vf) four (immediate 32 w) (immediate (width (src_type x w)) w) (paper.src_region x w) (sym (ap operand_is e) ∙ named.0) in
      (rw (picked.0, picked.1), picked.2, subst (Bounded (src_type x w)) e named.1)

  -- It lies in the registers: this is its region.
  pub direct_told : (r : Region) → o ≡ Direct r
      → (is_immediate x w ≡ false) × (region_is r ≡ paper.src_region x w) × Small r × (r.size ≡ size_of (src_type x w))
  unfolding Bounded
  direct_told r e =
      let picked = direct_chosen (is_immediate x w) (eqb (src_type x w) type_vf) (immediate 32 w) (immediate (width (src_type x w)) w) (region_is r) (paper.src_region x w) (sym (ap operand_is e) ∙ named.0) in
      let bounded = subst (Bounded (src_type x w)) e named.1 in
      (picked.0, picked.1, bounded.0, bounded.1)
