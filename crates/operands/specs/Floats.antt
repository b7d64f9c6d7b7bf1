-- What a source of floats reads, by patterns. Assumes nothing.
use Rattle.std.specs.Prelude.{◌≡◌, Bool, cond, ◌&&◌, ◌||◌, List, ℤ}
use Rattle.std.proofs.Math.Path.{refl, ap, subst}
use Rattle.std.proofs.Common.{sym, ◌∙◌, eqb-true}
use Rattle.std.proofs.Math.Bool.{true, false}
use Rattle.std.proofs.lemmas.Bool.{false≢true}
use Prim.Native.Nat.{ℕ, ◌+◌, ◌^◌, ◌≤◌, ◌<◌}
use Rattle.std.proofs.Math.Dec.{eqb}
use Rattle.std.proofs.Math.IntN.{pos}
use Rattle.paper.specs.Bits.{number_at}
use Rattle.paper.specs.Value.{type_f, type_vf, width, size_of, value, modified}
use Rattle.paper.specs.Word.{Source, exec_size, src_type, src_modifier, src_is_a0, is_immediate, immediate}
use Rattle.paper.specs.Legal.{src_is_float, bytes_in}
use Rattle.paper.specs.Region.{src_is_vector, Region, channels, element_at, src_region}
use Rattle.paper.specs.Restricted.{vector_float}
use Rattle.paper.specs.Single.{sign_modified}
use Rattle.paper.specs.Element.{meaning}
use Rattle.paper.specs.Effect.{pattern_at, operand}
use Rattle.laws.specs.Regions.{Inside}
use Rattle.lanes.specs.Mapped.{Mapped, mapped_weaker}

-- Source x of a word is one of floats that can be read: there are 16 channels at most, and what is no immediate lies inside its file.
pub record FloatsIn (x : Source) (w : ℕ) : Type 0 where
  pub count : exec_size w ≤ 4
  pub float : src_is_float w x ≡ true
  pub inside : is_immediate x w ≡ false → Inside (bytes_in (src_is_a0 x w)) (src_region x w) (channels w)

-- Of sixteen numbers, each of the n first is the pattern that its channel of source x reads, modified; the others stay.
unfoldable pub FloatsRead : ℕ → List ℕ → Source → ℕ → List ℕ → List ℕ → Type 0
FloatsRead w registers x n old new = Mapped (λ k a b. (pos b ≡ meaning (operand w registers x k)) × (b < 2 ^ 32)) n old new

-- Of sixteen numbers, each of the n first is the pattern of four bytes at its own place; the others stay.
abbrev pub FloatsAt : List ℕ → (ℕ → ℕ) → ℕ → List ℕ → List ℕ → Type 0
FloatsAt registers at n old new = Mapped (λ k a b. (b ≡ number_at registers (at k) 4) × (b < 2 ^ 32)) n old new

-- Elements at equal bytes are the same.
pub floats_same : (registers : List ℕ) (f g : ℕ → ℕ) (n : ℕ) (old new : List ℕ) → ((k : ℕ) → k < n → f k ≡ g k) → FloatsAt registers f n old new → FloatsAt registers g n old new
floats_same registers f g n old new e m = mapped_weaker _ _ n old new (λ k a b h r. (r.0 ∙ ap (λ (i : ℕ). number_at registers i 4) (e k h), r.1)) m

-- One element for all channels.
pub floats_single : (registers : List ℕ) (from : ℕ) (f : ℕ → ℕ) (n v : ℕ) (old new : List ℕ) → ((k : ℕ) → from ≡ f k) → v ≡ number_at registers from 4 → v < 2 ^ 32
    → Mapped (λ k a b. b ≡ v) n old new → FloatsAt registers f n old new
floats_single registers from f n v old new e read less m =
    mapped_weaker _ _ n old new
    (λ k a b h same. (same ∙ read ∙ ap (λ (i : ℕ). number_at registers i 4) (e k), subst (λ (z : ℕ). z < 2 ^ 32) (sym same) less)) m

-- Elements that are read, and then modified.
pub floats_signed : (registers : List ℕ) (at : ℕ → ℕ) (modifier n : ℕ) (old read new : List ℕ) → FloatsAt registers at n old read
    → Mapped (λ k a b. (b ≡ sign_modified modifier a) × (a < 2 ^ 32 → b < 2 ^ 32)) n read new
    → Mapped (λ k a b. (b ≡ sign_modified modifier (number_at registers (at k) 4)) × (b < 2 ^ 32)) n old new
floats_signed registers at modifier n old read new m s =
    record {
      sixteen = s.sixteen;
      done = λ k h. ((s.done k h).0 ∙ ap (sign_modified modifier) (m.done k h).0, (s.done k h).1 (m.done k h).1);
      kept = λ k h. s.kept k h ∙ m.kept k h;
    }

module _ (x : Source) (w : ℕ) (is : FloatsIn x w) where
  -- What is not of type vf is of type f.
  pub float_type : src_is_vector x w ≡ false → src_type x w ≡ type_f
  float_type e = eqb-true (src_type x w) type_f (left (eqb (src_type x w) type_f) (src_is_vector x w) e is.float)
    where
      left : (a b : Bool) → b ≡ false → (a || b) ≡ true → a ≡ true
      left true b e f = refl
      left false b e f = sym (sym f ∙ e)

  -- An immediate of it has 32 bits.
  pub fixed_fits : (pattern : ℕ) → src_is_vector x w ≡ false → pattern < 2 ^ width (src_type x w) → pattern < 2 ^ 32
  fixed_fits pattern e h = subst (λ (t : ℕ). pattern < 2 ^ width t) (float_type e) h

  -- What is no immediate is so, and has elements of four bytes.
  pub float_direct : is_immediate x w ≡ false → src_type x w ≡ type_f
  float_direct e = float_type (rw e)

  pub float_size : is_immediate x w ≡ false → (src_region x w).size ≡ 4
  float_size e = ap size_of (float_direct e)

  -- What is gathered lies inside the file.
  pub floats_inside : (r : Region) → is_immediate x w ≡ false → r ≡ src_region x w → (n bytes : ℕ) → n ≡ channels w → bytes ≡ bytes_in (src_is_a0 x w)
      → (k : ℕ) → k < n → element_at r k + 4 ≤ bytes
  floats_inside r e er n bytes count size k q =
      rw (er, size) (subst (λ (s : ℕ). element_at (src_region x w) k + s ≤ bytes_in (src_is_a0 x w)) (float_size e) (is.inside e k (rw (← count) q)))

module _ (w : ℕ) (registers : List ℕ) (x : Source) (n : ℕ) (old new : List ℕ) (is : FloatsIn x w) where
  -- One immediate, the same for all channels.
  pub floats_fixed : (pattern : ℕ) → is_immediate x w ≡ true → src_is_vector x w ≡ false → pattern ≡ immediate (width (src_type x w)) w → pattern < 2 ^ width (src_type x w)
      → Mapped (λ k a b. b ≡ pattern) n old new → FloatsRead w registers x n old new
  unfolding FloatsRead operand pattern_at sign_modified
  floats_fixed pattern e v ep h m =
      let kind : src_type x w ≡ type_f = float_type x w is v in
      let fits : pattern < 2 ^ 32 = fixed_fits x w is pattern v h in
      let same : pattern ≡ immediate 32 w = ep ∙ ap (λ (t : ℕ). immediate (width t) w) kind in
      mapped_weaker _ _ n old new (λ k a b q r. let one : b ≡ pattern = r in rw (e, kind, one) (ap pos same, fits)) m

  -- Four restricted floats, of which each channel reads its own.
  pub floats_vector : (four : ℕ) → src_is_vector x w ≡ true → four ≡ immediate 32 w
      → Mapped (λ k a b. (b ≡ vector_float four k) × (b < 2 ^ 32)) n old new → FloatsRead w registers x n old new
  unfolding FloatsRead operand pattern_at sign_modified
  floats_vector four v e m = go (is_immediate x w) refl (eqb (src_type x w) type_vf) refl v
    where
      go : (i : Bool) → is_immediate x w ≡ i → (t : Bool) → eqb (src_type x w) type_vf ≡ t → (i && t) ≡ true → FloatsRead w registers x n old new
      go true ei true et f = mapped_weaker _ _ n old new (λ k a b q r. rw (ei, et, ← e) (ap pos r.0, r.1)) m
      go true ei false et f = absurd (false≢true f)
      go false ei t et f = absurd (false≢true f)

  -- Elements, modified.
  pub floats_direct : (modifier : ℕ) (r : Region) → is_immediate x w ≡ false → modifier ≡ src_modifier x w → r ≡ src_region x w
      → Mapped (λ k a b. (b ≡ sign_modified modifier (number_at registers (element_at r k) 4)) × (b < 2 ^ 32)) n old new → FloatsRead w registers x n old new
  unfolding FloatsRead operand pattern_at
  floats_direct modifier r e em er m =
      let kind : src_type x w ≡ type_f = float_direct x w is e in
      let told : Mapped (λ k a b. (b ≡ sign_modified (src_modifier x w) (number_at registers (element_at (src_region x w) k) (src_region x w).size)) × (b < 2 ^ 32)) n old new =
      subst (λ (s : Region). Mapped (λ k a b. (b ≡ sign_modified (src_modifier x w) (number_at registers (element_at s k) (src_region x w).size)) × (b < 2 ^ 32)) n old new) er
      (rw (← em, float_size x w is e) m) in
      mapped_weaker _ _ n old new (λ k a b q r. rw e (go (src_type x w) kind b (read k) (modified (src_modifier x w) (value (src_type x w) (element k))) r.0, r.1)) told
    where
      element : ℕ → ℕ
      element k = number_at registers (element_at (src_region x w) k) (src_region x w).size

      read : ℕ → ℕ
      read k = sign_modified (src_modifier x w) (element k)

      go : (t : ℕ) → t ≡ type_f → (b v : ℕ) (z : ℤ) → b ≡ v → pos b ≡ cond (eqb t type_f) (pos v) z
      go t et b v z s = rw et (ap pos s)
