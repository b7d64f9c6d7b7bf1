-- One number as the sixteen of an array of which the others are 0, so that what is said of many channels holds of one. Assumes nothing.
use Rattle.std.specs.Prelude.{◌≡◌, refl, true, false, List, ◌∷◌, ℕ, zero, suc, ◌+◌, ◌≤◌, ◌<◌, get_or, replicate}
use Rattle.std.proofs.Common.{sym, subst, arith}
use Rattle.std.proofs.Math.Nat.{zero-div, zero-mod}
use Rattle.paper.specs.Word.{Source, src_type, src_modifier, src_is_a0, is_immediate, immediate}
use Rattle.paper.specs.Legal.{bytes_in}
use Rattle.paper.specs.Value.{width, modified}
use Rattle.paper.specs.Region.{Region, channels, element_at, src_region}
use Rattle.element.specs.Biased.{ex, Near, Keeps, near_mono}
use Rattle.element.specs.Operands.{width_most}
use Rattle.lanes.specs.Mapped.{Mapped}
use Rattle.operands.specs.Reads.{Reads, ElementRead, ElementsRead}
use Rattle.operands.specs.Sources.{Readable, OperandRead, operand_fixed, operand_direct, channels_some, region_read}

-- The number, and fifteen zeros.
abbrev pub alone : ℕ → List ℕ
alone v = v ∷ replicate 15 0

-- Sixteen zeros.
abbrev pub none : List ℕ
none = alone 0

-- What holds of the one channel holds of the first of the sixteen; the others stay.
pub mapped_alone : (R : ℕ → ℕ → ℕ → Type 0) (a v : ℕ) → R 0 a v → Mapped R 1 (alone a) (alone v)
mapped_alone R a v r = record { sixteen = refl; done = first; kept = others }
  where
    first : (k : ℕ) → k < 1 → R k (get_or (alone a) k 0) (get_or (alone v) k 0)
    first zero h = r
    first (suc k) h = absurd (omega arith)

    others : (k : ℕ) → 1 ≤ k → get_or (alone v) k 0 ≡ get_or (alone a) k 0
    others zero h = absurd (omega arith)
    others (suc k) h = refl

-- A region's first element is at its first byte.
pub element_first : (r : Region) → element_at r 0 ≡ r.origin
unfolding element_at
element_first r = rw (zero-div r.wide, zero-mod r.wide) (omega arith)

module _ (w : ℕ) (registers : List ℕ) (x : Source) where
  -- An immediate.
  pub alone_fixed : Readable x w → (kind pattern v : ℕ) → is_immediate x w ≡ true → kind ≡ src_type x w → pattern ≡ immediate (width (src_type x w)) w
      → Reads kind pattern v → OperandRead w registers x 1 none (alone v)
  alone_fixed is kind pattern v e ek ep r = operand_fixed w registers x 1 none (alone v) is kind pattern v e ek ep r (mapped_alone _ 0 v refl)

  -- An element, modified.
  pub alone_direct : Readable x w → (kind modifier : ℕ) (r : Region) (element v : ℕ) → is_immediate x w ≡ false → kind ≡ src_type x w → modifier ≡ src_modifier x w
      → r ≡ src_region x w → ElementRead registers r.origin kind r.size element
      → (ex v ≡ modified modifier (ex element)) × Keeps element v → OperandRead w registers x 1 none (alone v)
  unfolding ElementsRead
  alone_direct is kind modifier r element v e ek em er m p =
      operand_direct w registers x 1 none (alone v) is kind modifier r (alone element) e ek em er
      (mapped_alone _ 0 element (subst (λ (at : ℕ). ElementRead registers at kind r.size element) (sym (element_first r)) m)) (mapped_alone _ element v p)

-- An element is no greater than a dword holds.
pub element_near : (registers : List ℕ) (from kind size v : ℕ) → ElementRead registers from kind size v → Near 32 v
unfolding ElementRead
element_near registers from kind size v r = near_mono (width_most kind) r.1

-- It lies inside its file.
pub element_inside : (x : Source) (w : ℕ) (r : Region) → Readable x w → is_immediate x w ≡ false → r ≡ src_region x w
    → (bytes : ℕ) → bytes ≡ bytes_in (src_is_a0 x w) → r.origin + r.size ≤ bytes
element_inside x w r readable e er bytes size =
    subst (λ (at : ℕ). at + r.size ≤ bytes) (element_first r) (region_read x w r readable e er (channels w) bytes refl size 0 (channels_some w))
