-- Rule 12 against a test of places, where the paper tests the instructions themselves. Assumes nothing.
use Rattle.std.specs.Prelude as std
use Rattle.std.specs.Prelude.{Bool, true, false, cond, ◌&&◌, List, [], ◌∷◌, ◌≡◌, refl, ℕ, ◌+◌, ◌*◌, ◌^◌, ◌<◌, ℤ, pos, negsuc}
use Rattle.std.proofs.Math.Bool.{and-true}
use Rattle.std.proofs.Math.Option.{Option, none, some}
use Rattle.std.proofs.lemmas.Option.{none-some}
use Rattle.std.proofs.Common.{sym, ap, ap₂, ◌∙◌}
use Rattle.paper.specs.Kernel.{Instr}
use Rattle.paper.specs.Operation.{operation}
use Rattle.paper.specs.Jump.{Distance, distances, reach, reached, targets_of, lands, jump_lands, targets_land, first_astray}
use Rattle.distances.specs.Reach.{said_of}
use Rattle.distances.specs.Distances.{told}

-- A place of which the test `land` holds; none lies below 0.
abbrev pub lands_at : (ℕ → Bool) → ℤ → Bool
lands_at land = said_of land false

-- Of a target that the code does not tell it does not hold.
pub none_lands : (land : ℕ → Bool) (z : ℤ) (t : std.Option ℕ) → t ≡ told z → t ≡ std.None → false ≡ lands_at land z
none_lands land (pos p) t e n = absurd (none-some p (sym n ∙ e))
none_lands land (negsuc p) t e n = refl

-- Each target lands there.
abbrev pub land_by : (ℕ → Bool) → List ℤ → Bool
land_by land [] = true
land_by land (z ∷ zs) = lands_at land z && land_by land zs

-- What a test can answer of a place is what `land` says of it.
abbrev pub Tells : (ℕ → Bool → Type 0) → (ℕ → Bool) → Type 0
Tells answers land = (p : ℕ) (b : Bool) → p < 2 ^ 64 → answers p b → b ≡ land p

-- The byte offset of the first instruction of which one does not.
unfoldable pub first_out : (ℕ → Bool) → List Instr → Option ℕ
first_out land [] = none
first_out land (i ∷ rest) = let later = first_out land rest in cond (land_by land (targets_of i)) later (some (8 * i.place))

abbrev pub instr_of : ℕ → ℕ → ℕ → Instr
instr_of here size w = record { place = here; size = size; word = w }

-- What the code's answer is: none, or the offset.
abbrev pub astray_is : std.Option ℕ → Option ℕ
astray_is std.None = none
astray_is (std.Some offset) = some offset

-- ---- the paper's test

lands_same : (land : ℕ → Bool) (k : List Instr) → ((p : ℕ) → land p ≡ lands k p) → (z : ℤ) → lands_at land z ≡ jump_lands k z
lands_same land k same (pos p) = same p
lands_same land k same (negsuc p) = refl

pub all_same : (land : ℕ → Bool) (k : List Instr) → ((p : ℕ) → land p ≡ lands k p) → (zs : List ℤ) → land_by land zs ≡ targets_land k zs
all_same land k same [] = refl
all_same land k same (z ∷ zs) = ap₂ ◌&&◌ (lands_same land k same z) (all_same land k same zs)

pub out_astray : (land : ℕ → Bool) (k : List Instr) → ((p : ℕ) → land p ≡ lands k p) → (rest : List Instr)
    → first_out land rest ≡ first_astray k rest
unfolding first_out first_astray
out_astray land k same [] = refl
out_astray land k same (i ∷ rest) = rw (all_same land k same (targets_of i), out_astray land k same rest)

-- ---- the code's test

module _ (land : ℕ → Bool) (here size w : ℕ) where
  -- Where one distance leads.
  abbrev at : Distance → ℤ
  at f = reach f w here (here + size)

  -- A word with two distances lands where both lead.
  pub two_land : (f g : Distance) → distances (operation w) ≡ f ∷ g ∷ []
      → (lands_at land (at f) && lands_at land (at g)) ≡ land_by land (targets_of (instr_of here size w))
  two_land f g e =
      ap (λ (b : Bool). lands_at land (at f) && b) (sym (and-true (lands_at land (at g))))
      ∙ sym (ap (λ (fs : List Distance). land_by land (reached fs (instr_of here size w))) e)
