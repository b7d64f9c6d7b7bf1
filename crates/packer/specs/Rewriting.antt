-- What rewriting a word comes to, by the distances that it holds. Assumes nothing.
use Rattle.std.specs.Prelude.{List, [], ◌∷◌, Option, map, ◌≡◌, ℕ, ◌+◌, get_or}
use Rattle.std.proofs.Math.Path.{sym, ap}
use Rattle.std.proofs.Common.{◌∙◌, subst}
use Rattle.paper.specs.Operation.{operation}
use Rattle.paper.specs.Jump.{Distance, distances, reach, reached, place_of}
use Rattle.paper.specs.Packing.{aimed}
use Rattle.laws.specs.Rename.{AtPlaces}
use Rattle.laws.specs.Moved.{aim}
use Rattle.distances.specs.Distances.{told, place_in, place_told}
use Rattle.kernel.specs.Jumps.{instr_of}
use Rattle.packer.specs.Stages.{new_places, ReachesAt, Reaches}

-- The place to which a distance of word w leads, of an instruction of `size` places from place `here` on.
abbrev pub old_place : Distance → ℕ → ℕ → ℕ → ℕ
old_place f w here size = place_of (reach f w here (here + size))

-- It is the one that the code tells.
pub old_told : (f : Distance) (w here size : ℕ) (t : Option ℕ) → t ≡ told (reach f w here (here + size)) → (p : ℕ) → p ≡ place_in t → p ≡ old_place f w here size
old_told f w here size t leads p e = e ∙ ap place_in leads ∙ place_told (reach f w here (here + size))

module _ (news : List ℕ) (w here size to next : ℕ) where
  -- The word with its distances looked up.
  abbrev looked : List Distance → ℕ
  looked fs = aimed fs w to next (map (λ z. get_or news (place_of z) 0) (reached fs (instr_of here size w)))

  -- The new places of some distances' targets are there.
  abbrev AllReach : List Distance → Type 0
  AllReach fs = AtPlaces (ReachesAt news) (map place_of (reached fs (instr_of here size w)))

  pub all_reach : (fs : List Distance) → distances (operation w) ≡ fs → Reaches news (instr_of here size w) → AllReach fs
  all_reach fs e r = subst AllReach e r

  -- A word without a distance is left as it is.
  pub none_rewritten : distances (operation w) ≡ [] → w ≡ aimed (distances (operation w)) w to next (new_places news (instr_of here size w))
  unfolding aimed
  none_rewritten e = sym (ap looked e)

  -- The place at which that comes to stand to which one of its distances leads.
  abbrev new_place : Distance → ℕ
  new_place f = get_or news (old_place f w here size) 0

  -- One with one distance is aimed at that place,
  pub one_rewritten : (f : Distance) → distances (operation w) ≡ f ∷ [] → (n : ℕ) → n ≡ new_place f → (v : ℕ) → v ≡ aim f w to next n
      → v ≡ aimed (distances (operation w)) w to next (new_places news (instr_of here size w))
  unfolding aimed
  one_rewritten f e n a v q = q ∙ ap (aim f w to next) a ∙ sym (ap looked e)

  -- and one with two by the first and then by the second.
  pub two_rewritten : (f g : Distance) → distances (operation w) ≡ f ∷ g ∷ [] → (n m : ℕ) → n ≡ new_place f → m ≡ new_place g
      → (u : ℕ) → u ≡ aim f w to next n → (v : ℕ) → v ≡ aim g u to next m
      → v ≡ aimed (distances (operation w)) w to next (new_places news (instr_of here size w))
  unfolding aimed
  two_rewritten f g e n m a b u p v q = q ∙ (λ i. aim g ((p ∙ ap (aim f w to next) a) i) to next (b i)) ∙ sym (ap looked e)
