-- Where an instruction leads, by the distances that its word holds. Assumes nothing.
use Rattle.std.specs.Prelude.{List, [], ◌∷◌, Option, map, ◌≡◌, ℕ, ◌+◌}
use Rattle.std.proofs.Common.{sym, ap, ◌∙◌}
use Rattle.paper.specs.Operation.{operation}
use Rattle.paper.specs.Jump.{Distance, distances, reach, reached, place_of}
use Rattle.paper.specs.Machine.{Ways, leads, ways_of}
use Rattle.distances.specs.Distances.{told, place_in, place_told}
use Rattle.kernel.specs.Jumps.{instr_of}

module _ (here size w : ℕ) where
  -- The ways by these distances.
  abbrev by : List Distance → Ways
  by fs = leads (here + size) (map place_of (reached fs (instr_of here size w)))

  -- Without a distance it leads to the next place alone.
  pub none_leads : distances (operation w) ≡ [] → record { next = here + size; jump = 0; wait = 0 } ≡ ways_of (instr_of here size w)
  none_leads e = sym (ap by e)

  -- The place that is told of a distance is the one to which it leads.
  placed : (f : Distance) (t : Option ℕ) → t ≡ told (reach f w here (here + size)) → (p : ℕ) → p ≡ place_in t → p ≡ place_of (reach f w here (here + size))
  placed f t told_is p e = e ∙ ap place_in told_is ∙ place_told (reach f w here (here + size))

  -- By one distance it jumps to its target, and parks channels there.
  pub one_leads : (f : Distance) → distances (operation w) ≡ f ∷ [] → (t : Option ℕ) → t ≡ told (reach f w here (here + size)) → (p : ℕ) → p ≡ place_in t
      → record { next = here + size; jump = p; wait = p } ≡ ways_of (instr_of here size w)
  one_leads f e t told_is p at =
      let a = placed f t told_is p at in (λ i. record { next = here + size; jump = a i; wait = a i }) ∙ sym (ap by e)

  -- By two it jumps to the target of the first, and parks channels at that of the second.
  pub two_lead : (f g : Distance) → distances (operation w) ≡ f ∷ g ∷ []
      → (t : Option ℕ) → t ≡ told (reach f w here (here + size)) → (p : ℕ) → p ≡ place_in t
      → (u : Option ℕ) → u ≡ told (reach g w here (here + size)) → (q : ℕ) → q ≡ place_in u
      → record { next = here + size; jump = p; wait = q } ≡ ways_of (instr_of here size w)
  two_lead f g e t told_t p at u told_u q by_u =
      let a = placed f t told_t p at in
      let b = placed g u told_u q by_u in
      (λ i. record { next = here + size; jump = a i; wait = b i }) ∙ sym (ap by e)
