-- The code's distances and targets in the paper's terms. Assumes nothing.
use Rattle.std.specs.Prelude.{List, [], ◌∷◌, Option, Some, None, ◌≡◌, refl, ℕ, ◌-◌, ◌*◌, ◌^◌, ◌≤◌, ℤ, pos, negsuc, ◌+ℤ◌}
use Rattle.std.specs.Option.{unwrap_or}
use Rattle.std.proofs.Common.{sym, ◌∙◌}
use Rattle.paper.specs.Bits.{bits}
use Rattle.paper.specs.Jump as paper
use Rattle.paper.specs.Jump.{place_of}
use Rattle.distances.specs.Reach.{said_of, said_from, said_from_lem}
use Rattle.distances.specs.declared.distance.Distance.{Distance}
use Rattle.distances.specs.declared.distance.Distance.TheVariants.{Near, Far, Jip, Uip}
use Rattle.distances.specs.declared.branch.Distances.{Distances}
use Rattle.distances.specs.declared.branch.Distances.TheVariants.{Nothing, One, Two}

abbrev pub distance_is : Distance → paper.Distance
distance_is Near = record { lo = 48; width = 16; base = paper.own_start }
distance_is Far = record { lo = 96; width = 32; base = paper.own_end }
distance_is Jip = paper.jip
distance_is Uip = paper.uip

abbrev pub distances_is : Distances → List paper.Distance
distances_is Nothing = []
distances_is (One d) = distance_is d ∷ []
distances_is (Two d e) = distance_is d ∷ distance_is e ∷ []

-- What the code says of where a jump leads: the place, and nothing of what lies below place 0.
abbrev pub told : ℤ → Option ℕ
told = said_of Some None

-- The place that it says; 0 of what lies below, where no accepted jump leads.
abbrev pub place_in : Option ℕ → ℕ
place_in target = unwrap_or target 0

-- It is the paper's.
pub place_told : (z : ℤ) → place_in (told z) ≡ place_of z
place_told (pos p) = refl
place_told (negsuc p) = refl

-- ---- what the code reckons with

-- A distance counts from no farther than the later of the instruction's two ends.
pub base_most : (x : paper.Base) {here next m : ℕ} → here ≤ m → next ≤ m → paper.base_of x here next ≤ m
base_most paper.own_start h n = h
base_most paper.own_end h n = n

-- Where a distance leads, by the place from which it counts, its bits and the least of them that means one below 0.
pub reach_told : (d : Distance) (w here next from field half : ℕ) → from ≡ paper.base_of (distance_is d).base here next
    → field ≡ bits w (distance_is d).lo (distance_is d).width → half ≡ 2 ^ ((distance_is d).width - 1) → 2 * half ≡ 2 ^ (distance_is d).width
    → said_from Some None from field half ≡ told (paper.reach (distance_is d) w here next)
reach_told d w here next from field half a b least span =
    said_from_lem Some None from field half (distance_is d).width (sym least) (sym span)
    ∙ (λ i. told (pos (a i) +ℤ paper.signed_of (distance_is d).width (b i)))
