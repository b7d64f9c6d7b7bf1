-- The fixed kernel's operations, on the patterns of a record and a point, give the patterns of the plain formula on floats. Assumes nothing.
use mathlib.Core.Path.{◌≡◌}
use Prim.Native.Nat.{ℕ}
use Rattle.paper.specs.Placing as paper
use Rattle.laws.specs.FloatFormula.{placed_patterns}
use Rattle.placement.specs.Orders.{placed_by}
use Rattle.placement.specs.Spots.{Record, Spot, record_is, point_at, spot_is, unloaded, point_of, spot_of}

both : (x x' y y' : ℕ) → x ≡ x' → y ≡ y' → point_at x y ≡ point_at x' y'
both x x' y y' p q = λ i. point_at (p i) (q i)

pub same_patterns : (k : Record) (at : Spot) → paper.placed_by (record_is k) (spot_is at) ≡ spot_is (spot_of (placed_by (unloaded k) (point_of at).x (point_of at).y))
same_patterns k at =
    both _ _ _ _ (placed_patterns k.a k.b k.c at.x at.y) (placed_patterns k.d k.e k.f at.x at.y)
