-- A placement and a point by their patterns, and what they are in the paper's terms. Assumes nothing.
use Rattle.std.specs.Prelude.{List, ◌++◌, ℕ}
use Rattle.paper.specs.Bits.{bytes_of}
use Rattle.paper.specs.Single.{float, pattern}
use Rattle.paper.specs.Placing as paper
use Rattle.placement.specs.declared.Six.{Six}
use Rattle.placement.specs.declared.Two.{Two}
use Rattle.placement.specs.Orders.{Placement, Point}

-- A placement by its patterns, and a point by its patterns.
abbrev pub Record : Type 0
Record = Six ℕ

abbrev pub Spot : Type 0
Spot = Two ℕ

-- ---- in the paper's terms

abbrev pub record_is : Record → paper.Placement
record_is k = record { a = k.a; b = k.b; c = k.c; d = k.d; e = k.e; f = k.f }

abbrev pub point_at : ℕ → ℕ → paper.Point
point_at x y = record { x = x; y = y }

abbrev pub spot_is : Spot → paper.Point
spot_is at = point_at at.x at.y

-- A record's six patterns as the bytes that place_load takes.
unfoldable pub six_bytes : Record → List ℕ
six_bytes k = bytes_of 4 k.a ++ (bytes_of 4 k.b ++ (bytes_of 4 k.c ++ (bytes_of 4 k.d ++ (bytes_of 4 k.e ++ bytes_of 4 k.f))))

-- ---- between floats and patterns

abbrev pub loaded_from : Placement → Record
loaded_from p =
    record { a = pattern p.a; b = pattern p.b; c = pattern p.c; d = pattern p.d; e = pattern p.e; f = pattern p.f }

abbrev pub unloaded : Record → Placement
unloaded k = record { a = float k.a; b = float k.b; c = float k.c; d = float k.d; e = float k.e; f = float k.f }

abbrev pub spot_of : Point → Spot
spot_of p = record { x = pattern p.x; y = pattern p.y }

abbrev pub point_of : Spot → Point
point_of at = record { x = float at.x; y = float at.y }
