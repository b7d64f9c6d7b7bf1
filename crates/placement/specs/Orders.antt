-- What an order answers for a point, on floats: keep, shift by two floats, or place by a record. Assumes nothing.
use Rattle.std.specs.Prelude.{Float}
use Rattle.std.specs.Float.{binary32}
use Rattle.std.specs.Float.Ieee.{add}
use Rattle.paper.specs.Placing.{placed_value}
use Rattle.placement.specs.declared.Six.{Six}
use Rattle.placement.specs.declared.Two.{Two}
use Rattle.placement.specs.declared.Order.{Order}
use Rattle.placement.specs.declared.Order.TheVariants.{Keep, Shift, Place}

-- A placement and a point, on floats.
abbrev pub Placement : Type 0
Placement = Six Float

abbrev pub Point : Type 0
Point = Two Float

abbrev pub placed_by : Placement → Float → Float → Point
placed_by p x y = record { x = placed_value p.a p.b p.c x y; y = placed_value p.d p.e p.f x y }

abbrev pub answered : Order → Float → Float → Point
answered Keep x y = record { x = x; y = y }
answered (Shift c f) x y = record { x = add binary32 x c; y = add binary32 y f }
answered (Place p) x y = placed_by p x y
