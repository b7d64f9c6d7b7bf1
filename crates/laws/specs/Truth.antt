-- Facts of tests. Assumes nothing.
use Rattle.std.specs.Prelude.{Bool, true, false, ◌&&◌, ◌≡◌, refl}
use Rattle.std.proofs.lemmas.Bool.{false≢true}

-- Of a conjunction that holds, both parts hold.
pub both_true : (a b : Bool) → (a && b) ≡ true → (a ≡ true) × (b ≡ true)
both_true true b e = (refl, e)
both_true false b e = absurd (false≢true e)
