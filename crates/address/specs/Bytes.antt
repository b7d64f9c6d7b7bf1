-- What an address names, in the paper's terms. Assumes nothing.
use Rattle.std.specs.Prelude.{Bool, true, false, not, cond, Option, Some, None, ◌≡◌, refl, ℕ, ◌<◌, ltb, ℤ, pos, negsuc}
use Rattle.std.proofs.lemmas.Bool.{false≢true}
use Rattle.std.proofs.Common.{sym, ap, ltb-true}
use Rattle.paper.specs.Limits.{register_bytes}
use Rattle.paper.specs.Jump.{place_of}
use Rattle.paper.specs.Address.{outside}
use Rattle.distances.specs.Reach.{said_of}

-- The byte, if the register file has it.
abbrev pub in_file : ℕ → Option ℕ
in_file a = cond (ltb a register_bytes) (Some a) None

-- What the code says of an address: below 0 there is no byte either.
abbrev pub told : ℤ → Option ℕ
told = said_of in_file None

-- ---- what is told by it

-- What is told is a byte.
is_byte : Option ℕ → Bool
is_byte (Some a) = true
is_byte None = false

-- The byte that is told; 0 if none is.
byte_in : Option ℕ → ℕ
byte_in (Some a) = a
byte_in None = 0

-- None is no byte.
no_byte : (a : ℕ) → Some a ≡ None → ⊥
unfolding is_byte
no_byte a e = false≢true (sym (ap is_byte e))

-- A byte is inside of the register file, and is the one that the address names.
pub told_byte : (z : ℤ) (b : ℕ) → Some b ≡ told z → (outside z ≡ false) × (place_of z ≡ b) × (b < register_bytes)
unfolding byte_in
told_byte (pos a) b e = go (ltb a register_bytes) refl e
  where
    go : (t : Bool) → ltb a register_bytes ≡ t → Some b ≡ cond t (Some a) None → (not t ≡ false) × (a ≡ b) × (b < register_bytes)
    go true f g =
        let same : b ≡ a = ap byte_in g in
        (refl, sym same, rw same (ltb-true a register_bytes f))
    go false f g = absurd (no_byte b g)
told_byte (negsuc a) b e = absurd (no_byte b e)

-- Where none is told, the address is outside.
pub told-outside : (z : ℤ) → None ≡ told z → outside z ≡ true
told-outside (pos a) e = go (ltb a register_bytes) e
  where
    go : (t : Bool) → None ≡ cond t (Some a) None → not t ≡ true
    go true g = absurd (no_byte a (sym g))
    go false g = refl
told-outside (negsuc a) e = refl
