-- The code's regions in the paper's terms: the code has a width by its code. Assumes nothing.
use Rattle.std.specs.Prelude.{◌≡◌, ℕ, ◌+◌, ◌-◌, ◌*◌, ◌/◌, ◌%◌, ◌^◌, ◌<◌, ◌≤◌}
use Rattle.std.proofs.Common.{sym, mul-le-mul, div-le_self, mod-eq_of_lt, div-add-mod', arith}
use Rattle.std.proofs.Math.Nat.{mod-le, mod-eq-sub-div-mul}
use Rattle.paper.specs.Region as paper
use Rattle.words.specs.declared.region.Region.{Region}

abbrev pub region_is : Region → paper.Region
region_is r = record { origin = r.origin; vert = r.vert; wide = 2 ^ r.code; horz = r.horz; size = r.size }

-- A region is the paper's if it is field by field.
pub region_is_lem : (r : Region) (s : paper.Region)
    → r.origin ≡ s.origin → r.vert ≡ s.vert → 2 ^ r.code ≡ s.wide → r.horz ≡ s.horz → r.size ≡ s.size → region_is r ≡ s
region_is_lem r s a b c d e = λ i. record { origin = a i; vert = b i; wide = c i; horz = d i; size = e i }

-- So is one in which each channel is a row.
pub destination_is : (origin vert size : ℕ) {o v z : ℕ} → origin ≡ o → vert ≡ v → size ≡ z
    → region_is (record { origin = origin; vert = vert; code = 0; horz = 0; size = size }) ≡ record { origin = o; vert = v; wide = 1; horz = 0; size = z }
destination_is origin vert size a b c = λ i. record { origin = a i; vert = b i; wide = 1; horz = 0; size = c i }

-- Numbers as small as the fields of any word make them, so that an element's place can be reckoned.
pub record Small (r : Region) : Type 0 where
  pub start : r.origin < 8192
  pub rows : r.vert < 32768
  pub wide : r.code < 8
  pub columns : r.horz < 32768
  pub most : r.size ≤ 4

-- (n >> k) << k loses nothing at the top.
pub floor_shl : (n k : ℕ) → n < 2 ^ 64 → (n / 2 ^ k * 2 ^ k) % 2 ^ 64 ≡ n / 2 ^ k * 2 ^ k
floor_shl n k h = mod-eq_of_lt (omega (arith, div-add-mod' n (2 ^ k)))

-- n − ((n >> k) << k) is the remainder.
pub rest_shl : (n k : ℕ) → n < 2 ^ 64 → n - (n / 2 ^ k * 2 ^ k) % 2 ^ 64 ≡ n % 2 ^ k
rest_shl n k h = rw floor_shl (sym (mod-eq-sub-div-mul n (2 ^ k)))

-- How far a channel's element can then lie from the origin.
module _ (n wide vert horz size : ℕ) (hn : n < 128) (hv : vert < 32768) (hh : horz < 32768) (hs : size ≤ 4) where
  pub row_le : n / wide * vert ≤ 4161409
  row_le = mul-le-mul {n₂ = 127} {m₂ = 32767} (omega (arith, div-le_self n wide)) (omega arith)

  pub column_le : n % wide * horz ≤ 4161409
  column_le = mul-le-mul {n₂ = 127} {m₂ = 32767} (omega (arith, mod-le n wide)) (omega arith)

  pub offset_le : (n / wide * vert + n % wide * horz) * size ≤ 33291272
  offset_le = mul-le-mul {n₂ = 8322818} {m₂ = 4} (omega (arith, row_le, column_le)) hs
