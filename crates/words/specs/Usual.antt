-- Words as most are: no operand is by address, and none is a0 or a float, be it read or not. Assumes nothing.
use Rattle.std.specs.Prelude.{Bool, true, false, not, ◌&&◌, ◌||◌, ◌≡◌, refl, ℕ, ◌+◌, ◌*◌, ◌/◌, ◌%◌, ◌^◌, ◌<◌, eqb}
use Rattle.std.proofs.Common.{◌∙◌, arith, eqb-true, ne_eqb}
use Rattle.std.proofs.Math.Nat.{div-div-eq-div-mul}
use Rattle.std.proofs.lemmas.Bool.{not-false}
use Rattle.paper.specs.Bits.{bits}
use Rattle.paper.specs.Value.{type_f, type_vf}
use Rattle.paper.specs.Word.{Source, src0, src1, is_immediate, dst_by_address, src_by_address, dst_is_a0, src_is_a0}
use Rattle.paper.specs.Operation.{Plain}
use Rattle.paper.specs.Legal.{dst_is_float, src_is_float}
use Rattle.laws.specs.Bits.{bits-high}
use Rattle.laws.specs.Regions.{Named}
use Rattle.words.specs.Fields.{bits_within}

-- No operand is by address.
pub record Direct (w : ℕ) : Type 0 where
  pub destination : dst_by_address w ≡ false
  pub source : (x : Source) → src_by_address x w ≡ false

-- None is a float.
pub record Whole (w : ℕ) : Type 0 where
  pub destination : dst_is_float w ≡ false
  pub source : (x : Source) → src_is_float w x ≡ false

-- Both, and none is a0.
pub record Usual (w : ℕ) : Type 0 where
  pub direct : Direct w
  pub whole : Whole w
  pub destination : dst_is_a0 w ≡ false
  pub source : (x : Source) → src_is_a0 x w ≡ false

-- What holds of both sources holds of each.
pub each_source : (P : Source → Type 0) → P src0 → P src1 → (x : Source) → P x
each_source P a b src0 = a
each_source P a b src1 = b

-- Every operand of any operation is then named directly.
pub usual_named : (p : Plain) (w : ℕ) → Usual w → Named p w
usual_named p w u = record { destination = u.direct.destination; source = λ x m. u.direct.source x }

-- Where the three bits in which an AddrMode may stand are 0, no operand is by address.
pub bits-direct : (lo hi : ℕ) → lo < 2 ^ 64 → not (eqb (lo / 2 ^ 63 + hi / 2 ^ 15 % 2 + hi / 2 ^ 47 % 2) 0) ≡ false → Direct (lo + hi * 2 ^ 64)
bits-direct lo hi h e =
    let n : lo / 2 ^ 63 + hi / 2 ^ 15 % 2 + hi / 2 ^ 47 % 2 ≡ 0 = eqb-true _ 0 (not-false _ e) in
    let d : bits (lo + hi * 2 ^ 64) 63 1 ≡ 0 = bits_within 64 63 1 lo hi (omega arith) ∙ omega (arith, n) in
    let f : bits (lo + hi * 2 ^ 64) 79 1 ≡ 0 = bits-high 64 15 1 hi h ∙ omega (arith, n) in
    let s : bits (lo + hi * 2 ^ 64) 111 1 ≡ 0 = bits-high 64 47 1 hi h ∙ omega (arith, n) in
    record {
      destination = rw d;
      source =
          each_source (λ x. src_by_address x (lo + hi * 2 ^ 64) ≡ false) (rw f (neither (is_immediate src0 (lo + hi * 2 ^ 64)))) (rw s (neither (is_immediate src1 (lo + hi * 2 ^ 64))));
    }
  where
    neither : (b : Bool) → (not b && false) ≡ false
    neither true = refl
    neither false = refl

-- A type under 4 is no float's.
float_none : (t : ℕ) (b : Bool) → t < 4 → (eqb t type_f || (b && eqb t type_vf)) ≡ false
float_none t b h = rw (ne_eqb t type_f (λ e. omega arith), ne_eqb t type_vf (λ e. omega arith)) (neither b)
  where
    neither : (b : Bool) → (b && false) ≡ false
    neither true = refl
    neither false = refl

-- Three bits whose highest is 0 are under 4.
under_four : (x : ℕ) → x / 4 % 2 ≡ 0 → x % 8 < 4
under_four x e = omega (arith, e)

-- Where the highest bits of the three types are 0, no operand is a float.
pub bits-whole : (lo hi : ℕ) → lo / 2 ^ 36 % 2 + lo / 2 ^ 41 % 2 + lo / 2 ^ 46 % 2 ≡ 0 → Whole (lo + hi * 2 ^ 64)
bits-whole lo hi n =
    let d : bits (lo + hi * 2 ^ 64) 34 3 < 4 = rw (bits_within 64 34 3 lo hi (omega arith)) (under_four (lo / 2 ^ 34) (rw (div-div-eq-div-mul lo (2 ^ 34) 4) (omega (arith, n)))) in
    let f : bits (lo + hi * 2 ^ 64) 39 3 < 4 = rw (bits_within 64 39 3 lo hi (omega arith)) (under_four (lo / 2 ^ 39) (rw (div-div-eq-div-mul lo (2 ^ 39) 4) (omega (arith, n)))) in
    let s : bits (lo + hi * 2 ^ 64) 44 3 < 4 = rw (bits_within 64 44 3 lo hi (omega arith)) (under_four (lo / 2 ^ 44) (rw (div-div-eq-div-mul lo (2 ^ 44) 4) (omega (arith, n)))) in
    record {
      destination = ne_eqb (bits (lo + hi * 2 ^ 64) 34 3) type_f (λ e. omega arith);
      source =
          each_source (λ x. src_is_float (lo + hi * 2 ^ 64) x ≡ false) (float_none _ (is_immediate src0 (lo + hi * 2 ^ 64)) f) (float_none _ (is_immediate src1 (lo + hi * 2 ^ 64)) s);
    }
