-- Four instructions of the fixed kernel of 02 §8, one after the other: each awake channel has one coordinate of the plain formula. Assumes nothing.
use Rattle.std.specs.Prelude.{◌≡◌, true, List, ℕ, ◌+◌, ◌*◌, ◌<◌, ◌≤◌, length, get_or}
use Rattle.std.proofs.Common.{ap, ap₂, ◌∙◌, arith}
use Rattle.paper.specs.Bits.{bit, number_at}
use Rattle.paper.specs.Single.{sum, product}
use Rattle.paper.specs.Placing.{placed}
use Rattle.laws.specs.Scatter.{number_at_same}
use Rattle.laws.specs.FloatResults.{sum_lt, product_lt}
use Rattle.laws.specs.PlacedStep.{side_at, one_at, Spared, outside_spared, Wrote, left, left_wrote, stays}

-- Side by side is four bytes each, and one for every channel is where it begins.
pub side_is : (from n : ℕ) → side_at from n ≡ from + 4 * n
side_is from n = omega arith

pub one_is : (from n : ℕ) → one_at from n ≡ from
one_is from n = omega arith

-- One coordinate written from byte `into` on, by floats at bytes a, b and c: of channels with a 1 in the mask it is the plain formula's pattern; no other byte
-- changes but those of r12 and r13.
pub record Coordinate (mask into a b c : ℕ) (before after : List ℕ) : Type 0 where
  pub there : (n : ℕ) → n < 16 → bit mask n ≡ true → number_at after (into + 4 * n) 4
      ≡ placed (number_at before a 4) (number_at before b 4) (number_at before c 4) (number_at before (64 + 4 * n) 4) (number_at before (128 + 4 * n) 4)
  pub others : (i : ℕ) → Spared mask into i → Spared mask 384 i → get_or after i 0 ≡ get_or before i 0
  pub long : length after ≡ length before

-- A number outside of what is written stays.
pub coordinate_stays : (mask into a b c : ℕ) (before after : List ℕ) → Coordinate mask into a b c before after
    → (from : ℕ) → ((j : ℕ) → j < 4 → Spared mask into (from + j)) → ((j : ℕ) → j < 4 → Spared mask 384 (from + j))
    → number_at after from 4 ≡ number_at before from 4
coordinate_stays mask into a b c before after w from h g = number_at_same 4 after before from (λ j q. w.others (from + j) (h j q) (g j q))

-- Registers before, and after each of four instructions that write so.
module _ (mask into a b c : ℕ) (above : 256 ≤ into) (below : into + 64 ≤ 384) (a_in : a + 4 ≤ 256) (b_in : b + 4 ≤ 256) (c_in : c + 4 ≤ 256)
    (r₀ r₁ r₂ r₃ r₄ : List ℕ)
    (w₁ : Wrote mask into (λ n. product (number_at r₀ (one_at a n) 4) (number_at r₀ (side_at 64 n) 4)) r₀ r₁)
    (w₂ : Wrote mask 384 (λ n. product (number_at r₁ (one_at b n) 4) (number_at r₁ (side_at 128 n) 4)) r₁ r₂)
    (w₃ : Wrote mask into (λ n. sum (number_at r₂ (side_at into n) 4) (number_at r₂ (side_at 384 n) 4)) r₂ r₃)
    (w₄ : Wrote mask into (λ n. sum (number_at r₃ (side_at into n) 4) (number_at r₃ (one_at c n) 4)) r₃ r₄) where
  -- What lies below the answers is as it was after the first, the second and the third.
  low₁ : (from : ℕ) → from + 4 ≤ 256 → number_at r₁ from 4 ≡ number_at r₀ from 4
  low₁ from h = stays mask into _ r₀ r₁ w₁ from (λ j q. outside_spared mask into (from + j) (λ l u. omega arith))

  low₂ : (from : ℕ) → from + 4 ≤ 256 → number_at r₂ from 4 ≡ number_at r₀ from 4
  low₂ from h = stays mask 384 _ r₁ r₂ w₂ from (λ j q. outside_spared mask 384 (from + j) (λ l u. omega arith)) ∙ low₁ from h

  low₃ : (from : ℕ) → from + 4 ≤ 256 → number_at r₃ from 4 ≡ number_at r₀ from 4
  low₃ from h = stays mask into _ r₂ r₃ w₃ from (λ j q. outside_spared mask into (from + j) (λ l u. omega arith)) ∙ low₂ from h

  module _ (n : ℕ) (h : n < 16) (on : bit mask n ≡ true) where
    -- The channel's x and y.
    abbrev x : ℕ
    x = number_at r₀ (64 + 4 * n) 4

    abbrev y : ℕ
    y = number_at r₀ (128 + 4 * n) 4

    -- The first product,
    first : number_at r₁ (into + 4 * n) 4 ≡ product (number_at r₀ a 4) x
    first = w₁.there n h on ∙ ap₂ (λ (s t : ℕ). product (number_at r₀ s 4) (number_at r₀ t 4)) (one_is a n) (side_is 64 n)

    -- which the second leaves,
    first_stays : number_at r₂ (side_at into n) 4 ≡ product (number_at r₀ a 4) x
    first_stays =
        ap (λ (s : ℕ). number_at r₂ s 4) (side_is into n)
        ∙ stays mask 384 _ r₁ r₂ w₂ (into + 4 * n) (λ j q. outside_spared mask 384 (into + 4 * n + j) (λ l u. omega arith))
        ∙ first

    -- the second product,
    second : number_at r₂ (side_at 384 n) 4 ≡ product (number_at r₀ b 4) y
    second =
        ap (λ (s : ℕ). number_at r₂ s 4) (side_is 384 n) ∙ w₂.there n h on
        ∙ ap₂ (λ (s t : ℕ). product (number_at r₁ s 4) (number_at r₁ t 4)) (one_is b n) (side_is 128 n)
        ∙ ap₂ product (low₁ b b_in) (low₁ (128 + 4 * n) (omega arith))

    -- their sum,
    third : number_at r₃ (side_at into n) 4 ≡ sum (product (number_at r₀ a 4) x) (product (number_at r₀ b 4) y)
    third = ap (λ (s : ℕ). number_at r₃ s 4) (side_is into n) ∙ w₃.there n h on ∙ ap₂ sum first_stays second

    -- and the whole.
    fourth : number_at r₄ (into + 4 * n) 4 ≡ placed (number_at r₀ a 4) (number_at r₀ b 4) (number_at r₀ c 4) x y
    fourth = w₄.there n h on ∙ ap₂ sum third (ap (λ (s : ℕ). number_at r₃ s 4) (one_is c n) ∙ low₃ c c_in)

  -- So four such instructions write a coordinate.
  pub four_write : Coordinate mask into a b c r₀ r₄
  four_write = record {
    there = fourth;
    others = λ i f g. w₄.others i f ∙ w₃.others i f ∙ w₂.others i g ∙ w₁.others i f;
    long = w₄.long ∙ w₃.long ∙ w₂.long ∙ w₁.long;
  }

-- ---- as the words do it

-- What the four of a coordinate leave.
abbrev pub after_four : ℕ → ℕ → ℕ → ℕ → ℕ → List ℕ → List ℕ
after_four mask into a b c registers =
    left mask sum into (side_at into) (one_at c)
    (left mask sum into (side_at into) (side_at 384)
    (left mask product 384 (one_at b) (side_at 128)
    (left mask product into (one_at a) (side_at 64) registers)))

-- It is the coordinate.
pub four_coordinate : (mask into a b c : ℕ) → 256 ≤ into → into + 64 ≤ 384 → a + 4 ≤ 256 → b + 4 ≤ 256 → c + 4 ≤ 256
    → (registers : List ℕ) → 448 ≤ length registers → Coordinate mask into a b c registers (after_four mask into a b c registers)
four_coordinate mask into a b c above below ha hb hc registers room =
    let r₁ : List ℕ = left mask product into (one_at a) (side_at 64) registers in
    let w₁ = left_wrote mask product product_lt into (one_at a) (side_at 64) registers (omega arith) in
    let l₁ : length r₁ ≡ length registers = w₁.long in
    let r₂ : List ℕ = left mask product 384 (one_at b) (side_at 128) r₁ in
    let w₂ = left_wrote mask product product_lt 384 (one_at b) (side_at 128) r₁ (omega arith) in
    let l₂ : length r₂ ≡ length r₁ = w₂.long in
    let r₃ : List ℕ = left mask sum into (side_at into) (side_at 384) r₂ in
    let w₃ = left_wrote mask sum sum_lt into (side_at into) (side_at 384) r₂ (omega arith) in
    let l₃ : length r₃ ≡ length r₂ = w₃.long in
    let w₄ = left_wrote mask sum sum_lt into (side_at into) (one_at c) r₃ (omega arith) in
    four_write mask into a b c above below ha hb hc registers r₁ r₂ r₃ (left mask sum into (side_at into) (one_at c) r₃) w₁ w₂ w₃ w₄
