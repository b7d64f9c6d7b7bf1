-- Elements of the registers read as numbers. Assumes nothing.
use Rattle.std.specs.Prelude.{◌≡◌, List, ℕ, zero, suc, ◌+◌, ◌*◌, ◌^◌, ◌≤◌, ◌<◌, get_or}
use Rattle.std.proofs.Common.{ap, ◌∙◌, subst, arith, pow-suc, lit<}
use Rattle.paper.specs.Bits.{number, number_at}
use Rattle.paper.specs.Value.{width, size_of, value}
use Rattle.laws.specs.Bytes.{number_at-suc}
use Rattle.laws.specs.Values.{IsWhole, size_patterns}
use Rattle.element.specs.Biased.{ex, Near}
use Rattle.lanes.specs.Mapped.{Mapped}

-- v stands for the value of a type's pattern, and lies as near to 0 as the type's values do.
abbrev pub Reads : ℕ → ℕ → ℕ → Type 0
Reads kind pattern v = (ex v ≡ value kind pattern) × Near (width kind) v

-- v stands for the element of `size` bytes at byte `from`.
unfoldable pub ElementRead : List ℕ → ℕ → ℕ → ℕ → ℕ → Type 0
ElementRead registers from kind size v = Reads kind (number_at registers from size) v

-- Of sixteen numbers, each of the n first stands for the element of `size` bytes at its channel's byte; the others stay.
unfoldable pub ElementsRead : List ℕ → (ℕ → ℕ) → ℕ → ℕ → ℕ → List ℕ → List ℕ → Type 0
ElementsRead registers element kind size n old new = Mapped (λ k a b. ElementRead registers (element k) kind size b) n old new

-- The number of n bytes is below 256 to the n.
number_less : (registers : List ℕ) → ((i : ℕ) → get_or registers i 0 < 256) → (n from : ℕ) → number_at registers from n < 256 ^ n
unfolding number_at number
number_less registers bytes zero from = lit< tt
number_less registers bytes (suc n) from =
    rw (number_at-suc registers from n, pow-suc 256 n) (omega (arith, bytes from, number_less registers bytes n (from + 1)))

-- An element has its type's bits.
pub element_less : (registers : List ℕ) → ((i : ℕ) → get_or registers i 0 < 256) → (kind from : ℕ)
    → number_at registers from (size_of kind) < 2 ^ width kind
element_less registers bytes kind from = rw (← (size_patterns kind)) (number_less registers bytes (size_of kind) from)

-- ---- by type

-- The code that is left of those of whole numbers.
pub last_type : (kind : ℕ) → IsWhole kind → ((((Unit {0} × (kind ≡ 0 → ⊥)) × (kind ≡ 1 → ⊥)) × (kind ≡ 2 → ⊥)) × (kind ≡ 3 → ⊥)) × (kind ≡ 4 → ⊥) → kind ≡ 5
last_type kind h others = omega (arith, h, others.0.0.0.0.1, others.0.0.0.1, others.0.0.1, others.0.1, others.1)

module _ (kind size this : ℕ) (e : size ≡ size_of kind) (told : kind ≡ this) where
  same_size : size ≡ size_of this
  same_size = e ∙ ap size_of told

  -- Elements of a type that is told lie inside,
  pub typed_room : (from n bytes : ℕ) → ((k : ℕ) → k < n → from + k * size + size ≤ bytes) → (k : ℕ) → k < n → from + k * size_of this + size_of this ≤ bytes
  typed_room from n bytes inside k h = subst (λ (z : ℕ). from + k * z + z ≤ bytes) same_size (inside k h)

  -- and what was read of them is read of the type.
  pub typed_read : (registers : List ℕ) (from n : ℕ) (old new : List ℕ) → ElementsRead registers (λ k. from + k * size_of this) this (size_of this) n old new
      → ElementsRead registers (λ k. from + k * size) kind size n old new
  typed_read registers from n old new read = rw (told, same_size) read
