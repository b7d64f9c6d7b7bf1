-- The sizes of elements. Assumes nothing.
use Rattle.std.specs.Prelude.{◌≡◌, ℕ, ◌≤◌, ◌<◌}
use Rattle.std.proofs.Common.{subst, arith, lit<, lit≤}
use Rattle.paper.specs.Value.{size_of, IsType}
use Rattle.laws.specs.Values.{by_type}

-- An element of 1, 2 or 4 bytes.
pub record Size (size : ℕ) : Type 0 where
  pub least : 0 < size
  pub most : size ≤ 4
  pub even : size ≡ 3 → ⊥

-- Every type's element has so many.
pub type_size : (t : ℕ) → IsType t → Size (size_of t)
type_size =
    by_type (λ size bits. Size size)
    (record { least = lit< tt; most = lit≤ tt; even = λ e. omega arith })
    (record { least = lit< tt; most = lit≤ tt; even = λ e. omega arith })
    (record { least = lit< tt; most = lit≤ tt; even = λ e. omega arith })

-- A code is a type's if its elements have bytes.
pub some_type : (size kind : ℕ) → size ≡ size_of kind → 0 < size → IsType kind
some_type size kind e h = subst (λ (n : ℕ). 0 < n) e h

-- What is neither four bytes nor two is one.
pub size_one : (size kind : ℕ) → size ≡ size_of kind → 0 < size → (size ≡ 4 → ⊥) → (size ≡ 2 → ⊥) → size ≡ 1
size_one size kind e some four two =
    by_type (λ n bits. size ≡ n → size ≡ 1) (λ q. absurd (four q)) (λ q. absurd (two q)) (λ q. q) kind (some_type size kind e some) e
