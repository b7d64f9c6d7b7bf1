-- What the code's answer to shortening is in the paper's terms. Assumes nothing.
use Rattle.std.specs.Prelude as std
use Rattle.std.specs.Prelude.{Bool, not, ◌&&◌, ◌≡◌, refl, ℕ, eqb, Some, None, is_some}
use Rattle.std.proofs.Math.Option.{Option, none, some}
use Rattle.paper.specs.Bits.{bits}
use Rattle.paper.specs.Operation.{operation, is_branch}
use Rattle.paper.specs.Listing.{present}

abbrev pub shorter_is : std.Option ℕ → Option ℕ
shorter_is (Some s) = some s
shorter_is None = none

-- Whether there is a short word, by either.
pub present_is : (o : std.Option ℕ) → is_some o ≡ present (shorter_is o)
present_is (Some s) = refl
present_is None = refl

-- What shortening asks of the halves of a word but for its tables: no branch, and 0 in the bits that expansion leaves 0.
unfoldable pub allowed : ℕ → ℕ → Bool
allowed lo hi =
    not (is_branch (operation lo))
    && (eqb (bits lo 7 1) 0
    && (eqb (bits lo 29 1) 0
    && (eqb (bits lo 47 1) 0
    && eqb (bits hi 26 6) 0)))
