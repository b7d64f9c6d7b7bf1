-- Numbers in bytes at any place, also where there is no room. Assumes nothing.
use Rattle.std.specs.Prelude.{◌≡◌, ℕ, ◌+◌, ◌-◌, ◌<◌, ◌≤◌, Bool, true, false, cond, List, length, nat_le, refl, Option, None, Some}
use Rattle.std.proofs.Math.Path.{sym}
use Rattle.std.proofs.Common.{◌∙◌, arith}
use borrow.Author.Tests.{leb-true, leb-false, le-leb, lt-leb}
use Rattle.paper.specs.Bits.{number_at, put_at}

-- There is room for `size` bytes from `at` on.
unfoldable pub room : List ℕ → ℕ → ℕ → Bool
room bytes at size = nat_le (at + size) (length bytes)

-- The number of the `size` bytes from `at` on; none where they are not all there.
unfoldable pub number_in : List ℕ → ℕ → ℕ → Option ℕ
number_in bytes at size = cond (room bytes at size) (Some (number_at bytes at size)) None

-- The bytes with the number v in the `size` bytes from `at` on; unchanged where they are not all there.
unfoldable pub put_in : List ℕ → ℕ → ℕ → ℕ → List ℕ
put_in bytes at size v = cond (room bytes at size) (put_at bytes at size v) bytes

-- The room is what is left after `at`.
pub left_over : (bytes : List ℕ) (at size : ℕ) → at ≤ length bytes → nat_le size (length bytes - at) ≡ room bytes at size
unfolding room
left_over bytes at size h = go (nat_le size (length bytes - at)) refl
  where
    go : (t : Bool) → nat_le size (length bytes - at) ≡ t → t ≡ nat_le (at + size) (length bytes)
    go true e = let l = leb-true size (length bytes - at) e in sym (le-leb (at + size) (length bytes) (omega arith))
    go false e = let l = leb-false size (length bytes - at) e in sym (lt-leb (at + size) (length bytes) (omega arith))

-- Past the end there is none.
pub past_end : (bytes : List ℕ) (at size : ℕ) → length bytes < at → false ≡ room bytes at size
unfolding room
past_end bytes at size h = sym (lt-leb (at + size) (length bytes) (omega arith))

-- ---- by the test's answer t

module _ (bytes : List ℕ) (at size : ℕ) (t : Bool) (test : t ≡ room bytes at size) where
  pub all_there : t ≡ true → at + size ≤ length bytes
  unfolding room
  all_there e = leb-true (at + size) (length bytes) (sym test ∙ e)

  pub read_there : t ≡ true → (v : ℕ) → v ≡ number_at bytes at size → Some v ≡ number_in bytes at size
  unfolding number_in
  read_there e v h = rw (sym test ∙ e, h)

  pub read_none : t ≡ false → None ≡ number_in bytes at size
  unfolding number_in
  read_none e = rw (sym test ∙ e)

  -- It is put where there is room,
  pub put_there : t ≡ true → (v : ℕ) (after : List ℕ) → after ≡ put_at bytes at size v → (after ≡ put_in bytes at size v) × (true ≡ room bytes at size)
  unfolding put_in
  put_there e v after h = (rw (sym test ∙ e) h, sym e ∙ test)

  -- and nothing changes where there is none.
  pub put_none : t ≡ false → (v : ℕ) → (bytes ≡ put_in bytes at size v) × (false ≡ room bytes at size)
  unfolding put_in
  put_none e v = (rw (sym test ∙ e), sym e ∙ test)
