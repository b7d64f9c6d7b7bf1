-- Laws of shortening as the code goes through it, test by test. Assumes nothing.
use mathlib.Core.Bool.{Bool, true, false, cond, ◌&&◌}
use mathlib.Core.Option.{Option, none, some}
use mathlib.Core.Path.{◌≡◌, refl}
use Prim.Native.Nat.{ℕ, ◌+◌, ◌*◌, ◌/◌, ◌%◌, ◌^◌, ◌≤◌, ◌<◌}
use native.Mathlib.Omega.{arith}
use native.Mathlib.Decide.{dec_lt}
use native.Mathlib.Nat.{le_antisymm}
use borrow.Author.Tests.{lt-ltb, le-ltb, eq-eqb, ne_eqb}
use lib.Dec.{ltb}
use Rattle.paper.specs.Bits.{bits}
use Rattle.paper.specs.Rows.{assemble}
use Rattle.paper.specs.Word.{immediate_form}
use Rattle.paper.specs.Dictionary.{Dictionary, control, datatype, subregister, source}
use Rattle.paper.specs.Shorten.{control_key, datatype_key, subregister_key, index_of, short_word, provided}
use Rattle.paper.specs.Shorten.{shorten_immediate, shorten_register, shorten_halves, shorten}
use Rattle.laws.specs.Bits.{low_of_lem, top_of}
use Rattle.laws.specs.Shorten.{First, first_le, index_first}
use Rattle.std.specs.Prelude.{Some, None}
use Rattle.short.specs.Sets.{found}
use Rattle.short.specs.SetLaws.{found_at, found_none, is_found, not_found}
use Rattle.short.specs.Shorter.{allowed}

-- ---- the smallest index

-- There is only one first.
first_below : {P : ℕ → Type 0} {n r s : ℕ} → First P n r → First P n s → r ≤ s
first_below {P} {n} {r} {s} f g = go (dec_lt s n)
  where
    go : Dec (s < n) → r ≤ s
    go (yes h) = first_le f s (g.found h)
    go (no h) = omega (arith, f.within, g.within)

-- The first index at which the table's number is the key is `index_of`'s.
pub index_is : (table : ℕ → ℕ) (m key r : ℕ) → First (λ (i : ℕ). table i % m ≡ key) 32 r → r ≡ index_of table m key
index_is table m key r f = let g = index_first table m key in le_antisymm (first_below f g) (first_below g f)

-- It is answered where it is found, and none where none is.
pub index_found : (table : ℕ → ℕ) (m key r : ℕ) → r < 32 → ((k : ℕ) → k < r → table k % m ≡ key → ⊥) → table r % m ≡ key
    → Some r ≡ found (index_of table m key)
index_found table m key r h before e =
    let same : r ≡ index_of table m key = index_is table m key r (record { within = omega arith; before = before; found = λ _. e }) in
    rw (← same) (found_at r h)

pub index_none : (table : ℕ → ℕ) (m key : ℕ) → ((k : ℕ) → k < 32 → table k % m ≡ key → ⊥) → None ≡ found (index_of table m key)
index_none table m key none_before =
    let same : 32 ≡ index_of table m key = index_is table m key 32 (record { within = omega arith; before = none_before; found = λ h. absurd (omega arith) }) in
    rw (← same) (found_none 32 (omega arith))

-- ---- in immediate form

module _ (D : Dictionary) (lo hi c t x : ℕ) where
  -- The last dword lies too far off.
  pub immediate_far : 8192 ≤ (hi / 2 ^ 32 + 4096) % 2 ^ 32 → none ≡ shorten_immediate D lo hi c t x
  unfolding shorten_immediate
  immediate_far h = rw (le-ltb _ _ h)

  module _ (near : (hi / 2 ^ 32 + 4096) % 2 ^ 32 < 8192) (k : ℕ) (key : k ≡ assemble (subregister_key true lo hi)) where
    -- No number of the subregister table is the one asked.
    pub immediate_missing : None ≡ found (index_of (subregister D) (2 ^ 10) k) → none ≡ shorten_immediate D lo hi c t x
    unfolding shorten_immediate
    immediate_missing e = rw (lt-ltb _ _ near, le-ltb _ _ (not_found _ (rw key at e)))

    -- One is.
    pub immediate_found : (b : ℕ) → Some b ≡ found (index_of (subregister D) (2 ^ 10) k)
        → some (short_word lo hi c t b x (hi / 2 ^ 32 / 256 % 32) (hi / 2 ^ 32)) ≡ shorten_immediate D lo hi c t x
    unfolding shorten_immediate
    immediate_found b e = let is = is_found _ b (rw key at e) in rw (lt-ltb _ _ near, ← is.0, lt-ltb _ _ is.1)

  -- ---- with src1 in a register

  -- The word's top seven bits are not all 0.
  pub register_top : (bits hi 57 7 ≡ 0 → ⊥) → none ≡ shorten_register D lo hi c t x
  unfolding shorten_register
  register_top h = rw (ne_eqb _ _ h)

  module _ (clear : bits hi 57 7 ≡ 0) (k : ℕ) (key : k ≡ assemble (subregister_key false lo hi)) where
    -- No number of the subregister table is the one asked.
    pub register_missing : None ≡ found (index_of (subregister D) (2 ^ 15) k) → none ≡ shorten_register D lo hi c t x
    unfolding shorten_register
    register_missing e = rw (eq-eqb _ _ clear, le-ltb _ _ (not_found _ (rw key at e)))

    module _ (b : ℕ) (first : Some b ≡ found (index_of (subregister D) (2 ^ 15) k)) (j : ℕ) (second_key : j ≡ bits hi 45 12) where
      wide_is : (b ≡ index_of (subregister D) (2 ^ 15) (assemble (subregister_key false lo hi))) × (b < 32)
      wide_is = is_found _ b (rw key at first)

      -- No number of the source table is the second one asked.
      pub second_missing : None ≡ found (index_of (source D) (2 ^ 12) j) → none ≡ shorten_register D lo hi c t x
      unfolding shorten_register
      second_missing e = rw (eq-eqb _ _ clear, ← wide_is.0, lt-ltb _ _ wide_is.1, le-ltb _ _ (not_found _ (rw second_key at e)))

      -- One is.
      pub register_found : (y : ℕ) → Some y ≡ found (index_of (source D) (2 ^ 12) j)
          → some (short_word lo hi c t b x y (hi / 2 ^ 37)) ≡ shorten_register D lo hi c t x
      unfolding shorten_register
      register_found y e =
          let is = is_found _ y (rw second_key at e) in
          rw (eq-eqb _ _ clear, ← wide_is.0, lt-ltb _ _ wide_is.1, ← is.0, lt-ltb _ _ is.1)

-- ---- any word

-- A test of both is one test after the other.
provided_both : (a b : Bool) (answer : Option ℕ) → provided (a && b) answer ≡ provided a (provided b answer)
provided_both true b answer = refl
provided_both false b answer = refl

module _ (D : Dictionary) (lo hi : ℕ) where
  -- The five tests that need no table, as one.
  halves_allowed : (c t x : ℕ) → c ≡ index_of (control D) (2 ^ 17) (assemble (control_key lo))
      → t ≡ index_of (datatype D) (2 ^ 18) (assemble (datatype_key lo)) → x ≡ index_of (source D) (2 ^ 12) (bits hi 13 12)
      → shorten_halves D lo hi
      ≡ provided (allowed lo hi)
      (provided (ltb c 32)
      (provided (ltb t 32)
      (provided (ltb x 32)
      (cond (immediate_form lo) (shorten_immediate D lo hi c t x) (shorten_register D lo hi c t x)))))
  unfolding shorten_halves allowed
  halves_allowed c t x first second third = rw (← first, ← second, ← third) (simp provided_both)

  -- A branch, or a bit set that expansion leaves 0.
  pub halves_closed : allowed lo hi ≡ false → none ≡ shorten_halves D lo hi
  halves_closed h = rw (halves_allowed _ _ _ refl refl refl, h)

  module _ (may : allowed lo hi ≡ true) (k : ℕ) (key : k ≡ assemble (control_key lo)) where
    -- No number of the control table is the one asked.
    pub control_missing : None ≡ found (index_of (control D) (2 ^ 17) k) → none ≡ shorten_halves D lo hi
    control_missing e = rw (halves_allowed _ _ _ refl refl refl, may, le-ltb _ _ (not_found _ (rw key at e)))

    module _ (c : ℕ) (first : Some c ≡ found (index_of (control D) (2 ^ 17) k)) (j : ℕ) (second_key : j ≡ assemble (datatype_key lo)) where
      control_is : (c ≡ index_of (control D) (2 ^ 17) (assemble (control_key lo))) × (c < 32)
      control_is = is_found _ c (rw key at first)

      -- No number of the datatype table is the one asked.
      pub datatype_missing : None ≡ found (index_of (datatype D) (2 ^ 18) j) → none ≡ shorten_halves D lo hi
      datatype_missing e =
          rw (halves_allowed c _ _ control_is.0 refl refl, may, lt-ltb _ _ control_is.1, le-ltb _ _ (not_found _ (rw second_key at e)))

      module _ (t : ℕ) (second : Some t ≡ found (index_of (datatype D) (2 ^ 18) j)) (i : ℕ) (third_key : i ≡ bits hi 13 12) where
        datatype_is : (t ≡ index_of (datatype D) (2 ^ 18) (assemble (datatype_key lo))) × (t < 32)
        datatype_is = is_found _ t (rw second_key at second)

        -- No number of the source table is the first one asked.
        pub source_missing : None ≡ found (index_of (source D) (2 ^ 12) i) → none ≡ shorten_halves D lo hi
        source_missing e =
            rw (halves_allowed c t _ control_is.0 datatype_is.0 refl, may, lt-ltb _ _ control_is.1, lt-ltb _ _ datatype_is.1, le-ltb _ _ (not_found _ (rw third_key at e)))

        -- All three are there: then the form decides.
        pub form_decides : (x : ℕ) → Some x ≡ found (index_of (source D) (2 ^ 12) i) → (form : Bool) → form ≡ immediate_form lo
            → cond form (shorten_immediate D lo hi c t x) (shorten_register D lo hi c t x) ≡ shorten_halves D lo hi
        form_decides x e form is =
            let source_is = is_found _ x (rw third_key at e) in
            rw (is, halves_allowed c t x control_is.0 datatype_is.0 source_is.0, may, lt-ltb _ _ control_is.1, lt-ltb _ _ datatype_is.1, lt-ltb _ _ source_is.1)

-- The halves of a word are those that the code holds.
pub by_halves : (D : Dictionary) (lo hi : ℕ) → lo < 2 ^ 64 → shorten D (lo + hi * 2 ^ 64) ≡ shorten_halves D lo hi
unfolding shorten
by_halves D lo hi h = rw (low_of_lem 64 hi h, top_of 64 hi h)
