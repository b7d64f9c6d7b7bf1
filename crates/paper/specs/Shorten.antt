-- Shortening: the smallest short word that expands to a word's exact bits (demand 2). First what that means, then a function that finds it;
-- that the function does so is a law (laws, `Shorten`). Assumes nothing.
use Rattle.std.specs.Prelude.{Bool, true, false, not, cond, List, [], ◌∷◌, ◌≡◌, ℕ, zero, suc, ◌+◌, ◌*◌, ◌/◌, ◌%◌, ◌^◌, ◌≤◌, ◌<◌, eqb, ltb}
use Rattle.std.proofs.Math.Option.{Option, none, some}
use Rattle.paper.specs.Bits.{bits}
use Rattle.paper.specs.Rows.{Row, row, assemble}
use Rattle.paper.specs.Word.{immediate_form}
use Rattle.paper.specs.Dictionary.{Dictionary, control, datatype, subregister, source}
use Rattle.paper.specs.Expand.{expand, is_short}
use Rattle.paper.specs.Operation.{operation, is_branch}

-- ---- what is asked

-- s is a short word, a 64-bit number with bit 29 set that is no branch, and expands to w.
pub record Shortens (D : Dictionary) (w s : ℕ) : Type 0 where
  pub fits : s < 2 ^ 64
  pub marked : is_short s ≡ true
  pub plain : is_branch (operation s) ≡ false
  pub same : expand D s ≡ w

-- s is the smallest of them.
pub record Least (D : Dictionary) (w s : ℕ) : Type 0 where
  pub is : Shortens D w s
  pub least : (t : ℕ) → Shortens D w t → s ≤ t

-- The smallest, or none where there is none.
abbrev pub Shortest : Dictionary → ℕ → Option ℕ → Type 0
Shortest D w (some s) = Least D w s
Shortest D w none = (t : ℕ) → Shortens D w t → ⊥

-- ---- a function that finds it, from the low and the high 64 bits of a word

-- The numbers that a word asks of the control, datatype and subregister tables. In immediate form the last dword covers the subregister
-- number's top five bits, so any number with the right low ten serves.
abbrev pub control_key : ℕ → List Row
control_key lo = row 16 lo 8 ∷ row 1 lo 31 ∷ []

abbrev pub datatype_key : ℕ → List Row
datatype_key lo = row 15 lo 32 ∷ row 3 lo 61 ∷ []

abbrev pub subregister_key : Bool → ℕ → ℕ → List Row
subregister_key true lo hi = row 5 lo 48 ∷ row 5 hi 0 ∷ []
subregister_key false lo hi = row 5 lo 48 ∷ row 5 hi 0 ∷ row 5 hi 32 ∷ []

-- The first of the n numbers from i on for which the test is true, or i + n.
unfoldable pub first_from : (ℕ → Bool) → ℕ → ℕ → ℕ
first_from test zero i = i
first_from test (suc n) i = let later = first_from test n (suc i) in cond (test i) i later

-- The smallest index at which a table's number is the key modulo m, or 32 where none is.
unfoldable pub index_of : (ℕ → ℕ) → ℕ → ℕ → ℕ
index_of table m key = first_from (λ (i : ℕ). eqb (table i % m) key) 32 0

-- The short word's bits 29:0: c, t and b are its control, datatype and subregister index.
abbrev pub head_rows : ℕ → ℕ → ℕ → ℕ → ℕ → List Row
head_rows lo hi c t b =
    row 7 lo 0  -- 6:0 Opcode
    ∷ row 1 lo 30  -- 7 DebugCtrl
    ∷ row 5 c 0  -- 12:8
    ∷ row 5 t 0  -- 17:13
    ∷ row 5 b 0  -- 22:18
    ∷ row 1 lo 28  -- 23 AccWrCtrl
    ∷ row 4 lo 24  -- 27:24 CondModifier
    ∷ row 1 hi 25  -- 28 flag choice
    ∷ row 1 1 0  -- 29
    ∷ []

-- Its bits 63:30: x and y are its source indices, r has src1's register in its low byte.
abbrev pub tail_rows : ℕ → ℕ → ℕ → ℕ → ℕ → List Row
tail_rows lo hi x y r =
    row 5 x 0  -- 34:30
    ∷ row 5 y 0  -- 39:35
    ∷ row 8 lo 53  -- 47:40
    ∷ row 8 hi 5  -- 55:48
    ∷ row 8 r 0  -- 63:56
    ∷ []

unfoldable pub short_word : ℕ → ℕ → ℕ → ℕ → ℕ → ℕ → ℕ → ℕ → ℕ
short_word lo hi c t b x y r = assemble (head_rows lo hi c t b) + assemble (tail_rows lo hi x y r) * 2 ^ 30

-- The answer if the test holds, else none.
abbrev pub provided : Bool → Option ℕ → Option ℕ
provided true answer = answer
provided false answer = none

-- In immediate form: the last dword lies from −4096 to 4095 and is cut into index and register.
unfoldable pub shorten_immediate : Dictionary → ℕ → ℕ → ℕ → ℕ → ℕ → Option ℕ
shorten_immediate D lo hi c t x =
    let b = index_of (subregister D) (2 ^ 10) (assemble (subregister_key true lo hi)) in
    provided (ltb ((hi / 2 ^ 32 + 4096) % 2 ^ 32) 8192)
    (provided (ltb b 32) (some (short_word lo hi c t b x (hi / 2 ^ 32 / 256 % 32) (hi / 2 ^ 32))))

-- With src1 in a register.
unfoldable pub shorten_register : Dictionary → ℕ → ℕ → ℕ → ℕ → ℕ → Option ℕ
shorten_register D lo hi c t x =
    let b = index_of (subregister D) (2 ^ 15) (assemble (subregister_key false lo hi)) in
    let y = index_of (source D) (2 ^ 12) (bits hi 45 12) in
    provided (eqb (bits hi 57 7) 0)
    (provided (ltb b 32) (provided (ltb y 32) (some (short_word lo hi c t b x y (hi / 2 ^ 37)))))

-- What both forms ask: no branch, the bits that expansion leaves 0, and the first three indices.
unfoldable pub shorten_halves : Dictionary → ℕ → ℕ → Option ℕ
shorten_halves D lo hi =
    let c = index_of (control D) (2 ^ 17) (assemble (control_key lo)) in
    let t = index_of (datatype D) (2 ^ 18) (assemble (datatype_key lo)) in
    let x = index_of (source D) (2 ^ 12) (bits hi 13 12) in
    provided (not (is_branch (operation lo)))
    (provided (eqb (bits lo 7 1) 0)
    (provided (eqb (bits lo 29 1) 0)
    (provided (eqb (bits lo 47 1) 0)
    (provided (eqb (bits hi 26 6) 0)
    (provided (ltb c 32)
    (provided (ltb t 32)
    (provided (ltb x 32)
    (cond (immediate_form lo) (shorten_immediate D lo hi c t x) (shorten_register D lo hi c t x)))))))))

-- The smallest short word for w, or none.
unfoldable pub shorten : Dictionary → ℕ → Option ℕ
shorten D w = shorten_halves D (w % 2 ^ 64) (w / 2 ^ 64)
