-- Source document 000's restrictions on a source's region (5.3.10, rules 3 to 8), written apart from 9 in 000's words, and 9 held to them at every value of
-- the twelve source bits and every size. Assumes nothing.
use Rattle.std.specs.Prelude.{Bool, true, not, cond, ◌&&◌, ◌||◌, List, [], ◌∷◌, ◌≡◌, refl, ℕ, zero, suc, ◌*◌, eqb, ltb, leb, length, get_or}
use Rattle.paper.specs.Bits.{bits}
use Rattle.paper.specs.Legal.{hangs, shape_refused}

-- If the first holds, the second must.
abbrev pub must : Bool → Bool → Bool
must given asked = not given || asked

-- ---- the rules, over ExecSize, VertStride, Width and HorzStride in elements

-- 3. ExecSize must be equal to or greater than Width.
abbrev pub rule3 : ℕ → ℕ → ℕ → ℕ → Bool
rule3 size vert wide horz = leb wide size

-- 4. If ExecSize = Width and HorzStride ≠ 0, VertStride must be set to Width * HorzStride.
abbrev pub rule4 : ℕ → ℕ → ℕ → ℕ → Bool
rule4 size vert wide horz = must (eqb size wide && not (eqb horz 0)) (eqb vert (wide * horz))

-- 5. If ExecSize = Width but HorzStride = 0, there is no restriction on VertStride: this rule asks nothing, and 4 nothing in its case.
abbrev pub rule5 : ℕ → ℕ → ℕ → ℕ → Bool
rule5 size vert wide horz = must (eqb size wide && eqb horz 0) true

-- 6. If Width = 1, HorzStride must be 0 regardless of the values of ExecSize and VertStride.
abbrev pub rule6 : ℕ → ℕ → ℕ → ℕ → Bool
rule6 size vert wide horz = must (eqb wide 1) (eqb horz 0)

-- 7. If ExecSize = Width = 1, both VertStride and HorzStride must be set to zero.
abbrev pub rule7 : ℕ → ℕ → ℕ → ℕ → Bool
rule7 size vert wide horz = must (eqb size wide && eqb wide 1) (eqb vert 0 && eqb horz 0)

-- 8. If VertStride = HorzStride = 0, Width must be 1 regardless of the value of ExecSize.
abbrev pub rule8 : ℕ → ℕ → ℕ → ℕ → Bool
rule8 size vert wide horz = must (eqb vert horz && eqb horz 0) (eqb wide 1)

-- All of them.
unfoldable pub restricted : ℕ → ℕ → ℕ → ℕ → Bool
restricted size vert wide horz =
    rule3 size vert wide horz
    && (rule4 size vert wide horz
    && (rule5 size vert wide horz
    && (rule6 size vert wide horz
    && (rule7 size vert wide horz
    && rule8 size vert wide horz))))

-- ---- codes: the number that each stands for, in their order (000, tables 7-2 and 7-4); the others are reserved, and VertStride 15 is for addresses

abbrev pub sizes : List ℕ
sizes = 1 ∷ 2 ∷ 4 ∷ 8 ∷ 16 ∷ []

abbrev pub verticals : List ℕ
verticals = 0 ∷ 1 ∷ 2 ∷ 4 ∷ 8 ∷ 16 ∷ 32 ∷ []

abbrev pub widths : List ℕ
widths = 1 ∷ 2 ∷ 4 ∷ 8 ∷ 16 ∷ []

abbrev pub horizontals : List ℕ
horizontals = 0 ∷ 1 ∷ 2 ∷ 4 ∷ []

-- The code is listed,
abbrev pub listed : List ℕ → ℕ → Bool
listed numbers code = ltb code (length numbers)

-- and stands for this number.
abbrev pub number_for : List ℕ → ℕ → ℕ
number_for numbers code = get_or numbers code 0

-- The twelve bits keep the restrictions at an ExecSize code. 000 says nothing of a reserved code; no region with one is allowed here.
unfoldable pub allowed : ℕ → ℕ → Bool
allowed size field =
    listed verticals (bits field 8 4)
    && (listed widths (bits field 5 3)
    && restricted (number_for sizes size) (number_for verticals (bits field 8 4)) (number_for widths (bits field 5 3)) (number_for horizontals (bits field 3 2)))

-- ---- the sweep

-- Two verdicts are the same.
abbrev pub same : Bool → Bool → Bool
same a b = cond a b (not b)

-- A test holds at every number below n.
unfoldable pub below : (ℕ → Bool) → ℕ → Bool
below test zero = true
below test (suc n) = test n && below test n

-- 9 refuses the twelve bits exactly where 000 does not allow them.
unfoldable pub agree : ℕ → ℕ → Bool
agree size field = same (shape_refused size field) (not (allowed size field))

-- At all 4,096 values, for each of the five sizes.
pub swept : below (λ field. below (λ size. agree size field) 5) 4096 ≡ true
unfolding hangs shape_refused restricted allowed below agree
swept = refl
