-- How far two programs are the same: the comparison finds their first difference, and it finds none exactly where they are one. Assumes nothing.
use Rattle.std.specs.Prelude.{◌≡◌, refl, Bool, true, false, cond, ℕ, zero, suc, ◌≤◌, eqb, length}
use Rattle.std.proofs.Common.{ap, ap₂, sym, ◌∙◌, arith, eqb-true, eq-eqb}
use Rattle.std.proofs.lemmas.Bool.{false≢true}
use mathlib.Core.List.{List, [], ◌∷◌}
use Rattle.std.proofs.Math.Option.{none, some, none-ne-some, some-ne-none, some-injective}
use Rattle.std.proofs.Math.ListN.{get_elem?}
use Rattle.paper.specs.Program.{Line, same_numbers, same_line, agreed}
use Rattle.laws.specs.Truth.{both_true}

-- ---- two lines

-- Numbers that are found the same are.
numbers_one : (ms ns : List ℕ) → same_numbers ms ns ≡ true → ms ≡ ns
unfolding same_numbers
numbers_one [] [] e = refl
numbers_one [] (n ∷ ns) e = absurd (false≢true e)
numbers_one (m ∷ ms) [] e = absurd (false≢true e)
numbers_one (m ∷ ms) (n ∷ ns) e =
    let h = both_true (eqb m n) (same_numbers ms ns) e in
    ap₂ {C = List ℕ} (λ x y. x ∷ y) (eqb-true m n h.0) (numbers_one ms ns h.1)

-- And the same numbers are found so.
numbers_same : (ns : List ℕ) → same_numbers ns ns ≡ true
unfolding same_numbers
numbers_same [] = refl
numbers_same (n ∷ ns) = rw (eq-eqb n n refl) (numbers_same ns)

-- So for lines.
line_one : (a b : Line) → same_line a b ≡ true → a ≡ b
line_one a b e =
    let h = both_true (eqb a.word b.word) (same_numbers a.goals b.goals) e in
    let w : a.word ≡ b.word = eqb-true a.word b.word h.0 in
    let g : a.goals ≡ b.goals = numbers_one a.goals b.goals h.1 in
    λ i. record { word = w i; goals = g i }

line_same : (a : Line) → same_line a a ≡ true
line_same a = rw (eq-eqb a.word a.word refl) (numbers_same a.goals)

-- Lines that are one are found the same, and others are not.
pub same_of : (a b : Line) → a ≡ b → same_line a b ≡ true
same_of a b e = ap (same_line a) (sym e) ∙ line_same a

pub other_of : (a b : Line) → (a ≡ b → ⊥) → same_line a b ≡ false
other_of a b n = go (same_line a b) refl
  where
    go : (t : Bool) → same_line a b ≡ t → t ≡ false
    go true e = absurd (n (line_one a b e))
    go false e = refl

-- ---- the first difference

-- The first n lines of both are there, and the same.
unfoldable pub Common : List Line → List Line → ℕ → Type 0
Common p q zero = Unit {0}
Common [] q (suc n) = ⊥
Common (a ∷ p) [] (suc n) = ⊥
Common (a ∷ p) (b ∷ q) (suc n) = (a ≡ b) × Common p q n

-- Before the first line nothing is asked.
pub common_none : (p q : List Line) → Common p q 0
unfolding Common
common_none p q = tt

-- One line more is the same.
pub common_more : (p q : List Line) (n : ℕ) (a b : Line) → Common p q n → get_elem? p n ≡ some a → get_elem? q n ≡ some b → a ≡ b → Common p q (suc n)
unfolding Common
common_more [] q zero a b c e f s = absurd (none-ne-some a e)
common_more (x ∷ p) [] zero a b c e f s = absurd (none-ne-some b f)
common_more (x ∷ p) (y ∷ q) zero a b c e f s = (some-injective x a e ∙ s ∙ sym (some-injective y b f), tt)
common_more [] q (suc n) a b c e f s = absurd c
common_more (x ∷ p) [] (suc n) a b c e f s = absurd c
common_more (x ∷ p) (y ∷ q) (suc n) a b c e f s = (c.0, common_more p q n a b c.1 e f s)

-- The next one is another: it is the first difference.
pub common_differs : (p q : List Line) (n : ℕ) (a b : Line) → Common p q n → get_elem? p n ≡ some a → get_elem? q n ≡ some b → (a ≡ b → ⊥) → agreed p q ≡ n
unfolding Common agreed
common_differs [] q zero a b c e f s = refl
common_differs (x ∷ p) [] zero a b c e f s = refl
common_differs (x ∷ p) (y ∷ q) zero a b c e f s =
    rw (other_of x y (λ h. s (sym (some-injective x a e) ∙ h ∙ some-injective y b f)))
common_differs [] q (suc n) a b c e f s = absurd c
common_differs (x ∷ p) [] (suc n) a b c e f s = absurd c
common_differs (x ∷ p) (y ∷ q) (suc n) a b c e f s = rw (same_of x y c.0) (ap suc (common_differs p q n a b c.1 e f s))

-- One of the two ends here.
pub common_ends : (p q : List Line) (n : ℕ) → Common p q n → get_elem? p n ≡ none → agreed p q ≡ n
unfolding Common agreed
common_ends [] q zero c e = refl
common_ends (x ∷ p) [] zero c e = refl
common_ends (x ∷ p) (y ∷ q) zero c e = absurd (some-ne-none x e)
common_ends [] q (suc n) c e = absurd c
common_ends (x ∷ p) [] (suc n) c e = absurd c
common_ends (x ∷ p) (y ∷ q) (suc n) c e = rw (same_of x y c.0) (ap suc (common_ends p q n c.1 e))

pub common_stops : (p q : List Line) (n : ℕ) → Common p q n → get_elem? q n ≡ none → agreed p q ≡ n
unfolding Common agreed
common_stops [] q zero c e = refl
common_stops (x ∷ p) [] zero c e = refl
common_stops (x ∷ p) (y ∷ q) zero c e = absurd (some-ne-none y e)
common_stops [] q (suc n) c e = absurd c
common_stops (x ∷ p) [] (suc n) c e = absurd c
common_stops (x ∷ p) (y ∷ q) (suc n) c e = rw (same_of x y c.0) (ap suc (common_stops p q n c.1 e))

-- ---- the whole

-- A program is the same as itself to its end.
agreed_itself : (p : List Line) → agreed p p ≡ length p
unfolding agreed
agreed_itself [] = refl
agreed_itself (a ∷ p) = rw (line_same a) (ap suc (agreed_itself p))

pub agreed_same : (p q : List Line) → p ≡ q → (agreed p q ≡ length p) × (agreed p q ≡ length q)
agreed_same p q e =
    let h : agreed p q ≡ length p = ap (agreed p) (sym e) ∙ agreed_itself p in
    (h, h ∙ ap length e)

-- The first difference lies at the end of the shorter one, at the latest.
pub agreed_few : (p q : List Line) → agreed p q ≤ length p
unfolding agreed
agreed_few [] q = omega arith
agreed_few (a ∷ p) [] = omega arith
agreed_few (a ∷ p) (b ∷ q) = go (same_line a b) (agreed_few p q)
  where
    go : (t : Bool) → agreed p q ≤ length p → cond t (suc (agreed p q)) 0 ≤ suc (length p)
    go true h = omega arith
    go false h = omega arith

-- Programs that are the same to the end of both are one.
pub agreed_one : (p q : List Line) → agreed p q ≡ length p → agreed p q ≡ length q → p ≡ q
unfolding agreed
agreed_one [] [] e f = refl
agreed_one [] (b ∷ q) e f = absurd (omega arith)
agreed_one (a ∷ p) [] e f = absurd (omega arith)
agreed_one (a ∷ p) (b ∷ q) e f = go (same_line a b) refl (agreed_one p q) e f
  where
    go : (t : Bool) → same_line a b ≡ t → (agreed p q ≡ length p → agreed p q ≡ length q → p ≡ q)
        → cond t (suc (agreed p q)) 0 ≡ suc (length p) → cond t (suc (agreed p q)) 0 ≡ suc (length q) → a ∷ p ≡ b ∷ q
    go true h ih e f = ap₂ {C = List Line} (λ x y. x ∷ y) (line_one a b h) (ih (omega arith) (omega arith))
    go false h ih e f = absurd (omega arith)
