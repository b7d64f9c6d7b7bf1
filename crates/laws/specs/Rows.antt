-- Laws of numbers laid out by rows: such a number is another's field exactly if it is so row by row. Assumes nothing.
use Rattle.std.specs.Prelude.{List, [], ◌∷◌, ◌≡◌, ℕ, zero, suc, ◌+◌, ◌*◌, ◌%◌, ◌^◌, ◌<◌}
use Rattle.std.proofs.Common.{sym, subst, ◌∙◌, add_comm, mul_comm, arith, pow-add}
use Rattle.std.proofs.Math.Nat.{mod-one}
use Rattle.std.proofs.Math.Arith.{digits_lt}
use Rattle.paper.specs.Bits.{bits}
use Rattle.paper.specs.Rows.{Row, row, assemble}
use Rattle.laws.specs.Bits.{bits_lt, bits-mod, bits_all, bits-split, same_low, same_top}

-- How many bits the rows have together.
abbrev pub span : List Row → ℕ
span [] = 0
span (row n x lo ∷ rows) = n + span rows

-- The bits of w from bit k on are those of the rows, row by row.
abbrev pub Agrees : ℕ → List Row → ℕ → Type 0
Agrees k [] w = Unit
Agrees k (row n x lo ∷ rows) w = (bits x lo n ≡ bits w k n) × Agrees (k + n) rows w

-- Agreement with the first row, and then with the others.
infixr 20 ◌then◌
abbrev pub ◌then◌ : {A B : Type 0} → A → B → A × B
a then b = (a, b)

-- What agreement says of row i, the first being row 0; of rows that are not there, nothing.
abbrev pub RowAgrees : ℕ → ℕ → List Row → ℕ → Type 0
RowAgrees i k [] w = Unit
RowAgrees zero k (row n x lo ∷ rows) w = bits x lo n ≡ bits w k n
RowAgrees (suc i) k (row n x lo ∷ rows) w = RowAgrees i (k + n) rows w

-- Agreement holds of each row.
pub row_agrees : (rows : List Row) (k w : ℕ) → Agrees k rows w → (i : ℕ) → RowAgrees i k rows w
row_agrees [] k w m i = tt
row_agrees (row n x lo ∷ rows) k w m zero = m.0
row_agrees (row n x lo ∷ rows) k w m (suc i) = row_agrees rows (k + n) w m.1 i

-- If w agrees with the rows, then they lay out its field.
pub assemble_agrees : (rows : List Row) (k w : ℕ) → Agrees k rows w → assemble rows ≡ bits w k (span rows)
assemble_agrees [] k w m = sym (mod-one _)
assemble_agrees (row n x lo ∷ rows) k w (e, m) = rw (bits-split w k n (span rows), e, assemble_agrees rows (k + n) w m)

-- If the rows lay out a field of w, then w agrees with them.
pub agrees_assemble : (rows : List Row) (k w : ℕ) → assemble rows ≡ bits w k (span rows) → Agrees k rows w
agrees_assemble [] k w e = tt
agrees_assemble (row n x lo ∷ rows) k w e =
    let f : bits x lo n + assemble rows * 2 ^ n ≡ bits w k n + bits w (k + n) (span rows) * 2 ^ n = e ∙ bits-split w k n (span rows) in (
      same_low n _ _ (bits_lt x lo n) (bits_lt w k n) f,
      agrees_assemble rows (k + n) w (same_top n _ _ (bits_lt x lo n) (bits_lt w k n) f),
    )

-- What rows lay out is no wider than they are.
pub assemble_lt : (rows : List Row) → assemble rows < 2 ^ span rows
assemble_lt [] = omega arith
assemble_lt (row n x lo ∷ rows) =
    rw (add_comm (bits x lo n) (assemble rows * 2 ^ n), pow-add 2 n (span rows), mul_comm (2 ^ n) (2 ^ span rows))
    (digits_lt (assemble_lt rows) (bits_lt x lo n))

-- What rows lay out agrees with them.
pub assemble_self : (rows : List Row) → Agrees 0 rows (assemble rows)
assemble_self rows = agrees_assemble rows 0 (assemble rows) (sym (bits_all (span rows) (assemble rows) (assemble_lt rows)))

-- ---- agreement from bit 0 on

-- A number that the rows lay out agrees with them.
pub whole_agrees : (rows : List Row) (w : ℕ) → assemble rows ≡ w → Agrees 0 rows w
whole_agrees rows w e = subst (λ (x : ℕ). Agrees 0 rows x) e (assemble_self rows)

-- A number no wider than the rows that agrees with them is what they lay out.
pub agrees_whole : (rows : List Row) (w : ℕ) → w < 2 ^ span rows → Agrees 0 rows w → assemble rows ≡ w
agrees_whole rows w h m = assemble_agrees rows 0 w m ∙ bits_all (span rows) w h

-- Agreement says what the number is modulo the rows' width.
pub agrees_mod : (rows : List Row) (w : ℕ) → Agrees 0 rows w → w % 2 ^ span rows ≡ assemble rows
agrees_mod rows w m = sym (assemble_agrees rows 0 w m ∙ bits-mod w (span rows))

-- A number with that remainder agrees.
pub mod_agrees : (rows : List Row) (w : ℕ) → w % 2 ^ span rows ≡ assemble rows → Agrees 0 rows w
mod_agrees rows w e = agrees_assemble rows 0 w (sym e ∙ sym (bits-mod w (span rows)))
