-- Laws of expansion: what is known of the long word that a short one stands for. Assumes nothing.
use Rattle.std.specs.Prelude.{Bool, true, List, ◌≡◌}
use Rattle.std.proofs.Math.Bool.{false}
use Rattle.std.proofs.Math.Path.{refl, sym, subst}
use Rattle.std.proofs.Common.{ap, ◌∙◌}
use Prim.Native.Nat.{ℕ, ◌+◌, ◌*◌, ◌^◌, ◌<◌}
use Rattle.paper.specs.Bits.{bits}
use Rattle.paper.specs.Rows.{Row}
use Rattle.paper.specs.Word.{opcode, immediate_form}
use Rattle.paper.specs.Dictionary.{Dictionary, control, datatype, subregister, source}
use Rattle.paper.specs.Operation.{operation, operation_of}
use Rattle.paper.specs.Expand.{
  control_index,
  datatype_index,
  subregister_index,
  src0_index,
  src1_index,
  low_rows,
  high_rows,
  expand_low,
  expand_high,
  expand,
}
use Rattle.laws.specs.Bits.{bits-low, bits-high, whole_lt}
use Rattle.laws.specs.Rows.{span, Agrees, RowAgrees, row_agrees, assemble_lt, assemble_self}

-- The rows of the low half of short word s's expansion.
abbrev pub low_of : Dictionary → ℕ → List Row
low_of D s = low_rows s (control D (control_index s)) (datatype D (datatype_index s)) (subregister D (subregister_index s))

-- The rows of the high half, in immediate form and else.
abbrev pub high_of : Dictionary → Bool → ℕ → List Row
high_of D immediate s =
    high_rows immediate s (subregister D (subregister_index s)) (source D (src0_index s)) (source D (src1_index s))

-- The rows of the high half have 64 bits in either form.
pub high_span : (D : Dictionary) (immediate : Bool) (s : ℕ) → span (high_of D immediate s) ≡ 64
high_span D true s = refl
high_span D false s = refl

-- ---- a long word by its halves

-- The opcode stands in the low half.
pub opcode_low : (lo hi : ℕ) → opcode (lo + hi * 2 ^ 64) ≡ opcode lo
opcode_low lo hi = bits-low 0 7 57 lo hi

-- So does what tells the form.
pub form_low : (lo hi : ℕ) → immediate_form (lo + hi * 2 ^ 64) ≡ immediate_form lo
unfolding immediate_form
form_low lo hi = rw (bits-low 37 2 25 lo hi, bits-low 42 2 20 lo hi)

-- The bits that an expanded word leaves 0 in either form.
pub record Reserved (w : ℕ) : Type 0 where
  pub bit-7 : bits w 7 1 ≡ 0
  pub bit-29 : bits w 29 1 ≡ 0
  pub bit-47 : bits w 47 1 ≡ 0
  pub bits-90 : bits w 90 6 ≡ 0

module _ (D : Dictionary) (s : ℕ) where
  -- The low half of an expanded word has 64 bits.
  pub expand_low_lt : expand_low D s < 2 ^ 64
  unfolding expand_low
  expand_low_lt = assemble_lt (low_of D s)

  -- So has the high half.
  pub expand_high_lt : expand_high D s < 2 ^ 64
  unfolding expand_high
  expand_high_lt =
      subst (λ (n : ℕ). expand_high D s < 2 ^ n) (high_span D (immediate_form (expand_low D s)) s)
      (assemble_lt (high_of D (immediate_form (expand_low D s)) s))

  -- The expanded word has 128 bits.
  pub expand_fits : expand D s < 2 ^ 128
  unfolding expand
  expand_fits = whole_lt (expand_low D s) (expand_high D s) expand_low_lt expand_high_lt

  -- The low half agrees with its rows.
  pub low_agrees : Agrees 0 (low_of D s) (expand_low D s)
  unfolding expand_low
  low_agrees = assemble_self (low_of D s)

  -- So does the high half, in the form that the low half tells.
  pub high_agrees : Agrees 0 (high_of D (immediate_form (expand_low D s)) s) (expand_high D s)
  unfolding expand_high
  high_agrees = assemble_self (high_of D (immediate_form (expand_low D s)) s)

  -- The low half agrees with its row i.
  pub low_row : (i : ℕ) → RowAgrees i 0 (low_of D s) (expand_low D s)
  low_row = row_agrees (low_of D s) 0 (expand_low D s) low_agrees

  -- The high half agrees with its row i in either form.
  pub high_row : (immediate : Bool) → immediate_form (expand_low D s) ≡ immediate → (i : ℕ)
      → RowAgrees i 0 (high_of D immediate s) (expand_high D s)
  high_row immediate e =
      row_agrees (high_of D immediate s) 0 (expand_high D s)
      (subst (λ (form : Bool). Agrees 0 (high_of D form s) (expand_high D s)) e high_agrees)

  -- The opcode is the short word's.
  pub expand-opcode : opcode (expand D s) ≡ opcode s
  unfolding expand
  expand-opcode = opcode_low (expand_low D s) (expand_high D s) ∙ sym (low_row 0)

  -- So the operation is, too.
  pub expand-operation : operation (expand D s) ≡ operation s
  expand-operation = ap operation_of expand-opcode

  -- The form is told by the low half.
  pub expand_form : immediate_form (expand D s) ≡ immediate_form (expand_low D s)
  unfolding expand
  expand_form = form_low (expand_low D s) (expand_high D s)

  -- Bits 7, 29, 47 and 95:90 are 0.
  pub expand_reserved : Reserved (expand D s)
  unfolding expand
  expand_reserved =
      let lo : ℕ = expand_low D s in
      let hi : ℕ = expand_high D s in
      record {
        bit-7 = bits-low 7 1 56 lo hi ∙ sym (low_row 1);
        bit-29 = bits-low 29 1 34 lo hi ∙ sym (low_row 5);
        bit-47 = bits-low 47 1 16 lo hi ∙ sym (low_row 9);
        bits-90 = bits-high 64 26 6 hi expand_low_lt ∙ sym (high_row (immediate_form lo) refl 4);
      }

  -- Bits 127:121 are 0, but in immediate form.
  pub expand_top : immediate_form (expand D s) ≡ false → bits (expand D s) 121 7 ≡ 0
  unfolding expand
  expand_top e = bits-high 64 57 7 (expand_high D s) expand_low_lt ∙ sym (high_row false (sym expand_form ∙ e) 8)
