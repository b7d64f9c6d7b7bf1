-- Laws of the short word: what its fields are where it expands to a given long word, and when the one put together from indices is the
-- smallest such. Assumes nothing.
use Rattle.std.specs.Prelude.{Bool, true, false, List, [], ◌∷◌, ◌≡◌, ℕ, ◌+◌, ◌*◌, ◌/◌, ◌%◌, ◌^◌, ◌≤◌, ◌<◌}
use Rattle.std.proofs.Math.Path.{refl, subst}
use Rattle.std.proofs.Common.{sym, ap, ◌∙◌, le_of_eq, le_refl, add-le-add, mul-le-mul_right, lt-ltb, le-ltb}
use Rattle.std.proofs.Math.Nat.{mod-eq_of_lt}
use native.Mathlib.Omega.{arith}
use Rattle.std.proofs.Math.Decide.{dec_lt}
use Rattle.paper.specs.Bits.{bits, ◌at◌}
use Rattle.paper.specs.Rows.{Row, row, assemble}
use Rattle.paper.specs.Word.{immediate_form}
use Rattle.paper.specs.Dictionary.{Dictionary, control, datatype, subregister, source}
use Rattle.paper.specs.Expand.{
  control_index,
  datatype_index,
  subregister_index,
  src0_index,
  src1_index,
  src1_register,
  extended,
  top_rows,
  expand_low,
  expand_high,
  expand,
}
use Rattle.paper.specs.Shorten.{control_key, datatype_key, subregister_key, head_rows, tail_rows, short_word}
use Rattle.laws.specs.Bits.{bits-mod, bits_all, bits-split, low_of_lem, top_of, same_low, same_top}
use Rattle.laws.specs.Rows.{
  span,
  Agrees,
  ◌then◌,
  RowAgrees,
  row_agrees,
  assemble_agrees,
  agrees_assemble,
  assemble_lt,
  agrees_whole,
  agrees_mod,
}
use Rattle.laws.specs.Expand.{low_of, high_of, high_span, expand_low_lt, low_agrees, high_agrees}

-- Short word s expands to the word of the halves lo and hi, row by row.
pub record Expands (D : Dictionary) (lo hi s : ℕ) : Type 0 where
  pub low : Agrees 0 (low_of D s) lo
  pub high : Agrees 0 (high_of D (immediate_form lo) s) hi

-- What expands to a word does so row by row.
pub expands_rows : (D : Dictionary) (lo hi s : ℕ) → lo < 2 ^ 64 → expand D s ≡ lo + hi * 2 ^ 64 → Expands D lo hi s
unfolding expand
expands_rows D lo hi s hlo e =
    let el : expand_low D s ≡ lo = same_low 64 (expand_high D s) hi (expand_low_lt D s) hlo e in
    let eh : expand_high D s ≡ hi = same_top 64 (expand_high D s) hi (expand_low_lt D s) hlo e in
    record {
      low = subst (λ (w : ℕ). Agrees 0 (low_of D s) w) el (low_agrees D s);
      high =
          subst (λ (form : Bool). Agrees 0 (high_of D form s) hi) (ap immediate_form el)
          (subst (λ (w : ℕ). Agrees 0 (high_of D (immediate_form (expand_low D s)) s) w) eh (high_agrees D s));
    }

-- What expands row by row expands to the word.
pub rows_expand : (D : Dictionary) (lo hi s : ℕ) → lo < 2 ^ 64 → hi < 2 ^ 64 → Expands D lo hi s → expand D s ≡ lo + hi * 2 ^ 64
unfolding expand expand_low expand_high
rows_expand D lo hi s hlo hhi f =
    let el : expand_low D s ≡ lo = agrees_whole (low_of D s) lo hlo f.low in
    let eh : expand_high D s ≡ hi =
    ap (λ (form : Bool). assemble (high_of D form s)) (ap immediate_form el)
    ∙ agrees_whole (high_of D (immediate_form lo) s) hi (rw (high_span D (immediate_form lo) s) hhi) f.high in
    cc

-- ---- the 13-bit immediate

-- If v, sign-extended, is the dword d, then d lies from −4096 to 4095 and v is its low 13 bits.
extended_reach : (d v : ℕ) → v < 8192 → bits (extended v) 0 32 ≡ d → (v ≡ d % 8192) × ((d + 4096) % 2 ^ 32 < 8192)
extended_reach d v h e = by_sign (dec_lt v 4096)
  where
    by_sign : Dec (v < 4096) → (v ≡ d % 8192) × ((d + 4096) % 2 ^ 32 < 8192)
    by_sign (yes l) =
        let g : v / 1 % 4294967296 ≡ d = rw (lt-ltb v 4096 l) at e in
        omega arith
    by_sign (no l) =
        let g : (v + 4294959104) / 1 % 4294967296 ≡ d = rw (le-ltb v 4096 (omega arith)) at e in
        omega arith

-- If the dword d lies from −4096 to 4095, then its low 13 bits, sign-extended, are d.
pub reach_extended : (d : ℕ) → d < 2 ^ 32 → (d + 4096) % 2 ^ 32 < 8192 → bits (extended (d % 8192)) 0 32 ≡ d
reach_extended d h l = by_sign (dec_lt (d % 8192) 4096)
  where
    by_sign : Dec (d % 8192 < 4096) → bits (extended (d % 8192)) 0 32 ≡ d
    by_sign (yes k) = rw (lt-ltb (d % 8192) 4096 k) (omega arith)
    by_sign (no k) = rw (le-ltb (d % 8192) 4096 (omega arith)) (omega arith)

-- src1's index and register have 13 bits together.
under_13 : (s : ℕ) → src1_index s at 8 + src1_register s < 8192
under_13 s = omega arith

-- ---- what is known of a short word that expands to the word of lo and hi

module _ {D : Dictionary} {lo hi s : ℕ} (f : Expands D lo hi s) where
  -- The low half agrees with row i.
  pub low_at : (i : ℕ) → RowAgrees i 0 (low_of D s) lo
  low_at = row_agrees (low_of D s) 0 lo f.low

  -- The high half agrees with row i in its form.
  pub high_at : (immediate : Bool) → immediate_form lo ≡ immediate → (i : ℕ) → RowAgrees i 0 (high_of D immediate s) hi
  high_at immediate e =
      row_agrees (high_of D immediate s) 0 hi (subst (λ (form : Bool). Agrees 0 (high_of D form s) hi) e f.high)

  -- Its control number is what the word asks of the table.
  pub control_asked : control D (control_index s) % 2 ^ 17 ≡ assemble (control_key lo)
  control_asked = agrees_mod (control_key lo) _ (sym (low_at 2) then sym (low_at 7) then tt)

  -- So is its datatype number.
  pub datatype_asked : datatype D (datatype_index s) % 2 ^ 18 ≡ assemble (datatype_key lo)
  datatype_asked = agrees_mod (datatype_key lo) _ (sym (low_at 8) then sym (low_at 12) then tt)

  -- So is its subregister number, as far as its form asks.
  pub subregister_asked : (immediate : Bool) → immediate_form lo ≡ immediate
      → subregister D (subregister_index s) % 2 ^ span (subregister_key immediate lo hi) ≡ assemble (subregister_key immediate lo hi)
  subregister_asked true e = agrees_mod (subregister_key true lo hi) _ (sym (low_at 10) then sym (high_at true e 0) then tt)
  subregister_asked false e =
      agrees_mod (subregister_key false lo hi) _ (sym (low_at 10) then sym (high_at false e 0) then sym (high_at false e 5) then tt)

  -- So is its first source number.
  pub src0_asked : source D (src0_index s) % 2 ^ 12 ≡ bits hi 13 12
  src0_asked = sym (bits-mod _ 12) ∙ high_at (immediate_form lo) refl 2

  -- So is its second source number, but in immediate form.
  pub src1_asked : immediate_form lo ≡ false → source D (src1_index s) % 2 ^ 12 ≡ bits hi 45 12
  src1_asked e = sym (bits-mod _ 12) ∙ high_at false e 7

  -- In immediate form the last dword is within reach, and src1's index and register are its low 13 bits.
  pub reach_asked : immediate_form lo ≡ true
      → (src1_index s at 8 + src1_register s ≡ bits hi 32 32 % 8192) × ((bits hi 32 32 + 4096) % 2 ^ 32 < 8192)
  reach_asked e = extended_reach (bits hi 32 32) (src1_index s at 8 + src1_register s) (under_13 s) (high_at true e 5)

-- ---- a 64-bit number by the short word's fields

-- The rows of a short word's fields, bits 29:0, taken from itself.
own_head : ℕ → List Row
own_head s =
    row 7 s 0 ∷ row 1 s 7 ∷ row 5 s 8 ∷ row 5 s 13 ∷ row 5 s 18 ∷ row 1 s 23 ∷ row 4 s 24 ∷ row 1 s 28 ∷ row 1 s 29 ∷ []

-- Bits 63:30.
own_tail : ℕ → List Row
own_tail s = row 5 s 30 ∷ row 5 s 35 ∷ row 8 s 40 ∷ row 8 s 48 ∷ row 8 s 56 ∷ []

-- A 64-bit number is what these rows lay out.
own : (s : ℕ) → s < 2 ^ 64 → assemble (own_head s) + assemble (own_tail s) * 2 ^ 30 ≡ s
unfolding own_head own_tail
own s h =
    ap (λ (z : ℕ). z + assemble (own_tail s) * 2 ^ 30)
    (assemble_agrees (own_head s) 0 s (refl then refl then refl then refl then refl then refl then refl then refl then refl then tt))
    ∙ ap (λ (z : ℕ). bits s 0 30 + z * 2 ^ 30) (assemble_agrees (own_tail s) 30 s (refl then refl then refl then refl then refl then tt))
    ∙ sym (bits-split s 0 30 34) ∙ bits_all 64 s h

-- Numbers in two parts are in order if both parts are.
parts_le : (n : ℕ) {a b x y : ℕ} → a ≤ b → x ≤ y → a + x * 2 ^ n ≤ b + y * 2 ^ n
parts_le n h k = add-le-add h (mul-le-mul_right (2 ^ n) k)

-- ---- the short word that is put together for the word of lo and hi

module _ (lo hi c t b x y r : ℕ) where
  -- Its bits are those of `head_rows` and `tail_rows`.
  abbrev pub built : ℕ
  built = short_word lo hi c t b x y r

  -- It has 64 bits.
  pub built_lt : built < 2 ^ 64
  unfolding short_word
  built_lt = omega arith

  -- Bits 29:0 agree with their rows.
  built_head : Agrees 0 (head_rows lo hi c t b) built
  unfolding short_word
  built_head =
      agrees_assemble (head_rows lo hi c t b) 0 built
      (sym (bits-mod built 30 ∙ low_of_lem 30 (assemble (tail_rows lo hi x y r)) (assemble_lt (head_rows lo hi c t b))))

  -- So do bits 63:30.
  built_tail : Agrees 30 (tail_rows lo hi x y r) built
  unfolding short_word
  built_tail =
      agrees_assemble (tail_rows lo hi x y r) 30 built
      (sym (ap (λ (z : ℕ). z % 2 ^ 34) (top_of 30 (assemble (tail_rows lo hi x y r)) (assemble_lt (head_rows lo hi c t b)))
      ∙ mod-eq_of_lt (assemble_lt (tail_rows lo hi x y r))))

  -- It agrees with row i of its bits 29:0.
  pub head_at : (i : ℕ) → RowAgrees i 0 (head_rows lo hi c t b) built
  head_at = row_agrees (head_rows lo hi c t b) 0 built built_head

  -- It agrees with row i of its bits 63:30.
  pub tail_at : (i : ℕ) → RowAgrees i 30 (tail_rows lo hi x y r) built
  tail_at = row_agrees (tail_rows lo hi x y r) 30 built built_tail

  module _ (D : Dictionary) where
    -- It expands to the word, if the word leaves the reserved bits 0, the indices lie in their tables and lead to what the word asks, and
    -- the last dword agrees.
    pub built_expands : bits lo 7 1 ≡ 0 → bits lo 29 1 ≡ 0 → bits lo 47 1 ≡ 0 → bits hi 26 6 ≡ 0
        → c < 32 → t < 32 → b < 32 → x < 32
        → Agrees 0 (control_key lo) (control D c) → Agrees 0 (datatype_key lo) (datatype D t)
        → Agrees 0 (subregister_key true lo hi) (subregister D b) → bits (source D x) 0 12 ≡ bits hi 13 12
        → Agrees 32 (top_rows (immediate_form lo) built (subregister D b) (source D (src1_index built))) hi
        → Expands D lo hi built
    built_expands z7 z29 z47 z90 hc ht hb hx mc mt mb mx top =
        let ec : c ≡ control_index built = sym (bits_all 5 c hc) ∙ head_at 2 in
        let et : t ≡ datatype_index built = sym (bits_all 5 t ht) ∙ head_at 3 in
        let eb : b ≡ subregister_index built = sym (bits_all 5 b hb) ∙ head_at 4 in
        let ex : x ≡ src0_index built = sym (bits_all 5 x hx) ∙ tail_at 0 in
        let kc : Agrees 0 (control_key lo) (control D (control_index built)) =
        subst (λ (i : ℕ). Agrees 0 (control_key lo) (control D i)) ec mc in
        let kt : Agrees 0 (datatype_key lo) (datatype D (datatype_index built)) =
        subst (λ (i : ℕ). Agrees 0 (datatype_key lo) (datatype D i)) et mt in
        let kb : Agrees 0 (subregister_key true lo hi) (subregister D (subregister_index built)) =
        subst (λ (i : ℕ). Agrees 0 (subregister_key true lo hi) (subregister D i)) eb mb in
        record {
          low =
              sym (head_at 0) then sym z7 then sym kc.0 then sym (head_at 6) then sym (head_at 5) then sym z29 then sym (head_at 1)
              then sym kc.1.0 then sym kt.0 then sym z47 then sym kb.0 then sym (tail_at 2) then sym kt.1.0 then tt;
          high =
              sym kb.1.0 then sym (tail_at 3) then subst (λ (i : ℕ). bits (source D i) 0 12 ≡ bits hi 13 12) ex mx
              then sym (head_at 7) then sym z90
              then subst (λ (i : ℕ). Agrees 32 (top_rows (immediate_form lo) built (subregister D i) (source D (src1_index built))) hi) eb top;
        }

    -- It is at most any short word that expands to the word, if its indices and src1's register are.
    pub built_least : (s : ℕ) → s < 2 ^ 64 → bits s 29 1 ≡ 1 → Expands D lo hi s
        → bits c 0 5 ≤ control_index s → bits t 0 5 ≤ datatype_index s → bits b 0 5 ≤ subregister_index s → bits x 0 5 ≤ src0_index s
        → bits y 0 5 ≤ src1_index s → bits r 0 8 ≤ src1_register s → built ≤ s
    unfolding short_word own_head own_tail
    built_least s hs marked f lc lt lb lx ly lr =
        subst (λ (z : ℕ). built ≤ z) (own s hs)
        (parts_le 30
        (parts_le 7 (le_of_eq (sym (low_at f 0)))
        (parts_le 1 (le_of_eq (sym (low_at f 6)))
        (parts_le 5 lc (parts_le 5 lt (parts_le 5 lb
        (parts_le 1 (le_of_eq (sym (low_at f 4)))
        (parts_le 4 (le_of_eq (sym (low_at f 3)))
        (parts_le 1 (le_of_eq (sym (high_at f (immediate_form lo) refl 3)))
        (parts_le 1 (le_of_eq (sym marked)) (le_refl 0))))))))))
        (parts_le 5 lx (parts_le 5 ly
        (parts_le 8 (le_of_eq (sym (low_at f 11)))
        (parts_le 8 (le_of_eq (sym (high_at f (immediate_form lo) refl 1)))
        (parts_le 8 lr (le_refl 0)))))))
