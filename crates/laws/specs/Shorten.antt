-- Laws of shortening: the function gives the smallest short word that expands to a word's exact bits, or none where there is none, and no
-- other answer is right. Assumes nothing.
use Rattle.std.specs.Prelude.{Bool, not, cond, ◌≡◌, ℕ, zero, suc, ◌+◌, ◌*◌, ◌/◌, ◌%◌, ◌^◌, ◌≤◌, ◌<◌, eqb}
use Rattle.std.proofs.Math.Bool.{true, false, true≢false}
use Rattle.std.proofs.Math.Option.{Option, none, some}
use Rattle.std.proofs.Math.Path.{refl, ap}
use Rattle.std.proofs.Common.{sym, subst, ◌∙◌, mod-lt, mod-eq_of_lt, le_of_eq, le_antisymm, arith, pow_pos, shr_lt}
use Rattle.std.proofs.Math.Decide.{dec_le}
use borrow.Author.Tests.{eqb-true, eqb-false, eq-eqb, ltb-true, ltb-false, not-true, not-false}
use Rattle.paper.specs.Bits.{bits, ◌at◌}
use Rattle.paper.specs.Rows.{assemble}
use Rattle.paper.specs.Word.{immediate_form}
use Rattle.paper.specs.Dictionary.{Dictionary, control, datatype, subregister, source}
use Rattle.paper.specs.Operation.{operation, operation_of, is_branch}
use Rattle.paper.specs.Expand.{
  subregister_index,
  src1_index,
  src1_register,
  extended,
  top_rows,
}
use Rattle.paper.specs.Shorten.{
  Shortens,
  Least,
  Shortest,
  control_key,
  datatype_key,
  subregister_key,
  first_from,
  index_of,
  short_word,
  provided,
  shorten_immediate,
  shorten_register,
  shorten_halves,
  shorten,
}
use Rattle.laws.specs.Bits.{bits_lt, bits-mod, bits_all, bits_below, halves}
use Rattle.laws.specs.Rows.{Agrees, ◌then◌, mod_agrees}
use Rattle.laws.specs.ShortWord.{
  Expands,
  expands_rows,
  rows_expand,
  reach_extended,
  low_at,
  high_at,
  control_asked,
  datatype_asked,
  subregister_asked,
  src0_asked,
  src1_asked,
  reach_asked,
  built_lt,
  head_at,
  tail_at,
  built_expands,
  built_least,
}

-- ---- the smallest index

-- r is the first number below n of which P holds, or n where it holds of none.
pub record First (P : ℕ → Type 0) (n r : ℕ) : Type 0 where
  pub within : r ≤ n
  pub before : (k : ℕ) → k < r → P k → ⊥
  pub found : r < n → P r

-- The first is at most any.
pub first_le : {P : ℕ → Type 0} {n r : ℕ} → First P n r → (k : ℕ) → P k → r ≤ k
first_le {P} {n} {r} f k p = either (dec_le r k)
  where
    either : Dec (r ≤ k) → r ≤ k
    either (yes h) = h
    either (no h) = absurd (f.before k (omega arith) p)

-- If the first is n, then there is none below.
pub first_none : {P : ℕ → Type 0} {n r : ℕ} → First P n r → n ≤ r → (k : ℕ) → k < n → P k → ⊥
first_none f h k l p = f.before k (omega arith) p

-- r is the first of the n numbers from i on for which the test is true, or i + n.
record FirstFrom (test : ℕ → Bool) (n i r : ℕ) : Type 0 where
  above : i ≤ r
  within : r ≤ i + n
  before : (k : ℕ) → i ≤ k → k < r → test k ≡ true → ⊥
  found : r < i + n → test r ≡ true

-- `first_from` finds it.
first_from_lem : (test : ℕ → Bool) (n i : ℕ) → FirstFrom test n i (first_from test n i)
unfolding first_from
first_from_lem test zero i =
    record { above = omega arith; within = omega arith; before = λ k h l e. omega arith; found = λ h. absurd (omega arith) }
first_from_lem test (suc n) i = cases (test i) refl (first_from_lem test n (suc i))
  where
    cases : (b : Bool) → test i ≡ b → FirstFrom test n (suc i) (first_from test n (suc i))
        → FirstFrom test (suc n) i (cond b i (first_from test n (suc i)))
    cases true e r = record { above = omega arith; within = omega arith; before = λ k h l f. absurd (omega arith); found = λ h. e }
    cases false e r =
        record {
          above = omega arith;
          within = omega arith;
          before = λ k h l f. later k h l f (dec_le (suc i) k);
          found = λ h. r.found (omega arith);
        }
      where
        later : (k : ℕ) → i ≤ k → k < first_from test n (suc i) → test k ≡ true → Dec (suc i ≤ k) → ⊥
        later k h l f (yes a) = r.before k a l f
        later k h l f (no a) =
            let same : i ≡ k = omega arith in
            true≢false (sym f ∙ ap test (sym same) ∙ e)

-- `index_of` finds the smallest index at which the table's number is the key.
pub index_first : (table : ℕ → ℕ) (m key : ℕ) → First (λ (i : ℕ). table i % m ≡ key) 32 (index_of table m key)
unfolding index_of
index_first table m key =
    let f : FirstFrom (λ (i : ℕ). eqb (table i % m) key) 32 0 (index_of table m key) =
    first_from_lem (λ (i : ℕ). eqb (table i % m) key) 32 0 in
    record {
      within = omega arith;
      before = λ k h e. f.before k (omega arith) h (eq-eqb _ _ e);
      found = λ h. eqb-true _ _ (f.found (omega arith));
    }

-- ---- the last dword of the high half hi, cut into src1's index and register

-- The cut parts of a dword d, joined, are its low 13 bits.
dword_joined : (d : ℕ) → bits (d / 256 % 32) 0 5 at 8 + bits d 0 8 ≡ d % 8192
dword_joined d = omega arith

-- Parts y and r that join to the last dword's low 13 bits are at least its cut parts.
dword_cut : (hi y r : ℕ) → hi < 2 ^ 64 → y < 32 → r < 256 → y at 8 + r ≡ bits hi 32 32 % 8192
    → (hi / 2 ^ 32 / 256 % 32 ≤ y) × (bits (hi / 2 ^ 32) 0 8 ≤ r)
dword_cut hi y r h hy hr e = omega arith

-- Both ways to take the last dword agree on whether it lies from −4096 to 4095.
dword_near : (hi : ℕ) → hi < 2 ^ 64 → 8192 ≤ (hi / 2 ^ 32 + 4096) % 2 ^ 32 → (bits hi 32 32 + 4096) % 2 ^ 32 < 8192 → ⊥
dword_near hi h p q = omega arith

-- ---- what both forms ask

-- The word of lo and hi is no branch and leaves the reserved bits 0; c, t and x are its smallest control, datatype and src0 index.
record Common (D : Dictionary) (lo hi c t x : ℕ) : Type 0 where
  plain : is_branch (operation lo) ≡ false
  zero-7 : bits lo 7 1 ≡ 0
  zero-29 : bits lo 29 1 ≡ 0
  zero-47 : bits lo 47 1 ≡ 0
  zero-90 : bits hi 26 6 ≡ 0
  control-first : First (λ (i : ℕ). control D i % 2 ^ 17 ≡ assemble (control_key lo)) 32 c
  control-in : c < 32
  datatype-first : First (λ (i : ℕ). datatype D i % 2 ^ 18 ≡ assemble (datatype_key lo)) 32 t
  datatype-in : t < 32
  src0-first : First (λ (i : ℕ). source D i % 2 ^ 12 ≡ bits hi 13 12) 32 x
  src0-in : x < 32

-- An index below 32 is its own low five bits.
low_five : (c k : ℕ) → c ≤ k → c < 32 → bits c 0 5 ≤ k
low_five c k h l = omega arith

-- An answer behind a test is right, if it is right where the test holds, and there is no short word where it fails.
tested : (D : Dictionary) (w : ℕ) (test : Bool) (answer : Option ℕ) → (test ≡ true → Shortest D w answer)
    → (test ≡ false → (s : ℕ) → Shortens D w s → ⊥) → Shortest D w (provided test answer)
tested D w true answer p q = p refl
tested D w false answer p q = q refl

-- An answer by cases is right if both are.
chosen : (D : Dictionary) (w : ℕ) (test : Bool) (one other : Option ℕ) → (test ≡ true → Shortest D w one)
    → (test ≡ false → Shortest D w other) → Shortest D w (cond test one other)
chosen D w true one other p q = p refl
chosen D w false one other p q = q refl

module _ (D : Dictionary) (lo hi : ℕ) (hlo : lo < 2 ^ 64) (hhi : hi < 2 ^ 64) where
  -- There is no short word, if nothing expands to the word row by row.
  refused : ((s : ℕ) → Expands D lo hi s → ⊥) → (s : ℕ) → Shortens D (lo + hi * 2 ^ 64) s → ⊥
  refused h s k = h s (expands_rows D lo hi s hlo k.same)

  module _ (c t x : ℕ) (h : Common D lo hi c t x) where
    -- In either form the short word put together is the smallest, from what the form says of the subregister number and the last dword.
    built_right : (b y r : ℕ) → b < 32 → y < 32
        → Agrees 0 (subregister_key true lo hi) (subregister D b)
        → Agrees 32 (top_rows (immediate_form lo) (short_word lo hi c t b x y r) (subregister D b)
        (source D (src1_index (short_word lo hi c t b x y r)))) hi
        → ((s : ℕ) → Expands D lo hi s → (b ≤ subregister_index s) × (y ≤ src1_index s) × (bits r 0 8 ≤ src1_register s))
        → Least D (lo + hi * 2 ^ 64) (short_word lo hi c t b x y r)
    built_right b y r b_in y_in mb top below =
        record {
          is = record {
            fits = built_lt lo hi c t b x y r;
            marked = eq-eqb _ _ (sym (head_at lo hi c t b x y r 8));
            plain = ap (λ (n : ℕ). is_branch (operation_of n)) (sym (head_at lo hi c t b x y r 0)) ∙ h.plain;
            same =
                rows_expand D lo hi (short_word lo hi c t b x y r) hlo hhi
                (built_expands lo hi c t b x y r D h.zero-7 h.zero-29 h.zero-47 h.zero-90
                h.control-in h.datatype-in b_in h.src0-in
                (mod_agrees (control_key lo) _ (h.control-first.found h.control-in))
                (mod_agrees (datatype_key lo) _ (h.datatype-first.found h.datatype-in))
                mb (bits-mod _ 12 ∙ h.src0-first.found h.src0-in) top);
          };
          least = λ s k.
              let f : Expands D lo hi s = expands_rows D lo hi s hlo k.same in
              built_least lo hi c t b x y r D s k.fits (eqb-true _ _ k.marked) f
              (low_five c _ (first_le h.control-first _ (control_asked f)) h.control-in)
              (low_five t _ (first_le h.datatype-first _ (datatype_asked f)) h.datatype-in)
              (low_five b _ (below s f).0 b_in)
              (low_five x _ (first_le h.src0-first _ (src0_asked f)) h.src0-in)
              (low_five y _ (below s f).1 y_in)
              (below s f).2;
        }

    -- In immediate form: with b the smallest index of a subregister number with the right low ten bits.
    immediate_least : immediate_form lo ≡ true → (b : ℕ) → b < 32
        → First (λ (i : ℕ). subregister D i % 2 ^ 10 ≡ assemble (subregister_key true lo hi)) 32 b
        → (hi / 2 ^ 32 + 4096) % 2 ^ 32 < 8192
        → Least D (lo + hi * 2 ^ 64) (short_word lo hi c t b x (hi / 2 ^ 32 / 256 % 32) (hi / 2 ^ 32))
    immediate_least e b b_in first near =
        let r : ℕ = hi / 2 ^ 32 in
        let y : ℕ = hi / 2 ^ 32 / 256 % 32 in
        let s : ℕ = short_word lo hi c t b x y r in
        let index : bits y 0 5 ≡ src1_index s = tail_at lo hi c t b x y r 1 in
        let register : bits r 0 8 ≡ src1_register s = tail_at lo hi c t b x y r 4 in
        let joined : src1_index s at 8 + src1_register s ≡ r % 8192 =
        ap (λ (v : ℕ). v at 8 + src1_register s) (sym index) ∙ ap (λ (v : ℕ). bits y 0 5 at 8 + v) (sym register) ∙ dword_joined r in
        built_right b y r b_in (omega arith) (mod_agrees (subregister_key true lo hi) _ (first.found b_in))
        (subst (λ (form : Bool). Agrees 32 (top_rows form s (subregister D b) (source D (src1_index s))) hi) (sym e)
        ((ap (λ (v : ℕ). bits (extended v) 0 32) joined ∙ reach_extended r (omega arith) near
        ∙ sym (mod-eq_of_lt {n = r} {m = 2 ^ 32} (omega arith))) then tt))
        (λ u f.
        let cut : (hi / 2 ^ 32 / 256 % 32 ≤ src1_index u) × (bits (hi / 2 ^ 32) 0 8 ≤ src1_register u) =
        dword_cut hi (src1_index u) (src1_register u) hhi (bits_lt u 35 5) (bits_lt u 56 8) (reach_asked f e).0 in
        (first_le first _ (subregister_asked f true e), cut.0, cut.1))

    -- With src1 in a register: with b and y the smallest subregister and src1 index.
    register_least : immediate_form lo ≡ false → (b y : ℕ) → b < 32 → y < 32
        → First (λ (i : ℕ). subregister D i % 2 ^ 15 ≡ assemble (subregister_key false lo hi)) 32 b
        → First (λ (i : ℕ). source D i % 2 ^ 12 ≡ bits hi 45 12) 32 y
        → bits hi 57 7 ≡ 0
        → Least D (lo + hi * 2 ^ 64) (short_word lo hi c t b x y (hi / 2 ^ 37))
    register_least e b y b_in y_in first_b first_y z =
        let r : ℕ = hi / 2 ^ 37 in
        let s : ℕ = short_word lo hi c t b x y r in
        let mb : Agrees 0 (subregister_key false lo hi) (subregister D b) = mod_agrees (subregister_key false lo hi) _ (first_b.found b_in) in
        let ey : y ≡ src1_index s = sym (bits_all 5 y y_in) ∙ tail_at lo hi c t b x y r 1 in
        let my : bits (source D y) 0 12 ≡ bits hi 45 12 = bits-mod _ 12 ∙ first_y.found y_in in
        built_right b y r b_in y_in (mb.0 then mb.1.0 then tt)
        (subst (λ (form : Bool). Agrees 32 (top_rows form s (subregister D b) (source D (src1_index s))) hi) (sym e)
        (sym mb.1.1.0 then (sym (tail_at lo hi c t b x y r 4) ∙ bits-mod r 8)
        then subst (λ (i : ℕ). bits (source D i) 0 12 ≡ bits hi 45 12) ey my then sym z then tt))
        (λ u f. (
          first_le first_b _ (subregister_asked f false e),
          first_le first_y _ (src1_asked f e),
          le_of_eq (bits-mod r 8 ∙ sym (high_at f false e 6)),
        ))

    -- So the function is right in immediate form.
    immediate_right : immediate_form lo ≡ true → Shortest D (lo + hi * 2 ^ 64) (shorten_immediate D lo hi c t x)
    unfolding shorten_immediate
    immediate_right e =
        let first : First (λ (i : ℕ). subregister D i % 2 ^ 10 ≡ assemble (subregister_key true lo hi)) 32
        (index_of (subregister D) (2 ^ 10) (assemble (subregister_key true lo hi))) = index_first (subregister D) (2 ^ 10) _ in
        tested D _ _ _
        (λ near.
        tested D _ _ _ (λ b. immediate_least e _ (ltb-true _ _ b) first (ltb-true _ _ near))
        (λ n. refused (λ s f. first_none first (ltb-false _ _ n) _ (bits_lt s 18 5) (subregister_asked f true e))))
        (λ n. refused (λ s f. dword_near hi hhi (ltb-false _ _ n) (reach_asked f e).1))

    -- And with src1 in a register.
    register_right : immediate_form lo ≡ false → Shortest D (lo + hi * 2 ^ 64) (shorten_register D lo hi c t x)
    unfolding shorten_register
    register_right e =
        let first_b : First (λ (i : ℕ). subregister D i % 2 ^ 15 ≡ assemble (subregister_key false lo hi)) 32
        (index_of (subregister D) (2 ^ 15) (assemble (subregister_key false lo hi))) = index_first (subregister D) (2 ^ 15) _ in
        let first_y : First (λ (i : ℕ). source D i % 2 ^ 12 ≡ bits hi 45 12) 32 (index_of (source D) (2 ^ 12) (bits hi 45 12)) =
        index_first (source D) (2 ^ 12) _ in
        tested D _ _ _
        (λ z.
        tested D _ _ _
        (λ b.
        tested D _ _ _ (λ y. register_least e _ _ (ltb-true _ _ b) (ltb-true _ _ y) first_b first_y (eqb-true _ _ z))
        (λ n. refused (λ s f. first_none first_y (ltb-false _ _ n) _ (bits_lt s 35 5) (src1_asked f e))))
        (λ n. refused (λ s f. first_none first_b (ltb-false _ _ n) _ (bits_lt s 18 5) (subregister_asked f false e))))
        (λ n. refused (λ s f. eqb-false _ _ n (sym (high_at f false e 8))))

  -- And so is the function on the two halves.
  pub halves_right : Shortest D (lo + hi * 2 ^ 64) (shorten_halves D lo hi)
  unfolding shorten_halves
  halves_right =
      let first_c : First (λ (i : ℕ). control D i % 2 ^ 17 ≡ assemble (control_key lo)) 32
      (index_of (control D) (2 ^ 17) (assemble (control_key lo))) = index_first (control D) (2 ^ 17) _ in
      let first_t : First (λ (i : ℕ). datatype D i % 2 ^ 18 ≡ assemble (datatype_key lo)) 32
      (index_of (datatype D) (2 ^ 18) (assemble (datatype_key lo))) = index_first (datatype D) (2 ^ 18) _ in
      let first_x : First (λ (i : ℕ). source D i % 2 ^ 12 ≡ bits hi 13 12) 32 (index_of (source D) (2 ^ 12) (bits hi 13 12)) =
      index_first (source D) (2 ^ 12) _ in
      tested D _ _ _ (λ plain.
      tested D _ _ _ (λ z7.
      tested D _ _ _ (λ z29.
      tested D _ _ _ (λ z47.
      tested D _ _ _ (λ z90.
      tested D _ _ _ (λ c.
      tested D _ _ _ (λ t.
      tested D _ _ _ (λ x.
      let common : Common D lo hi (index_of (control D) (2 ^ 17) (assemble (control_key lo)))
      (index_of (datatype D) (2 ^ 18) (assemble (datatype_key lo))) (index_of (source D) (2 ^ 12) (bits hi 13 12)) =
      record {
        plain = not-true _ plain;
        zero-7 = eqb-true _ _ z7;
        zero-29 = eqb-true _ _ z29;
        zero-47 = eqb-true _ _ z47;
        zero-90 = eqb-true _ _ z90;
        control-first = first_c;
        control-in = ltb-true _ _ c;
        datatype-first = first_t;
        datatype-in = ltb-true _ _ t;
        src0-first = first_x;
        src0-in = ltb-true _ _ x;
      } in
      chosen D _ (immediate_form lo) _ _ (immediate_right _ _ _ common) (register_right _ _ _ common))
      (λ n. refused (λ s f. first_none first_x (ltb-false _ _ n) _ (bits_lt s 30 5) (src0_asked f))))
      (λ n. refused (λ s f. first_none first_t (ltb-false _ _ n) _ (bits_lt s 13 5) (datatype_asked f))))
      (λ n. refused (λ s f. first_none first_c (ltb-false _ _ n) _ (bits_lt s 8 5) (control_asked f))))
      (λ n. refused (λ s f. eqb-false _ _ n (sym (high_at f (immediate_form lo) refl 4)))))
      (λ n. refused (λ s f. eqb-false _ _ n (sym (low_at f 9)))))
      (λ n. refused (λ s f. eqb-false _ _ n (sym (low_at f 5)))))
      (λ n. refused (λ s f. eqb-false _ _ n (sym (low_at f 1)))))
      (λ n s k.
      let f : Expands D lo hi s = expands_rows D lo hi s hlo k.same in
      true≢false (sym (not-false _ n) ∙ ap (λ (o : ℕ). is_branch (operation_of o)) (sym (low_at f 0)) ∙ k.plain))

-- ---- shortening

-- The function gives the smallest short word that expands to w, or none where there is none.
pub shorten_right : (D : Dictionary) (w : ℕ) → w < 2 ^ 128 → Shortest D w (shorten D w)
unfolding shorten
shorten_right D w h =
    subst (λ (v : ℕ). Shortest D v (shorten D w)) (sym (halves w))
    (halves_right D (w % 2 ^ 64) (w / 2 ^ 64) (mod-lt w (pow_pos 64)) (shr_lt 64 64 h))

-- There is one right answer.
pub one_answer : (D : Dictionary) (w : ℕ) (a b : Option ℕ) → Shortest D w a → Shortest D w b → a ≡ b
one_answer D w (some s) (some t) p q = ap some (le_antisymm (p.least t q.is) (q.least s p.is))
one_answer D w (some s) none p q = absurd (q s p.is)
one_answer D w none (some t) p q = absurd (p t q.is)
one_answer D w none none p q = refl

-- So a right answer is what the function gives.
pub shorten_only : (D : Dictionary) (w : ℕ) → w < 2 ^ 128 → (r : Option ℕ) → Shortest D w r → r ≡ shorten D w
shorten_only D w h r a = one_answer D w r (shorten D w) a (shorten_right D w h)

-- A short word that it gives is the smallest.
pub shorten-some : (D : Dictionary) (w s : ℕ) → w < 2 ^ 128 → shorten D w ≡ some s → Least D w s
shorten-some D w s h e = subst (λ (r : Option ℕ). Shortest D w r) e (shorten_right D w h)

-- Where it gives none there is none.
pub shorten-none : (D : Dictionary) (w : ℕ) → w < 2 ^ 128 → shorten D w ≡ none → (t : ℕ) → Shortens D w t → ⊥
shorten-none D w h e = subst (λ (r : Option ℕ). Shortest D w r) e (shorten_right D w h)

-- No answer passes the negation of a test that holds.
provided-not : (test : Bool) (answer : Option ℕ) → test ≡ true → provided (not test) answer ≡ none
provided-not true answer e = refl
provided-not false answer e = absurd (true≢false (sym e))

-- A branch is never shortened.
pub shorten_branch : (D : Dictionary) (w : ℕ) → is_branch (operation w) ≡ true → shorten D w ≡ none
unfolding shorten shorten_halves
shorten_branch D w e =
    provided-not (is_branch (operation (w % 2 ^ 64))) _ (ap (λ (o : ℕ). is_branch (operation_of o)) (bits_below 0 7 57 w) ∙ e)
