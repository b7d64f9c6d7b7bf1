-- What an instruction on floats makes of the patterns that its sources read. Assumes nothing.
use Rattle.std.specs.Prelude.{◌≡◌, Bool, true, ◌||◌, List, ℕ, ◌+◌, ◌*◌, ◌%◌, ◌^◌, ◌<◌, eqb, ℤ, length, get_or}
use Rattle.std.proofs.Math.Path.{refl, ap}
use Rattle.std.proofs.Common.{sym, ◌∙◌, true≢false}
use Rattle.std.proofs.Math.Bool.{false, cond}
use Rattle.std.proofs.lemmas.Bool.{false≢true}
use Rattle.std.proofs.Math.IntN.{pos}
use Rattle.paper.specs.Bits.{bit}
use Rattle.paper.specs.Word.{src0, src1, cond_modifier, is_null, dst_type, dst_stride, src_type}
use Rattle.paper.specs.Operation as paper
use Rattle.paper.specs.Value.{type_f, size_of, mod_z, stored}
use Rattle.paper.specs.Element.{Element, one_if, is_float, meaning, result, float_result, result_of, made}
use Rattle.paper.specs.Region.{src_is_vector, src_kind, channels, stride_of, dst_origin}
use Rattle.paper.specs.Effect.{operand, scattered}
use Rattle.laws.specs.Sources.{reads_two, first_source}
use Rattle.lanes.specs.Mapped.{Mapped}
use Rattle.operands.specs.Floats.{FloatsRead}
use Rattle.execute.specs.Readable.{Reckoning, floats_served_lem, float_destination, float_source}
use Rattle.execute.specs.Results.{channel_makes, Makes}
use Rattle.execute.specs.Effects.{written}
use Rattle.words.specs.Operations.{plain_is}
use Rattle.words.specs.declared.operation.Plain.{Plain}
use Rattle.words.specs.declared.operation.Plain.TheVariants.{Mov, Sel, Not, And, Or, Xor, Shr, Shl, Asr, Cmp, Add, Mul, Avg}

-- Each of the n first numbers is the pattern that its channel of the second source reads, if there is one.
pub record SecondFloats (p : paper.Plain) (w : ℕ) (registers : List ℕ) (n : ℕ) (values : List ℕ) : Type 0 where
  pub reads : reads_two p ≡ true → (k : ℕ) → k < n → pos (get_or values k 0) ≡ meaning (operand w registers src1 k)

-- Each of the n first patterns becomes the result of the operation on it and on the second.
unfoldable pub Reckoned : paper.Plain → ℕ → ℕ → List ℕ → List ℕ → List ℕ → Type 0
Reckoned p condition n first second made = Mapped (λ k a b. pos b ≡ float_result p condition (pos a) (pos (get_or second k 0))) n first made

-- ---- what is read

pub floats_sixteen : (w : ℕ) (registers : List ℕ) (n : ℕ) (old new : List ℕ) → FloatsRead w registers src0 n old new → length new ≡ 16
unfolding FloatsRead
floats_sixteen w registers n old new m = m.sixteen

pub second_told : (p : paper.Plain) (w : ℕ) (registers : List ℕ) (n : ℕ) (old new : List ℕ) → FloatsRead w registers src1 n old new → SecondFloats p w registers n new
unfolding FloatsRead
second_told p w registers n old new m = record { reads = λ t k h. (m.done k h).0 }

pub no_second : (p : paper.Plain) (w : ℕ) (registers : List ℕ) (n : ℕ) (values : List ℕ) → reads_two p ≡ false → SecondFloats p w registers n values
no_second p w registers n values e = record { reads = λ t k q. absurd (true≢false (sym t ∙ e)) }

-- ---- results

-- An operation that reads one source makes the same of every second.
float_one : (p : paper.Plain) → reads_two p ≡ false → (c : ℕ) (a b d : ℤ) → float_result p c a b ≡ float_result p c a d
unfolding float_result
float_one paper.mov e c a b d = refl
float_one paper.sel e c a b d = refl
float_one paper.not e c a b d = refl
float_one paper.and e c a b d = refl
float_one paper.or e c a b d = refl
float_one paper.xor e c a b d = refl
float_one paper.shr e c a b d = refl
float_one paper.shl e c a b d = refl
float_one paper.asr e c a b d = refl
float_one paper.cmp e c a b d = absurd (false≢true (sym e))
float_one paper.add e c a b d = absurd (false≢true (sym e))
float_one paper.mul e c a b d = absurd (false≢true (sym e))
float_one paper.avg e c a b d = refl

-- An operation that is neither add nor mul nor cmp copies; no other than mov is served.
abbrev pub Copies : paper.Plain → Type 0
Copies p = (c : ℕ) (a b : ℤ) → float_result p c a b ≡ a

pub copied : (p : paper.Plain) (c n : ℕ) (first second : List ℕ) → length first ≡ 16 → Copies p → Reckoned p c n first second first
unfolding Reckoned
copied p c n first second l same = record { sixteen = l; done = λ k h. sym (same c (pos (get_or first k 0)) (pos (get_or second k 0))); kept = λ k h. refl }

-- These are the operations but cmp, add and mul.
pub others_copy : (p : Plain) → (p ≡ Cmp → ⊥) → (p ≡ Add → ⊥) → (p ≡ Mul → ⊥) → Copies (plain_is p)
unfolding float_result
others_copy Mov c a m = λ x y z. refl
others_copy Sel c a m = λ x y z. refl
others_copy Not c a m = λ x y z. refl
others_copy And c a m = λ x y z. refl
others_copy Or c a m = λ x y z. refl
others_copy Xor c a m = λ x y z. refl
others_copy Shr c a m = λ x y z. refl
others_copy Shl c a m = λ x y z. refl
others_copy Asr c a m = λ x y z. refl
others_copy Cmp c a m = absurd (c refl)
others_copy Add c a m = absurd (a refl)
others_copy Mul c a m = absurd (m refl)
others_copy Avg c a m = λ x y z. refl

-- What holds is 1, else 0.
pub one_told : (b : Bool) (v : ℕ) → v ≡ cond b 1 0 → pos v ≡ one_if b
one_told true v e = ap pos e
one_told false v e = ap pos e

-- A pattern is stored as it is.
plain_stored : (v : ℕ) → v % 2 ^ 32 ≡ stored false type_f (pos v)
unfolding stored mod_z
plain_stored v = refl

module _ (p : paper.Plain) (w : ℕ) (l : Reckoning p w) (registers : List ℕ) (n : ℕ) (old first second : List ℕ)
    (a : FloatsRead w registers src0 n old first) (b : SecondFloats p w registers n second) where
  -- src0's elements are floats.
  is_float_lem : is_float (src_kind src0 w) ≡ true
  is_float_lem = go (src_is_vector src0 w) (float_source p w l src0 (first_source p))
    where
      go : (v : Bool) → (eqb (src_type src0 w) type_f || v) ≡ true → eqb (cond v type_f (src_type src0 w)) type_f ≡ true
      go true e = refl
      go false e = either (eqb (src_type src0 w) type_f) e
        where
          either : (t : Bool) → (t || false) ≡ true → t ≡ true
          either true e = refl
          either false e = e

  float_result_lem : (c : ℕ) (holds : Bool) (k : ℕ) → k < n
      → float_result p c (pos (get_or first k 0)) (pos (get_or second k 0)) ≡ result_of p c holds (operand w registers src0 k) (operand w registers src1 k)
  unfolding FloatsRead result_of operand
  float_result_lem c holds k h =
      ap (λ (z : ℤ). float_result p c z (pos (get_or second k 0))) (a.done k h).0
      ∙ go (reads_two p) refl
      ∙ ap (λ (t : Bool). cond t (float_result p c (meaning x) (meaning y)) (result p c holds (meaning x) (meaning y))) (sym is_float_lem)
    where
      x : Element
      x = operand w registers src0 k

      y : Element
      y = operand w registers src1 k

      go : (t : Bool) → reads_two p ≡ t → float_result p c (meaning x) (pos (get_or second k 0)) ≡ float_result p c (meaning x) (meaning y)
      go true e = ap (float_result p c (meaning x)) (b.reads e k h)
      go false e = float_one p e c (meaning x) (pos (get_or second k 0)) (meaning y)

  -- What is made is the paper's, whatever the predicate.
  pub floats_made : (c : ℕ) (made : List ℕ) → n ≡ channels w → c ≡ cond_modifier w → Reckoned p c n first second made
      → (predicate : ℕ) → Makes p w predicate registers made
  unfolding Reckoned Makes channel_makes made
  floats_made c made en ec m predicate k h =
      let below : k < n = rw en h in
      let told : pos (get_or made k 0) ≡ result_of p c (bit predicate k) (operand w registers src0 k) (operand w registers src1 k) =
      m.done k below ∙ float_result_lem c (bit predicate k) k below in
      rw (float_destination p w l, (floats_served_lem p w l).1, ← ec) (plain_stored (get_or made k 0) ∙ ap (stored false type_f) told)

-- ---- what is stored

-- Where the destination has floats, its elements have four bytes.
pub floats_written : (w enable : ℕ) (bytes results : List ℕ) → dst_type w ≡ type_f → is_null w ≡ false
    → scattered bytes (λ k. dst_origin w + k * stride_of (dst_stride w) * 4) 4 (bit enable) (λ k. get_or results k 0) (channels w) ≡ written w enable bytes results
unfolding written
floats_written w enable bytes results e kept =
    rw kept
    (ap (λ (t : ℕ). scattered bytes (λ k. dst_origin w + k * stride_of (dst_stride w) * size_of t) (size_of t) (bit enable) (λ k. get_or results k 0) (channels w)) (sym e))
