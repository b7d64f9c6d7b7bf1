-- An operation without a float among its operands has the effect that it had (02 §8). Assumes nothing.
use Rattle.std.proofs.Math.Bool.{Bool, true, cond}
use Rattle.std.specs.Prelude.{false, ◌&&◌, ◌||◌, ◌≡◌, ℕ, ◌-◌, eqb}
use Rattle.std.proofs.lemmas.Bool.{false≢true}
use mathlib.Core.List.{List, Memᴰ}
use Rattle.std.proofs.Math.Path.{refl, ap, ap₂}
use Rattle.std.proofs.Common.{sym, ◌∙◌}
use Rattle.paper.specs.Word.{Source, src0, src1, cond_modifier, saturate, flag_choice, dst_type, src_type, src_modifier, is_null, dst_is_a0, src_is_a0, is_immediate, immediate}
use Rattle.paper.specs.Operation.{Plain, traits, sources}
use Rattle.paper.specs.Value.{type_f, type_vf, width}
use Rattle.paper.specs.Element.{Element, is_float, meaning, result, result_of, made, meets}
use Rattle.paper.specs.Region.{channels, fixed, vector, direct, src_region, src_kind, operand_of, dst_element, dst_size}
use Rattle.paper.specs.Store.{Store}
use Rattle.paper.specs.Enable.{chosen_flag, holds, channel_of, enabled, flag_after}
use Rattle.paper.specs.Effect.{pattern_at, operand, file_in, source_at, channel_stores, scattered, is_on, written_to, registers_after, addresses_after, finds, compared_flag, plain_effect}
use Rattle.paper.specs.Legal.{uses_floats}
use Rattle.laws.specs.Changes.{only_cmp}
use Rattle.laws.specs.Sources.{reads_two, first_source, second_source}
use Rattle.laws.specs.DirectActs.{first_only}
use Rattle.laws.specs.FloatWords.{src_no_float, src_no_vector}
use Rattle.laws.specs.FloatsBefore.{whole_meaning, whole_made, whole_meets, whole_operand_of, whole_operand, whole_source_at, whole_channel_stores, whole_written_to, whole_registers_after, whole_addresses_after, whole_finds, whole_compared_flag, whole_plain_effect}

-- An element that is no float means what it meant.
meaning_before : (a : Element) → is_float a.kind ≡ false → whole_meaning a ≡ meaning a
meaning_before a e = rw e

-- Of two such elements every operation makes what it made,
made_before : (p : Plain) (c : ℕ) (h s : Bool) (kind : ℕ) (a b : Element) → is_float a.kind ≡ false → is_float b.kind ≡ false
    → whole_made p c h s kind a b ≡ made p c h s kind a b
unfolding whole_made made result_of
made_before p c h s kind a b e f = rw (e, f)

-- and cmp finds what it found.
meets_before : (c : ℕ) (a b : Element) → is_float a.kind ≡ false → is_float b.kind ≡ false → whole_meets c a b ≡ meets c a b
unfolding whole_meets meets
meets_before c a b e f = rw (e, f)

-- An operation that reads one source made the same of every second.
whole_first : (p : Plain) → reads_two p ≡ false → (c : ℕ) (h s : Bool) (kind : ℕ) (a b d : Element) → whole_made p c h s kind a b ≡ whole_made p c h s kind a d
unfolding whole_made result
whole_first Plain.mov e c h s kind a b d = refl
whole_first Plain.not e c h s kind a b d = refl
whole_first Plain.sel e c h s kind a b d = absurd (false≢true (sym e))
whole_first Plain.and e c h s kind a b d = absurd (false≢true (sym e))
whole_first Plain.or e c h s kind a b d = absurd (false≢true (sym e))
whole_first Plain.xor e c h s kind a b d = absurd (false≢true (sym e))
whole_first Plain.shr e c h s kind a b d = absurd (false≢true (sym e))
whole_first Plain.shl e c h s kind a b d = absurd (false≢true (sym e))
whole_first Plain.asr e c h s kind a b d = absurd (false≢true (sym e))
whole_first Plain.cmp e c h s kind a b d = absurd (false≢true (sym e))
whole_first Plain.add e c h s kind a b d = absurd (false≢true (sym e))
whole_first Plain.mul e c h s kind a b d = absurd (false≢true (sym e))
whole_first Plain.avg e c h s kind a b d = absurd (false≢true (sym e))

module _ (p : Plain) (w : ℕ) (old : uses_floats p w ≡ false) where
  -- A source that is read gives elements of the type that its word says,
  kind : (x : Source) → Memᴰ x (sources p) → src_type x w ≡ src_kind x w
  kind x m = ap (λ (t : Bool). cond t type_f (src_type x w)) (sym (src_no_vector p w old x m))

  -- and names what it named.
  names : (x : Source) → Memᴰ x (sources p) → whole_operand_of x w ≡ operand_of x w
  names x m = go (is_immediate x w) (src_no_vector p w old x m)
    where
      go : (t : Bool) → (t && eqb (src_type x w) type_vf) ≡ false
          → cond t (fixed (immediate (width (src_type x w)) w)) (direct (src_region x w))
          ≡ cond t (cond (eqb (src_type x w) type_vf) (vector (immediate 32 w)) (fixed (immediate (width (src_type x w)) w))) (direct (src_region x w))
      go true e = ap (λ (v : Bool). cond v (vector (immediate 32 w)) (fixed (immediate (width (src_type x w)) w))) (sym e)
      go false e = refl

  -- So it reads what it read,
  reads : (st : Store) (x : Source) → Memᴰ x (sources p) → (n : ℕ) → whole_source_at w st x n ≡ source_at w st x n
  unfolding whole_operand operand
  reads st x m n = λ i. record {
    kind = kind x m i;
    modifier = cond (is_immediate x w) 0 (src_modifier x w);
    pattern = pattern_at (file_in (src_is_a0 x w) st) (names x m i) n;
  }

  -- which is no float.
  no_float : (st : Store) (x : Source) → Memᴰ x (sources p) → (n : ℕ) → is_float (whole_source_at w st x n).kind ≡ false
  unfolding whole_operand
  no_float st x m n = src_no_float p w old x m

  -- What is stored is what was stored: what a source holds that is not read changes nothing.
  stores : (st : Store) (n : ℕ) → whole_channel_stores p w st n ≡ channel_stores p w st n
  unfolding whole_channel_stores channel_stores
  stores st n = go (reads_two p) refl
    where
      h : Bool
      h = holds w st (channel_of w n)

      s : Bool
      s = eqb (saturate w) 1

      a : Element
      a = whole_source_at w st src0 n

      b : Element
      b = whole_source_at w st src1 n

      first : is_float a.kind ≡ false
      first = no_float st src0 (first_source p) n

      go : (t : Bool) → reads_two p ≡ t
          → whole_made p (cond_modifier w) h s (dst_type w) a b ≡ made p (cond_modifier w) h s (dst_type w) (source_at w st src0 n) (source_at w st src1 n)
      go true e =
          made_before p (cond_modifier w) h s (dst_type w) a b first (no_float st src1 (second_source p e) n)
          ∙ ap₂ (λ (x y : Element). made p (cond_modifier w) h s (dst_type w) x y) (reads st src0 (first_source p) n) (reads st src1 (second_source p e) n)
      go false e =
          whole_first p e (cond_modifier w) h s (dst_type w) a b a
          ∙ made_before p (cond_modifier w) h s (dst_type w) a a first first
          ∙ first_only p e (cond_modifier w) h s (dst_type w) a a (source_at w st src1 n)
          ∙ ap (λ (x : Element). made p (cond_modifier w) h s (dst_type w) x (source_at w st src1 n)) (reads st src0 (first_source p) n)

  -- So the bytes that a file has are what they were,
  written : (awake : List Bool) (st : Store) (bytes : List ℕ) → whole_written_to p w awake st bytes ≡ written_to p w awake st bytes
  written awake st bytes = λ i. scattered bytes (dst_element w) (dst_size w) (is_on p w awake st) (λ n. stores st n i) (channels w)

  -- the flag that a cmp leaves,
  compared : (p ≡ Plain.cmp) → (awake : List Bool) (st : Store) → whole_compared_flag w awake st ≡ compared_flag w awake st
  unfolding whole_compared_flag compared_flag whole_finds finds
  compared e awake st =
      let two : reads_two p ≡ true = ap reads_two e in
      λ i. flag_after (chosen_flag w st) (channel_of w 0) (channels w) (enabled Plain.cmp w awake st) (λ m. found two (m - channel_of w 0) i)
    where
      found : reads_two p ≡ true → (n : ℕ)
          → whole_meets (cond_modifier w) (whole_source_at w st src0 n) (whole_source_at w st src1 n) ≡ meets (cond_modifier w) (source_at w st src0 n) (source_at w st src1 n)
      found two n =
          meets_before (cond_modifier w) (whole_source_at w st src0 n) (whole_source_at w st src1 n)
          (no_float st src0 (first_source p) n) (no_float st src1 (second_source p two) n)
          ∙ ap₂ (λ (x y : Element). meets (cond_modifier w) x y) (reads st src0 (first_source p) n) (reads st src1 (second_source p two) n)

  -- and the flag that any operation leaves.
  flag_before : (awake : List Bool) (st : Store)
      → cond (traits p).compares (whole_compared_flag w awake st) (chosen_flag w st) ≡ cond (traits p).compares (compared_flag w awake st) (chosen_flag w st)
  flag_before awake st = go (traits p).compares refl
    where
      go : (t : Bool) → (traits p).compares ≡ t → cond t (whole_compared_flag w awake st) (chosen_flag w st) ≡ cond t (compared_flag w awake st) (chosen_flag w st)
      go true e = compared (only_cmp p e) awake st
      go false e = refl

  -- The operation does what it did.
  pub effect_before : (awake : List Bool) (st : Store) → whole_plain_effect p w awake st ≡ plain_effect p w awake st
  unfolding whole_plain_effect plain_effect whole_registers_after registers_after whole_addresses_after addresses_after
  effect_before awake st = λ i. record {
    registers = cond (is_null w || dst_is_a0 w) st.registers (written awake st st.registers i);
    flag0 = cond (eqb (flag_choice w) 0) (flag_before awake st i) st.flag0;
    flag1 = cond (eqb (flag_choice w) 0) st.flag1 (flag_before awake st i);
    addresses = cond (dst_is_a0 w) (written awake st st.addresses i) st.addresses;
  }
