-- An operation that uses neither a0 nor an address has the effect that it had, and leaves a0 alone; and no address of it is broken. Assumes nothing.
use Rattle.std.specs.Prelude.{Bool, ◌&&◌, ◌||◌, ◌≡◌, ℕ, ◌-◌, eqb}
use Rattle.std.proofs.Math.Bool.{true, false, cond}
use Rattle.std.proofs.lemmas.Bool.{false≢true}
use mathlib.Core.List.{List, Memᴰ}
use Rattle.std.proofs.Math.Path.{refl, sym, ap}
use Rattle.std.proofs.Common.{◌∙◌}
use Rattle.paper.specs.Word.{Source, src0, src1, cond_modifier, saturate, flag_choice, dst_type}
use Rattle.paper.specs.Word.{src_type, src_modifier, immediate}
use Rattle.paper.specs.Word.{is_null, is_immediate, src_by_address}
use Rattle.paper.specs.Operation.{Plain, traits, sources}
use Rattle.paper.specs.Value.{type_vf, width}
use Rattle.paper.specs.Element.{Element, made, meets, result, float_result, result_of}
use Rattle.paper.specs.Store.{Store}
use Rattle.paper.specs.Region.{channels, fixed, vector, direct, src_kind, dst_size}
use Rattle.paper.specs.Enable.{chosen_flag, holds, channel_of, enabled, flag_after}
use Rattle.paper.specs.Address.{outside, src_address, settled, some_outside, address_broken}
use Rattle.paper.specs.Effect.{pattern_at, operand, file_in, source_at, channel_stores, scattered, is_on, written_to, registers_after, finds, compared_flag, plain_effect}
use Rattle.laws.specs.Changes.{only_cmp}
use Rattle.laws.specs.Regions.{LegalPlain, Named}
use Rattle.laws.specs.Scatter.{addresses_kept}
use Rattle.laws.specs.Settled.{settled_none}
use Rattle.laws.specs.Sources.{reads_two, first_source, second_source}
use Rattle.laws.specs.AddressesBefore.{direct_operand, direct_channel_stores, direct_registers_after, direct_finds, direct_compared_flag, direct_plain_effect}
use Rattle.laws.specs.SettledLegal.{any_same}
use Rattle.laws.specs.DirectWords.{new_operand, none_any, no_address, no_a0, src_no_address, src_no_a0, region, element}

-- An operation that reads one source makes the same of every second.
pub first_only : (p : Plain) → reads_two p ≡ false → (c : ℕ) (h s : Bool) (kind : ℕ) (a b d : Element) → made p c h s kind a b ≡ made p c h s kind a d
unfolding made result_of float_result result
first_only Plain.mov e c h s kind a b d = refl
first_only Plain.not e c h s kind a b d = refl
first_only Plain.sel e c h s kind a b d = absurd (false≢true (sym e))
first_only Plain.and e c h s kind a b d = absurd (false≢true (sym e))
first_only Plain.or e c h s kind a b d = absurd (false≢true (sym e))
first_only Plain.xor e c h s kind a b d = absurd (false≢true (sym e))
first_only Plain.shr e c h s kind a b d = absurd (false≢true (sym e))
first_only Plain.shl e c h s kind a b d = absurd (false≢true (sym e))
first_only Plain.asr e c h s kind a b d = absurd (false≢true (sym e))
first_only Plain.cmp e c h s kind a b d = absurd (false≢true (sym e))
first_only Plain.add e c h s kind a b d = absurd (false≢true (sym e))
first_only Plain.mul e c h s kind a b d = absurd (false≢true (sym e))
first_only Plain.avg e c h s kind a b d = absurd (false≢true (sym e))

module _ (p : Plain) (w : ℕ) (old : new_operand p w ≡ false) where
  -- What a source that is read holds is what it held;
  reads : (st : Store) (x : Source) → Memᴰ x (sources p) → (n : ℕ) → direct_operand w st.registers x n ≡ source_at w st x n
  unfolding direct_operand operand
  reads st x m n = λ i. record {
    kind = src_kind x w;
    modifier = cond (is_immediate x w) 0 (src_modifier x w);
    pattern =
        pattern_at (file_in (sym (src_no_a0 p w old x m) i) st)
        (cond (is_immediate x w) (cond (eqb (src_type x w) type_vf) (vector (immediate 32 w)) (fixed (immediate (width (src_type x w)) w)))
        (direct (region p w old x m i))) n;
  }

  -- what a source holds that is not read changes nothing.
  stores : (st : Store) (n : ℕ) → direct_channel_stores p w st n ≡ channel_stores p w st n
  unfolding direct_channel_stores channel_stores
  stores st n =
      go (reads_two p) refl
      ∙ ap (λ (a : Element). made p (cond_modifier w) (holds w st (channel_of w n)) (eqb (saturate w) 1) (dst_type w) a (source_at w st src1 n))
      (reads st src0 (first_source p) n)
    where
      go : (t : Bool) → reads_two p ≡ t
          → made p (cond_modifier w) (holds w st (channel_of w n)) (eqb (saturate w) 1) (dst_type w) (direct_operand w st.registers src0 n) (direct_operand w st.registers src1 n)
          ≡ made p (cond_modifier w) (holds w st (channel_of w n)) (eqb (saturate w) 1) (dst_type w) (direct_operand w st.registers src0 n) (source_at w st src1 n)
      go true e =
          ap (λ (b : Element). made p (cond_modifier w) (holds w st (channel_of w n)) (eqb (saturate w) 1) (dst_type w) (direct_operand w st.registers src0 n) b)
          (reads st src1 (second_source p e) n)
      go false e =
          first_only p e (cond_modifier w) (holds w st (channel_of w n)) (eqb (saturate w) 1) (dst_type w) (direct_operand w st.registers src0 n)
          (direct_operand w st.registers src1 n) (source_at w st src1 n)

  -- So the registers are what they were,
  registers_before : (awake : List Bool) (st : Store) → direct_registers_after p w awake st ≡ registers_after p w awake st
  unfolding direct_registers_after registers_after
  registers_before awake st =
      (λ i. cond (is_null w) st.registers (scattered st.registers (element p w old i) (dst_size w) (is_on p w awake st) (λ n. stores st n i) (channels w)))
      ∙ ap (λ (t : Bool). cond t st.registers (written_to p w awake st st.registers)) (null (is_null w) ∙ ap (λ (t : Bool). is_null w || t) (sym (no_a0 p w old)))
    where
      null : (t : Bool) → t ≡ (t || false)
      null true = refl
      null false = refl

  -- the flag that a cmp leaves,
  compared : (p ≡ Plain.cmp) → (awake : List Bool) (st : Store) → direct_compared_flag w awake st ≡ compared_flag w awake st
  unfolding direct_compared_flag compared_flag direct_finds finds
  compared e awake st =
      let two : reads_two p ≡ true = ap reads_two e in
      λ i. flag_after (chosen_flag w st) (channel_of w 0) (channels w) (enabled Plain.cmp w awake st)
      (λ m. meets (cond_modifier w) (reads st src0 (first_source p) (m - channel_of w 0) i) (reads st src1 (second_source p two) (m - channel_of w 0) i))

  -- and the flag that any operation leaves.
  flag_before : (awake : List Bool) (st : Store)
      → cond (traits p).compares (direct_compared_flag w awake st) (chosen_flag w st) ≡ cond (traits p).compares (compared_flag w awake st) (chosen_flag w st)
  flag_before awake st = go (traits p).compares refl
    where
      go : (t : Bool) → (traits p).compares ≡ t → cond t (direct_compared_flag w awake st) (chosen_flag w st) ≡ cond t (compared_flag w awake st) (chosen_flag w st)
      go true e = compared (only_cmp p e) awake st
      go false e = refl

  -- The operation does to registers and flags what it did, and a0 stays.
  pub effect_before : (awake : List Bool) (st : Store) → direct_plain_effect p w awake st ≡ plain_effect p w awake st
  unfolding direct_plain_effect plain_effect
  effect_before awake st = λ i. record {
    registers = registers_before awake st i;
    flag0 = cond (eqb (flag_choice w) 0) (flag_before awake st i) st.flag0;
    flag1 = cond (eqb (flag_choice w) 0) st.flag1 (flag_before awake st i);
    addresses = sym (addresses_kept p w awake st (no_a0 p w old)) i;
  }

  -- No operand is by address,
  named : Named p w
  named = record { destination = no_address p w old; source = src_no_address p w old }

  -- so the word is its own settled word,
  pub settled_before : (addresses : List ℕ) → settled p addresses w ≡ w
  settled_before addresses = settled_none addresses p w named

  -- and no address is broken, if the word is legal.
  pub whole : (addresses : List ℕ) → LegalPlain p w → address_broken p addresses w ≡ false
  unfolding address_broken some_outside
  whole addresses legal =
      rw (settled_before addresses, legal.alignment, legal.reach, no_address p w old)
      (outside_none (any_same (λ x. src_by_address x w && outside (src_address addresses x w)) (λ _. false) (sources p)
      (λ x m. ap (λ (t : Bool). t && outside (src_address addresses x w)) (src_no_address p w old x m)) ∙ none_any (sources p)))
    where
      outside_none : {t : Bool} → t ≡ false → (t || false) ≡ false
      outside_none e = rw e
