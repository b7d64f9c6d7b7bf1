-- What 02 §4 changed, exactly: the clause as it stood, written out beside the new one, and where the two differ. Assumes nothing.
use Rattle.std.specs.Prelude.{Bool, true, not, cond, ◌&&◌, List, ℕ, ◌+◌, ◌<◌, eqb, leb}
use Rattle.std.proofs.Math.Bool.{false}
use Rattle.std.proofs.Common.{true≢false, ◌∙◌, ltb-true, ltb-false}
use Rattle.std.proofs.Math.Path.{◌≡◌, refl, sym, ap}
use Rattle.std.proofs.Math.Dec.{ltb}
use Rattle.paper.specs.Bits.{bit}
use Rattle.paper.specs.Word.{flag_choice}
use Rattle.paper.specs.Operation.{Plain, Operation, plain, nop, branch, unlisted, operation, traits}
use Rattle.paper.specs.Region.{channels}
use Rattle.paper.specs.Store.{Store}
use Rattle.paper.specs.Enable.{chosen_flag, channel_of, enabled, of_bits, flag_bit, flag_after}
use Rattle.paper.specs.Effect.{registers_after, addresses_after, finds, compared_flag, with_flag, plain_effect, effect}
use Rattle.paper.specs.Address.{settled}
use Rattle.laws.specs.Regions.{Named}
use Rattle.laws.specs.Settled.{settled_none}
use Rattle.laws.specs.Masks.{bit-of_bits, bit-of_bits_above, of_bits_same}

-- ---- the clause as it stood

-- An enabled channel's result, 0 for a disabled one. Other bits stay.
unfoldable pub flag_bit_before : ℕ → ℕ → ℕ → (ℕ → Bool) → (ℕ → Bool) → ℕ → Bool
flag_bit_before old first n on result m = cond (leb first m && ltb m (first + n)) (on m && result m) (bit old m)

-- The chosen flag after cmp, by it.
unfoldable pub compared_before : ℕ → List Bool → Store → ℕ
compared_before w awake st =
    of_bits (flag_bit_before (chosen_flag w st) (channel_of w 0) (channels w) (enabled Plain.cmp w awake st) (finds w st)) 16

-- The effect of an instruction, by it.
unfoldable pub plain_before : Plain → ℕ → List Bool → Store → Store
plain_before p w awake st =
    let flag = compared_before w awake st in
    with_flag w st (registers_after p w awake st) (cond (traits p).compares flag (chosen_flag w st)) (addresses_after p w awake st)

unfoldable pub effect_before : ℕ → List Bool → Store → Store
effect_before w awake st = elim (operation w) [ plain p ↦ plain_before p w awake st | nop ↦ st | branch b ↦ st | unlisted ↦ st ]

-- The effect now of a word whose operands are named directly. (One by address has that of its settled word: `named_now`.)
unfoldable pub effect_now : ℕ → List Bool → Store → Store
effect_now w awake st = elim (operation w) [ plain p ↦ plain_effect p w awake st | nop ↦ st | branch b ↦ st | unlisted ↦ st ]

pub named_now : (w : ℕ) (awake : List Bool) (st : Store) → ((p : Plain) → operation w ≡ plain p → Named p w) → effect_now w awake st ≡ effect w awake st
unfolding effect_now effect
named_now w awake st named = go (operation w) refl
  where
    go : (o : Operation) → operation w ≡ o
        → ◌≡◌ {A = Store}
        (elim o [ plain p ↦ plain_effect p w awake st | nop ↦ st | branch b ↦ st | unlisted ↦ st ])
        (elim o [ plain p ↦ plain_effect p (settled p st.addresses w) awake st | nop ↦ st | branch b ↦ st | unlisted ↦ st ])
    go (plain p) e = ap (λ (v : ℕ). plain_effect p v awake st) (sym (settled_none st.addresses p w (named p e)))
    go nop e = refl
    go (branch b) e = refl
    go unlisted e = refl

-- ---- where the two differ

-- Whether an operation compares, by its traits: cmp does, and no other.
unfoldable pub comparing : Operation → Bool
comparing o = elim o [ plain p ↦ (traits p).compares | nop ↦ false | branch b ↦ false | unlisted ↦ false ]

-- Channel m is one of the instruction's, and cmp would find it disabled.
unfoldable pub disabled : ℕ → List Bool → Store → ℕ → Bool
disabled w awake st m = (leb (channel_of w 0) m && ltb m (channel_of w 0 + channels w)) && not (enabled Plain.cmp w awake st m)

-- The flag that a word does not choose.
abbrev pub other_flag : ℕ → Store → ℕ
other_flag w st = cond (eqb (flag_choice w) 0) st.flag1 st.flag0

-- One bit by the two clauses.
same_bit : (own on result old : Bool) → (own && not on) ≡ false → cond (own && on) result old ≡ cond own (on && result) old
same_bit true true result old e = refl
same_bit true false result old e = absurd (true≢false e)
same_bit false on result old e = refl

kept_bit : (own on result old : Bool) → (own && not on) ≡ true → (cond (own && on) result old ≡ old) × (cond own (on && result) old ≡ false)
kept_bit true true result old e = absurd (true≢false (sym e))
kept_bit true false result old e = (refl, refl)
kept_bit false on result old e = absurd (true≢false (sym e))

-- Numbers of given bits agree where the bits do.
alike : (f g : ℕ → Bool) (n m : ℕ) → f m ≡ g m → bit (of_bits f n) m ≡ bit (of_bits g n) m
alike f g n m e = go (ltb m n) refl
  where
    go : (b : Bool) → ltb m n ≡ b → bit (of_bits f n) m ≡ bit (of_bits g n) m
    go true h = bit-of_bits f n m (ltb-true m n h) ∙ e ∙ sym (bit-of_bits g n m (ltb-true m n h))
    go false h = bit-of_bits_above f n m (ltb-false m n h) ∙ sym (bit-of_bits_above g n m (ltb-false m n h))

-- The chosen flag of a store with another one, and the flag that is not chosen.
chosen_new : (b : Bool) (flag flag0 flag1 : ℕ) → cond b (cond b flag flag0) (cond b flag1 flag) ≡ flag
chosen_new true flag flag0 flag1 = refl
chosen_new false flag flag0 flag1 = refl

other_same : (b : Bool) (flag new flag0 flag1 : ℕ) → cond b (cond b flag1 flag) (cond b flag flag0) ≡ cond b (cond b flag1 new) (cond b new flag0)
other_same true flag new flag0 flag1 = refl
other_same false flag new flag0 flag1 = refl

module _ (w : ℕ) (awake : List Bool) (st : Store) where
  -- The two flags after cmp: they agree but for disabled channels,
  compared_same : (m : ℕ) → disabled w awake st m ≡ false
      → flag_bit (chosen_flag w st) (channel_of w 0) (channels w) (enabled Plain.cmp w awake st) (finds w st) m
      ≡ flag_bit_before (chosen_flag w st) (channel_of w 0) (channels w) (enabled Plain.cmp w awake st) (finds w st) m
  unfolding disabled flag_bit flag_bit_before
  compared_same m e = same_bit (leb (channel_of w 0) m && ltb m (channel_of w 0 + channels w)) (enabled Plain.cmp w awake st m) (finds w st m) (bit (chosen_flag w st) m) e

  -- whose bits stay now and were cleared before.
  compared_kept : (m : ℕ) → m < 16 → disabled w awake st m ≡ true
      → (bit (compared_flag w awake st) m ≡ bit (chosen_flag w st) m) × (bit (compared_before w awake st) m ≡ false)
  unfolding disabled compared_flag compared_before flag_after flag_bit flag_bit_before
  compared_kept m h e =
      let k = kept_bit (leb (channel_of w 0) m && ltb m (channel_of w 0 + channels w)) (enabled Plain.cmp w awake st m) (finds w st m) (bit (chosen_flag w st) m) e in
      (bit-of_bits _ 16 m h ∙ k.0, bit-of_bits _ 16 m h ∙ k.1)

  -- What does not compare has the effect that it had.
  pub others_same : comparing (operation w) ≡ false → effect_now w awake st ≡ effect_before w awake st
  unfolding effect_now effect_before plain_effect plain_before comparing
  others_same = go (operation w)
    where
      go : (o : Operation) → comparing o ≡ false
          → ◌≡◌ {A = Store}
          (elim o [ plain p ↦ plain_effect p w awake st | nop ↦ st | branch b ↦ st | unlisted ↦ st ])
          (elim o [ plain p ↦ plain_before p w awake st | nop ↦ st | branch b ↦ st | unlisted ↦ st ])
      go (plain p) e = rw e
      go nop e = refl
      go (branch b) e = refl
      go unlisted e = refl

  -- After cmp the registers are as before, and so is the other flag. The chosen flag is but for the bits of cmp's disabled channels: they stay, and were cleared.
  pub record CmpDiffers : Type 0 where
    pub registers : (effect_now w awake st).registers ≡ (effect_before w awake st).registers
    pub other : other_flag w (effect_now w awake st) ≡ other_flag w (effect_before w awake st)
    pub elsewhere : (m : ℕ) → disabled w awake st m ≡ false → bit (chosen_flag w (effect_now w awake st)) m ≡ bit (chosen_flag w (effect_before w awake st)) m
    pub there : (m : ℕ) → m < 16 → disabled w awake st m ≡ true
        → (bit (chosen_flag w (effect_now w awake st)) m ≡ bit (chosen_flag w st) m) × (bit (chosen_flag w (effect_before w awake st)) m ≡ false)

  module _ (cmp : operation w ≡ plain Plain.cmp) where
    now_is : effect_now w awake st ≡ with_flag w st (registers_after Plain.cmp w awake st) (compared_flag w awake st) (addresses_after Plain.cmp w awake st)
    unfolding effect_now plain_effect
    now_is = ap (λ (o : Operation). elim o [ plain p ↦ plain_effect p w awake st | nop ↦ st | branch b ↦ st | unlisted ↦ st ]) cmp

    before_is : effect_before w awake st ≡ with_flag w st (registers_after Plain.cmp w awake st) (compared_before w awake st) (addresses_after Plain.cmp w awake st)
    unfolding effect_before plain_before
    before_is = ap (λ (o : Operation). elim o [ plain p ↦ plain_before p w awake st | nop ↦ st | branch b ↦ st | unlisted ↦ st ]) cmp

    chosen_now : chosen_flag w (effect_now w awake st) ≡ compared_flag w awake st
    chosen_now = ap (chosen_flag w) now_is ∙ chosen_new (eqb (flag_choice w) 0) (compared_flag w awake st) st.flag0 st.flag1

    chosen_before : chosen_flag w (effect_before w awake st) ≡ compared_before w awake st
    chosen_before = ap (chosen_flag w) before_is ∙ chosen_new (eqb (flag_choice w) 0) (compared_before w awake st) st.flag0 st.flag1

    pub cmp_differs : CmpDiffers
    unfolding compared_flag compared_before flag_after
    cmp_differs = record {
      registers = ap (λ (s : Store). s.registers) now_is ∙ sym (ap (λ (s : Store). s.registers) before_is);
      other =
          ap (other_flag w) now_is
          ∙ other_same (eqb (flag_choice w) 0) (compared_flag w awake st) (compared_before w awake st) st.flag0 st.flag1
          ∙ sym (ap (other_flag w) before_is);
      elsewhere = λ m e. rw (chosen_now, chosen_before) (alike _ _ 16 m (compared_same m e));
      there = λ m h e. rw (chosen_now, chosen_before) (compared_kept m h e);
    }

    -- With no disabled channel nothing differs.
    pub all_enabled_same : ((m : ℕ) → disabled w awake st m ≡ false) → effect_now w awake st ≡ effect_before w awake st
    unfolding compared_flag compared_before flag_after
    all_enabled_same h =
        now_is
        ∙ ap (λ (flag : ℕ). with_flag w st (registers_after Plain.cmp w awake st) flag (addresses_after Plain.cmp w awake st)) (of_bits_same _ _ 16 (λ m q. compared_same m (h m)))
        ∙ sym before_is
