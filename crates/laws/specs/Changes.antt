-- What an instruction may change: register bytes in the destination elements of its enabled channels; flags, if it is cmp, in the bits of those channels (02
-- §14). Operands by address are those that a0 names (`settled`). Assumes nothing.
use Rattle.std.specs.Prelude.{Bool, cond, ◌&&◌, ◌||◌, List, [], ◌∷◌, map, ◌⊎◌, ◌≡◌, leb}
use Rattle.std.proofs.Math.Bool.{true, false, not}
use Rattle.std.proofs.lemmas.Bool.{false≢true}
use Rattle.std.proofs.Common.{inl, inr, sym, ◌∙◌}
use Rattle.std.proofs.Math.Option.{some}
use Rattle.std.proofs.Math.Path.{refl, ap, subst}
use Prim.Native.Nat.{ℕ, zero, suc, ◌+◌, ◌-◌, ◌*◌, ◌<◌, ◌≤◌}
use native.Mathlib.Omega.{arith}
use Rattle.std.proofs.Math.Dec.{eqb, ltb}
use Rattle.std.proofs.Math.ListN.{length, get_or}
use borrow.Author.Tests.{eqb-true, eqb-false, leb-true, ltb-true, not-true}
use Rattle.paper.specs.Bits.{bit}
use Rattle.paper.specs.Word.{we_ctrl, flag_choice, is_null, dst_is_a0}
use Rattle.paper.specs.Value.{size_of}
use Rattle.paper.specs.Operation.{Plain, Operation, plain, nop, branch, unlisted, operation, traits}
use Rattle.paper.specs.Region.{channels, dst_size, dst_element}
use Rattle.paper.specs.Store.{Store}
use Rattle.paper.specs.Enable.{chosen_flag, channel_of, enabled, flag_bit, flag_after}
use Rattle.paper.specs.Address.{settled}
use Rattle.paper.specs.Effect.{is_on, finds, compared_flag, plain_effect, effect}
use Rattle.paper.specs.Kernel.{Instr}
use Rattle.paper.specs.Jump.{fetch}
use Rattle.paper.specs.Machine.{Channel, off, awake, waiting, wake, is_awake}
use Rattle.laws.specs.Masks.{bit-of_bits}
use Rattle.laws.specs.Places.{of_fetched}
use Rattle.laws.specs.Regions.{LegalPlain, or-false}
use Rattle.laws.specs.Settled.{field_stays, channels-settled, enabled-settled}
use Rattle.laws.specs.Relay.{Sane, AllSane}
use Rattle.laws.specs.Scatter.{registers_length, registers_changed, element_kept}
use Rattle.laws.specs.Truth.{both_true}

-- ---- registers

-- The first byte that channel n of word w writes, by address as a0 stands.
abbrev pub written_from : Plain → ℕ → Store → ℕ → ℕ
written_from p w st n = dst_element (settled p st.addresses w) n

-- Word w of operation p stores into registers: its destination is neither null nor a0.
abbrev pub stores_bytes : Plain → ℕ → Store → Bool
stores_bytes p w st = let v = settled p st.addresses w in not (is_null v || dst_is_a0 v)

-- An enabled channel of word w, which stores into registers, has byte b in its destination element.
pub record Writes (w : ℕ) (woken : List Bool) (st : Store) (b : ℕ) : Type 0 where
  pub operator : Plain
  pub is : operation w ≡ plain operator
  pub stores : stores_bytes operator w st ≡ true
  pub channel : ℕ
  pub counted : channel < channels w
  pub on : is_on operator w woken st channel ≡ true
  pub from : written_from operator w st channel ≤ b
  pub to : b < written_from operator w st channel + dst_size w

-- Only cmp compares.
pub only_cmp : (p : Plain) → (traits p).compares ≡ true → p ≡ Plain.cmp
only_cmp Plain.mov e = absurd (false≢true e)
only_cmp Plain.sel e = absurd (false≢true e)
only_cmp Plain.not e = absurd (false≢true e)
only_cmp Plain.and e = absurd (false≢true e)
only_cmp Plain.or e = absurd (false≢true e)
only_cmp Plain.xor e = absurd (false≢true e)
only_cmp Plain.shr e = absurd (false≢true e)
only_cmp Plain.shl e = absurd (false≢true e)
only_cmp Plain.asr e = absurd (false≢true e)
only_cmp Plain.cmp e = refl
only_cmp Plain.add e = absurd (false≢true e)
only_cmp Plain.mul e = absurd (false≢true e)
only_cmp Plain.avg e = absurd (false≢true e)

-- ---- flags, of a word whose operands are named directly

module _ (v : ℕ) (woken : List Bool) (st : Store) where
  -- Channel number m is one of the enabled channels that a cmp works on.
  record Compares (m : ℕ) : Type 0 where
    channel : ℕ
    counted : channel < channels v
    number : m ≡ channel_of v channel
    on : is_on Plain.cmp v woken st channel ≡ true

  -- A bit of the chosen flag that cmp does not leave as it was is such a channel's.
  compared_sets : (m : ℕ) → m < 16 → (bit (compared_flag v woken st) m ≡ bit (chosen_flag v st) m → ⊥) → Compares m
  unfolding compared_flag flag_after flag_bit
  compared_sets m h differs =
      go ((leb (channel_of v 0) m && ltb m (channel_of v 0 + channels v)) && enabled Plain.cmp v woken st m) refl
      (λ e. differs (bit-of_bits (flag_bit (chosen_flag v st) (channel_of v 0) (channels v) (enabled Plain.cmp v woken st) (finds v st)) 16 m h ∙ e))
    where
      go : (t : Bool) → ((leb (channel_of v 0) m && ltb m (channel_of v 0 + channels v)) && enabled Plain.cmp v woken st m) ≡ t
          → (cond t (finds v st m) (bit (chosen_flag v st) m) ≡ bit (chosen_flag v st) m → ⊥) → Compares m
      go false e moves = absurd (moves refl)
      go true e moves =
          let a = both_true (leb (channel_of v 0) m && ltb m (channel_of v 0 + channels v)) (enabled Plain.cmp v woken st m) e in
          let b = both_true (leb (channel_of v 0) m) (ltb m (channel_of v 0 + channels v)) a.0 in
          let low : channel_of v 0 ≤ m = leb-true _ _ b.0 in
          let high : m < channel_of v 0 + channels v = ltb-true _ _ b.1 in
          let number : m ≡ channel_of v (m - channel_of v 0) = omega arith in
          record {
            channel = m - channel_of v 0;
            counted = omega arith;
            number = number;
            on = ap (enabled Plain.cmp v woken st) (sym number) ∙ a.1;
          }

  -- The flag that an instruction leaves as the chosen one.
  abbrev flag_left : Plain → ℕ
  flag_left p = cond (traits p).compares (compared_flag v woken st) (chosen_flag v st)

  left_sets : (p : Plain) (m : ℕ) → m < 16 → (bit (flag_left p) m ≡ bit (chosen_flag v st) m → ⊥) → (p ≡ Plain.cmp) × Compares m
  left_sets p m h = go (traits p).compares refl
    where
      go : (t : Bool) → (traits p).compares ≡ t
          → (bit (cond t (compared_flag v woken st) (chosen_flag v st)) m ≡ bit (chosen_flag v st) m → ⊥) → (p ≡ Plain.cmp) × Compares m
      go true c moves = (only_cmp p c, compared_sets m h moves)
      go false c moves = absurd (moves refl)

  -- A bit of f0.0 that is not as it was is such a channel's, of a cmp that chooses f0.0.
  plain0_sets : (p : Plain) (m : ℕ) → m < 16 → (bit (plain_effect p v woken st).flag0 m ≡ bit st.flag0 m → ⊥)
      → (flag_choice v ≡ 0) × (p ≡ Plain.cmp) × Compares m
  unfolding plain_effect
  plain0_sets p m h = chosen (eqb (flag_choice v) 0) refl
    where
      chosen : (t : Bool) → eqb (flag_choice v) 0 ≡ t → (bit (cond t (flag_left p) st.flag0) m ≡ bit st.flag0 m → ⊥)
          → (flag_choice v ≡ 0) × (p ≡ Plain.cmp) × Compares m
      chosen true c moves =
          let l = left_sets p m h (λ x. moves (x ∙ ap (λ (t : Bool). bit (cond t st.flag0 st.flag1) m) c)) in (eqb-true _ 0 c, l.0, l.1)
      chosen false c moves = absurd (moves refl)

  -- The same of f0.1.
  plain1_sets : (p : Plain) (m : ℕ) → m < 16 → (bit (plain_effect p v woken st).flag1 m ≡ bit st.flag1 m → ⊥)
      → (flag_choice v ≡ 0 → ⊥) × (p ≡ Plain.cmp) × Compares m
  unfolding plain_effect
  plain1_sets p m h = chosen (eqb (flag_choice v) 0) refl
    where
      chosen : (t : Bool) → eqb (flag_choice v) 0 ≡ t → (bit (cond t st.flag1 (flag_left p)) m ≡ bit st.flag1 m → ⊥)
          → (flag_choice v ≡ 0 → ⊥) × (p ≡ Plain.cmp) × Compares m
      chosen true c moves = absurd (moves refl)
      chosen false c moves =
          let l = left_sets p m h (λ x. moves (x ∙ ap (λ (t : Bool). bit (cond t st.flag0 st.flag1) m) c)) in (eqb-false _ 0 c, l.0, l.1)

-- ---- a word as a0 settles it

module _ (w : ℕ) (woken : List Bool) (st : Store) where
  -- The effect of w as that of an operation.
  abbrev effect_of : Operation → Store
  effect_of o = elim o [ plain p ↦ plain_effect p (settled p st.addresses w) woken st | nop ↦ st | branch b ↦ st | unlisted ↦ st ]

  -- A register byte that is not as it was lies there.
  pub effect_writes : (b : ℕ) → (get_or (effect w woken st).registers b 0 ≡ get_or st.registers b 0 → ⊥) → Writes w woken st b
  unfolding effect plain_effect
  effect_writes b = go (operation w) refl
    where
      go : (o : Operation) → operation w ≡ o
          → (get_or (effect_of o).registers b 0 ≡ get_or st.registers b 0 → ⊥)
          → Writes w woken st b
      go (plain p) e h =
          let v = settled p st.addresses w in
          let r = registers_changed p v woken st b h in
          let size : dst_size v ≡ dst_size w = ap size_of (field_stays st.addresses p w 34 3 refl refl refl) in
          record {
            operator = p;
            is = e;
            stores = ap not r.0;
            channel = r.1.0;
            counted = subst (λ (c : ℕ). r.1.0 < c) (channels-settled st.addresses p w) r.1.1;
            on = ap (λ (f : ℕ → Bool). f r.1.0) (sym (enabled-settled st.addresses p w p woken st)) ∙ r.1.2;
            from = r.1.3;
            to = subst (λ (c : ℕ). b < dst_element v r.1.0 + c) size r.1.4;
          }
      go nop e h = absurd (h refl)
      go (branch c) e h = absurd (h refl)
      go unlisted e h = absurd (h refl)

  -- There are as many register bytes as there were.
  pub effect-length : length (effect w woken st).registers ≡ length st.registers
  unfolding effect plain_effect
  effect-length = go (operation w)
    where
      go : (o : Operation) → length (effect_of o).registers ≡ length st.registers
      go (plain p) = registers_length p (settled p st.addresses w) woken st
      go nop = refl
      go (branch b) = refl
      go unlisted = refl

  -- The element of a channel that is not enabled stays as it was, if the word with its operands named directly is legal.
  pub effect_keeps : (p : Plain) → operation w ≡ plain p → LegalPlain p (settled p st.addresses w) → stores_bytes p w st ≡ true
      → (n : ℕ) → is_on p w woken st n ≡ false → (b : ℕ) → written_from p w st n ≤ b → b < written_from p w st n + dst_size w
      → get_or (effect w woken st).registers b 0 ≡ get_or st.registers b 0
  unfolding effect plain_effect
  effect_keeps p e legal stores n idle b low high =
      let v = settled p st.addresses w in
      let size : dst_size w ≡ dst_size v = ap size_of (sym (field_stays st.addresses p w 34 3 refl refl refl)) in
      ap (λ (o : Operation). get_or (effect_of o).registers b 0) e
      ∙ element_kept p v woken st legal (or-false (is_null v) (dst_is_a0 v) (not-true (is_null v || dst_is_a0 v) stores)).0 n
      (ap (λ (f : ℕ → Bool). f n) (enabled-settled st.addresses p w p woken st) ∙ idle) b low
      (subst (λ (c : ℕ). b < dst_element v n + c) size high)

  -- Word w is a cmp, and channel m is one of its enabled channels.
  pub record Sets (m : ℕ) : Type 0 where
    pub is : operation w ≡ plain Plain.cmp
    pub channel : ℕ
    pub counted : channel < channels w
    pub number : m ≡ channel_of w channel
    pub on : is_on Plain.cmp w woken st channel ≡ true

  -- What is so of the settled word is so of the word.
  lifted : (p : Plain) → operation w ≡ plain p → (m : ℕ) → p ≡ Plain.cmp → Compares (settled p st.addresses w) woken st m → Sets m
  lifted p e m q c = record {
    is = e ∙ ap plain q;
    channel = c.channel;
    counted = subst (λ (n : ℕ). c.channel < n) (channels-settled st.addresses p w) c.counted;
    number = c.number ∙ ap (λ (k : ℕ). 8 * k + c.channel) (field_stays st.addresses p w 12 2 refl refl refl);
    on = ap (λ (f : ℕ → Bool). f c.channel) (sym (enabled-settled st.addresses p w Plain.cmp woken st)) ∙ c.on;
  }

  -- A bit of f0.0 that is not as it was is such a channel's, of a cmp that chooses f0.0.
  pub flag0_sets : (m : ℕ) → m < 16 → (bit (effect w woken st).flag0 m ≡ bit st.flag0 m → ⊥) → (flag_choice w ≡ 0) × Sets m
  unfolding effect
  flag0_sets m h = go (operation w) refl
    where
      go : (o : Operation) → operation w ≡ o → (bit (effect_of o).flag0 m ≡ bit st.flag0 m → ⊥) → (flag_choice w ≡ 0) × Sets m
      go (plain p) e moves =
          let r = plain0_sets (settled p st.addresses w) woken st p m h moves in
          (sym (field_stays st.addresses p w 89 1 refl refl refl) ∙ r.0, lifted p e m r.1 r.2)
      go nop e moves = absurd (moves refl)
      go (branch b) e moves = absurd (moves refl)
      go unlisted e moves = absurd (moves refl)

  -- The same of f0.1.
  pub flag1_sets : (m : ℕ) → m < 16 → (bit (effect w woken st).flag1 m ≡ bit st.flag1 m → ⊥) → (flag_choice w ≡ 0 → ⊥) × Sets m
  unfolding effect
  flag1_sets m h = go (operation w) refl
    where
      go : (o : Operation) → operation w ≡ o → (bit (effect_of o).flag1 m ≡ bit st.flag1 m → ⊥) → (flag_choice w ≡ 0 → ⊥) × Sets m
      go (plain p) e moves =
          let r = plain1_sets (settled p st.addresses w) woken st p m h moves in
          (λ z. r.0 (field_stays st.addresses p w 89 1 refl refl refl ∙ z), lifted p e m r.1 r.2)
      go nop e moves = absurd (moves refl)
      go (branch b) e moves = absurd (moves refl)
      go unlisted e moves = absurd (moves refl)

-- ---- channels

-- With WECtrl 0 an enabled channel is awake.
pub enabled-awake : (p : Plain) (w : ℕ) (woken : List Bool) (st : Store) (m : ℕ) → we_ctrl w ≡ 0 → enabled p w woken st m ≡ true → get_or woken m false ≡ true
unfolding enabled
enabled-awake p w woken st m z e =
    let b = (both_true (eqb (we_ctrl w) 1 || get_or woken m false) _ e).0 in rw z at b

-- A channel that a step at place p finds awake was awake, or waited there.
pub found_awake : (p : ℕ) (cs : List Channel) (m : ℕ) → get_or (map is_awake (map (wake p) cs)) m false ≡ true
    → (get_or cs m off ≡ awake) ⊎ (get_or cs m off ≡ waiting p)
unfolding wake
found_awake p [] m e = absurd (false≢true e)
found_awake p (off ∷ cs) zero e = absurd (false≢true e)
found_awake p (awake ∷ cs) zero e = inl refl
found_awake p (waiting q ∷ cs) zero e = inr (go (eqb p q) refl e)
  where
    go : (t : Bool) → eqb p q ≡ t → is_awake (cond t awake (waiting q)) ≡ true → waiting q ≡ waiting p
    go true h e = ap waiting (sym (eqb-true p q h))
    go false h e = absurd (false≢true e)
found_awake p (c ∷ cs) (suc m) e = found_awake p cs m e

-- ---- legal words

-- Each instruction of an accepted kernel is a legal word.
pub sane_at : (k : List Instr) (p : ℕ) (i : Instr) → AllSane k → fetch k p ≡ some i → Sane i.word
unfolding AllSane
sane_at = of_fetched AllSane (λ i. Sane i.word) (λ j k a. a)
