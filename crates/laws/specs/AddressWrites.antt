-- What an instruction may change of a0 (02 §7, §14): bytes of the destination elements of its enabled channels, and only if it is a mov to a0. Assumes nothing.
use Rattle.std.specs.Prelude.{Bool, true, false, cond, ◌&&◌, ◌||◌, ◌≡◌, eqb, get_or}
use Rattle.std.proofs.lemmas.Bool.{false≢true}
use mathlib.Core.List.{List}
use Rattle.std.proofs.Math.Path.{refl}
use Rattle.std.proofs.Common.{sym, ap, ◌∙◌, subst, eqb-true}
use Prim.Native.Nat.{ℕ, ◌+◌, ◌*◌, ◌<◌, ◌≤◌}
use Rattle.paper.specs.Bits.{bits}
use Rattle.paper.specs.Word.{Source, src0, src1, shift_of, dst_file, dst_addr_mode, grf, arf, a0, is_null, dst_is_a0, dst_by_address}
use Rattle.paper.specs.Value.{size_of}
use Rattle.paper.specs.Operation.{Plain, Operation, plain, nop, branch, unlisted, operation, traits}
use Rattle.paper.specs.Region.{stride_of, channels, register_at, dst_size, dst_element}
use Rattle.paper.specs.Store.{Store}
use Rattle.paper.specs.Address.{settled}
use Rattle.paper.specs.Effect.{scattered, channel_stores, is_on, addresses_after, plain_effect, effect}
use Rattle.paper.specs.Legal.{control_served, dst_served, plain_served}
use Rattle.laws.specs.Addresses.{only_mov}
use Rattle.laws.specs.Regions.{LegalPlain}
use Rattle.laws.specs.Scatter.{scattered_changed}
use Rattle.laws.specs.Settled.{spares, settled_field, channels-settled, enabled-settled}
use Rattle.laws.specs.SettledLegal.{dst_a0_same}
use Rattle.laws.specs.Truth.{both_true}

-- Word w is a mov to a0, and an enabled channel of it has byte b of a0 in its destination element.
pub record Moves (w : ℕ) (woken : List Bool) (st : Store) (b : ℕ) : Type 0 where
  pub is : operation w ≡ plain Plain.mov
  pub there : dst_is_a0 w ≡ true
  pub channel : ℕ
  pub counted : channel < channels w
  pub on : is_on Plain.mov w woken st channel ≡ true
  pub from : dst_element w channel ≤ b
  pub to : b < dst_element w channel + dst_size w

-- A legal word whose destination is a0 names it directly,
directly : (p : Plain) (w : ℕ) → LegalPlain p w → dst_is_a0 w ≡ true → dst_by_address w ≡ false
unfolding plain_served dst_served
directly p w legal e =
    let a = both_true (control_served (traits p).compares (traits p).saturates w) _ legal.served in
    let b = both_true (dst_served w) _ a.1 in
    let c = both_true (eqb (dst_file w) grf || ((is_null w || dst_is_a0 w) && eqb (dst_addr_mode w) 0)) _ b.0 in
    let file : dst_file w ≡ arf = eqb-true (dst_file w) arf (both_true (eqb (dst_file w) arf) _ e).0 in
    let other : eqb (dst_file w) grf ≡ false = rw file in
    go (eqb (dst_file w) grf) other c.0
  where
    go : (t : Bool) → t ≡ false → (t || ((is_null w || dst_is_a0 w) && eqb (dst_addr_mode w) 0)) ≡ true → dst_by_address w ≡ false
    go true f g = absurd (false≢true (sym f))
    go false f g = rw (eqb-true (dst_addr_mode w) 0 (both_true (is_null w || dst_is_a0 w) _ g).1)

-- and so writes where it does once its sources are named directly.
module _ (addresses : List ℕ) (p : Plain) (w : ℕ) (named : dst_by_address w ≡ false) where
  -- A field of the destination stays,
  kept : (lo n : ℕ) → spares 64 lo n ≡ true → spares 96 lo n ≡ true → bits (settled p addresses w) lo n ≡ bits w lo n
  kept lo n s t = settled_field addresses p w lo n (λ e. absurd (false≢true (sym named ∙ e))) (λ x m e. each x)
    where
      each : (x : Source) → spares (64 + shift_of x) lo n ≡ true
      each src0 = s
      each src1 = t

  -- so its size,
  size_kept : dst_size (settled p addresses w) ≡ dst_size w
  size_kept = ap size_of (kept 34 3 refl refl)

  -- and each of its elements.
  element_kept : (n : ℕ) → dst_element (settled p addresses w) n ≡ dst_element w n
  element_kept n =
      λ i. register_at (eqb (kept 32 2 refl refl i) arf && eqb (kept 53 8 refl refl i) a0) (kept 53 8 refl refl i) + kept 48 5 refl refl i
      + n * stride_of (kept 61 2 refl refl i) * size_kept i

module _ (w : ℕ) (woken : List Bool) (st : Store) (legal : (p : Plain) → operation w ≡ plain p → LegalPlain p w) where
  -- An operation whose byte of a0 is not as it was.
  plain_moves : (p : Plain) → operation w ≡ plain p → (b : ℕ)
      → (get_or (addresses_after p (settled p st.addresses w) woken st) b 0 ≡ get_or st.addresses b 0 → ⊥) → Moves w woken st b
  unfolding addresses_after
  plain_moves p e b = go (dst_is_a0 v) refl
    where
      v : ℕ
      v = settled p st.addresses w

      written : List ℕ
      written = scattered st.addresses (dst_element v) (dst_size v) (is_on p v woken st) (channel_stores p v st) (channels v)

      go : (t : Bool) → dst_is_a0 v ≡ t → (get_or (cond t written st.addresses) b 0 ≡ get_or st.addresses b 0 → ⊥) → Moves w woken st b
      go false q differs = absurd (differs refl)
      go true q differs =
          let r = scattered_changed st.addresses (dst_element v) (dst_size v) (is_on p v woken st) (channel_stores p v st) (channels v) b differs in
          let a : dst_is_a0 w ≡ true = sym (dst_a0_same st.addresses p w (legal p e)) ∙ q in
          let n = directly p w (legal p e) a in
          let mov = only_mov p w (legal p e) a in
          let on : is_on p w woken st r.0 ≡ true = ap (λ (f : ℕ → Bool). f r.0) (sym (enabled-settled st.addresses p w p woken st)) ∙ r.2 in
          record {
            is = e ∙ ap plain mov;
            there = a;
            channel = r.0;
            counted = subst (λ (c : ℕ). r.0 < c) (channels-settled st.addresses p w) r.1;
            on = subst (λ (q : Plain). is_on q w woken st r.0 ≡ true) mov on;
            from = subst (λ (c : ℕ). c ≤ b) (element_kept st.addresses p w n r.0) r.3;
            to = rw (← element_kept st.addresses p w n r.0, ← size_kept st.addresses p w n) r.4;
          }

  -- A byte of a0 that is not as it was lies in an enabled channel's destination element of a mov to a0.
  pub effect_moves : (b : ℕ) → (get_or (effect w woken st).addresses b 0 ≡ get_or st.addresses b 0 → ⊥) → Moves w woken st b
  unfolding effect plain_effect
  effect_moves b = go (operation w) refl
    where
      after : Operation → Store
      after o = elim o [ plain p ↦ plain_effect p (settled p st.addresses w) woken st | nop ↦ st | branch c ↦ st | unlisted ↦ st ]

      go : (o : Operation) → operation w ≡ o → (get_or (after o).addresses b 0 ≡ get_or st.addresses b 0 → ⊥) → Moves w woken st b
      go (plain p) e differs = plain_moves p e b differs
      go nop e differs = absurd (differs refl)
      go (branch c) e differs = absurd (differs refl)
      go unlisted e differs = absurd (differs refl)
