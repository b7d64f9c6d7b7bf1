-- 15 against a test of places, where the paper tests the instructions themselves. Assumes nothing.
use Rattle.std.specs.Prelude.{Bool, cond, ◌&&◌, ◌≡◌, get_or}
use Rattle.std.proofs.Math.Bool.{true, false, and-true, and-false}
use Rattle.std.proofs.lemmas.Bool.{false≢true}
use mathlib.Core.List.{List, [], ◌∷◌}
use Rattle.std.proofs.Math.Path.{refl, sym, ap₂}
use Rattle.std.proofs.Common.{ap, ◌∙◌, eqb-true, eq-eqb}
use Prim.Native.Nat.{ℕ, zero, suc, ◌+◌, ◌-◌, ◌<◌, ◌≤◌}
use native.Mathlib.Omega.{arith}
use Rattle.std.proofs.Math.Numerals.{add-one}
use Rattle.paper.specs.Bits.{bit}
use Rattle.paper.specs.Kernel.{Instr}
use Rattle.paper.specs.Jump.{lands}
use Rattle.paper.specs.Machine as paper
use Rattle.paper.specs.Machine.{Channel, off, awake, waiting, waits_at}
use Rattle.paper.specs.State.{addresses_in, half, channels_in, state_of, all_three, waits_land, state_legal}
use Rattle.laws.specs.Truth.{both_true}
use Rattle.machine.specs.declared.channels.Channels.{Channels}
use Rattle.machine.specs.declared.state.State.{State}
use Rattle.machine.specs.Numbered.{numbered}
use Rattle.machine.specs.Channels.{channel_is, channels_is}
use Rattle.machine.specs.States.{state_is}

-- Each channel that waits does so at a place of which the test `land` holds.
unfoldable pub waits_by : (ℕ → Bool) → List Channel → Bool
waits_by land [] = true
waits_by land (off ∷ cs) = waits_by land cs
waits_by land (awake ∷ cs) = waits_by land cs
waits_by land (waiting p ∷ cs) = land p && waits_by land cs

-- The state that the bytes write has only such places, and its channels are each one of the three.
unfoldable pub legal_by : (ℕ → Bool) → List ℕ → Bool
legal_by land bytes = all_three bytes 16 && (land (half bytes 4) && waits_by land (channels_in bytes 0 16))

-- ---- the paper's test

module _ (land : ℕ → Bool) (k : List Instr) (same : (p : ℕ) → land p ≡ lands k p) where
  waits_same : (cs : List Channel) → waits_by land cs ≡ waits_land k cs
  unfolding waits_by waits_land
  waits_same [] = refl
  waits_same (off ∷ cs) = waits_same cs
  waits_same (awake ∷ cs) = waits_same cs
  waits_same (waiting p ∷ cs) = ap₂ (λ (x y : Bool). x && y) (same p) (waits_same cs)

  pub legal_same : (registers bytes : List ℕ) → legal_by land bytes ≡ state_legal k registers bytes
  unfolding legal_by state_legal state_of
  legal_same registers bytes = rw (same (half bytes 4), waits_same (channels_in bytes 0 16))

-- A channel that waits in a list of which all do so at an instruction's start or at the end does so there.
pub waits_lands : (k : List Instr) (cs : List Channel) → waits_land k cs ≡ true → (n p : ℕ) → get_or cs n off ≡ waiting p → lands k p ≡ true
unfolding waits_land
waits_lands k [] e n p f = absurd (false≢true (ap (waits_at p) f ∙ eq-eqb p p refl))
waits_lands k (off ∷ cs) e zero p f = absurd (false≢true (ap (waits_at p) f ∙ eq-eqb p p refl))
waits_lands k (off ∷ cs) e (suc n) p f = waits_lands k cs e n p f
waits_lands k (awake ∷ cs) e zero p f = absurd (false≢true (ap (waits_at p) f ∙ eq-eqb p p refl))
waits_lands k (awake ∷ cs) e (suc n) p f = waits_lands k cs e n p f
waits_lands k (waiting q ∷ cs) e zero p f =
    let same : p ≡ q = eqb-true p q (ap (waits_at p) f ∙ eq-eqb p p refl) in
    ap (lands k) same ∙ (both_true (lands k q) (waits_land k cs) e).0
waits_lands k (waiting q ∷ cs) e (suc n) p f = waits_lands k cs (both_true (lands k q) (waits_land k cs) e).1 n p f

-- ---- channel by channel, as the code goes

module _ (land : ℕ → Bool) (c : Channels) where
  -- What is left from channel n on.
  unfoldable pub waits_from : ℕ → Bool
  waits_from n = waits_by land (numbered (channel_is c) n (16 - n))

  pub waits_all : waits_by land (channels_is c) ≡ waits_from 0
  unfolding waits_from channels_is
  waits_all = refl

  pub waits_none : (n : ℕ) → 16 ≤ n → waits_from n ≡ true
  unfolding waits_from waits_by numbered
  waits_none n h = let e : 16 - n ≡ 0 = omega arith in rw e

  one_more : (w a : Bool) (p : ℕ) (cs : List Channel)
      → waits_by land (cond w (waiting p) (cond a awake off) ∷ cs) ≡ (cond w (land p) true && waits_by land cs)
  unfolding waits_by
  one_more true a p cs = refl
  one_more false true p cs = refl
  one_more false false p cs = refl

  waits_turn : (n : ℕ) → n < 16 → waits_from n ≡ (cond (bit c.waiting n) (land (get_or c.places n 0)) true && waits_from (n + 1))
  unfolding waits_from numbered channel_is
  waits_turn n h =
      let e : 16 - n ≡ suc (16 - suc n) = omega arith in
      rw (e, add-one n) (one_more (bit c.waiting n) (bit c.awake n) (get_or c.places n 0) (numbered (channel_is c) (suc n) (16 - suc n)))

  module _ (n : ℕ) (h : n < 16) where
    -- Channel n waits at no such place.
    pub waits_out : cond (bit c.waiting n) (land (get_or c.places n 0)) true ≡ false → waits_from n ≡ false
    waits_out e = waits_turn n h ∙ rw e

    -- It waits at one, or does not wait.
    pub waits_on : cond (bit c.waiting n) (land (get_or c.places n 0)) true ≡ true → waits_from n ≡ waits_from (n + 1)
    waits_on e = waits_turn n h ∙ rw e

-- ---- the test, of a state that was read from the bytes, part by part as the code goes

module _ (land : ℕ → Bool) (bytes : List ℕ) (s : State) (read : state_is [] (addresses_in bytes) s ≡ state_of [] bytes) where
  by_parts : legal_by land bytes ≡ (all_three bytes 16 && (land s.place && waits_by land (channels_is s.channels)))
  unfolding legal_by state_of
  by_parts =
      let at : half bytes 4 ≡ s.place = sym (ap (λ (x : paper.State). x.place) read) in
      let own : channels_in bytes 0 16 ≡ channels_is s.channels = sym (ap (λ (x : paper.State). x.channels) read) in
      rw (at, own)

  pub legal_misplaced : land s.place ≡ false → legal_by land bytes ≡ false
  legal_misplaced h = by_parts ∙ rw h (and-false (all_three bytes 16))

  module _ (placed : land s.place ≡ true) where
    pub legal_unrested : waits_by land (channels_is s.channels) ≡ false → legal_by land bytes ≡ false
    legal_unrested h = by_parts ∙ rw (placed, h) (and-false (all_three bytes 16))

    pub legal_rested : waits_by land (channels_is s.channels) ≡ true → legal_by land bytes ≡ all_three bytes 16
    legal_rested h = by_parts ∙ rw (placed, h) (and-true (all_three bytes 16))
