-- What a step that answers 0 changes: register bytes of its enabled channels, flag bits of theirs, a0 where a mov goes there. Assumes nothing.
use Rattle.std.specs.Prelude.{Bool, true, false, cond, List, map, ◌≡◌, ℕ, length, get_or}
use Rattle.std.proofs.Math.Option.{Option, none, some, some-ne-none}
use Rattle.std.proofs.Math.Path.{refl, sym, ap}
use Rattle.std.proofs.Common.{◌∙◌, arith}
use Rattle.std.proofs.Math.Pow.{are_bytes}
use Rattle.paper.specs.Bits.{bit}
use Rattle.paper.specs.Word.{we_ctrl}
use Rattle.paper.specs.Operation.{Plain, Operation, plain, nop, branch, unlisted, operation}
use Rattle.paper.specs.Store.{Store}
use Rattle.paper.specs.Enable.{channel_of}
use Rattle.paper.specs.Address.{settled, address_broken, address_stops}
use Rattle.paper.specs.Effect.{is_on, effect}
use Rattle.paper.specs.Kernel.{Instr, long_and_short, good}
use Rattle.paper.specs.Jump.{fetch}
use Rattle.paper.specs.Machine.{State, wake, is_awake, stops_on, step}
use Rattle.paper.specs.State.{half, channels_in, addresses_in, state_of}
use Rattle.paper.specs.Calls.{accepted}
use Rattle.laws.specs.Places.{found}
use Rattle.laws.specs.Finish.{step-store}
use Rattle.laws.specs.Regions.{LegalPlain, legal_plain}
use Rattle.laws.specs.SettledLegal.{settled_legal}
use Rattle.laws.specs.Changes.{Writes, effect_writes, effect-length, effect_keeps, flag0_sets, flag1_sets, enabled-awake, found_awake, sane_at}
use Rattle.laws.specs.Packing.{kernel_of_lem}
use Rattle.laws.specs.AddressWrites.{Moves, effect_moves}
use Rattle.contracts.specs.Contracts.{number_in, StepPromise}
use Rattle.promises.specs.Finishing.{Up, woken_in, store_in, Stepped}
use Rattle.promises.specs.OutcomesHold.{answers}
use Rattle.promises.specs.Stepping.{Goes, follows, lent-accepted, lent_sane, step_leaves}

module _ (dictionary kernel registers state : List ℕ) (right : are_bytes kernel ≡ true) (small : are_bytes state ≡ true)
    (r : ℕ) (registers' state' : List ℕ) (p : StepPromise dictionary kernel registers state r registers' state') (answered : number_in r ≡ 0) where
  abbrev before : State
  before = state_of registers state

  -- Nothing that is lent is refused, and the state does not stand at the end.
  goes : Goes dictionary kernel registers state
  goes =
      (follows dictionary kernel registers state right small 0 (omega arith)).goes
      (sym (answers.step dictionary kernel registers state r registers' state' p).number ∙ answered)

  abbrev kernel_of : accepted long_and_short dictionary kernel ≡ good goes.instrs
  kernel_of = lent-accepted dictionary kernel registers state right small goes.instrs goes.ready

  -- What stands there is made.
  module _ (i : Instr) (here : fetch goes.instrs (half state 4) ≡ some i) where
    abbrev now : Store
    now = store_in registers state

    -- The store afterwards is that of the instruction's effect.
    after : store_in registers' state' ≡ effect i.word (woken_in state) now
    unfolding state_of
    after =
        let k = goes.instrs in
        let laid = (kernel_of_lem long_and_short dictionary kernel right k kernel_of).sound.laid in
        let left : state_of registers' state' ≡ step k before =
        (λ j. state_of (p.1 j) (p.2 j)) ∙ step_leaves dictionary kernel registers state right small k goes.ready goes.on in
        ap (λ (s : State). s.store) left
        ∙ step-store k before i here
        ∙ ap (λ (q : ℕ). effect i.word (map is_awake (map (wake q) (channels_in state 0 16))) now) (found 0 k (half state 4) i laid here).starts

    -- A channel that is enabled with WECtrl 0 is up.
    enabled_up : we_ctrl i.word ≡ 0 → (q : Plain) (n : ℕ) → is_on q i.word (woken_in state) now n ≡ true → Up state (channel_of i.word n)
    enabled_up z q n on =
        found_awake (half state 4) (channels_in state 0 16) (channel_of i.word n)
        (enabled-awake q i.word (woken_in state) now (channel_of i.word n) z on)

    writes : (b : ℕ) → (get_or registers' b 0 ≡ get_or registers b 0 → ⊥) → Writes i.word (woken_in state) now b
    writes b differs = effect_writes i.word (woken_in state) now b (λ e. differs (ap (λ (s : Store). get_or s.registers b 0) after ∙ e))

    -- A channel that is not up is not enabled.
    down : we_ctrl i.word ≡ 0 → (q : Plain) (n : ℕ) → (Up state (channel_of i.word n) → ⊥) → is_on q i.word (woken_in state) now n ≡ false
    down z q n asleep = go (is_on q i.word (woken_in state) now n) refl
      where
        go : (t : Bool) → is_on q i.word (woken_in state) now n ≡ t → t ≡ false
        go true e = absurd (asleep (enabled_up z q n e))
        go false e = refl

    -- It is a legal word,
    legal : (q : Plain) → operation i.word ≡ plain q → LegalPlain q i.word
    legal q e =
        let k = goes.instrs in
        legal_plain q i.word e (sane_at k (half state 4) i (lent_sane dictionary kernel registers state right small k goes.ready) here).legal.passes

    -- no address of which is broken,
    whole : (q : Plain) → operation i.word ≡ plain q → address_broken q (addresses_in state) i.word ≡ false
    unfolding state_of address_stops
    whole q e = by (address_broken q (addresses_in state) i.word) refl
      where
        on : stops_on (some i) (addresses_in state) ≡ none
        on = sym (ap (λ (o : Option Instr). stops_on o (addresses_in state)) here) ∙ goes.on

        broken : (o : Operation) → Bool
        broken o = elim o [ plain p ↦ address_broken p (addresses_in state) i.word | nop ↦ false | branch b ↦ false | unlisted ↦ false ]

        by : (t : Bool) → address_broken q (addresses_in state) i.word ≡ t → t ≡ false
        by false h = refl
        by true h =
            absurd (some-ne-none 22 (sym (ap (λ (t : Bool). cond t (some 22) none) (ap broken e ∙ h)) ∙ on))

    -- and so it is where its operands are named directly.
    settled_there : (q : Plain) → operation i.word ≡ plain q → LegalPlain q (settled q (addresses_in state) i.word)
    settled_there q e = settled_legal (addresses_in state) q i.word (legal q e) (whole q e)

    -- A byte of a0 that changed was moved there.
    moves : (b : ℕ) → (get_or (addresses_in state') b 0 ≡ get_or (addresses_in state) b 0 → ⊥) → Moves i.word (woken_in state) now b
    moves b differs = effect_moves i.word (woken_in state) now legal b (λ e. differs (ap (λ (st : Store). get_or st.addresses b 0) after ∙ e))

    stepped : Stepped dictionary kernel registers state registers' state'
    stepped =
        let k = goes.instrs in
        record {
          instrs = k;
          taken = kernel_of;
          instr = i;
          here = here;
          bytes = writes;
          masked = λ z b differs. enabled_up z (writes b differs).operator (writes b differs).channel (writes b differs).on;
          idle = λ z q e stores n asleep b low high.
              ap (λ (s : Store). get_or s.registers b 0) after
              ∙ effect_keeps i.word (woken_in state) now q e (settled_there q e) stores n (down z q n asleep) b low high;
          whole = ap (λ (s : Store). length s.registers) after ∙ effect-length i.word (woken_in state) now;
          flag0 = λ m h differs. flag0_sets i.word (woken_in state) now m h (λ e. differs (ap (λ (s : Store). bit s.flag0 m) after ∙ e));
          flag1 = λ m h differs. flag1_sets i.word (woken_in state) now m h (λ e. differs (ap (λ (s : Store). bit s.flag1 m) after ∙ e));
          addresses = moves;
          addresses_masked = λ z b differs. enabled_up z Plain.mov (moves b differs).channel (moves b differs).on;
        }

  pub step_changes : Stepped dictionary kernel registers state registers' state'
  unfolding state_of
  step_changes = go (fetch goes.instrs (half state 4)) refl
    where
      go : (o : Option Instr) → fetch goes.instrs (half state 4) ≡ o → Stepped dictionary kernel registers state registers' state'
      go (some i) e = stepped i e
      go none e = absurd (some-ne-none 20 (sym (ap (λ (t : Option Instr). stops_on t (addresses_in state)) e) ∙ goes.on))
