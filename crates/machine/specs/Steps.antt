-- Where a run stands, in the paper's terms, and what a step asks of the laws. Assumes nothing.
use Rattle.std.specs.Prelude.{◌≡◌, refl, Bool, List, map, ℕ, ◌<◌, length, get_or, set, replicate}
use Rattle.std.proofs.Common.{ap, sym, ◌∙◌, lit<}
use Rattle.std.proofs.lemmas.Bool.{false≢true}
use Rattle.std.proofs.lemmas.List.{get_or-replicate}
use Rattle.paper.specs.Bits.{bit}
use Rattle.paper.specs.Word.{pred_ctrl, pred_inv}
use Rattle.paper.specs.Enable.{chosen_flag}
use Rattle.paper.specs.Operation.{Plain, Branch, plain, nop, unlisted, operation}
use Rattle.paper.specs.Store.{Store}
use Rattle.paper.specs.Effect.{plain_effect, effect}
use Rattle.paper.specs.Machine.{Channel, off, State, Ways, is_awake, wake, act, pass, start_from}
use Rattle.paper.specs.State.{mask_of}
use Rattle.laws.specs.Masks.{of_bits_same, of_bits-bit}
use Rattle.lanes.specs.Masks.{awake_list}
use Rattle.lanes.specs.MaskLaws.{predicate_of, predicate_mask_less}
use Rattle.execute.specs.Awake.{awake_list_lem}
use Rattle.execute.specs.Stores.{store_of}
use Rattle.execute.specs.Readable.{Acting, effect-acting}
use Rattle.machine.specs.declared.channels.Channels.{Channels}
use Rattle.machine.specs.declared.branch.Forked.{Forked}
use Rattle.machine.specs.declared.step.Stand.{Stand}
use Rattle.machine.specs.Together.{bit_zero, either_mask}
use Rattle.machine.specs.Numbered.{same_numbered, start_numbered}
use Rattle.machine.specs.Channels.{channel_is, channels_is, Sane}
use Rattle.machine.specs.Posts.{Posted, posted_wake}
use Rattle.machine.specs.Branches.{Acts, act_by, act_mask, act_store}

-- The registers, a0, the masks by place and where a run stands are those of a state.
pub record Shows (registers addresses here : List ℕ) (s : Stand) (t : State) : Type 0 where
  pub store : store_of registers s.flags addresses ≡ t.store
  pub posted : Posted s.awake here t.channels
  pub place : s.place ≡ t.place

-- The awake channels are those of the mask.
posted-awake : (up : ℕ) (here : List ℕ) (cs : List Channel) → Posted up here cs → map is_awake cs ≡ awake_list up
unfolding mask_of
posted-awake up here cs s =
    awake_list_lem cs s.sixteen ∙ ap awake_list (of_bits_same (λ n. is_awake (get_or cs n off)) (bit up) 16 s.awakes ∙ of_bits-bit up 16 s.fits)

-- nop does nothing,
pub nop_idle : (w : ℕ) (woken : List Bool) (st : Store) → operation w ≡ nop → effect w woken st ≡ st
unfolding effect
nop_idle w woken st e = rw (effect, e)

-- nor does what is not listed.
pub unlisted_idle : (w : ℕ) (woken : List Bool) (st : Store) → operation w ≡ unlisted → effect w woken st ≡ st
unfolding effect
unlisted_idle w woken st e = rw (effect, e)

-- What goes on with the store that its effect makes does what the paper says;
pub pass_shown : (r : Stand) (up : ℕ) (here registers addresses : List ℕ) (cs : List Channel) → Posted up here cs → r.awake ≡ up
    → (p : Plain) (w : ℕ) (ways : Ways) (st : Store) → operation w ≡ plain p → Acting p w → r.place ≡ ways.next
    → (registers ≡ (plain_effect p w (awake_list up) st).registers) × (addresses ≡ (plain_effect p w (awake_list up) st).addresses)
    → (r.flags.flag0 ≡ (plain_effect p w (awake_list up) st).flag0) × (r.flags.flag1 ≡ (plain_effect p w (awake_list up) st).flag1)
    → Shows registers addresses here r (pass w ways st cs)
pass_shown r up here registers addresses cs s ea p w ways st o acting ep er ef =
    record {
      store =
          (λ i. record { registers = er.0 i; flag0 = ef.0 i; flag1 = ef.1 i; addresses = er.1 i })
          ∙ sym (effect-acting p w (awake_list up) st o acting)
          ∙ ap (λ (l : List Bool). effect w l st) (sym (posted-awake up here cs s));
      posted = rw ea s;
      place = ep;
    }

-- so does what has no effect and goes on.
pub idle_shown : (r : Stand) (up : ℕ) (here registers addresses : List ℕ) (cs : List Channel) → Posted up here cs → r.awake ≡ up
    → (w : ℕ) (ways : Ways) (st : Store) → r.place ≡ ways.next → store_of registers r.flags addresses ≡ st → effect w (map is_awake cs) st ≡ st
    → Shows registers addresses here r (pass w ways st cs)
idle_shown r up here registers addresses cs s ea w ways st ep es idle = record { store = es ∙ sym idle; posted = rw ea s; place = ep }

-- A branch does, by the mask of its predicate.
pub branch_shown : (r : Stand) (forked : Forked) (here registers addresses : List ℕ) (cs : List Channel) (b : Branch) (w : ℕ) (ways : Ways) (st : Store) → length cs ≡ 16
    → r.awake ≡ forked.awake → r.place ≡ forked.place → store_of registers r.flags addresses ≡ st
    → (mask : ℕ) → mask ≡ predicate_of w st → Acts forked here (act_by b (bit mask) ways st cs) → Shows registers addresses here r (act b w ways st cs)
branch_shown r forked here registers addresses cs b w ways st l ea ep es mask em acts =
    rw (act_mask cs l b w ways st, ← em)
    (record { store = es ∙ sym (act_store b (bit mask) ways st cs); posted = rw ea acts.posted; place = ep ∙ acts.place })

-- The mask of a predicate has 16 bits.
pub predicate_less : (w : ℕ) (st : Store) → predicate_of w st < 65536
predicate_less w st = predicate_mask_less (pred_ctrl w) (pred_inv w) (chosen_flag w st)

-- A step first wakes those that wait at its place.
pub step_shown : (registers addresses here : List ℕ) (s : Stand) (t : State) → Shows registers addresses here s t → s.place < length here → (up : ℕ) (after : List ℕ)
    → up ≡ either_mask s.awake (get_or here s.place 0) → after ≡ set here s.place 0 → Posted up after (map (wake s.place) t.channels)
step_shown registers addresses here s t shows h up after eu ea = rw (eu, ea) (posted_wake s.awake here t.channels shows.posted s.place h)

-- ---- a start

-- Sixteen channels of which none waits.
abbrev pub start_channels : ℕ → Channels
start_channels mask = record { awake = mask; waiting = 0; places = replicate 16 0 }

pub start_channels_lem : (mask : ℕ) → channels_is (start_channels mask) ≡ start_from mask 0 16
unfolding channels_is channel_is
start_channels_lem mask =
    same_numbered (channel_is (start_channels mask)) _ (λ k q. rw (bit_zero k)) ∙ sym (start_numbered mask 0 16)

pub start_sane : (mask : ℕ) → mask < 65536 → Sane (start_channels mask)
start_sane mask h =
    record {
      sixteen = refl;
      awake_fits = h;
      waiting_fits = lit< tt;
      apart = λ k q e. absurd (false≢true (sym (bit_zero k) ∙ e));
      zeros = λ k q e. get_or-replicate {A = ℕ} 16 k 0 0 q;
      fits = λ k q. rw (get_or-replicate {A = ℕ} 16 k 0 0 q) (lit< tt);
    }
