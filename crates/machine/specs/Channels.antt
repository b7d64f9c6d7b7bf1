-- The paper's channels that the code holds as two masks and sixteen places. Assumes nothing.
use Rattle.std.specs.Prelude.{◌≡◌, refl, Bool, true, false, cond, ◌&&◌, List, ℕ, ◌<◌, eqb, length, get_or}
use Rattle.std.proofs.Common.{sym}
use Rattle.paper.specs.Bits.{bit}
use Rattle.paper.specs.Machine.{Channel, off, awake, waiting, is_awake, waits_at}
use Rattle.paper.specs.State.{is_waiting, place_in}
use Rattle.machine.specs.declared.channels.Channels.{Channels}
use Rattle.machine.specs.Numbered.{numbered}

-- Channel n waits at its place where its waiting bit is set; else it is awake where its awake bit is set, and off where it is not.
unfoldable pub channel_is : Channels → ℕ → Channel
channel_is c n = cond (bit c.waiting n) (waiting (get_or c.places n 0)) (cond (bit c.awake n) awake off)

-- All sixteen.
unfoldable pub channels_is : Channels → List Channel
channels_is c = numbered (channel_is c) 0 16

-- What the code keeps of its channels: masks and places of 16 bits, no channel both awake and waiting, and place 0 for one that does not wait.
pub record Sane (c : Channels) : Type 0 where
  pub sixteen : length c.places ≡ 16
  pub awake_fits : c.awake < 65536
  pub waiting_fits : c.waiting < 65536
  pub apart : (k : ℕ) → k < 16 → bit c.waiting k ≡ true → bit c.awake k ≡ false
  pub zeros : (k : ℕ) → k < 16 → bit c.waiting k ≡ false → get_or c.places k 0 ≡ 0
  pub fits : (k : ℕ) → k < 16 → get_or c.places k 0 < 65536

-- ---- what the masks and places say of a channel

awake_of : (w a : Bool) (p : ℕ) → (w ≡ true → a ≡ false) → is_awake (cond w (waiting p) (cond a awake off)) ≡ a
awake_of true a p h = sym (h refl)
awake_of false true p h = refl
awake_of false false p h = refl

waiting_of : (w a : Bool) (p : ℕ) → is_waiting (cond w (waiting p) (cond a awake off)) ≡ w
waiting_of true a p = refl
waiting_of false true p = refl
waiting_of false false p = refl

place_of : (w a : Bool) (p : ℕ) → (w ≡ false → p ≡ 0) → place_in (cond w (waiting p) (cond a awake off)) ≡ p
place_of true a p h = refl
place_of false true p h = sym (h refl)
place_of false false p h = sym (h refl)

waits_of : (w a : Bool) (p q : ℕ) → waits_at q (cond w (waiting p) (cond a awake off)) ≡ (w && eqb q p)
waits_of true a p q = refl
waits_of false true p q = refl
waits_of false false p q = refl

module _ (c : Channels) (s : Sane c) (k : ℕ) (q : k < 16) where
  -- It is awake where its awake bit is set,
  pub awake_is : is_awake (channel_is c k) ≡ bit c.awake k
  unfolding channel_is
  awake_is = awake_of (bit c.waiting k) (bit c.awake k) (get_or c.places k 0) (s.apart k q)

  -- waits where its waiting bit is set,
  pub waiting_is : is_waiting (channel_is c k) ≡ bit c.waiting k
  unfolding channel_is
  waiting_is = waiting_of (bit c.waiting k) (bit c.awake k) (get_or c.places k 0)

  -- at its place,
  pub place_is : place_in (channel_is c k) ≡ get_or c.places k 0
  unfolding channel_is
  place_is = place_of (bit c.waiting k) (bit c.awake k) (get_or c.places k 0) (s.zeros k q)

  -- and at no other.
  pub waits_is : (place : ℕ) → waits_at place (channel_is c k) ≡ (bit c.waiting k && eqb place (get_or c.places k 0))
  unfolding channel_is
  waits_is place = waits_of (bit c.waiting k) (bit c.awake k) (get_or c.places k 0) place
