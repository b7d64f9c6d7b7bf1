-- What a legal word gives the code of this crate: channels below 16; and its masks as the paper's effect needs them.
-- Assumes nothing.
use Rattle.std.specs.Prelude.{◌≡◌, refl, Bool, true, false, ◌&&◌, ◌||◌, List, ◌⊎◌, ℕ, ◌+◌, ◌*◌, ◌^◌, ◌≤◌, ◌<◌, eqb, leb, get_or}
use Rattle.std.proofs.Common.{inl, inr, ⊎_elim, arith, pow_mono, eqb-true, leb-true}
use Rattle.paper.specs.Bits.{bit}
use Rattle.paper.specs.Word.{access_mode, acc_wr_ctrl, exec_size, qtr_ctrl}
use Rattle.paper.specs.Operation.{Plain, traits}
use Rattle.paper.specs.Region.{channels}
use Rattle.paper.specs.Legal.{quarter_served, control_served, plain_served}
use Rattle.paper.specs.Store.{Store}
use Rattle.paper.specs.Enable.{channel_of, enabled, flag_after}
use Rattle.paper.specs.Effect.{scattered, is_on}
use Rattle.laws.specs.Truth.{both_true}
use Rattle.laws.specs.Scatter.{scattered_same}
use Rattle.lanes.specs.Masks.{quarter_mask}
use Rattle.lanes.specs.MaskLaws.{enable_of, bit_enable, bit_on}
use Rattle.lanes.specs.FlagLaws.{flag_same}

-- ---- channels

-- Of a true disjunction a part is true.
either : (a b : Bool) → (a || b) ≡ true → (a ≡ true) ⊎ (b ≡ true)
either true b e = inl refl
either false b e = inr e

-- A quarter that is served ends with channel 15 or before.
quarter_ends : (quarter code : ℕ) → code ≤ 4 → (eqb quarter 0 || (eqb quarter 1 && eqb code 3)) ≡ true → 8 * quarter + 2 ^ code ≤ 16
quarter_ends quarter code h e =
    ⊎_elim
    (λ q. omega (arith, eqb-true quarter 0 q, pow_mono {i = code} {j = 4} h))
    (λ q. let b = both_true (eqb quarter 1) (eqb code 3) q in
    omega (arith, eqb-true quarter 1 b.0, pow_mono {i = code} {j = 3} (omega (arith, eqb-true code 3 b.1))))
    (either (eqb quarter 0) (eqb quarter 1 && eqb code 3) e)

-- A word's channels end before 16 if its control fields are served.
pub served_channels : (compares saturates : Bool) (w : ℕ) → control_served compares saturates w ≡ true → channel_of w 0 + channels w ≤ 16
unfolding control_served
served_channels compares saturates w e =
    let a = both_true (eqb (access_mode w) 0) _ e in
    let b = both_true (eqb (acc_wr_ctrl w) 0) _ a.1 in
    let c = both_true (leb (exec_size w) 4) _ b.1 in
    let d = both_true (quarter_served w) _ c.1 in
    omega (arith, quarter_ends (qtr_ctrl w) (exec_size w) (leb-true (exec_size w) 4 c.0) d.0)

-- A plain word's control fields are served.
pub plain_control : (p : Plain) (w : ℕ) → plain_served p w ≡ true → control_served (traits p).compares (traits p).saturates w ≡ true
unfolding plain_served
plain_control p w e = (both_true (control_served (traits p).compares (traits p).saturates w) _ e).0

-- So its channels end before 16.
pub plain_channels : (p : Plain) (w : ℕ) → plain_served p w ≡ true → channel_of w 0 + channels w ≤ 16
plain_channels p w e = served_channels (traits p).compares (traits p).saturates w (plain_control p w e)

-- ---- the masks in the effect of an instruction

module _ (w : ℕ) (st : Store) (awake : List Bool) (mask : ℕ) (fits : channel_of w 0 + channels w ≤ 16)
    (agrees : (m : ℕ) → m < 16 → get_or awake m false ≡ bit mask m) where
  -- Stores by the mask of a word's enabled channels are those that the paper makes.
  pub scattered_masked : (p : Plain) (l : List ℕ) (element : ℕ → ℕ) (size : ℕ) (pattern : ℕ → ℕ)
      → scattered l element size (bit (quarter_mask (enable_of p w mask st) (qtr_ctrl w))) pattern (channels w)
      ≡ scattered l element size (is_on p w awake st) pattern (channels w)
  scattered_masked p l element size pattern =
      scattered_same l element size (bit (quarter_mask (enable_of p w mask st) (qtr_ctrl w))) (is_on p w awake st) pattern pattern (channels w)
      (λ n h. bit_on p w awake mask st n (omega arith) (agrees (channel_of w n) (omega arith)))
      (λ n h. refl)

  -- A flag by the masks of the enabled channels and of what was found for each is the one that the paper makes.
  pub flag_masked : (p : Plain) (old result : ℕ) (found : ℕ → Bool)
      → ((m : ℕ) → channel_of w 0 ≤ m → m < channel_of w 0 + channels w → bit result m ≡ found m)
      → flag_after old (channel_of w 0) (channels w) (bit (enable_of p w mask st)) (bit result)
      ≡ flag_after old (channel_of w 0) (channels w) (enabled p w awake st) found
  flag_masked p old result found h =
      flag_same old (channel_of w 0) (channels w) (bit (enable_of p w mask st)) (enabled p w awake st) (bit result) found
      (λ m from before less. (bit_enable p w awake mask st m less (agrees m less), h m from before))
