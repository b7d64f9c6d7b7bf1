-- Which channels an instruction works on: predicates and enabled channels; and what cmp leaves in a flag (the paper, "Operations"). Assumes nothing.
use Rattle.std.specs.Prelude.{Bool, true, false, not, cond, ◌&&◌, ◌||◌, List, ℕ, zero, suc, ◌+◌, ◌*◌, ◌/◌, ◌%◌, eqb, ltb, leb, get_or}
use Rattle.paper.specs.Bits.{bit, ◌at◌}
use Rattle.paper.specs.Word.{we_ctrl, qtr_ctrl, pred_ctrl, pred_inv, flag_choice}
use Rattle.paper.specs.Operation.{Plain, traits}
use Rattle.paper.specs.Store.{Store}

-- ---- the predicate

abbrev pub chosen_flag : ℕ → Store → ℕ
chosen_flag w st = cond (eqb (flag_choice w) 0) st.flag0 st.flag1

-- How many channels vote together, by PredCtrl: 2 with codes 4 and 5, 4 with 6 and 7, 8 with 8 and 9, 16 with 10 and 11. With code 1 each channel is alone, a
-- group of one. (000, table 7-4; codes 2, 3 and 12 to 15 are not served.)
unfoldable pub group_of : ℕ → ℕ
group_of control = cond (ltb control 4) 1 (cond (ltb control 6) 2 (cond (ltb control 8) 4 (cond (ltb control 10) 8 16)))

-- Some bit of the n bits of a flag from bit k on is 1.
unfoldable pub any_bit : ℕ → ℕ → ℕ → Bool
any_bit flag k zero = false
any_bit flag k (suc n) = any_bit flag k n || bit flag (k + n)

-- Every bit of the n bits of a flag from bit k on is 1.
unfoldable pub all_bits : ℕ → ℕ → ℕ → Bool
all_bits flag k zero = true
all_bits flag k (suc n) = all_bits flag k n && bit flag (k + n)

-- The first channel of channel m's group, the groups being of g channels each from channel 0 on.
abbrev pub group_start : ℕ → ℕ → ℕ
group_start g m = m / g * g

-- How channel m's group votes by its bits of a flag, whether its channels are enabled or not: any with an even PredCtrl, all with an odd one.
unfoldable pub vote : ℕ → ℕ → ℕ → Bool
vote control flag m =
    let g = group_of control in
    cond (eqb (control % 2) 0) (any_bit flag (group_start g m) g) (all_bits flag (group_start g m) g)

-- The predicate of channel m by PredCtrl, PredInv and the flag: with PredCtrl 0 it holds; else it is the vote of the channel's group, inverted if PredInv
-- is 1.
unfoldable pub predicate : ℕ → ℕ → ℕ → ℕ → Bool
predicate control inversion flag m =
    let v = vote control flag m in
    cond (eqb control 0) true (cond (eqb inversion 1) (not v) v)

-- The predicate of channel m in a word.
unfoldable pub holds : ℕ → Store → ℕ → Bool
holds w st m = predicate (pred_ctrl w) (pred_inv w) (chosen_flag w st) m

-- ---- enabled channels

-- The second quarter adds 8 to the channel number for mask and flags.
abbrev pub channel_of : ℕ → ℕ → ℕ
channel_of w n = 8 * qtr_ctrl w + n

-- Channel m is awake, or WECtrl is 1.
abbrev pub unmasked : ℕ → List Bool → ℕ → Bool
unmasked w awake m = eqb (we_ctrl w) 1 || get_or awake m false

-- Channel m is enabled: unmasked, and its predicate, if it masks, holds.
unfoldable pub enabled : Plain → ℕ → List Bool → Store → ℕ → Bool
enabled p w awake st m = unmasked w awake m && (not (traits p).masks || holds w st m)

-- ---- flags

-- A number's bit as a digit.
abbrev pub digit : Bool → ℕ
digit b = cond b 1 0

-- The number whose bit k is f k for each k below n, with no other bit set.
unfoldable pub of_bits : (ℕ → Bool) → ℕ → ℕ
of_bits f zero = 0
of_bits f (suc n) = digit (f n) at n + of_bits f n

-- How many of f 0, …, f (n − 1) are true.
unfoldable pub how_many : (ℕ → Bool) → ℕ → ℕ
how_many f zero = 0
how_many f (suc n) = digit (f n) + how_many f n

-- Bit m of a flag after a cmp on n channels from `first` on: an enabled channel's result. The bits of its disabled channels stay, as all others do (02 §4).
unfoldable pub flag_bit : ℕ → ℕ → ℕ → (ℕ → Bool) → (ℕ → Bool) → ℕ → Bool
flag_bit old first n on result m = cond ((leb first m && ltb m (first + n)) && on m) (result m) (bit old m)

unfoldable pub flag_after : ℕ → ℕ → ℕ → (ℕ → Bool) → (ℕ → Bool) → ℕ
flag_after old first n on result = of_bits (flag_bit old first n on result) 16
