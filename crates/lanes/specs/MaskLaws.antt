-- The masks are the paper's predicates and enabled channels. Assumes nothing.
use Rattle.std.specs.Prelude.{◌≡◌, refl, Bool, false, not, ◌||◌, List, map, ℕ, zero, suc, ◌+◌, ◌*◌, ◌^◌, ◌≤◌, ◌<◌, eqb, get_or}
use Rattle.std.proofs.Common.{ap, ◌∙◌, sym, arith}
use Rattle.std.specs.Int.Bits.{bit_and}
use Rattle.std.proofs.Math.ListN.{get_or-map}
use Rattle.paper.specs.Bits.{bit}
use Rattle.paper.specs.Word.{we_ctrl, qtr_ctrl, pred_ctrl, pred_inv}
use Rattle.paper.specs.Operation.{Plain}
use Rattle.paper.specs.Store.{Store}
use Rattle.paper.specs.Enable.{chosen_flag, predicate, holds, channel_of, enabled}
use Rattle.paper.specs.Operation.{traits}
use Rattle.paper.specs.Effect.{is_on}
use Rattle.paper.specs.Machine.{Channel, off, is_awake}
use Rattle.paper.specs.State.{mask_of}
use Rattle.laws.specs.Masks.{of_bits_less, bit-of_bits}
use Rattle.lanes.specs.Masks.{predicate_mask, unmasked_mask, passed_mask, enabled_of, enable_mask, quarter_mask, raised_mask, awake_from, awake_list}
use Rattle.lanes.specs.BitLaws.{bit_shr, bit_shl, and-of_bits}

-- ---- masks in general

-- The masks have 16 bits.
pub predicate_mask_less : (pred_ctrl pred_inv flag : ℕ) → predicate_mask pred_ctrl pred_inv flag < 2 ^ 16
unfolding predicate_mask
predicate_mask_less pred_ctrl pred_inv flag = of_bits_less (predicate pred_ctrl pred_inv flag) 16

pub enable_mask_less : (we_ctrl : ℕ) (masks : Bool) (awake predicate : ℕ) → enable_mask we_ctrl masks awake predicate < 2 ^ 16
unfolding enable_mask
enable_mask_less we_ctrl masks awake predicate = of_bits_less (enabled_of we_ctrl masks awake predicate) 16

-- The enabled channels are those that may work and that the predicate leaves.
pub unmasked_passed : (we_ctrl : ℕ) (masks : Bool) (awake predicate : ℕ)
    → bit_and (unmasked_mask we_ctrl awake) (passed_mask masks predicate) ≡ enable_mask we_ctrl masks awake predicate
unfolding unmasked_mask passed_mask enable_mask enabled_of
unmasked_passed we_ctrl masks awake predicate = and-of_bits (λ m. eqb we_ctrl 1 || bit awake m) (λ m. not masks || bit predicate m) 16

-- Bit n of a quarter's mask is the bit of the instruction's channel n.
pub bit_quarter : (mask quarter n : ℕ) → bit (quarter_mask mask quarter) n ≡ bit mask (8 * quarter + n)
bit_quarter mask quarter n = bit_shr mask (8 * quarter) n

-- Bit 8q + n of a raised mask is bit n of the instruction's own.
pub bit_raised : (mask quarter n : ℕ) → bit (raised_mask mask quarter) (8 * quarter + n) ≡ bit mask n
bit_raised mask quarter n = bit_shl mask (8 * quarter) n

-- ---- predicates

-- The mask that the predicate's fields make for a word.
abbrev pub predicate_of : ℕ → Store → ℕ
predicate_of w st = predicate_mask (pred_ctrl w) (pred_inv w) (chosen_flag w st)

-- Its bit m is channel m's predicate.
pub bit-predicate : (w : ℕ) (st : Store) (m : ℕ) → m < 16 → bit (predicate_of w st) m ≡ holds w st m
unfolding predicate_mask holds
bit-predicate w st m h = bit-of_bits (predicate (pred_ctrl w) (pred_inv w) (chosen_flag w st)) 16 m h

-- ---- enabled channels

-- The mask that a word's fields, the awake channels' mask and the flags make.
abbrev pub enable_of : Plain → ℕ → ℕ → Store → ℕ
enable_of p w mask st = enable_mask (we_ctrl w) (traits p).masks mask (predicate_of w st)

-- Its bit m says whether channel m is enabled, for a list that agrees with the mask there.
pub bit_enable : (p : Plain) (w : ℕ) (awake : List Bool) (mask : ℕ) (st : Store) (m : ℕ) → m < 16 → get_or awake m false ≡ bit mask m
    → bit (enable_of p w mask st) m ≡ enabled p w awake st m
unfolding enable_mask enabled_of enabled
bit_enable p w awake mask st m h e =
    bit-of_bits (enabled_of (we_ctrl w) (traits p).masks mask (predicate_of w st)) 16 m h
    ∙ rw (bit-predicate w st m h, ← e)

-- An instruction's channel n is enabled where bit n of the quarter's mask is 1.
pub bit_on : (p : Plain) (w : ℕ) (awake : List Bool) (mask : ℕ) (st : Store) (n : ℕ)
    → channel_of w n < 16 → get_or awake (channel_of w n) false ≡ bit mask (channel_of w n)
    → bit (quarter_mask (enable_of p w mask st) (qtr_ctrl w)) n ≡ is_on p w awake st n
bit_on p w awake mask st n h e =
    bit_quarter (enable_of p w mask st) (qtr_ctrl w) n ∙ bit_enable p w awake mask st (channel_of w n) h e

-- ---- awake channels

get_d_awake_from : (mask n c k : ℕ) → k < c → get_or (awake_from mask n c) k false ≡ bit mask (n + k)
unfolding awake_from
get_d_awake_from mask n zero k h = absurd (omega arith)
get_d_awake_from mask n (suc c) zero h = ap (bit mask) (let e : n ≡ n + 0 = omega arith in e)
get_d_awake_from mask n (suc c) (suc k) h =
    get_d_awake_from mask (suc n) c k (omega arith) ∙ ap (bit mask) (let e : suc n + k ≡ n + suc k = omega arith in e)

-- Channel m of the list is awake if the mask's bit m is 1;
pub get_d_awake_list : (mask m : ℕ) → m < 16 → get_or (awake_list mask) m false ≡ bit mask m
unfolding awake_list
get_d_awake_list mask m h = get_d_awake_from mask 0 16 m h ∙ ap (bit mask) (let e : 0 + m ≡ m = omega arith in e)

get_d_past : (mask n c k : ℕ) → c ≤ k → get_or (awake_from mask n c) k false ≡ false
unfolding awake_from
get_d_past mask n zero k h = refl
get_d_past mask n (suc c) zero h = absurd (omega arith)
get_d_past mask n (suc c) (suc k) h = get_d_past mask (suc n) c k (omega arith)

-- no other is.
pub get_d_awake_list_above : (mask m : ℕ) → 16 ≤ m → get_or (awake_list mask) m false ≡ false
unfolding awake_list
get_d_awake_list_above mask m h = get_d_past mask 0 16 m h

-- The mask of a state's awake channels agrees with their list.
pub awake_agrees : (cs : List Channel) (m : ℕ) → m < 16 → get_or (map is_awake cs) m false ≡ bit (mask_of is_awake cs) m
unfolding mask_of
awake_agrees cs m h = get_or-map is_awake cs m off ∙ sym (bit-of_bits (λ n. is_awake (get_or cs n off)) 16 m h)

-- Bit m of the enabled channels' mask, for the list of the awake mask's bits.
pub bit_enable_list : (p : Plain) (w mask : ℕ) (st : Store) (m : ℕ) → m < 16 → bit (enable_of p w mask st) m ≡ enabled p w (awake_list mask) st m
bit_enable_list p w mask st m h = bit_enable p w (awake_list mask) mask st m h (get_d_awake_list mask m h)
