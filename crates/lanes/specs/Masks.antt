-- Masks: numbers of 16 bits, bit m being channel m's. Predicates and enabled channels as masks, by the numbers that a word's fields hold.
-- Assumes nothing.
use Rattle.std.specs.Prelude.{Bool, not, cond, ◌&&◌, ◌||◌, List, [], ◌∷◌, ℕ, zero, suc, ◌+◌, ◌-◌, ◌*◌, ◌/◌, ◌%◌, ◌^◌, eqb}
use Rattle.paper.specs.Bits.{bit}
use Rattle.paper.specs.Enable.{any_bit, group_start, vote, predicate, of_bits}

-- ---- votes

-- The channels of the lower half in each pair of neighbouring halves of h channels, from channel 0 on.
unfoldable pub lower_halves : ℕ → ℕ
lower_halves h = of_bits (λ m. eqb (m / h % 2) 0) 16

-- The channel that stands in the other half where channel m stands in its own.
abbrev pub opposite : ℕ → ℕ → ℕ
opposite h m = cond (eqb (m / h % 2) 0) (m + h) (m - h)

-- A mask in which each channel has taken in its opposite's bit.
unfoldable pub joined_mask : ℕ → ℕ → ℕ
joined_mask h mask = of_bits (λ m. bit mask m || bit mask (opposite h m)) 16

-- The channels in whose group of g some bit of the flag is 1.
unfoldable pub any_mask : ℕ → ℕ → ℕ
any_mask g flag = of_bits (λ m. any_bit flag (group_start g m) g) 16

-- The channels whose group votes for it, by PredCtrl.
unfoldable pub vote_mask : ℕ → ℕ → ℕ
vote_mask pred_ctrl flag = of_bits (vote pred_ctrl flag) 16

-- The channels whose predicate holds, by PredCtrl, PredInv and the chosen flag.
unfoldable pub predicate_mask : ℕ → ℕ → ℕ → ℕ
predicate_mask pred_ctrl pred_inv flag = of_bits (predicate pred_ctrl pred_inv flag) 16

-- ---- enabled channels

-- The channels that may work: the awake ones, or all if WECtrl is 1.
unfoldable pub unmasked_mask : ℕ → ℕ → ℕ
unmasked_mask we_ctrl awake = of_bits (λ m. eqb we_ctrl 1 || bit awake m) 16

-- The channels that the predicate leaves: those for which it holds, or all if it does not mask.
unfoldable pub passed_mask : Bool → ℕ → ℕ
passed_mask masks predicate = of_bits (λ m. not masks || bit predicate m) 16

-- Channel m is enabled, by WECtrl, whether the predicate masks, the awake channels and the channels whose predicate holds.
unfoldable pub enabled_of : ℕ → Bool → ℕ → ℕ → ℕ → Bool
enabled_of we_ctrl masks awake predicate m = (eqb we_ctrl 1 || bit awake m) && (not masks || bit predicate m)

-- The enabled channels.
unfoldable pub enable_mask : ℕ → Bool → ℕ → ℕ → ℕ
enable_mask we_ctrl masks awake predicate = of_bits (enabled_of we_ctrl masks awake predicate) 16

-- A mask as an instruction of quarter q numbers its channels: bit n is bit 8q + n of the whole.
abbrev pub quarter_mask : ℕ → ℕ → ℕ
quarter_mask mask quarter = mask / 2 ^ (8 * quarter)

-- The other way: bit 8q + n is bit n of an instruction's own mask.
abbrev pub raised_mask : ℕ → ℕ → ℕ
raised_mask mask quarter = mask * 2 ^ (8 * quarter)

-- ---- awake channels

-- c bits of a mask from bit n on, as a list.
unfoldable pub awake_from : ℕ → ℕ → ℕ → List Bool
awake_from mask n zero = []
awake_from mask n (suc c) = bit mask n ∷ awake_from mask (suc n) c

-- Which of the 16 channels are awake, by their mask.
unfoldable pub awake_list : ℕ → List Bool
awake_list mask = awake_from mask 0 16
