-- The lent state's bytes: f0.0, f0.1, place, awake mask, waiting mask, each 16 bits, then sixteen 16-bit waiting places, then a0's eight numbers of 16 bits. A
-- channel is awake (its awake bit alone), waiting (its waiting bit alone) or off (neither), and one that is not waiting has place 0. Assumes nothing.
use Rattle.std.specs.Prelude.{Bool, true, false, not, cond, ◌&&◌, List, [], ◌∷◌, ◌++◌, ℕ, zero, suc, ◌+◌, ◌*◌, eqb, get_or, drop}
use Rattle.paper.specs.Bits.{bit, number_at, bytes_of}
use Rattle.paper.specs.Enable.{of_bits}
use Rattle.paper.specs.Kernel.{Instr}
use Rattle.paper.specs.Jump.{lands}
use Rattle.paper.specs.Machine.{Channel, off, awake, waiting, is_awake, State}

-- ---- reading

-- The 16-bit number at byte `from`.
abbrev pub half : List ℕ → ℕ → ℕ
half bytes from = number_at bytes from 2

abbrev pub awake_bit : List ℕ → ℕ → Bool
awake_bit bytes n = bit (half bytes 6) n

abbrev pub waiting_bit : List ℕ → ℕ → Bool
waiting_bit bytes n = bit (half bytes 8) n

abbrev pub waiting_place : List ℕ → ℕ → ℕ
waiting_place bytes n = half bytes (10 + 2 * n)

-- Channel n, if it is one of the three.
unfoldable pub channel_in : List ℕ → ℕ → Channel
channel_in bytes n = cond (waiting_bit bytes n) (waiting (waiting_place bytes n)) (cond (awake_bit bytes n) awake off)

-- Channel n is one of the three.
unfoldable pub one_of_three : List ℕ → ℕ → Bool
one_of_three bytes n = cond (waiting_bit bytes n) (not (awake_bit bytes n)) (eqb (waiting_place bytes n) 0)

-- c channels from number n on.
unfoldable pub channels_in : List ℕ → ℕ → ℕ → List Channel
channels_in bytes n zero = []
channels_in bytes n (suc c) = channel_in bytes n ∷ channels_in bytes (suc n) c

-- a0's bytes are the last, from byte 42 on.
abbrev pub addresses_in : List ℕ → List ℕ
addresses_in bytes = drop 42 bytes

-- The state that registers and state bytes write.
unfoldable pub state_of : List ℕ → List ℕ → State
state_of registers bytes =
    record {
      store = record { registers = registers; flag0 = half bytes 0; flag1 = half bytes 2; addresses = addresses_in bytes };
      channels = channels_in bytes 0 16;
      place = half bytes 4;
    }

-- ---- 15: a place is neither an instruction start nor the end; a channel is none of the three

unfoldable pub all_three : List ℕ → ℕ → Bool
all_three bytes zero = true
all_three bytes (suc n) = all_three bytes n && one_of_three bytes n

unfoldable pub waits_land : List Instr → List Channel → Bool
waits_land k [] = true
waits_land k (off ∷ cs) = waits_land k cs
waits_land k (awake ∷ cs) = waits_land k cs
waits_land k (waiting p ∷ cs) = lands k p && waits_land k cs

abbrev pub state_lands : List Instr → State → Bool
state_lands k s = lands k s.place && waits_land k s.channels

unfoldable pub state_legal : List Instr → List ℕ → List ℕ → Bool
state_legal k registers bytes = all_three bytes 16 && state_lands k (state_of registers bytes)

-- ---- writing

abbrev pub is_waiting : Channel → Bool
is_waiting off = false
is_waiting awake = false
is_waiting (waiting p) = true

abbrev pub place_in : Channel → ℕ
place_in off = 0
place_in awake = 0
place_in (waiting p) = p

-- The mask of the channels that pass a test.
unfoldable pub mask_of : (Channel → Bool) → List Channel → ℕ
mask_of test cs = of_bits (λ n. test (get_or cs n off)) 16

unfoldable pub places_of : List Channel → List ℕ
places_of [] = []
places_of (c ∷ cs) = bytes_of 2 (place_in c) ++ places_of cs

unfoldable pub state_bytes : State → List ℕ
state_bytes s =
    bytes_of 2 s.store.flag0
    ++ (bytes_of 2 s.store.flag1
    ++ (bytes_of 2 s.place
    ++ (bytes_of 2 (mask_of is_awake s.channels)
    ++ (bytes_of 2 (mask_of is_waiting s.channels)
    ++ (places_of s.channels
    ++ s.store.addresses)))))
