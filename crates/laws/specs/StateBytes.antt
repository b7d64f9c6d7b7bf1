-- The lent state's bytes and the state that they write: each gives back the other. Assumes nothing.
use Rattle.std.specs.Prelude.{◌≡◌, true, false, not, cond, eqb, length, get_or, take}
use Rattle.std.proofs.Math.Path.{refl, ap, sym}
use Rattle.std.proofs.Common.{◌∙◌, ⊎_elim, eq-or-lt_of_le, le_of_suc-le-suc, add-zero, zero-add, suc-add, add-suc, length-append, ext_get_or, length-take-le, eqb-true}
use Rattle.std.proofs.Math.Bool.{Bool}
use Rattle.std.proofs.lemmas.Bool.{false≢true}
use mathlib.Core.List.{List, [], ◌∷◌, ◌++◌, map}
use Prim.Native.Nat.{ℕ, zero, suc, ◌+◌, ◌*◌, ◌%◌, ◌^◌, ◌<◌, ◌≤◌}
use Rattle.std.proofs.Math.Nat.{mod-eq_of_lt}
use native.Mathlib.Omega.{arith}
use Rattle.std.proofs.Math.ListN.{drop, get_or-map, take-append-drop}
use Rattle.std.proofs.lemmas.List.{length-map}
use Rattle.std.proofs.Math.Seq.{drop-append_seam}
use Rattle.std.proofs.Math.Pow.{are_bytes}
use Rattle.paper.specs.Bits.{bit, bytes_of}
use Rattle.paper.specs.Limits.{address_bytes, state_length}
use Rattle.paper.specs.Machine.{Channel, off, awake, waiting, is_awake, State}
use Rattle.paper.specs.State.{half, awake_bit, waiting_bit, waiting_place, channel_in, one_of_three, channels_in, addresses_in, state_of, all_three, is_waiting, place_in}
use Rattle.paper.specs.State.{mask_of, places_of, state_bytes}
use Rattle.laws.specs.Bytes.{bytes_take, number_at-append}
use Rattle.laws.specs.Masks.{of_bits_less, bit-of_bits, of_bits-bit, of_bits_same}
use Rattle.laws.specs.Halfwords.{halves, length-halves, half-halves, half_less, halves_back}
use Rattle.laws.specs.Truth.{both_true}

-- ---- the bytes as numbers of 16 bits

-- The 21 numbers that a state's bytes write, in their order.
unfoldable pub numbers_of : State → List ℕ
numbers_of s =
    s.store.flag0
    ∷ s.store.flag1
    ∷ s.place
    ∷ mask_of is_awake s.channels
    ∷ mask_of is_waiting s.channels
    ∷ map place_in s.channels

-- The waiting places' bytes are those of their numbers.
places_halves : (cs : List Channel) → places_of cs ≡ halves (map place_in cs)
unfolding places_of halves
places_halves [] = refl
places_halves (c ∷ cs) = ap (λ (l : List ℕ). bytes_of 2 (place_in c) ++ l) (places_halves cs)

-- A state's bytes are those of its numbers, and a0's.
pub state_halves : (s : State) → state_bytes s ≡ halves (numbers_of s) ++ s.store.addresses
unfolding state_bytes numbers_of halves bytes_of
state_halves s = rw (places_halves s.channels)

-- Of 16 channels the first are 42;
length_numbers : (s : State) → length s.channels ≡ 16 → length (halves (numbers_of s)) ≡ 42
unfolding numbers_of
length_numbers s h = rw (length-halves (numbers_of s), length-map, h)

-- with a0's sixteen they are 58.
pub length-state_bytes : (s : State) → length s.channels ≡ 16 → length s.store.addresses ≡ address_bytes → length (state_bytes s) ≡ state_length
length-state_bytes s h a = rw (state_halves s, length-append, length_numbers s h, a)

-- What follows the 42 is a0.
pub addresses_back : (s : State) → length s.channels ≡ 16 → addresses_in (state_bytes s) ≡ s.store.addresses
addresses_back s h =
    rw (state_halves s) (ap (λ (n : ℕ). drop n (halves (numbers_of s) ++ s.store.addresses)) (sym (length_numbers s h)) ∙ drop-append_seam (halves (numbers_of s)) s.store.addresses)

-- ---- channels in bytes

-- Channels are read one by one.
length-channels_in : (bytes : List ℕ) (n c : ℕ) → length (channels_in bytes n c) ≡ c
unfolding channels_in
length-channels_in bytes n zero = refl
length-channels_in bytes n (suc c) = ap suc (length-channels_in bytes (suc n) c)

-- Channel k of those read from number n on is the one with number n + k.
get_d_channels_in : (bytes : List ℕ) (n c k : ℕ) → k < c → get_or (channels_in bytes n c) k off ≡ channel_in bytes (n + k)
unfolding channels_in
get_d_channels_in bytes n zero k h = absurd (omega arith)
get_d_channels_in bytes n (suc c) zero h = rw (add-zero n)
get_d_channels_in bytes n (suc c) (suc k) h = get_d_channels_in bytes (suc n) c k (omega arith) ∙ ap (channel_in bytes) (suc-add n k ∙ sym (add-suc n k))

-- All of n channels are one of the three if each is,
all_three_lem : (bytes : List ℕ) (n : ℕ) → ((k : ℕ) → k < n → one_of_three bytes k ≡ true) → all_three bytes n ≡ true
unfolding all_three
all_three_lem bytes zero h = refl
all_three_lem bytes (suc n) h = rw (all_three_lem bytes n (λ k q. h k (omega arith)), h n (omega arith))

-- and then each is.
pub each_of_three : (bytes : List ℕ) (n : ℕ) → all_three bytes n ≡ true → (k : ℕ) → k < n → one_of_three bytes k ≡ true
unfolding all_three
each_of_three bytes zero h k q = absurd (omega arith)
each_of_three bytes (suc n) h k q =
    let b = both_true (all_three bytes n) (one_of_three bytes n) h in
    ⊎_elim
    (λ e. ap (one_of_three bytes) e ∙ b.1)
    (λ l. each_of_three bytes n b.0 k l)
    (eq-or-lt_of_le (le_of_suc-le-suc q))

-- ---- from a state to bytes and back

-- A state that its bytes can write: 16 channels, a0 of 16 bytes, and every number of 16 bits.
pub record Storable (s : State) : Type 0 where
  pub sixteen : length s.channels ≡ 16
  pub addresses : length s.store.addresses ≡ address_bytes
  pub flag0 : s.store.flag0 < 2 ^ 16
  pub flag1 : s.store.flag1 < 2 ^ 16
  pub place : s.place < 2 ^ 16
  pub waits : (k : ℕ) → place_in (get_or s.channels k off) < 2 ^ 16

module _ (s : State) (sixteen : length s.channels ≡ 16) where
  -- Each of the 21 numbers is read back, modulo 2^16.
  number_back : (k : ℕ) → k < 21 → half (state_bytes s) (2 * k) ≡ get_or (numbers_of s) k 0 % 2 ^ 16
  number_back k h =
      rw (state_halves s)
      (number_at-append 2 (halves (numbers_of s)) s.store.addresses (2 * k) (omega (arith, length_numbers s sixteen)) ∙ half-halves (numbers_of s) k)

  -- So is each waiting place,
  place_back : (k : ℕ) → k < 16 → waiting_place (state_bytes s) k ≡ place_in (get_or s.channels k off) % 2 ^ 16
  unfolding numbers_of
  place_back k h =
      let e : 10 + 2 * k ≡ 2 * suc (suc (suc (suc (suc k)))) = omega arith in
      ap (half (state_bytes s)) e ∙ number_back (suc (suc (suc (suc (suc k))))) (omega arith)
      ∙ ap (λ (p : ℕ). p % 2 ^ 16) (get_or-map place_in s.channels k off)

  -- and a mask's bit is its channel's test,
  mask_back : (test : Channel → Bool) (m k : ℕ) → m ≡ mask_of test s.channels % 2 ^ 16 → k < 16 → bit m k ≡ test (get_or s.channels k off)
  unfolding mask_of
  mask_back test m k e h =
      let f : ℕ → Bool = λ n. test (get_or s.channels n off) in
      ap (λ (n : ℕ). bit n k) (e ∙ mod-eq_of_lt (of_bits_less f 16)) ∙ bit-of_bits f 16 k h

  -- which is whether the channel is awake,
  awake_back : (k : ℕ) → k < 16 → awake_bit (state_bytes s) k ≡ is_awake (get_or s.channels k off)
  unfolding numbers_of
  awake_back k h = mask_back is_awake (half (state_bytes s) 6) k (number_back 3 (omega arith)) h

  -- or whether it waits.
  waiting_back : (k : ℕ) → k < 16 → waiting_bit (state_bytes s) k ≡ is_waiting (get_or s.channels k off)
  unfolding numbers_of
  waiting_back k h = mask_back is_waiting (half (state_bytes s) 8) k (number_back 4 (omega arith)) h

-- A channel is what its two tests and its place say.
channel_whole : (c : Channel) → cond (is_waiting c) (waiting (place_in c)) (cond (is_awake c) awake off) ≡ c
channel_whole off = refl
channel_whole awake = refl
channel_whole (waiting p) = refl

-- It is one of the three.
channel_three : (c : Channel) → cond (is_waiting c) (not (is_awake c)) (eqb (place_in c) 0) ≡ true
channel_three off = refl
channel_three awake = refl
channel_three (waiting p) = refl

module _ (s : State) (h : Storable s) where
  -- A waiting place of 16 bits is read back whole.
  place_kept : (k : ℕ) → k < 16 → waiting_place (state_bytes s) k ≡ place_in (get_or s.channels k off)
  place_kept k q = place_back s h.sixteen k q ∙ mod-eq_of_lt (h.waits k)

  -- Each channel is read back,
  channel_back : (k : ℕ) → k < 16 → channel_in (state_bytes s) k ≡ get_or s.channels k off
  unfolding channel_in
  channel_back k q = rw (waiting_back s h.sixteen k q, place_kept k q, awake_back s h.sixteen k q) (channel_whole (get_or s.channels k off))

  -- and is one of the three,
  three_back : (k : ℕ) → k < 16 → one_of_three (state_bytes s) k ≡ true
  unfolding one_of_three
  three_back k q = rw (waiting_back s h.sixteen k q, place_kept k q, awake_back s h.sixteen k q) (channel_three (get_or s.channels k off))

  -- so all channels are read back.
  channels_back : channels_in (state_bytes s) 0 16 ≡ s.channels
  channels_back =
      ext_get_or off (channels_in (state_bytes s) 0 16) s.channels (length-channels_in (state_bytes s) 0 16 ∙ sym h.sixteen)
      (λ k q. let l : k < 16 = omega (arith, length-channels_in (state_bytes s) 0 16) in
      get_d_channels_in (state_bytes s) 0 16 k l ∙ ap (channel_in (state_bytes s)) (zero-add k) ∙ channel_back k l)

  -- Every channel in the bytes of a state is one of the three.
  pub state_three : all_three (state_bytes s) 16 ≡ true
  state_three = all_three_lem (state_bytes s) 16 three_back

  -- A state's bytes, with its registers, write that state.
  pub state_back : state_of s.store.registers (state_bytes s) ≡ s
  unfolding state_of numbers_of
  state_back = λ i. record {
    store = record {
      registers = s.store.registers;
      flag0 = (number_back s h.sixteen 0 (omega arith) ∙ mod-eq_of_lt h.flag0) i;
      flag1 = (number_back s h.sixteen 1 (omega arith) ∙ mod-eq_of_lt h.flag1) i;
      addresses = addresses_back s h.sixteen i;
    };
    channels = channels_back i;
    place = (number_back s h.sixteen 2 (omega arith) ∙ mod-eq_of_lt h.place) i;
  }

-- ---- from bytes to a state and back

-- What is read by a waiting bit w, an awake bit a and a place p is awake where a says so, if the three belong together,
awake_read : (w a : Bool) (p : ℕ) → cond w (not a) (eqb p 0) ≡ true → is_awake (cond w (waiting p) (cond a awake off)) ≡ a
awake_read true true p h = absurd (false≢true h)
awake_read true false p h = refl
awake_read false true p h = refl
awake_read false false p h = refl

-- waits where w says so,
waiting_read : (w a : Bool) (p : ℕ) → is_waiting (cond w (waiting p) (cond a awake off)) ≡ w
waiting_read true a p = refl
waiting_read false true p = refl
waiting_read false false p = refl

-- and has place p, if they belong together.
place_read : (w a : Bool) (p : ℕ) → cond w (not a) (eqb p 0) ≡ true → place_in (cond w (waiting p) (cond a awake off)) ≡ p
place_read true a p h = refl
place_read false true p h = sym (eqb-true p 0 h)
place_read false false p h = sym (eqb-true p 0 h)

module _ (registers bytes : List ℕ) (long : length bytes ≡ state_length) (small : are_bytes bytes ≡ true) (three : all_three bytes 16 ≡ true) where
  -- Channel k of all is the one read by its number.
  read : (k : ℕ) → k < 16 → get_or (channels_in bytes 0 16) k off ≡ channel_in bytes k
  read k q = get_d_channels_in bytes 0 16 k q ∙ ap (channel_in bytes) (zero-add k)

  -- The mask of a test that agrees with a number's bits is that number.
  mask_read : (test : Channel → Bool) (a : ℕ) → ((k : ℕ) → k < 16 → test (channel_in bytes k) ≡ bit (half bytes a) k)
      → mask_of test (channels_in bytes 0 16) ≡ half bytes a
  unfolding mask_of
  mask_read test a h =
      of_bits_same (λ n. test (get_or (channels_in bytes 0 16) n off)) (bit (half bytes a)) 16 (λ k q. ap test (read k q) ∙ h k q)
      ∙ of_bits-bit (half bytes a) 16 (half_less bytes a small)

  -- The awake mask,
  awakes : mask_of is_awake (channels_in bytes 0 16) ≡ half bytes 6
  unfolding channel_in one_of_three
  awakes = mask_read is_awake 6 (λ k q. awake_read (waiting_bit bytes k) (awake_bit bytes k) (waiting_place bytes k) (each_of_three bytes 16 three k q))

  -- the waiting mask
  waitings : mask_of is_waiting (channels_in bytes 0 16) ≡ half bytes 8
  unfolding channel_in
  waitings = mask_read is_waiting 8 (λ k q. waiting_read (waiting_bit bytes k) (awake_bit bytes k) (waiting_place bytes k))

  -- and the waiting places are read and written back,
  place_of : (k : ℕ) → k < 16 → waiting_place bytes k ≡ get_or (map place_in (channels_in bytes 0 16)) k 0
  unfolding channel_in one_of_three
  place_of k q =
      sym (get_or-map place_in (channels_in bytes 0 16) k off ∙ ap place_in (read k q)
      ∙ place_read (waiting_bit bytes k) (awake_bit bytes k) (waiting_place bytes k) (each_of_three bytes 16 three k q))

  -- so all numbers are,
  numbers_read : (k : ℕ) → k < 21 → half bytes (2 * k) ≡ get_or (numbers_of (state_of registers bytes)) k 0
  unfolding numbers_of state_of
  numbers_read zero q = refl
  numbers_read (suc zero) q = refl
  numbers_read (suc (suc zero)) q = refl
  numbers_read (suc (suc (suc zero))) q = sym awakes
  numbers_read (suc (suc (suc (suc zero)))) q = sym waitings
  numbers_read (suc (suc (suc (suc (suc k))))) q =
      let e : 2 * suc (suc (suc (suc (suc k)))) ≡ 10 + 2 * k = omega arith in
      ap (half bytes) e ∙ place_of k (omega arith)

  -- of which there are 21.
  many : length (numbers_of (state_of registers bytes)) ≡ 21
  unfolding numbers_of state_of
  many = rw (length-map, length-channels_in bytes 0 16)

  -- They stand in the first 42 bytes.
  first_length : length (take 42 bytes) ≡ 42
  first_length = let h : 42 ≤ length bytes = omega (arith, long) in length-take-le 42 bytes h

  first_read : (k : ℕ) → k < 21 → half (take 42 bytes) (2 * k) ≡ get_or (numbers_of (state_of registers bytes)) k 0
  first_read k q =
      sym (number_at-append 2 (take 42 bytes) (drop 42 bytes) (2 * k) (omega (arith, first_length)))
      ∙ ap (λ (l : List ℕ). half l (2 * k)) (take-append-drop 42 bytes)
      ∙ numbers_read k q

  -- Bytes of a state's length in which every channel is one of the three are the bytes of the state that they write.
  pub bytes_back : state_bytes (state_of registers bytes) ≡ bytes
  unfolding state_of
  bytes_back =
      let s = state_of registers bytes in
      state_halves s
      ∙ ap (λ (l : List ℕ). l ++ drop 42 bytes)
      (halves_back (numbers_of s) (take 42 bytes) (omega (arith, many, first_length)) (bytes_take 42 bytes small) (λ k q. first_read k (omega (arith, many))))
      ∙ take-append-drop 42 bytes
