-- The paper's states that the code holds by value, and their bytes. Assumes nothing.
use Rattle.std.specs.Prelude.{◌≡◌, Bool, true, false, not, cond, eqb, get_or, drop, replicate}
use Rattle.std.proofs.Math.Path.{refl, ap, sym}
use Rattle.std.proofs.Common.{◌∙◌, lit≤, take-append-drop, drop_of_length-le, length-append, length-drop, take_all, take-suc, drop-drop, length-take-le, eqb-true}
use Rattle.std.proofs.lemmas.Bool.{false≢true}
use mathlib.Core.List.{List, [], ◌∷◌, ◌++◌, map, append-nil, append_assoc}
use Prim.Native.Nat.{ℕ, zero, suc, ◌+◌, ◌*◌, ◌≤◌, ◌<◌}
use native.Mathlib.Omega.{arith}
use Rattle.std.proofs.Math.ListN.{length, take, length-map, length-take, get_or-map}
use Rattle.std.proofs.Math.Seq.{ext_get_or, drop-append_seam}
use Rattle.paper.specs.Limits.{address_bytes, state_length}
use Rattle.paper.specs.Bits.{bytes_of, put_at}
use Rattle.paper.specs.Machine as paper
use Rattle.paper.specs.Machine.{off, is_awake}
use Rattle.paper.specs.State.{half, awake_bit, waiting_bit, waiting_place, channel_in, one_of_three, channels_in, addresses_in, all_three, is_waiting, place_in, mask_of, state_bytes}
use Rattle.laws.specs.Halfwords.{halves, length-halves}
use Rattle.laws.specs.StateBytes.{numbers_of, state_halves, each_of_three}
use Rattle.lanes.specs.Values.{values, length-values, get_d_values}
use Rattle.words.specs.Bytes.{next_put}
use Rattle.execute.specs.Stores.{store_of}
use Rattle.machine.specs.declared.channels.Channels.{Channels}
use Rattle.machine.specs.declared.state.State.{State}
use Rattle.machine.specs.Numbered.{same_numbered, length-numbered, get_d_numbered, in_numbered, mask_numbered}
use Rattle.machine.specs.Channels.{channel_is, channels_is, Sane, awake_is, waiting_is, place_is}

-- The paper's state, with the registers and a0's bytes that are lent beside it.
abbrev pub state_is : List ℕ → List ℕ → State → paper.State
state_is registers addresses s = record { store = store_of registers s.flags addresses; channels = channels_is s.channels; place = s.place }

-- What the code keeps of its state: sane channels, and numbers of 16 bits.
pub record SaneState (s : State) : Type 0 where
  pub channels : Sane s.channels
  pub flag0 : s.flags.flag0 < 65536
  pub flag1 : s.flags.flag1 < 65536
  pub place : s.place < 65536

-- ---- reading channels

three_apart : (w a : Bool) (p : ℕ) → cond w (not a) (eqb p 0) ≡ true → w ≡ true → a ≡ false
three_apart true true p e h = absurd (false≢true e)
three_apart true false p e h = refl
three_apart false a p e h = absurd (false≢true h)

three_zero : (w a : Bool) (p : ℕ) → cond w (not a) (eqb p 0) ≡ true → w ≡ false → p ≡ 0
three_zero true a p e h = absurd (false≢true (sym h))
three_zero false a p e h = eqb-true p 0 e

module _ (bytes : List ℕ) (c : Channels) (awakes : c.awake ≡ half bytes 6) (waits : c.waiting ≡ half bytes 8)
    (places : c.places ≡ values (waiting_place bytes) 16) where
  place_read : (k : ℕ) → k < 16 → get_or c.places k 0 ≡ waiting_place bytes k
  place_read k q = ap (λ (l : List ℕ). get_or l k 0) places ∙ get_d_values (waiting_place bytes) 16 k q (lit≤ tt)

  -- Masks and places read from the bytes are the channels in them.
  pub read_channels : channels_is c ≡ channels_in bytes 0 16
  unfolding channels_is channel_is channel_in
  read_channels =
      same_numbered (channel_is c) (channel_in bytes) (λ k q. rw (awakes, waits, place_read k q)) ∙ sym (in_numbered bytes 0 16)

  -- They are sane if each channel is one of the three.
  pub read_sane : half bytes 6 < 65536 → half bytes 8 < 65536 → ((k : ℕ) → k < 16 → waiting_place bytes k < 65536) → all_three bytes 16 ≡ true → Sane c
  unfolding one_of_three
  read_sane h g fits t =
      record {
        sixteen = ap length places ∙ length-values (waiting_place bytes) 16;
        awake_fits = rw awakes h;
        waiting_fits = rw waits g;
        apart = λ k q. rw (awakes, waits) (three_apart (waiting_bit bytes k) (awake_bit bytes k) (waiting_place bytes k) (each_of_three bytes 16 t k q));
        zeros = λ k q. rw (waits, place_read k q) (three_zero (waiting_bit bytes k) (awake_bit bytes k) (waiting_place bytes k) (each_of_three bytes 16 t k q));
        fits = λ k q. rw (place_read k q) (fits k q);
      }

-- One channel that is none of the three is enough.
pub not_three : (bytes : List ℕ) (n : ℕ) → n < 16 → one_of_three bytes n ≡ false → all_three bytes 16 ≡ false
not_three bytes n h e = go (all_three bytes 16) refl
  where
    go : (b : Bool) → all_three bytes 16 ≡ b → b ≡ false
    go true t = absurd (false≢true (sym e ∙ each_of_three bytes 16 t n h))
    go false t = refl

-- ---- writing numbers of 16 bits

halves-append : (us vs : List ℕ) → halves (us ++ vs) ≡ halves us ++ halves vs
unfolding halves
halves-append [] vs = refl
halves-append (u ∷ us) vs = rw (halves-append us vs, append_assoc)

-- A number stored right behind those that are done.
pub put_half : (vs bytes : List ℕ) (n v : ℕ) → n ≡ 2 * length vs → n + 2 ≤ length bytes
    → put_at (halves vs ++ drop n bytes) n 2 v ≡ halves (vs ++ (v ∷ [])) ++ drop (n + 2) bytes
unfolding halves
put_half vs bytes n v e h =
    let at : n ≡ length (halves vs) = e ∙ sym (length-halves vs) in
    let room : 2 ≤ length (drop n bytes) = rw (length-drop n bytes) (omega arith) in
    ap (λ (i : ℕ). put_at (halves vs ++ drop n bytes) i 2 v) at
    ∙ next_put 2 (halves vs) (drop n bytes) v room
    ∙ rw (drop-drop 2 n bytes, halves-append vs (v ∷ []), append-nil (bytes_of 2 v), append_assoc (halves vs) (bytes_of 2 v) (drop (n + 2) bytes))

-- The bytes with the first n places stored.
unfoldable pub places_put : List ℕ → List ℕ → ℕ → List ℕ
places_put bytes places zero = bytes
places_put bytes places (suc n) = put_at (places_put bytes places n) (10 + 2 * n) 2 (get_or places n 0)

module _ (bytes : List ℕ) (long : length bytes ≡ state_length) where
  first_half : (v : ℕ) → put_at bytes 0 2 v ≡ halves (v ∷ []) ++ drop 2 bytes
  unfolding halves
  first_half v = put_half [] bytes 0 v refl (omega arith)

  -- Five numbers stored one behind the other, from the start on.
  pub front_halves : (a b c d e : ℕ)
      → put_at (put_at (put_at (put_at (put_at bytes 0 2 a) 2 2 b) 4 2 c) 6 2 d) 8 2 e ≡ halves (a ∷ b ∷ c ∷ d ∷ e ∷ []) ++ drop 10 bytes
  front_halves a b c d e =
      rw (
        first_half a,
        put_half (a ∷ []) bytes 2 b refl (omega arith),
        put_half (a ∷ b ∷ []) bytes 4 c refl (omega arith),
        put_half (a ∷ b ∷ c ∷ []) bytes 6 d refl (omega arith),
      )
      (put_half (a ∷ b ∷ c ∷ d ∷ []) bytes 8 e refl (omega arith))

  module _ (vs places l : List ℕ) (five : length vs ≡ 5) (sixteen : length places ≡ 16) (front : l ≡ halves vs ++ drop 10 bytes) where
    -- Behind five numbers the first n places are stored likewise.
    places_halves : (n : ℕ) → n ≤ 16 → places_put l places n ≡ halves (vs ++ take n places) ++ drop (10 + 2 * n) bytes
    unfolding places_put
    places_halves zero h = front ∙ rw (append-nil vs)
    places_halves (suc n) h =
        let at : 10 + 2 * n ≡ 2 * length (vs ++ take n places) = rw (length-append vs (take n places), length-take n places) (omega arith) in
        let more : 10 + 2 * suc n ≡ 10 + 2 * n + 2 = omega arith in
        let one : (vs ++ take n places) ++ (get_or places n 0 ∷ []) ≡ vs ++ take (suc n) places =
        append_assoc vs (take n places) (get_or places n 0 ∷ []) ∙ ap (λ (x : List ℕ). vs ++ x) (sym (take-suc places n 0 (omega arith))) in
        rw (places_halves n (omega arith), more, ← one) (put_half (vs ++ take n places) bytes (10 + 2 * n) (get_or places n 0) at (omega arith))

    -- All the bytes before a0's are written.
    pub all_halves : places_put l places 16 ≡ halves (vs ++ places) ++ addresses_in bytes
    all_halves = places_halves 16 (lit≤ tt) ∙ rw (take_all 16 places (omega arith))

-- Sixteen zeros stored from byte 42 on are a0's.
pub addresses_cleared : (bytes : List ℕ) → length bytes ≡ state_length → addresses_in (put_at bytes 42 16 0) ≡ replicate address_bytes 0
unfolding bytes_of
addresses_cleared bytes long =
    let front : List ℕ = take 42 bytes in
    let rest : List ℕ = drop 42 bytes in
    let count : length front ≡ 42 = length-take-le 42 bytes (omega arith) in
    let room : length rest ≡ 16 = length-drop 42 bytes ∙ omega arith in
    let put : put_at bytes 42 16 0 ≡ front ++ (bytes_of 16 0 ++ drop 16 rest) =
    (λ i. put_at (sym (take-append-drop 42 bytes) i) (sym count i) 16 0) ∙ next_put 16 front rest 0 (omega arith) in
    ap addresses_in put
    ∙ ap (λ (n : ℕ). drop n (front ++ (bytes_of 16 0 ++ drop 16 rest))) (sym count)
    ∙ drop-append_seam front (bytes_of 16 0 ++ drop 16 rest)
    ∙ ap (λ (l : List ℕ). bytes_of 16 0 ++ l) (drop_of_length-le rest {i = 16} (omega arith))

-- ---- the numbers of a state

module _ (c : Channels) (s : Sane c) where
  -- The masks of the awake and of the waiting channels are the code's,
  pub awake_mask : mask_of is_awake (channels_is c) ≡ c.awake
  unfolding channels_is
  awake_mask = mask_numbered is_awake (channel_is c) c.awake s.awake_fits (λ k q. awake_is c s k q)

  pub waiting_mask : mask_of is_waiting (channels_is c) ≡ c.waiting
  unfolding channels_is
  waiting_mask = mask_numbered is_waiting (channel_is c) c.waiting s.waiting_fits (λ k q. waiting_is c s k q)

  -- of sixteen channels,
  pub sixteen_channels : length (channels_is c) ≡ 16
  unfolding channels_is
  sixteen_channels = length-numbered (channel_is c) 0 16

  -- whose places are the code's.
  pub channel_places : map place_in (channels_is c) ≡ c.places
  unfolding channels_is
  channel_places =
      let count : length (map place_in (channels_is c)) ≡ 16 = length-map (channels_is c) place_in ∙ sixteen_channels in
      ext_get_or 0 (map place_in (channels_is c)) c.places (count ∙ sym s.sixteen)
      (λ k h. let q : k < 16 = omega arith in
      get_or-map place_in (channels_is c) k off ∙ ap place_in (get_d_numbered (channel_is c) k q) ∙ place_is c s k q)

-- The bytes of a state are those of its 21 numbers, and a0's.
pub state_numbers : (registers addresses : List ℕ) (s : State) → Sane s.channels
    → state_bytes (state_is registers addresses s)
    ≡ halves (s.flags.flag0 ∷ s.flags.flag1 ∷ s.place ∷ s.channels.awake ∷ s.channels.waiting ∷ s.channels.places) ++ addresses
unfolding numbers_of
state_numbers registers addresses s h =
    state_halves (state_is registers addresses s)
    ∙ rw (awake_mask s.channels h, waiting_mask s.channels h, channel_places s.channels h)

-- So stored, one number after the other, in front of a0, they are the state's bytes.
pub state_written : (registers : List ℕ) (s : State) → Sane s.channels → (bytes : List ℕ) → length bytes ≡ state_length
    → places_put (put_at (put_at (put_at (put_at (put_at bytes 0 2 s.flags.flag0) 2 2 s.flags.flag1) 4 2 s.place) 6 2 s.channels.awake) 8 2 s.channels.waiting)
    s.channels.places 16
    ≡ state_bytes (state_is registers (addresses_in bytes) s)
state_written registers s h bytes long =
    all_halves bytes long (s.flags.flag0 ∷ s.flags.flag1 ∷ s.place ∷ s.channels.awake ∷ s.channels.waiting ∷ []) s.channels.places _ refl h.sixteen
    (front_halves bytes long s.flags.flag0 s.flags.flag1 s.place s.channels.awake s.channels.waiting)
    ∙ sym (state_numbers registers (addresses_in bytes) s h)
