-- From channels with places to masks by place, and back: the two ends of a run. Assumes nothing.
use Rattle.std.specs.Prelude.{◌≡◌, refl, Bool, true, false, cond, ◌&&◌, ◌||◌, List, [], ◌∷◌, ℕ, zero, suc, ◌+◌, ◌-◌, ◌*◌, ◌^◌, ◌≤◌, ◌<◌, eqb, ltb, length, get_or, set, replicate}
use Rattle.std.proofs.Common.{ap, ◌∙◌, true≢false, one-mul, add-sub_of_le, arith, lit<, length-set, eqb-true, eq-eqb, ne_eqb, lt-ltb, le-ltb, ltb-true, ltb-false}
use Rattle.std.proofs.Math.Path.{sym}
use Rattle.std.proofs.Math.Bool.{or-true, or-false}
use Rattle.std.proofs.lemmas.Bool.{false≢true, eqb-false}
use Rattle.std.proofs.lemmas.List.{get_or-replicate}
use Rattle.std.proofs.Math.Seq.{ext_get_or}
use Rattle.paper.specs.Bits.{bit}
use Rattle.paper.specs.Machine.{Channel, off, awake, waiting, is_awake, waits_at}
use Rattle.lanes.specs.BitLaws.{bit_shl_below, field_above}
use Rattle.lanes.specs.Mapped.{Mapped}
use Rattle.machine.specs.declared.channels.Channels.{Channels}
use Rattle.machine.specs.Together.{bit_zero, either_mask, bit_either, either_mask_less}
use Rattle.machine.specs.Numbered.{length-numbered, get_d_numbered}
use Rattle.machine.specs.Channels.{channel_is, channels_is, Sane, awake_is, waits_is}
use Rattle.machine.specs.Posts.{Posted, mask_after, set-small}

-- ---- from places to masks

-- Of the number 2^n, bit n is 1 and no other.
bit_power : (n k : ℕ) → bit (2 ^ n) k ≡ eqb k n
bit_power n k = go (ltb k n) refl
  where
    go : (b : Bool) → ltb k n ≡ b → bit (2 ^ n) k ≡ eqb k n
    go true e =
        let l : k < n = ltb-true k n e in
        ap (λ (m : ℕ). bit m k) (sym (one-mul (2 ^ n))) ∙ bit_shl_below 1 n k l ∙ sym (ne_eqb k n (λ q. omega arith))
    go false e =
        let l : n ≤ k = ltb-false k n e in
        ap (λ (m : ℕ). bit m k) (sym (one-mul (2 ^ n))) ∙ ap (bit (1 * 2 ^ n)) (sym (add-sub_of_le l)) ∙ field_above n 1 (k - n) ∙ same l (k - n) refl
      where
        same : n ≤ k → (j : ℕ) → k - n ≡ j → ltb j 1 ≡ eqb k n
        same l j q = by (ltb j 1) refl
          where
            by : (t : Bool) → ltb j 1 ≡ t → t ≡ eqb k n
            by true f = sym (eq-eqb k n (omega (arith, ltb-true j 1 f)))
            by false f = sym (ne_eqb k n (λ r. omega (arith, ltb-false j 1 f)))

-- The channels below number n that wait at place p are those of its mask.
abbrev pub PostedTo : Channels → ℕ → List ℕ → Type 0
PostedTo c n here = (p k : ℕ) → k < 16 → bit (get_or here p 0) k ≡ (ltb k n && (bit c.waiting k && eqb p (get_or c.places k 0)))

pub posted_none : (c : Channels) (here : List ℕ) → ((p : ℕ) → get_or here p 0 ≡ 0) → PostedTo c 0 here
posted_none c here zeros p k q = ap (λ (m : ℕ). bit m k) (zeros p) ∙ bit_zero k ∙ sym (ap (λ (b : Bool). b && (bit c.waiting k && eqb p (get_or c.places k 0))) (le-ltb k 0 (omega arith)))

ltb_next : (k n : ℕ) → (k ≡ n → ⊥) → ltb k (n + 1) ≡ ltb k n
ltb_next k n h = go (ltb k n) refl
  where
    go : (b : Bool) → ltb k n ≡ b → ltb k (n + 1) ≡ b
    go true e = lt-ltb k (n + 1) (omega (arith, ltb-true k n e))
    go false e = le-ltb k (n + 1) (omega (arith, ltb-false k n e, h))

module _ (c : Channels) (n : ℕ) (here : List ℕ) (posted : PostedTo c n here) where
  -- Channel n waits nowhere,
  pub posted_past : bit c.waiting n ≡ false → PostedTo c (n + 1) here
  posted_past w p k q = go (eqb k n) refl
    where
      go : (b : Bool) → eqb k n ≡ b → bit (get_or here p 0) k ≡ (ltb k (n + 1) && (bit c.waiting k && eqb p (get_or c.places k 0)))
      go true e =
          let same : k ≡ n = eqb-true k n e in
          posted p k q ∙ rw (same, w, le-ltb n n (omega arith), lt-ltb n (n + 1) (omega arith))
      go false e = posted p k q ∙ rw (ltb_next k n (eqb-false k n e))

  -- or at its place.
  pub posted_more : n < 16 → bit c.waiting n ≡ true → get_or c.places n 0 < length here
      → PostedTo c (n + 1) (set here (get_or c.places n 0) (either_mask (get_or here (get_or c.places n 0) 0) (2 ^ n)))
  posted_more l w h p k q =
      let r : ℕ = get_or c.places n 0 in
      ap (λ (m : ℕ). bit m k) (mask_after here r (either_mask (get_or here r 0) (2 ^ n)) p h) ∙ go (eqb p r) (eqb k n) refl refl
    where
      go : (a b : Bool) → eqb p (get_or c.places n 0) ≡ a → eqb k n ≡ b
          → bit (cond a (either_mask (get_or here (get_or c.places n 0) 0) (2 ^ n)) (get_or here p 0)) k
          ≡ (ltb k (n + 1) && (bit c.waiting k && eqb p (get_or c.places k 0)))
      go true true e f =
          let same : k ≡ n = eqb-true k n f in
          bit_either (get_or here (get_or c.places n 0) 0) (2 ^ n) k q
          ∙ rw (bit_power n k, f, same, w, e, lt-ltb n (n + 1) (omega arith)) (or-true (bit (get_or here (get_or c.places n 0) 0) n))
      go true false e f =
          bit_either (get_or here (get_or c.places n 0) 0) (2 ^ n) k q
          ∙ rw (bit_power n k, f, or-false (bit (get_or here (get_or c.places n 0) 0) k))
          (ap (λ (x : ℕ). bit (get_or here x 0) k) (sym (eqb-true p (get_or c.places n 0) e)) ∙ posted p k q ∙ rw (ltb_next k n (eqb-false k n f)))
      go false true e f =
          let same : k ≡ n = eqb-true k n f in
          posted p k q ∙ rw (same, w, e, le-ltb n n (omega arith), lt-ltb n (n + 1) (omega arith))
      go false false e f = posted p k q ∙ rw (ltb_next k n (eqb-false k n f))

-- What is done for channel n.
pub posted_one : (c : Channels) (n : ℕ) (here after : List ℕ) → PostedTo c n here → ((p : ℕ) → get_or here p 0 < 65536) → n < 16
    → (bit c.waiting n ≡ true → get_or c.places n 0 < length here)
    → after ≡ cond (bit c.waiting n) (set here (get_or c.places n 0) (either_mask (get_or here (get_or c.places n 0) 0) (2 ^ n))) here
    → PostedTo c (n + 1) after × ((p : ℕ) → get_or after p 0 < 65536) × (length after ≡ length here)
posted_one c n here after posted small l inside e = go (bit c.waiting n) refl
  where
    go : (b : Bool) → bit c.waiting n ≡ b → PostedTo c (n + 1) after × ((p : ℕ) → get_or after p 0 < 65536) × (length after ≡ length here)
    go true w =
        let h = inside w in
        rw (e, w) (posted_more c n here posted l w h, set-small here (get_or c.places n 0) _ h (either_mask_less (get_or here (get_or c.places n 0) 0) (2 ^ n)) small, length-set here (get_or c.places n 0) _)
    go false w = rw (e, w) (posted_past c n here posted w, small, refl)

-- All sixteen are posted.
pub posted_all : (c : Channels) (here : List ℕ) → Sane c → ((p : ℕ) → get_or here p 0 < 65536) → PostedTo c 16 here → Posted c.awake here (channels_is c)
unfolding channels_is
posted_all c here s small posted =
    record {
      sixteen = length-numbered (channel_is c) 0 16;
      fits = s.awake_fits;
      small = small;
      awakes = λ n l. ap is_awake (get_d_numbered (channel_is c) n l) ∙ awake_is c s n l;
      waits = λ n l p.
          ap (waits_at p) (get_d_numbered (channel_is c) n l) ∙ waits_is c s n l p
          ∙ sym (posted p n l ∙ ap (λ (b : Bool). b && (bit c.waiting n && eqb p (get_or c.places n 0))) (lt-ltb n 16 l));
    }

-- ---- and back

-- Past a list's end there is nothing.
past : (l : List ℕ) (k : ℕ) → length l ≤ k → get_or l k 0 ≡ 0
past [] k h = refl
past (x ∷ l) zero h = absurd (omega arith)
past (x ∷ l) (suc k) h = past l k (omega arith)

-- Whether a channel waits below a place, and where.
abbrev pub waits_below : ℕ → Channel → Bool
waits_below q off = false
waits_below q awake = false
waits_below q (waiting p) = ltb p q

abbrev pub place_below : ℕ → Channel → ℕ
place_below q off = 0
place_below q awake = 0
place_below q (waiting p) = cond (ltb p q) p 0

-- The channels that wait below place q, and their places.
pub record Found (cs : List Channel) (q mask : ℕ) (places : List ℕ) : Type 0 where
  pub waits : (k : ℕ) → k < 16 → bit mask k ≡ waits_below q (get_or cs k off)
  pub at : (k : ℕ) → k < 16 → get_or places k 0 ≡ place_below q (get_or cs k off)

pub found_none : (cs : List Channel) → Found cs 0 0 (replicate 16 0)
found_none cs = record { waits = λ k q. bit_zero k ∙ sym (none (get_or cs k off)); at = λ k q. get_or-replicate {A = ℕ} 16 k 0 0 q ∙ sym (nowhere (get_or cs k off)) }
  where
    none : (c : Channel) → waits_below 0 c ≡ false
    none off = refl
    none awake = refl
    none (waiting p) = le-ltb p 0 (omega arith)

    nowhere : (c : Channel) → place_below 0 c ≡ 0
    nowhere off = refl
    nowhere awake = refl
    nowhere (waiting p) = ap (λ (b : Bool). cond b p 0) (le-ltb p 0 (omega arith))

-- One place more, for one channel.
below_next : (q : ℕ) (c : Channel) → (waits_below q c || waits_at q c) ≡ waits_below (q + 1) c
below_next q off = refl
below_next q awake = refl
below_next q (waiting p) = go (eqb q p) refl
  where
    go : (b : Bool) → eqb q p ≡ b → (ltb p q || b) ≡ ltb p (q + 1)
    go true e = or-true (ltb p q) ∙ sym (lt-ltb p (q + 1) (omega (arith, eqb-true q p e)))
    go false e = or-false (ltb p q) ∙ sym (ltb_next p q (λ f. eqb-false q p e (sym f)))

place_next : (q : ℕ) (c : Channel) → cond (waits_at q c) q (place_below q c) ≡ place_below (q + 1) c
place_next q off = refl
place_next q awake = refl
place_next q (waiting p) = go (eqb q p) refl
  where
    go : (b : Bool) → eqb q p ≡ b → cond b q (cond (ltb p q) p 0) ≡ cond (ltb p (q + 1)) p 0
    go true e = eqb-true q p e ∙ sym (ap (λ (b : Bool). cond b p 0) (lt-ltb p (q + 1) (omega (arith, eqb-true q p e))))
    go false e = sym (ap (λ (b : Bool). cond b p 0) (ltb_next p q (λ f. eqb-false q p e (sym f))))

module _ (up : ℕ) (here : List ℕ) (cs : List Channel) (s : Posted up here cs) (q mask : ℕ) (places : List ℕ) (found : Found cs q mask places) where
  -- Those of the mask of place q are found there.
  pub found_more : (next : List ℕ) → Mapped (λ k old new. new ≡ cond (bit (get_or here q 0) k) q old) 16 places next → Found cs (q + 1) (either_mask mask (get_or here q 0)) next
  found_more next m =
      record {
        waits = λ k l. bit_either mask (get_or here q 0) k l ∙ rw (found.waits k l, ← (s.waits k l q)) (below_next q (get_or cs k off));
        at = λ k l. m.done k l ∙ rw (found.at k l, ← (s.waits k l q)) (place_next q (get_or cs k off));
      }

-- At the end all are found.
module _ (up : ℕ) (here : List ℕ) (cs : List Channel) (s : Posted up here cs) (r : Channels) (few : length here ≤ 65536)
    (same : r.awake ≡ up) (fits : r.waiting < 65536) (long : length r.places ≡ 16) (found : Found cs (length here) r.waiting r.places) where
  -- No channel waits past the masks.
  inside : (k : ℕ) → k < 16 → (p : ℕ) → get_or cs k off ≡ waiting p → p < length here
  inside k l p e = go (ltb p (length here)) refl
    where
      go : (b : Bool) → ltb p (length here) ≡ b → p < length here
      go true f = ltb-true p (length here) f
      go false f =
          let set : waits_at p (get_or cs k off) ≡ true = ap (waits_at p) e ∙ eq-eqb p p refl in
          absurd (false≢true (sym (s.waits k l p ∙ ap (λ (m : ℕ). bit m k) (past here p (ltb-false p (length here) f)) ∙ bit_zero k) ∙ set))

  -- What is found of one channel.
  one : (k : ℕ) → k < 16 → (c : Channel) → get_or cs k off ≡ c
      → (cond (bit r.waiting k) (waiting (get_or r.places k 0)) (cond (bit r.awake k) awake off) ≡ c)
      × (bit r.waiting k ≡ true → bit r.awake k ≡ false) × (bit r.waiting k ≡ false → get_or r.places k 0 ≡ 0) × (get_or r.places k 0 < 65536)
  one k l off e =
      let w : bit r.waiting k ≡ false = found.waits k l ∙ ap (waits_below (length here)) e in
      let a : bit r.awake k ≡ false = ap (λ (m : ℕ). bit m k) same ∙ sym (s.awakes k l) ∙ ap is_awake e in
      let p : get_or r.places k 0 ≡ 0 = found.at k l ∙ ap (place_below (length here)) e in
      (rw (w, a), λ t. a, λ t. p, rw p (lit< tt))
  one k l awake e =
      let w : bit r.waiting k ≡ false = found.waits k l ∙ ap (waits_below (length here)) e in
      let a : bit r.awake k ≡ true = ap (λ (m : ℕ). bit m k) same ∙ sym (s.awakes k l) ∙ ap is_awake e in
      let p : get_or r.places k 0 ≡ 0 = found.at k l ∙ ap (place_below (length here)) e in
      (rw (w, a), λ t. absurd (false≢true (sym w ∙ t)), λ t. p, rw p (lit< tt))
  one k l (waiting q) e =
      let h : ltb q (length here) ≡ true = lt-ltb q (length here) (inside k l q e) in
      let w : bit r.waiting k ≡ true = found.waits k l ∙ ap (waits_below (length here)) e ∙ h in
      let a : bit r.awake k ≡ false = ap (λ (m : ℕ). bit m k) same ∙ sym (s.awakes k l) ∙ ap is_awake e in
      let p : get_or r.places k 0 ≡ q = found.at k l ∙ ap (place_below (length here)) e ∙ ap (λ (b : Bool). cond b q 0) h in
      (rw (w, p), λ t. a, λ t. absurd (true≢false (sym w ∙ t)), rw p (omega (arith, inside k l q e)))

  -- So they are the channels,
  pub found_channels : channels_is r ≡ cs
  unfolding channels_is channel_is
  found_channels =
      ext_get_or off (channels_is r) cs (length-numbered (channel_is r) 0 16 ∙ sym s.sixteen)
      (λ k h. let l : k < 16 = omega (arith, length-numbered (channel_is r) 0 16) in
      get_d_numbered (channel_is r) k l ∙ (one k l (get_or cs k off) refl).0)

  -- and they are sane.
  pub found_sane : Sane r
  found_sane =
      record {
        sixteen = long;
        awake_fits = rw same s.fits;
        waiting_fits = fits;
        apart = λ k l. (one k l (get_or cs k off) refl).1;
        zeros = λ k l. (one k l (get_or cs k off) refl).2;
        fits = λ k l. (one k l (get_or cs k off) refl).3;
      }
