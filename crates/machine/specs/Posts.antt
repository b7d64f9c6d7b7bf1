-- Channels by place: a mask of the awake ones, and for each place a mask of those that wait there. Assumes nothing.
use Rattle.std.specs.Prelude.{◌≡◌, Bool, true, not, cond, ◌&&◌, ◌||◌, List, [], ◌∷◌, map, ℕ, zero, suc, ◌+◌, ◌<◌, eqb, length, get_or, set}
use Rattle.std.proofs.Math.Path.{refl, ap}
use Rattle.std.proofs.Common.{sym, ◌∙◌, true≢false, add-zero, zero-add, suc-add, add-suc, arith, lit<, get_or-set_same, get_or-set_other, eqb-true, eq-eqb}
use Rattle.std.proofs.Math.Bool.{false}
use Rattle.std.proofs.lemmas.Bool.{false≢true, eqb-false}
use Rattle.std.proofs.Math.ListN.{length-map, get_or-map}
use Rattle.std.proofs.Math.Seq.{ext_get_or}
use Rattle.paper.specs.Bits.{bit}
use Rattle.paper.specs.Machine.{Channel, off, awake, waiting, is_awake, waits_at, wake, park, each}
use Rattle.machine.specs.Together.{bit_zero, both_mask, either_mask, without_mask, bit_both, bit_either, bit_without, either_mask_less, without_mask_less}

-- Channel n is awake where its bit of the awake mask is 1, and waits at place p where its bit of that place's mask is.
pub record Posted (up : ℕ) (here : List ℕ) (cs : List Channel) : Type 0 where
  pub sixteen : length cs ≡ 16
  pub fits : up < 65536
  pub small : (p : ℕ) → get_or here p 0 < 65536
  pub awakes : (n : ℕ) → n < 16 → is_awake (get_or cs n off) ≡ bit up n
  pub waits : (n : ℕ) → n < 16 → (p : ℕ) → waits_at p (get_or cs n off) ≡ bit (get_or here p 0) n

-- ---- one channel

never : (b : Bool) → false ≡ cond b false false
never true = refl
never false = refl

wake-awake : (p : ℕ) (c : Channel) → is_awake (wake p c) ≡ (is_awake c || waits_at p c)
unfolding wake
wake-awake p off = refl
wake-awake p awake = refl
wake-awake p (waiting q) = go (eqb p q)
  where
    go : (b : Bool) → is_awake (cond b awake (waiting q)) ≡ b
    go true = refl
    go false = refl

wake-waits : (p q : ℕ) (c : Channel) → waits_at q (wake p c) ≡ cond (eqb q p) false (waits_at q c)
unfolding wake
wake-waits p q off = never (eqb q p)
wake-waits p q awake = never (eqb q p)
wake-waits p q (waiting r) = go (eqb p r) (eqb q p) (eqb q r) refl refl refl
  where
    go : (a b c : Bool) → eqb p r ≡ a → eqb q p ≡ b → eqb q r ≡ c → waits_at q (cond a awake (waiting r)) ≡ cond b false c
    go true true c e f g = refl
    go true false c e f g = sym (sym g ∙ ap (eqb q) (sym (eqb-true p r e)) ∙ f)
    go false true c e f g = ap (λ (x : ℕ). eqb x r) (eqb-true q p f) ∙ e
    go false false c e f g = g

park-awake : (b : Bool) (p : ℕ) (c : Channel) → is_awake (park b p c) ≡ (is_awake c && not b)
unfolding park
park-awake b p off = refl
park-awake true p awake = refl
park-awake false p awake = refl
park-awake b p (waiting q) = refl

park-waits : (b : Bool) (p q : ℕ) (c : Channel) → waits_at q (park b p c) ≡ cond (eqb q p) (waits_at q c || (is_awake c && b)) (waits_at q c)
unfolding park
park-waits b p q off = never (eqb q p)
park-waits true p q awake = go (eqb q p)
  where
    go : (t : Bool) → t ≡ cond t true false
    go true = refl
    go false = refl
park-waits false p q awake = never (eqb q p)
park-waits b p q (waiting r) = go (eqb q p) (eqb q r)
  where
    go : (s t : Bool) → t ≡ cond s (t || false) t
    go true true = refl
    go true false = refl
    go false t = refl

-- A channel is what is said of it: awake or not, waiting at this place or that.
one_said : (c d : Channel) → is_awake c ≡ is_awake d → ((p : ℕ) → waits_at p c ≡ waits_at p d) → c ≡ d
one_said off off e f = refl
one_said off awake e f = absurd (false≢true e)
one_said off (waiting q) e f = absurd (false≢true (f q ∙ eq-eqb q q refl))
one_said awake off e f = absurd (true≢false e)
one_said awake awake e f = refl
one_said awake (waiting q) e f = absurd (true≢false e)
one_said (waiting q) off e f = absurd (true≢false (sym (eq-eqb q q refl) ∙ f q))
one_said (waiting q) awake e f = absurd (false≢true e)
one_said (waiting q) (waiting r) e f = ap waiting (eqb-true q r (sym (f q) ∙ eq-eqb q q refl))

-- ---- lists of channels

each-length : (f : ℕ → Channel → Channel) (n : ℕ) (cs : List Channel) → length (each f n cs) ≡ length cs
unfolding each
each-length f n [] = refl
each-length f n (c ∷ cs) = ap suc (each-length f (suc n) cs)

each_from : (f : ℕ → Channel → Channel) (n : ℕ) (cs : List Channel) (k : ℕ) → k < length cs → get_or (each f n cs) k off ≡ f (n + k) (get_or cs k off)
unfolding each
each_from f n [] k h = absurd (omega arith)
each_from f n (c ∷ cs) zero h = ap (λ (m : ℕ). f m c) (sym (add-zero n))
each_from f n (c ∷ cs) (suc k) h =
    each_from f (suc n) cs k (omega arith) ∙ ap (λ (m : ℕ). f m (get_or cs k off)) (suc-add n k ∙ sym (add-suc n k))

each_at : (f : ℕ → Channel → Channel) (cs : List Channel) (k : ℕ) → k < length cs → get_or (each f 0 cs) k off ≡ f k (get_or cs k off)
each_at f cs k h = each_from f 0 cs k h ∙ ap (λ (m : ℕ). f m (get_or cs k off)) (zero-add k)

-- The mask of a place once that of place p is m.
pub mask_after : (here : List ℕ) (p m q : ℕ) → p < length here → get_or (set here p m) q 0 ≡ cond (eqb q p) m (get_or here q 0)
mask_after here p m q h = go (eqb q p) refl
  where
    go : (b : Bool) → eqb q p ≡ b → get_or (set here p m) q 0 ≡ cond b m (get_or here q 0)
    go true e = ap (λ (x : ℕ). get_or (set here p m) x 0) (eqb-true q p e) ∙ get_or-set_same here p m 0 h
    go false e = get_or-set_other here p q m 0 (eqb-false q p e)

mask_small : (b : Bool) (m n : ℕ) → m < 65536 → n < 65536 → cond b m n < 65536
mask_small true m n h g = h
mask_small false m n h g = g

-- Masks stay small.
pub set-small : (here : List ℕ) (p m : ℕ) → p < length here → m < 65536 → ((q : ℕ) → get_or here q 0 < 65536) → (q : ℕ) → get_or (set here p m) q 0 < 65536
set-small here p m h l small q = rw (mask_after here p m q h) (mask_small (eqb q p) m (get_or here q 0) l (small q))

bit-cond : (b : Bool) (m n k : ℕ) → bit (cond b m n) k ≡ cond b (bit m k) (bit n k)
bit-cond true m n k = refl
bit-cond false m n k = refl

module _ (up : ℕ) (here : List ℕ) (cs : List Channel) (s : Posted up here cs) where
  -- Those that wait at a place wake: they are awake, and none waits there.
  pub posted_wake : (p : ℕ) → p < length here → Posted (either_mask up (get_or here p 0)) (set here p 0) (map (wake p) cs)
  unfolding wake
  posted_wake p h =
      record {
        sixteen = length-map cs (wake p) ∙ s.sixteen;
        fits = either_mask_less up (get_or here p 0);
        small = set-small here p 0 h (lit< tt) s.small;
        awakes = λ n l.
            ap is_awake (get_or-map (wake p) cs n off) ∙ wake-awake p (get_or cs n off)
            ∙ rw (s.awakes n l, s.waits n l p) (sym (bit_either up (get_or here p 0) n l));
        waits = λ n l q.
            ap (waits_at q) (get_or-map (wake p) cs n off) ∙ wake-waits p q (get_or cs n off)
            ∙ rw (s.waits n l q) (sym (ap (λ (m : ℕ). bit m n) (mask_after here p 0 q h) ∙ bit-cond (eqb q p) 0 (get_or here q 0) n ∙ rw (bit_zero n)));
      }

  -- Where none waits there, all stays.
  pub posted_still : (p : ℕ) → get_or here p 0 ≡ 0 → map (wake p) cs ≡ cs
  unfolding wake
  posted_still p z =
      ext_get_or off (map (wake p) cs) cs (length-map cs (wake p))
      (λ n h. let l : n < 16 = omega (arith, length-map cs (wake p), s.sixteen) in
      get_or-map (wake p) cs n off ∙ none (get_or cs n off) (s.waits n l p ∙ ap (λ (m : ℕ). bit m n) z ∙ bit_zero n))
    where
      none : (c : Channel) → waits_at p c ≡ false → wake p c ≡ c
      none off e = refl
      none awake e = refl
      none (waiting q) e = rw e

  -- The awake channels of a mask wait at a place.
  pub posted_park : (mask p : ℕ) (test : ℕ → Bool) → ((n : ℕ) → n < 16 → bit mask n ≡ test n) → p < length here
      → Posted (without_mask up mask) (set here p (either_mask (get_or here p 0) (both_mask up mask))) (each (λ n. park (test n) p) 0 cs)
  posted_park mask p test e h =
      let m : ℕ = either_mask (get_or here p 0) (both_mask up mask) in
      record {
        sixteen = each-length (λ n. park (test n) p) 0 cs ∙ s.sixteen;
        fits = without_mask_less up mask;
        small = set-small here p m h (either_mask_less (get_or here p 0) (both_mask up mask)) s.small;
        awakes = λ n l.
            ap is_awake (each_at (λ n. park (test n) p) cs n (omega (arith, s.sixteen))) ∙ park-awake (test n) p (get_or cs n off)
            ∙ rw (s.awakes n l, ← (e n l)) (sym (bit_without up mask n l));
        waits = λ n l q.
            ap (waits_at q) (each_at (λ n. park (test n) p) cs n (omega (arith, s.sixteen))) ∙ park-waits (test n) p q (get_or cs n off)
            ∙ sym (ap (λ (m : ℕ). bit m n) (mask_after here p m q h) ∙ bit-cond (eqb q p) m (get_or here q 0) n ∙ there n l q (eqb q p) refl);
      }
    where
      there : (n : ℕ) → n < 16 → (q : ℕ) (b : Bool) → eqb q p ≡ b
          → cond b (bit (either_mask (get_or here p 0) (both_mask up mask)) n) (bit (get_or here q 0) n)
          ≡ cond b (waits_at q (get_or cs n off) || (is_awake (get_or cs n off) && test n)) (waits_at q (get_or cs n off))
      there n l q true f =
          bit_either (get_or here p 0) (both_mask up mask) n l
          ∙ rw (bit_both up mask n l, e n l, s.awakes n l, s.waits n l q, eqb-true q p f)
      there n l q false f = sym (s.waits n l q)

-- Channels so posted are the same.
pub posted_same : (up : ℕ) (here : List ℕ) (cs ds : List Channel) → Posted up here cs → Posted up here ds → cs ≡ ds
posted_same up here cs ds s t =
    ext_get_or off cs ds (s.sixteen ∙ sym t.sixteen)
    (λ n h. let l : n < 16 = omega (arith, s.sixteen) in
    one_said (get_or cs n off) (get_or ds n off) (s.awakes n l ∙ sym (t.awakes n l)) (λ p. s.waits n l p ∙ sym (t.waits n l p)))
