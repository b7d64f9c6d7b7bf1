-- Channels given by their numbers: the list of f 0, …, f 15, and what the paper's walks over channels make of it. Assumes nothing.
use Rattle.std.specs.Prelude.{◌≡◌, refl, Bool, true, false, not, cond, ◌||◌, List, [], ◌∷◌, map, ℕ, zero, suc, ◌+◌, ◌^◌, ◌≤◌, ◌<◌, eqb, length, get_or}
use Rattle.std.proofs.Common.{ap, ap₂, sym, ◌∙◌, add-zero, zero-add, suc-add, add-suc, arith, lit<, eqb-true}
use Rattle.std.proofs.lemmas.Bool.{false≢true, eqb-false}
use Rattle.paper.specs.Bits.{bit}
use Rattle.paper.specs.Machine.{Channel, off, awake, each, someone, start_from}
use Rattle.paper.specs.State.{channel_in, channels_in, mask_of}
use Rattle.laws.specs.Masks.{of_bits_same, of_bits-bit, same_bits}
use Rattle.machine.specs.Together.{bit_zero}

-- The channels f n, f (n + 1), … , c of them.
unfoldable pub numbered : (ℕ → Channel) → ℕ → ℕ → List Channel
numbered f n zero = []
numbered f n (suc c) = f n ∷ numbered f (suc n) c

-- ---- which channels

pub length-numbered : (f : ℕ → Channel) (n c : ℕ) → length (numbered f n c) ≡ c
unfolding numbered
length-numbered f n zero = refl
length-numbered f n (suc c) = ap suc (length-numbered f (suc n) c)

get_d_from : (f : ℕ → Channel) (n c k : ℕ) → k < c → get_or (numbered f n c) k off ≡ f (n + k)
unfolding numbered
get_d_from f n zero k h = absurd (omega arith)
get_d_from f n (suc c) zero h = rw (add-zero n)
get_d_from f n (suc c) (suc k) h = get_d_from f (suc n) c k (omega arith) ∙ ap f (suc-add n k ∙ sym (add-suc n k))

pub get_d_numbered : (f : ℕ → Channel) (k : ℕ) → k < 16 → get_or (numbered f 0 16) k off ≡ f k
get_d_numbered f k h = get_d_from f 0 16 k h ∙ ap f (zero-add k)

same_from : (f g : ℕ → Channel) (n c : ℕ) → ((k : ℕ) → n ≤ k → k < n + c → f k ≡ g k) → numbered f n c ≡ numbered g n c
unfolding numbered
same_from f g n zero h = refl
same_from f g n (suc c) h =
    ap₂ {C = List Channel} (λ a b. a ∷ b) (h n (omega arith) (omega arith)) (same_from f g (suc n) c (λ k p q. h k (omega arith) (omega arith)))

-- Functions that agree on 16 numbers give the same channels.
pub same_numbered : (f g : ℕ → Channel) → ((k : ℕ) → k < 16 → f k ≡ g k) → numbered f 0 16 ≡ numbered g 0 16
same_numbered f g h = same_from f g 0 16 (λ k p q. h k (omega arith))

-- ---- what walks over them make

pub map-numbered : (g : Channel → Channel) (f : ℕ → Channel) (n c : ℕ) → map g (numbered f n c) ≡ numbered (λ k. g (f k)) n c
unfolding numbered
map-numbered g f n zero = refl
map-numbered g f n (suc c) = ap (λ (l : List Channel). g (f n) ∷ l) (map-numbered g f (suc n) c)

pub each-numbered : (g : ℕ → Channel → Channel) (f : ℕ → Channel) (n c : ℕ) → each g n (numbered f n c) ≡ numbered (λ k. g k (f k)) n c
unfolding numbered each
each-numbered g f n zero = refl
each-numbered g f n (suc c) = ap (λ (l : List Channel). g n (f n) ∷ l) (each-numbered g f (suc n) c)

-- The state's channels are numbered,
pub in_numbered : (bytes : List ℕ) (n c : ℕ) → channels_in bytes n c ≡ numbered (channel_in bytes) n c
unfolding numbered channels_in
in_numbered bytes n zero = refl
in_numbered bytes n (suc c) = ap (λ (l : List Channel). channel_in bytes n ∷ l) (in_numbered bytes (suc n) c)

-- and those of a start.
pub start_numbered : (mask n c : ℕ) → start_from mask n c ≡ numbered (λ k. cond (bit mask k) awake off) n c
unfolding numbered start_from
start_numbered mask n zero = refl
start_numbered mask n (suc c) = ap (λ (l : List Channel). cond (bit mask n) awake off ∷ l) (start_numbered mask (suc n) c)

-- The mask of the channels that pass a test has their tests as its bits.
pub mask_numbered : (test : Channel → Bool) (f : ℕ → Channel) (m : ℕ) → m < 2 ^ 16 → ((k : ℕ) → k < 16 → test (f k) ≡ bit m k)
    → mask_of test (numbered f 0 16) ≡ m
unfolding mask_of
mask_numbered test f m h e =
    of_bits_same (λ n. test (get_or (numbered f 0 16) n off)) (bit m) 16 (λ k q. ap test (get_d_numbered f k q) ∙ e k q) ∙ of_bits-bit m 16 h

-- ---- some channel passes a test

neither : (a b : Bool) → (a || b) ≡ false → (a ≡ false) × (b ≡ false)
neither true b e = absurd (false≢true (sym e))
neither false b e = (refl, e)

none_from : (g : ℕ → Channel → Bool) (f : ℕ → Channel) (n c : ℕ) → someone g n (numbered f n c) ≡ false
    → (k : ℕ) → k < c → g (n + k) (f (n + k)) ≡ false
unfolding numbered someone
none_from g f n zero e k h = absurd (omega arith)
none_from g f n (suc c) e zero h = rw (add-zero n) (neither (g n (f n)) (someone g (suc n) (numbered f (suc n) c)) e).0
none_from g f n (suc c) e (suc k) h =
    ap (λ (m : ℕ). g m (f m)) (add-suc n k ∙ sym (suc-add n k))
    ∙ none_from g f (suc n) c (neither (g n (f n)) (someone g (suc n) (numbered f (suc n) c)) e).1 k (omega arith)

from_none : (g : ℕ → Channel → Bool) (f : ℕ → Channel) (n c : ℕ) → ((k : ℕ) → n ≤ k → k < n + c → g k (f k) ≡ false)
    → someone g n (numbered f n c) ≡ false
unfolding numbered someone
from_none g f n zero h = refl
from_none g f n (suc c) h =
    rw (h n (omega arith) (omega arith)) (from_none g f (suc n) c (λ k p q. h k (omega arith) (omega arith)))

module _ (g : ℕ → Channel → Bool) (f : ℕ → Channel) where
  -- Where each fails, none does.
  pub none_passes : ((k : ℕ) → k < 16 → g k (f k) ≡ false) → someone g 0 (numbered f 0 16) ≡ false
  none_passes h = from_none g f 0 16 (λ k p q. h k (omega arith))

  -- Where the channels of a mask that is not 0 pass, some channel does.
  pub some_passes : (m : ℕ) → m < 2 ^ 16 → ((k : ℕ) → k < 16 → bit m k ≡ true → g k (f k) ≡ true) → (m ≡ 0 → ⊥)
      → someone g 0 (numbered f 0 16) ≡ true
  some_passes m h passing some = go (someone g 0 (numbered f 0 16)) refl
    where
      unset : (k : ℕ) (b : Bool) → bit m k ≡ b → k < 16 → g k (f k) ≡ false → bit m k ≡ bit 0 k
      unset k true e q n = absurd (false≢true (sym n ∙ passing k q e))
      unset k false e q n = e ∙ sym (bit_zero k)

      go : (b : Bool) → someone g 0 (numbered f 0 16) ≡ b → b ≡ true
      go true e = refl
      go false e =
          absurd (some (same_bits m 0 16 h (lit< tt)
          (λ k q. unset k (bit m k) refl q (rw (zero-add k) at (none_from g f 0 16 e k q)))))

  -- Where just the channels of a mask pass, some channel does if the mask is not 0.
  pub some_of : (m : ℕ) → m < 2 ^ 16 → ((k : ℕ) → k < 16 → g k (f k) ≡ bit m k) → someone g 0 (numbered f 0 16) ≡ not (eqb m 0)
  some_of m h e = go (eqb m 0) refl
    where
      go : (b : Bool) → eqb m 0 ≡ b → someone g 0 (numbered f 0 16) ≡ not b
      go true z = none_passes (λ k q. e k q ∙ ap (λ (x : ℕ). bit x k) (eqb-true m 0 z) ∙ bit_zero k)
      go false z = some_passes m h (λ k q p. e k q ∙ p) (eqb-false m 0 z)

same_passes : (g h : ℕ → Channel → Bool) (f : ℕ → Channel) (n c : ℕ) → ((k : ℕ) → n ≤ k → k < n + c → g k (f k) ≡ h k (f k))
    → someone g n (numbered f n c) ≡ someone h n (numbered f n c)
unfolding numbered someone
same_passes g h f n zero e = refl
same_passes g h f n (suc c) e =
    ap₂ ◌||◌ (e n (omega arith) (omega arith)) (same_passes g h f (suc n) c (λ k p q. e k (omega arith) (omega arith)))

-- Tests that agree on 16 channels are passed alike.
pub some_same : (g h : ℕ → Channel → Bool) (f : ℕ → Channel) → ((k : ℕ) → k < 16 → g k (f k) ≡ h k (f k))
    → someone g 0 (numbered f 0 16) ≡ someone h 0 (numbered f 0 16)
some_same g h f e = same_passes g h f 0 16 (λ k p q. e k (omega arith))
