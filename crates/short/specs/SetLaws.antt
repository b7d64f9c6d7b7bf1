-- The first index that a key's sets have in common is the smallest index at which the table's number is the key. Assumes nothing.
use Rattle.std.proofs.Math.Bool.{Bool}
use Rattle.std.specs.Prelude.{true, false, cond, ◌&&◌, List, Some, None, ◌≡◌, refl, length, replicate, set, ltb}
use Rattle.std.proofs.Common.{sym, ap₂, ◌∙◌, mod-lt, mod-eq_of_lt, pow-suc, add-one, length-set, pow_pos, get_or-set_same, get_or-set_other, lt-ltb, le-ltb, eqb-true, eq-eqb, ne_eqb}
use Rattle.std.proofs.Math.Path.{ap}
use Prim.Native.Nat.{ℕ, zero, suc, ◌+◌, ◌*◌, ◌/◌, ◌%◌, ◌^◌, ◌≤◌, ◌<◌}
use native.Mathlib.Omega.{arith}
use Rattle.std.specs.Int.Bits.{bit_and, bit_or, or_shifted_r}
use Rattle.std.proofs.lemmas.Nat.{and_block}
use Rattle.std.specs.Int.Count.{count_trailing_zeros}
use Rattle.std.proofs.Math.Dec.{eqb}
use Rattle.std.proofs.Math.ListN.{get_or}
use Rattle.std.proofs.Math.Pow.{pow_mono}
use Rattle.std.proofs.lemmas.Bool.{eqb-false}
use Rattle.std.proofs.lemmas.List.{get_or-replicate}
use borrow.Author.Tests.{ltb-true, ltb-false}
use Rattle.paper.specs.Bits.{bits, bit}
use Rattle.paper.specs.Enable.{digit, of_bits}
use Rattle.paper.specs.Dictionary.{Dictionary}
use Rattle.paper.specs.Shorten.{first_from, index_of}
use Rattle.laws.specs.Bits.{bits_above}
use Rattle.laws.specs.Masks.{of_bits_less, bit-of_bits}
use Rattle.short.specs.Sets.{entry, has_digit, Gathered, mark, joined, first_common, found}

-- ---- sets as numbers

and_digits : (a b : Bool) → bit_and (digit a) (digit b) ≡ digit (a && b)
and_digits true true = refl
and_digits true false = refl
and_digits false true = refl
and_digits false false = refl

-- What two sets have in common.
common : (f g : ℕ → Bool) (n : ℕ) → bit_and (of_bits f n) (of_bits g n) ≡ of_bits (λ i. f i && g i) n
unfolding of_bits
common f g zero = refl
common f g (suc n) =
    and_block n (digit (f n)) (digit (g n)) (of_bits f n) (of_bits g n) (of_bits_less f n) (of_bits_less g n)
    ∙ ap₂ (λ (x y : ℕ). x * 2 ^ n + y) (and_digits (f n) (g n)) (common f g n)

-- The zeros below a number's lowest bit are the first number from i on that passes the test, if its bits are what the test says of the numbers from i on.
zeros_first : (f : ℕ → Bool) (k i m : ℕ) → ((j : ℕ) → j < k → bit m j ≡ f (i + j)) → i + count_trailing_zeros k m ≡ first_from f k i
unfolding first_from count_trailing_zeros
zeros_first f zero i m h = omega arith
zeros_first f (suc k) i m h = go (f i) refl (zeros_first f k (suc i) (m / 2) rest)
  where
    lowest : eqb (m % 2) 1 ≡ f i
    lowest =
        let one : m / 2 ^ 0 % 2 ^ 1 ≡ m % 2 = omega arith in
        let here : i + 0 ≡ i = omega arith in
        ap (λ (x : ℕ). eqb x 1) (sym one) ∙ h 0 (omega arith) ∙ ap f here

    rest : (j : ℕ) → j < k → bit (m / 2) j ≡ f (suc i + j)
    rest j l =
        let there : i + (1 + j) ≡ suc i + j = omega arith in
        ap (λ (x : ℕ). eqb x 1) (bits_above 1 j 1 m) ∙ h (1 + j) (omega arith) ∙ ap f there

    go : (b : Bool) → f i ≡ b → suc i + count_trailing_zeros k (m / 2) ≡ first_from f k (suc i) → i + count_trailing_zeros (suc k) m ≡ first_from f (suc k) i
    go true e further =
        let odd : m % 2 ≡ 1 = eqb-true _ _ (lowest ∙ e) in
        let nothing : i + 0 ≡ i = omega arith in
        rw (odd, e) nothing
    go false e further =
        let no : m % 2 ≡ 1 → ⊥ = eqb-false (m % 2) 1 (lowest ∙ e) in
        let even : m % 2 ≡ 0 = omega arith in
        rw (even, e) (omega (arith, further))

-- ---- three digits

-- A number of 18 bits is its three digits.
three_digits : (x : ℕ) → x < 2 ^ 18 → x ≡ x % 64 + 64 * (x / 64 % 64) + 4096 * (x / 4096 % 64)
three_digits x h = omega arith

-- Numbers of 18 bits are equal where their three digits are.
digits_same : (x y : ℕ) → x < 2 ^ 18 → y < 2 ^ 18
    → ((eqb (bits x 0 6) (y % 64) && eqb (bits x 6 6) (y / 64 % 64)) && eqb (bits x 12 6) (y / 4096 % 64)) ≡ eqb x y
digits_same x y h k = go (eqb x y) refl (eqb (bits x 0 6) (y % 64)) refl (eqb (bits x 6 6) (y / 64 % 64)) refl (eqb (bits x 12 6) (y / 4096 % 64)) refl
  where
    go : (t : Bool) → eqb x y ≡ t → (a : Bool) → eqb (bits x 0 6) (y % 64) ≡ a → (b : Bool) → eqb (bits x 6 6) (y / 64 % 64) ≡ b
        → (c : Bool) → eqb (bits x 12 6) (y / 4096 % 64) ≡ c → ((a && b) && c) ≡ t
    go true e a ea b eb c ec =
        let same : x ≡ y = eqb-true x y e in
        let low : a ≡ true = sym ea ∙ eq-eqb (bits x 0 6) (y % 64) (omega (arith, same)) in
        let middle : b ≡ true = sym eb ∙ eq-eqb (bits x 6 6) (y / 64 % 64) (omega (arith, same)) in
        let high : c ≡ true = sym ec ∙ eq-eqb (bits x 12 6) (y / 4096 % 64) (omega (arith, same)) in
        rw (low, middle, high)
    go false e true ea true eb true ec =
        let whole : bits x 0 6 ≡ x % 64 = omega arith in
        let low : x % 64 ≡ y % 64 = sym whole ∙ eqb-true (bits x 0 6) (y % 64) ea in
        let middle : x / 64 % 64 ≡ y / 64 % 64 = eqb-true (bits x 6 6) (y / 64 % 64) eb in
        let high : x / 4096 % 64 ≡ y / 4096 % 64 = eqb-true (bits x 12 6) (y / 4096 % 64) ec in
        absurd (eqb-false x y e (three_digits x h ∙ rw (low, middle, high) (sym (three_digits y k))))
    go false e true ea true eb false ec = refl
    go false e true ea false eb c ec = refl
    go false e false ea b eb c ec = refl

-- ---- the look-up

module _ (D : Dictionary) (base width : ℕ) (narrow : width ≤ 18) (sets : List ℕ) (gathered : Gathered D base width sets 32) where
  entry_small : (i : ℕ) → entry D base width i < 2 ^ 18
  entry_small i = omega (arith, mod-lt (D (base + i)) (pow_pos width), pow_mono {i = width} {j = 18} narrow)

  -- The three sets of the key have the indices in common at which the number is the key.
  three_common : (key : ℕ) → key < 2 ^ 18 → (i : ℕ)
      → ((has_digit D base width 0 (key % 64) i && has_digit D base width 1 (key / 64 % 64) i) && has_digit D base width 2 (key / 4096 % 64) i)
      ≡ eqb (entry D base width i) key
  three_common key h i = digits_same (entry D base width i) key (entry_small i) h

  -- It answers the smallest index.
  pub common_index : (key : ℕ) → key < 2 ^ width → first_common sets key ≡ index_of (λ (i : ℕ). D (base + i)) (2 ^ width) key
  unfolding first_common index_of
  common_index key h =
      let f : ℕ → Bool = has_digit D base width 0 (key % 64) in
      let g : ℕ → Bool = has_digit D base width 1 (key / 64 % 64) in
      let t : ℕ → Bool = has_digit D base width 2 (key / 4096 % 64) in
      let small : key < 2 ^ 18 = omega (arith, h, pow_mono {i = width} {j = 18} narrow) in
      let low : get_or sets (key % 64) 0 ≡ of_bits f 32 = ap (λ (k : ℕ). get_or sets k 0) (let z : key % 64 ≡ 64 * 0 + key % 64 = omega arith in z) ∙ gathered 0 (key % 64) (omega arith) (omega arith) in
      let middle : get_or sets (64 + key / 64 % 64) 0 ≡ of_bits g 32 = gathered 1 (key / 64 % 64) (omega arith) (omega arith) in
      let high : get_or sets (128 + key / 4096 % 64) 0 ≡ of_bits t 32 = gathered 2 (key / 4096 % 64) (omega arith) (omega arith) in
      let all : ℕ → Bool = λ i. eqb (entry D base width i) key in
      let same : (λ (i : ℕ). (f i && g i) && t i) ≡ all = λ x i. three_common key small i x in
      let start : count_trailing_zeros 32 (of_bits all 32) ≡ 0 + count_trailing_zeros 32 (of_bits all 32) = omega arith in
      rw (low, middle, high, common f g 32, common (λ i. f i && g i) t 32)
      (ap (λ (u : ℕ → Bool). count_trailing_zeros 32 (of_bits u 32)) same ∙ start ∙ zeros_first all 32 0 (of_bits all 32) (λ j l. bit-of_bits all 32 j l ∙ (let z : j ≡ 0 + j = omega arith in ap all z)))

-- ---- gathering

-- One bit, as the code shifts it into its place.
pub one_shifted : (i n : ℕ) → i < n → 1 * 2 ^ i % 2 ^ n ≡ 2 ^ i
one_shifted i n h =
    let once : 1 * 2 ^ i ≡ 2 ^ i = omega arith in
    let below : 2 ^ i < 2 ^ n = omega (arith, pow_mono {i = suc i} {j = n} h, pow_pos i, pow-suc 2 i) in
    rw once (mod-eq_of_lt below)

-- Tests that hold together are equal.
same_test : {a b x y : ℕ} → (a ≡ b → x ≡ y) → (x ≡ y → a ≡ b) → eqb a b ≡ eqb x y
same_test {a} {b} {x} {y} f g = go (eqb a b) refl
  where
    go : (t : Bool) → eqb a b ≡ t → t ≡ eqb x y
    go true e = sym (eq-eqb x y (f (eqb-true a b e)))
    go false e = sym (ne_eqb x y (λ h. eqb-false a b e (g h)))

-- A set that nothing joins stays.
mark_other : (l : List ℕ) (a one k : ℕ) → (k ≡ a → ⊥) → get_or (mark l a one) k 0 ≡ get_or l k 0
unfolding mark
mark_other l a one k apart = get_or-set_other l a k (bit_or (get_or l a 0) one) 0 apart

-- Index n joins set a of those of n indices: then each set k has it just where k is a.
mark_more : (l : List ℕ) (a n k : ℕ) → a < length l → get_or l k 0 < 2 ^ n → get_or (mark l a (2 ^ n)) k 0 ≡ digit (eqb a k) * 2 ^ n + get_or l k 0
unfolding mark
mark_more l a n k inside less = go (eqb a k) refl
  where
    go : (t : Bool) → eqb a k ≡ t → get_or (set l a (bit_or (get_or l a 0) (2 ^ n))) k 0 ≡ digit t * 2 ^ n + get_or l k 0
    go true e =
        let same : a ≡ k = eqb-true a k e in
        let one : 2 ^ n ≡ 1 * 2 ^ n = omega arith in
        rw same (get_or-set_same l k (bit_or (get_or l k 0) (2 ^ n)) 0 (omega (arith, same)) ∙ ap (bit_or (get_or l k 0)) one ∙ or_shifted_r 1 n (get_or l k 0) less)
    go false e = mark_other l a (2 ^ n) k (λ x. eqb-false a k e (sym x)) ∙ (let z : get_or l k 0 ≡ 0 * 2 ^ n + get_or l k 0 = omega arith in z)

mark-length : (l : List ℕ) (a one : ℕ) → length (mark l a one) ≡ length l
unfolding mark
mark-length l a one = length-set l a _

-- Joining sets makes them no more.
pub joined_length : (l : List ℕ) (x one : ℕ) → length (joined l x one) ≡ length l
unfolding joined
joined_length l x one = mark-length _ _ _ ∙ mark-length _ _ _ ∙ mark-length _ _ _

module _ (l : List ℕ) (inside : 192 ≤ length l) where
  -- Of digit j, where digit d joins: a set has the index just where it is the digit's.
  digit_more : (m : List ℕ) (j d v n : ℕ) → 64 * j + d < length m → get_or m (64 * j + v) 0 < 2 ^ n
      → get_or (mark m (64 * j + d) (2 ^ n)) (64 * j + v) 0 ≡ digit (eqb d v) * 2 ^ n + get_or m (64 * j + v) 0
  digit_more m j d v n h less =
      mark_more m (64 * j + d) n (64 * j + v) h less
      ∙ ap (λ (t : Bool). digit t * 2 ^ n + get_or m (64 * j + v) 0) (same_test {a = 64 * j + d} {b = 64 * j + v} {x = d} {y = v} (λ e. omega arith) (λ e. omega arith))

  -- Number n joins the sets of the n numbers before it.
  pub gathered_more : (D : Dictionary) (base width n : ℕ) → Gathered D base width l n
      → Gathered D base width (joined l (entry D base width n) (2 ^ n)) (n + 1)
  unfolding joined of_bits
  gathered_more D base width n g j v few small = rw (add-one n) (go j few)
    where
      x : ℕ
      x = entry D base width n

      one : List ℕ
      one = mark l (x % 64) (2 ^ n)

      two : List ℕ
      two = mark one (64 + x / 64 % 64) (2 ^ n)

      three : List ℕ
      three = mark two (128 + x / 4096 % 64) (2 ^ n)

      held : (j : ℕ) → j < 3 → get_or l (64 * j + v) 0 < 2 ^ n
      held j h = rw (g j v h small) (of_bits_less (has_digit D base width j v) n)

      -- Where digit d of number n is told, and the set was l's before.
      told : (j d b : ℕ) → j < 3 → d ≡ bits x (6 * j) 6 → b ≡ get_or l (64 * j + v) 0
          → digit (eqb d v) * 2 ^ n + b ≡ digit (eqb (bits x (6 * j) 6) v) * 2 ^ n + of_bits (has_digit D base width j v) n
      told j d b h e f = rw (e, f, g j v h small)

      go : (j : ℕ) → j < 3 → get_or three (64 * j + v) 0 ≡ digit (eqb (bits x (6 * j) 6) v) * 2 ^ n + of_bits (has_digit D base width j v) n
      go zero h =
          let first : x % 64 ≡ 0 + x % 64 = omega arith in
          let low : x % 64 ≡ bits x 0 6 = omega arith in
          mark_other two (128 + x / 4096 % 64) (2 ^ n) (0 + v) (λ e. omega arith)
          ∙ mark_other one (64 + x / 64 % 64) (2 ^ n) (0 + v) (λ e. omega arith)
          ∙ ap (λ (a : ℕ). get_or (mark l a (2 ^ n)) (0 + v) 0) first
          ∙ digit_more l 0 (x % 64) v n (omega arith) (held 0 h)
          ∙ told 0 (x % 64) (get_or l (0 + v) 0) h low refl
      go (suc zero) h =
          let stays = mark_other l (x % 64) (2 ^ n) (64 + v) (λ e. omega arith) in
          mark_other two (128 + x / 4096 % 64) (2 ^ n) (64 + v) (λ e. omega arith)
          ∙ digit_more one 1 (x / 64 % 64) v n (rw (mark-length l (x % 64) (2 ^ n)) (omega arith)) (rw stays (held 1 h))
          ∙ told 1 (x / 64 % 64) (get_or one (64 + v) 0) h refl stays
      go (suc (suc zero)) h =
          let stays =
          mark_other one (64 + x / 64 % 64) (2 ^ n) (128 + v) (λ e. omega arith)
          ∙ mark_other l (x % 64) (2 ^ n) (128 + v) (λ e. omega arith) in
          digit_more two 2 (x / 4096 % 64) v n (rw (mark-length one (64 + x / 64 % 64) (2 ^ n), mark-length l (x % 64) (2 ^ n)) (omega arith)) (rw stays (held 2 h))
          ∙ told 2 (x / 4096 % 64) (get_or two (128 + v) 0) h refl stays
      go (suc (suc (suc j))) h = absurd (omega arith)

-- Before the first number no index is in a set.
pub none_gathered : (D : Dictionary) (base width : ℕ) → Gathered D base width (replicate 192 0) 0
unfolding of_bits
none_gathered D base width j v few small = get_or-replicate 192 (64 * j + v) 0 0 (omega arith)

-- The next number, x, joins; `one` is the set of its index.
pub one_more : (D : Dictionary) (base width : ℕ) (before after : List ℕ) (n x one : ℕ) → length after ≡ 192 → after ≡ joined before x one
    → Gathered D base width before n → x ≡ entry D base width n → one ≡ 2 ^ n → Gathered D base width after (n + 1)
one_more D base width before after n x one long same g e f =
    let kept : length (joined before x one) ≡ 192 = rw same at long in
    rw (same, e, f) (gathered_more before (omega (arith, sym (joined_length before x one) ∙ kept)) D base width n g)

-- ---- an index, or none

-- One that is there.
pub found_at : (i : ℕ) → i < 32 → Some i ≡ found i
unfolding found
found_at i h = rw (lt-ltb _ _ h)

-- None is.
pub found_none : (i : ℕ) → 32 ≤ i → None ≡ found i
unfolding found
found_none i h = rw (le-ltb _ _ h)

-- What is answered is the index.
pub is_found : (i r : ℕ) → Some r ≡ found i → (r ≡ i) × (r < 32)
unfolding found
is_found i r e = go (ltb i 32) refl e
  where
    go : (b : Bool) → ltb i 32 ≡ b → Some r ≡ cond b (Some i) None → (r ≡ i) × (r < 32)
    go true h e = let same : r ≡ i = cc in (same, rw same (ltb-true _ _ h))
    go false h e = absurd (cc)

-- Where none is answered there is none.
pub not_found : (i : ℕ) → None ≡ found i → 32 ≤ i
unfolding found
not_found i e = go (ltb i 32) refl e
  where
    go : (b : Bool) → ltb i 32 ≡ b → None ≡ cond b (Some i) None → 32 ≤ i
    go true h e = absurd (cc)
    go false h e = ltb-false _ _ h
