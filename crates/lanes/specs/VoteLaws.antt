-- Votes by whole words: neighbouring halves are joined, from pairs on, until a group is whole; all is that not any bit is 0. Assumes nothing.
use Rattle.std.specs.Prelude.{◌≡◌, refl, true, false, cond, ◌&&◌, ◌||◌, eqb, ltb, leb}
use Rattle.std.proofs.Math.Path.{sym, ap}
use Rattle.std.proofs.Common.{ap₂, ◌∙◌, arith, add-zero, add-suc, add_assoc, add_comm, mul_comm, mul_assoc, add-mul, one-mul, div-mul-le_self, add-sub_of_le, lt_of_le_of_lt, mul-le-mul_right, lit<, eqb-true, eq-eqb, ne_eqb, leb-true, leb-false}
use Rattle.std.proofs.Math.Bool.{Bool, not, or-false, or_comm, or_assoc}
use Prim.Native.Nat.{ℕ, zero, suc, ◌+◌, ◌-◌, ◌*◌, ◌/◌, ◌%◌, ◌^◌, ◌≤◌, ◌<◌}
use Rattle.std.proofs.Math.Nat.{add_right_cancel, add-div_left, div-eq_of_lt, div-div-eq-div-mul}
use Rattle.std.specs.Int.Bits.{bit_and, bit_or}
use Rattle.std.proofs.lemmas.Nat.{or_lt, and_le_r}
use Rattle.std.proofs.lemmas.Bool.{eqb-false}
use Rattle.paper.specs.Bits.{bit}
use Rattle.paper.specs.Enable.{group_of, any_bit, all_bits, group_start, vote, predicate, of_bits}
use Rattle.laws.specs.Votes.{vote_alone}
use Rattle.laws.specs.Masks.{of_bits_less, bit-of_bits, of_bits_same, same_bits, of_bits-mod, of_bits-bit}
use Rattle.lanes.specs.Masks.{lower_halves, opposite, joined_mask, any_mask, vote_mask, predicate_mask}
use Rattle.lanes.specs.BitLaws.{bit_and_lem, bit_or_lem, bit_shr, bit_shl, bit_shl_below, ones_less, ones_less_mod}

-- ---- bits in a row

-- Some of a + b bits is 1 if one of the first a is, or one of the b behind them.
any_add : (flag k a b : ℕ) → any_bit flag k (a + b) ≡ (any_bit flag k a || any_bit flag (k + a) b)
unfolding any_bit
any_add flag k a zero = ap (any_bit flag k) (add-zero a) ∙ sym (or-false (any_bit flag k a))
any_add flag k a (suc b) =
    ap (any_bit flag k) (add-suc a b)
    ∙ ap₂ ◌||◌ (any_add flag k a b) (ap (bit flag) (sym (add_assoc k a b)))
    ∙ or_assoc (any_bit flag k a) (any_bit flag (k + a) b) (bit flag (k + a + b))

-- Flags that agree below bit 16 have the same votes there.
any_same : (f g k n : ℕ) → ((m : ℕ) → m < 16 → bit f m ≡ bit g m) → k + n ≤ 16 → any_bit f k n ≡ any_bit g k n
unfolding any_bit
any_same f g k zero e h = refl
any_same f g k (suc n) e h = ap₂ ◌||◌ (any_same f g k n e (omega arith)) (e (k + n) (omega arith))

-- Every bit is 1 if not any is 0.
all_any : (f g k n : ℕ) → ((m : ℕ) → m < 16 → bit g m ≡ not (bit f m)) → k + n ≤ 16 → all_bits f k n ≡ not (any_bit g k n)
unfolding any_bit all_bits
all_any f g k zero e h = refl
all_any f g k (suc n) e h = rw (e (k + n) (omega arith), all_any f g k n e (omega arith)) (neither (any_bit g k n) (bit f (k + n)))
  where
    neither : (a b : Bool) → (not a && b) ≡ not (a || not b)
    neither true b = refl
    neither false true = refl
    neither false false = refl

-- ---- halves

-- A joined mask has 16 bits.
pub joined_less : (h mask : ℕ) → joined_mask h mask < 2 ^ 16
unfolding joined_mask
joined_less h mask = of_bits_less (λ m. bit mask m || bit mask (opposite h m)) 16

-- Of two numbers in a row one is even.
turn : (q : ℕ) → eqb ((q + 1) % 2) 0 ≡ not (eqb (q % 2) 0)
turn q = go (eqb (q % 2) 0) refl
  where
    go : (t : Bool) → eqb (q % 2) 0 ≡ t → eqb ((q + 1) % 2) 0 ≡ not t
    go true e = ne_eqb ((q + 1) % 2) 0 (λ z. omega (arith, eqb-true (q % 2) 0 e))
    go false e = eq-eqb ((q + 1) % 2) 0 (omega (arith, eqb-false (q % 2) 0 e))

module _ (h : ℕ) (some : 0 < h) where
  -- Channel m stands in a lower half.
  abbrev lower : ℕ → Bool
  lower m = eqb (m / h % 2) 0

  -- A half farther up it stands in the other.
  lower_turn : (j : ℕ) → lower (h + j) ≡ not (lower j)
  lower_turn j = rw (add-div_left j some) (turn (j / h))

  -- The first half is a lower one.
  lower_first : (m : ℕ) → m < h → lower m ≡ true
  lower_first m l = rw (div-eq_of_lt l)

  -- The mask of the lower halves has 16 bits, and they are these.
  low_halves_less : lower_halves h < 2 ^ 16
  unfolding lower_halves
  low_halves_less = of_bits_less lower 16

  low_bit : (k : ℕ) → k < 16 → bit (lower_halves h) k ≡ lower k
  unfolding lower_halves
  low_bit k l = bit-of_bits lower 16 k l

  -- What comes up from below: the bits of the lower halves, in the upper ones.
  raised_bit : (mask k : ℕ) → k < 16 → bit (bit_and mask (lower_halves h) * 2 ^ h) k ≡ cond (lower k) false (bit mask (k - h))
  raised_bit mask k l = go (leb h k) refl
    where
      inner : (a b : Bool) → (a && b) ≡ cond (not b) false a
      inner true true = refl
      inner true false = refl
      inner false true = refl
      inner false false = refl

      go : (t : Bool) → leb h k ≡ t → bit (bit_and mask (lower_halves h) * 2 ^ h) k ≡ cond (lower k) false (bit mask (k - h))
      go false e =
          let below : k < h = leb-false h k e in
          bit_shl_below (bit_and mask (lower_halves h)) h k below ∙ rw (lower_first k below)
      go true e =
          let whole : h + (k - h) ≡ k = add-sub_of_le (leb-true h k e) in
          let down : bit (bit_and mask (lower_halves h) * 2 ^ h) (h + (k - h)) ≡ cond (lower (h + (k - h))) false (bit mask (k - h)) =
          bit_shl (bit_and mask (lower_halves h)) h (k - h)
          ∙ bit_and_lem mask (lower_halves h) (k - h)
          ∙ rw (low_bit (k - h) (omega arith), lower_turn (k - h)) (inner (bit mask (k - h)) (lower (k - h))) in
          rw whole at down

  -- Joined by whole words: what stands above comes down to the lower halves, and what stands there goes up.
  pub joined_is : (mask low : ℕ) → mask < 2 ^ 16 → low ≡ lower_halves h → low * 2 ^ h < 2 ^ 16
      → bit_or (bit_or mask (bit_and (mask / 2 ^ h) low)) (bit_and mask low * 2 ^ h) ≡ joined_mask h mask
  unfolding joined_mask
  joined_is mask low less e fits =
      let down : ℕ = bit_and (mask / 2 ^ h) low in
      let up : ℕ = bit_and mask low * 2 ^ h in
      let low_less : low < 2 ^ 16 = rw e low_halves_less in
      same_bits (bit_or (bit_or mask down) up) (of_bits f 16) 16
      (or_lt 16 (bit_or mask down) up
      (or_lt 16 mask down less (lt_of_le_of_lt (and_le_r (mask / 2 ^ h) low) low_less))
      (lt_of_le_of_lt (mul-le-mul_right (2 ^ h) (and_le_r mask low)) fits))
      (of_bits_less f 16)
      (λ k l. each k l ∙ sym (bit-of_bits f 16 k l))
    where
      f : ℕ → Bool
      f m = bit mask m || bit mask (opposite h m)

      chosen : (t a b c : Bool) → ((a || (b && t)) || cond t false c) ≡ (a || cond t b c)
      chosen true true b c = refl
      chosen true false true c = refl
      chosen true false false c = refl
      chosen false true b c = refl
      chosen false false true c = refl
      chosen false false false c = refl

      at : (t : Bool) (k : ℕ) → cond t (bit mask (k + h)) (bit mask (k - h)) ≡ bit mask (cond t (k + h) (k - h))
      at true k = refl
      at false k = refl

      each : (k : ℕ) → k < 16 → bit (bit_or (bit_or mask (bit_and (mask / 2 ^ h) low)) (bit_and mask low * 2 ^ h)) k ≡ f k
      each k l =
          rw (
            bit_or_lem (bit_or mask (bit_and (mask / 2 ^ h) low)) (bit_and mask low * 2 ^ h) k,
            bit_or_lem mask (bit_and (mask / 2 ^ h) low) k,
            bit_and_lem (mask / 2 ^ h) low k,
            bit_shr mask h k,
            e,
            low_bit k l,
            raised_bit mask k l,
            add_comm h k,
          )
          (chosen (lower k) (bit mask k) (bit mask (k + h)) (bit mask (k - h)) ∙ ap (λ (t : Bool). bit mask k || t) (at (lower k) k))

  -- A pair of halves starts where its lower half does.
  pair_start : (m : ℕ) → group_start (h * 2) m ≡ m / h / 2 * 2 * h
  pair_start m = rw (← div-div-eq-div-mul m h 2, mul_comm h 2) (sym (mul_assoc (m / h / 2) 2 h))

  -- From the lower half, and from the upper one.
  pair_lower : (m : ℕ) → lower m ≡ true → group_start (h * 2) m ≡ group_start h m
  pair_lower m e = pair_start m ∙ ap (λ (q : ℕ). q * h) (let d = eqb-true (m / h % 2) 0 e in omega arith)

  pair_upper : (m : ℕ) → lower m ≡ false → group_start h m ≡ group_start (h * 2) m + h
  pair_upper m e =
      ap (λ (q : ℕ). q * h) (let d = eqb-false (m / h % 2) 0 e in let z : m / h ≡ m / h / 2 * 2 + 1 = omega arith in z)
      ∙ add-mul (m / h / 2 * 2) 1 h ∙ rw (one-mul h, ← pair_start m)

  -- The half above starts h farther up.
  next_start : (m : ℕ) → group_start h (h + m) ≡ group_start h m + h
  next_start m = ap (λ (q : ℕ). q * h) (add-div_left m some) ∙ add-mul (m / h) 1 h ∙ rw (one-mul h)

  -- Halves of which some bit is 1, joined, are groups of which some bit is 1.
  pub joined_any : (flag : ℕ) → ((m : ℕ) → m < 16 → lower m ≡ true → m + h < 16) → joined_mask h (any_mask h flag) ≡ any_mask (h * 2) flag
  unfolding joined_mask any_mask
  joined_any flag inside = of_bits_same _ _ 16 (λ m l. go m l (lower m) refl)
    where
      half : ℕ → Bool
      half m = any_bit flag (group_start h m) h

      twice : (k : ℕ) → any_bit flag k (h * 2) ≡ (any_bit flag k h || any_bit flag (k + h) h)
      twice k = ap (any_bit flag k) (let z : h * 2 ≡ h + h = omega arith in z) ∙ any_add flag k h h

      go : (m : ℕ) → m < 16 → (t : Bool) → lower m ≡ t
          → (bit (of_bits half 16) m || bit (of_bits half 16) (cond t (m + h) (m - h))) ≡ any_bit flag (group_start (h * 2) m) (h * 2)
      go m l true e =
          ap₂ ◌||◌ (bit-of_bits half 16 m l) (bit-of_bits half 16 (m + h) (inside m l e) ∙ ap half (add_comm m h) ∙ ap (λ (k : ℕ). any_bit flag k h) (next_start m))
          ∙ sym (twice (group_start h m)) ∙ ap (λ (k : ℕ). any_bit flag k (h * 2)) (sym (pair_lower m e))
      go m l false e =
          let up : group_start h m ≡ group_start (h * 2) m + h = pair_upper m e in
          let from : h ≤ m = omega (arith, up, div-mul-le_self m h) in
          let whole : h + (m - h) ≡ m = add-sub_of_le from in
          let start : group_start h (m - h) ≡ group_start (h * 2) m =
          add_right_cancel h (sym (next_start (m - h)) ∙ ap (group_start h) whole ∙ up) in
          ap₂ ◌||◌ (bit-of_bits half 16 m l ∙ ap (λ (k : ℕ). any_bit flag k h) up)
          (bit-of_bits half 16 (m - h) (omega arith) ∙ ap (λ (k : ℕ). any_bit flag k h) start)
          ∙ or_comm (any_bit flag (group_start (h * 2) m + h) h) (any_bit flag (group_start (h * 2) m) h) ∙ sym (twice (group_start (h * 2) m))

-- ---- groups by PredCtrl

-- A group of one is the channel itself.
alone : (m : ℕ) → group_start 1 m + 0 ≡ m
alone m = omega arith

-- A flag, joined once, twice, three and four times.
module _ (flag : ℕ) (less : flag < 2 ^ 16) where
  -- Its bits are votes of groups of one;
  any_one : any_mask 1 flag ≡ flag
  unfolding any_mask any_bit
  any_one = of_bits_same _ (bit flag) 16 (λ m l. ap (bit flag) (alone m)) ∙ of_bits-bit flag 16 less

  -- joined once they are those of groups of two, and so on.
  pub twos : joined_mask 1 flag ≡ any_mask 2 flag
  twos = ap (joined_mask 1) (sym any_one) ∙ joined_any 1 (lit< tt) flag (λ m l e. omega (arith, eqb-true (m / 1 % 2) 0 e))

  pub fours : joined_mask 2 (joined_mask 1 flag) ≡ any_mask 4 flag
  fours = ap (joined_mask 2) twos ∙ joined_any 2 (lit< tt) flag (λ m l e. omega (arith, eqb-true (m / 2 % 2) 0 e))

  pub eights : joined_mask 4 (joined_mask 2 (joined_mask 1 flag)) ≡ any_mask 8 flag
  eights = ap (joined_mask 4) fours ∙ joined_any 4 (lit< tt) flag (λ m l e. omega (arith, eqb-true (m / 4 % 2) 0 e))

  pub sixteen : joined_mask 8 (joined_mask 4 (joined_mask 2 (joined_mask 1 flag))) ≡ any_mask 16 flag
  sixteen = ap (joined_mask 8) eights ∙ joined_any 8 (lit< tt) flag (λ m l e. omega (arith, eqb-true (m / 8 % 2) 0 e))

-- A group of a channel below 16 ends there or before.
group_inside : (control m : ℕ) → m < 16 → group_start (group_of control) m + group_of control ≤ 16
unfolding group_of
group_inside control m h = go (ltb control 4) (ltb control 6) (ltb control 8) (ltb control 10)
  where
    go : (a b c d : Bool) → (let g : ℕ = cond a 1 (cond b 2 (cond c 4 (cond d 8 16))) in group_start g m + g ≤ 16)
    go true b c d = omega arith
    go false true c d = omega arith
    go false false true d = omega arith
    go false false false true = omega arith
    go false false false false = omega arith

-- Votes below PredCtrl 4 are the flag's own bits.
pub votes_alone : (control flag : ℕ) → control < 4 → flag % 2 ^ 16 ≡ vote_mask control flag
unfolding vote_mask
votes_alone control flag h = sym (of_bits-mod flag 16) ∙ of_bits_same (bit flag) _ 16 (λ m l. sym (vote_alone control flag m h))

module _ (control flag : ℕ) where
  abbrev group : ℕ
  group = group_of control

  -- An even PredCtrl asks for any;
  pub vote_any : eqb (control % 2) 0 ≡ true → any_mask group (flag % 2 ^ 16) ≡ vote_mask control flag
  unfolding any_mask vote_mask vote
  vote_any e = of_bits_same _ _ 16 (λ m l. rw e (any_same (flag % 2 ^ 16) flag (group_start group m) group low (group_inside control m l)))
    where
      low : (m : ℕ) → m < 16 → bit (flag % 2 ^ 16) m ≡ bit flag m
      low m l = rw (← of_bits-mod flag 16) (bit-of_bits (bit flag) 16 m l)

  -- an odd one for all, which is that not any bit is 0.
  pub vote_all : eqb (control % 2) 0 ≡ false → 2 ^ 16 - 1 - any_mask group (2 ^ 16 - 1 - flag % 2 ^ 16) ≡ vote_mask control flag
  unfolding any_mask vote_mask vote
  vote_all e =
      ones_less (any_mask group zeros) 16 (of_bits_less f 16)
      ∙ of_bits_same _ _ 16 (λ m l. ap not (bit-of_bits f 16 m l) ∙ rw e (sym (all_any flag zeros (group_start group m) group turned (group_inside control m l))))
    where
      zeros : ℕ
      zeros = 2 ^ 16 - 1 - flag % 2 ^ 16

      f : ℕ → Bool
      f m = any_bit zeros (group_start group m) group

      turned : (m : ℕ) → m < 16 → bit zeros m ≡ not (bit flag m)
      turned m l = ap (λ (z : ℕ). bit z m) (ones_less_mod flag 16) ∙ bit-of_bits (λ k. not (bit flag k)) 16 m l

  -- A predicate is its vote, or the complement of it if inverted.
  pub vote_kept : (inversion : ℕ) → eqb control 0 ≡ false → eqb inversion 1 ≡ false → vote_mask control flag ≡ predicate_mask control inversion flag
  unfolding vote_mask predicate_mask predicate
  vote_kept inversion e i = of_bits_same _ _ 16 (λ m l. rw (e, i))

  pub vote_turned : (inversion : ℕ) → eqb control 0 ≡ false → eqb inversion 1 ≡ true
      → 2 ^ 16 - 1 - vote_mask control flag ≡ predicate_mask control inversion flag
  unfolding vote_mask predicate_mask predicate
  vote_turned inversion e i =
      ones_less (vote_mask control flag) 16 (of_bits_less (vote control flag) 16)
      ∙ of_bits_same _ _ 16 (λ m l. ap not (bit-of_bits (vote control flag) 16 m l) ∙ rw (e, i))
