-- Storing into a list of bytes: what a store keeps, what it changes, what is read back; and the same of one element for each enabled channel.
-- Assumes nothing.
use Rattle.std.specs.Prelude.{◌≡◌, Bool, false, cond, ◌&&◌, eqb, leb, set}
use Rattle.std.proofs.Math.Path.{refl, ap, subst}
use Rattle.std.proofs.Common.{ap₂, ◌∙◌, sym, arith, add-zero, add-suc, suc-add, pow-suc, eq-or-lt_of_le, le_of_suc-le-suc, add-one, lit<, length-set, get_or-set_same, get_or-set_other, leb-true, ltb-true, ltb-false, le-leb, lt-ltb}
use Rattle.std.proofs.Math.Bool.{true, ◌||◌}
use Rattle.std.proofs.lemmas.Bool.{false≢true}
use mathlib.Core.List.{List, [], ◌∷◌}
use Rattle.std.proofs.Math.Logic.{⊎_elim}
use Prim.Native.Nat.{ℕ, zero, suc, ◌+◌, ◌*◌, ◌/◌, ◌%◌, ◌^◌, ◌≤◌, ◌<◌}
use Rattle.std.proofs.Math.Nat.{mod-one, mod-eq_of_lt}
use Rattle.std.proofs.Math.Dec.{ltb}
use Rattle.std.proofs.Math.Arith.{mod-mul}
use Rattle.std.proofs.Math.ListN.{length, get_or}
use Rattle.std.proofs.lemmas.List.{set-get_or}
use Rattle.std.proofs.Math.Seq.{drop-nil}
use Rattle.paper.specs.Bits.{number, number_at, put_at}
use Rattle.paper.specs.Limits.{register_bytes}
use Rattle.paper.specs.Word.{cond_modifier, dst_type, dst_stride, saturate}
use Rattle.paper.specs.Operation.{Plain}
use Rattle.paper.specs.Region.{channels, dst_size, dst_element}
use Rattle.paper.specs.Word.{is_null, dst_is_a0, dst_by_address}
use Rattle.paper.specs.Legal.{bytes_in}
use Rattle.paper.specs.Store.{Store}
use Rattle.paper.specs.Enable.{channel_of, holds}
use Rattle.paper.specs.Effect.{scattered, channel_stores, is_on, written_to, registers_after, addresses_after}
use Rattle.laws.specs.Values.{size_patterns, made_fits}
use Rattle.laws.specs.Regions.{LegalPlain, destination_inside, destination_strides, destination_apart}
use Rattle.laws.specs.Truth.{both_true}

-- ---- reading

-- The number of no bytes is 0.
number_at-zero : (l : List ℕ) (a : ℕ) → number_at l a 0 ≡ 0
unfolding number_at number
number_at-zero l a = refl

-- So is the number of bytes of an empty list.
number-nil : (n : ℕ) → number n [] ≡ 0
unfolding number
number-nil zero = refl
number-nil (suc n) = refl

-- The number of bytes past a list's end is 0.
number_at-nil : (a n : ℕ) → number_at [] a n ≡ 0
unfolding number_at
number_at-nil a n = rw (drop-nil {A = ℕ} a) (number-nil n)

-- A number's first byte and the rest of it.
number_at-suc : (l : List ℕ) (a n : ℕ) → number_at l a (suc n) ≡ get_or l a 0 + 256 * number_at l (suc a) n
unfolding number_at number
number_at-suc [] a n = rw (number_at-nil a (suc n), number_at-nil (suc a) n)
number_at-suc (b ∷ l) zero n = refl
number_at-suc (b ∷ l) (suc a) n = number_at-suc l a n

-- An element whose bytes are the same in two lists is the same number.
pub number_at_same : (n : ℕ) (l m : List ℕ) (a : ℕ) → ((j : ℕ) → j < n → get_or l (a + j) 0 ≡ get_or m (a + j) 0) → number_at l a n ≡ number_at m a n
number_at_same zero l m a h = number_at-zero l a ∙ sym (number_at-zero m a)
number_at_same (suc n) l m a h =
    let e₀ : get_or l a 0 ≡ get_or m a 0 = rw add-zero at (h zero (omega arith)) in
    let e₁ : number_at l (suc a) n ≡ number_at m (suc a) n = number_at_same n l m (suc a) (λ j q. rw (suc-add, ← add-suc) (h (suc j) (omega arith))) in
    number_at-suc l a n ∙ ap₂ (λ (x y : ℕ). x + 256 * y) e₀ e₁ ∙ sym (number_at-suc m a n)

-- ---- one store

-- To store what stands there changes nothing.
pub put_at-number_at : (n : ℕ) (l : List ℕ) (a : ℕ) → ((i : ℕ) → get_or l i 0 < 256) → put_at l a n (number_at l a n) ≡ l
unfolding put_at
put_at-number_at zero l a bytes = refl
put_at-number_at (suc n) l a bytes =
    let v : ℕ = number_at l a (suc n) in
    let e : v ≡ get_or l a 0 + 256 * number_at l (a + 1) n = rw (add-one a) (number_at-suc l a n) in
    let low : v % 256 ≡ get_or l a 0 = omega (arith, e, bytes a) in
    let rest : v / 256 ≡ number_at l (a + 1) n = omega (arith, e, bytes a) in
    rw (low, rest, set-get_or l a 0) (put_at-number_at n l (a + 1) bytes)

-- A store keeps the length.
pub length-put_at : (n : ℕ) (l : List ℕ) (a v : ℕ) → length (put_at l a n v) ≡ length l
unfolding put_at
length-put_at zero l a v = refl
length-put_at (suc n) l a v = length-put_at n (set l a (v % 256)) (a + 1) (v / 256) ∙ length-set l a (v % 256)

-- A store changes no byte but the n from a on.
pub put_at_other : (n : ℕ) (l : List ℕ) (a v b : ℕ) → (a ≤ b → b < a + n → ⊥) → get_or (put_at l a n v) b 0 ≡ get_or l b 0
unfolding put_at
put_at_other zero l a v b h = refl
put_at_other (suc n) l a v b h =
    put_at_other n (set l a (v % 256)) (a + 1) (v / 256) b (λ p q. h (omega arith) (omega arith))
    ∙ get_or-set_other l a b (v % 256) 0 (λ e. h (omega arith) (omega arith))

-- 256^n is not 0.
bytes_pos : (n : ℕ) → 0 < 256 ^ n
bytes_pos zero = lit< tt
bytes_pos (suc n) = rw pow-suc (omega (arith, bytes_pos n))

-- What was stored inside the list is read back, modulo its n bytes.
pub number_at-put_at : (n : ℕ) (l : List ℕ) (a v : ℕ) → a + n ≤ length l → number_at (put_at l a n v) a n ≡ v % 256 ^ n
unfolding put_at
number_at-put_at zero l a v h = number_at-zero l a ∙ sym (mod-one v)
number_at-put_at (suc n) l a v h =
    let m : List ℕ = set l a (v % 256) in
    let e₀ : get_or (put_at m (a + 1) n (v / 256)) a 0 ≡ v % 256 =
    put_at_other n m (a + 1) (v / 256) a (λ p q. omega arith) ∙ get_or-set_same l a (v % 256) 0 (omega arith) in
    let e₁ : number_at (put_at m (a + 1) n (v / 256)) (a + 1) n ≡ v / 256 % 256 ^ n =
    number_at-put_at n m (a + 1) (v / 256) (omega (arith, length-set l a (v % 256))) in
    number_at-suc (put_at m (a + 1) n (v / 256)) a n
    ∙ rw (e₀, ← (add-one a), e₁, pow-suc) (omega (arith, mod-mul v {m = 256 ^ n} {c = 256} (bytes_pos n) (lit< tt)))

-- ---- a store for each enabled channel

-- What a function makes of a choice between two lists.
chosen : (b : Bool) (x y : List ℕ) (v : ℕ) (f : List ℕ → ℕ) → (b ≡ true → f x ≡ v) → f y ≡ v → f (cond b x y) ≡ v
chosen true x y v f h g = h refl
chosen false x y v f h g = g

module _ (l : List ℕ) (element : ℕ → ℕ) (size : ℕ) where
  -- It keeps the length.
  pub length-scattered : (on : ℕ → Bool) (pattern : ℕ → ℕ) (n : ℕ) → length (scattered l element size on pattern n) ≡ length l
  unfolding scattered
  length-scattered on pattern zero = refl
  length-scattered on pattern (suc n) =
      let m : List ℕ = scattered l element size on pattern n in
      chosen (on n) (put_at m (element n) size (pattern n)) m (length l) length
      (λ e. length-put_at size m (element n) (pattern n) ∙ length-scattered on pattern n)
      (length-scattered on pattern n)

  -- Only channels below n count.
  pub scattered_same : (on on' : ℕ → Bool) (pattern pattern' : ℕ → ℕ) (n : ℕ)
      → ((k : ℕ) → k < n → on k ≡ on' k) → ((k : ℕ) → k < n → pattern k ≡ pattern' k)
      → scattered l element size on pattern n ≡ scattered l element size on' pattern' n
  unfolding scattered
  scattered_same on on' pattern pattern' zero h g = refl
  scattered_same on on' pattern pattern' (suc n) h g =
      cc (h n (omega arith), g n (omega arith), scattered_same on on' pattern pattern' n (λ k q. h k (omega arith)) (λ k q. g k (omega arith)))

  -- A byte that lies in no enabled channel's element stays as it was.
  pub scattered_other : (on : ℕ → Bool) (pattern : ℕ → ℕ) (n b : ℕ)
      → ((k : ℕ) → k < n → on k ≡ true → element k ≤ b → b < element k + size → ⊥)
      → get_or (scattered l element size on pattern n) b 0 ≡ get_or l b 0
  unfolding scattered
  scattered_other on pattern zero b h = refl
  scattered_other on pattern (suc n) b h =
      let m : List ℕ = scattered l element size on pattern n in
      let y : get_or m b 0 ≡ get_or l b 0 = scattered_other on pattern n b (λ k q. h k (omega arith)) in
      chosen (on n) (put_at m (element n) size (pattern n)) m (get_or l b 0) (λ m. get_or m b 0)
      (λ e. put_at_other size m (element n) (pattern n) b (h n (omega arith) e) ∙ y)
      y

  -- A byte that is not as it was lies in an enabled channel's element.
  pub scattered_changed : (on : ℕ → Bool) (pattern : ℕ → ℕ) (n b : ℕ) → (get_or (scattered l element size on pattern n) b 0 ≡ get_or l b 0 → ⊥)
      → (k : ℕ) × (k < n) × (on k ≡ true) × (element k ≤ b) × (b < element k + size)
  unfolding scattered
  scattered_changed on pattern zero b h = absurd (h refl)
  scattered_changed on pattern (suc n) b h =
      go (on n && (leb (element n) b && ltb b (element n + size))) refl (scattered_changed on pattern n b)
    where
      m : List ℕ
      m = scattered l element size on pattern n

      go : (t : Bool) → (on n && (leb (element n) b && ltb b (element n + size))) ≡ t
          → ((get_or m b 0 ≡ get_or l b 0 → ⊥) → (k : ℕ) × (k < n) × (on k ≡ true) × (element k ≤ b) × (b < element k + size))
          → (k : ℕ) × (k < suc n) × (on k ≡ true) × (element k ≤ b) × (b < element k + size)
      go true e earlier =
          let p = both_true (on n) _ e in
          let q = both_true (leb (element n) b) _ p.1 in
          (n, omega arith, p.0, leb-true _ _ q.0, ltb-true _ _ q.1)
      go false e earlier =
          let same : get_or (cond (on n) (put_at m (element n) size (pattern n)) m) b 0 ≡ get_or m b 0 =
          chosen (on n) (put_at m (element n) size (pattern n)) m (get_or m b 0) (λ t. get_or t b 0)
          (λ o. put_at_other size m (element n) (pattern n) b (λ p q. false≢true (sym e ∙ rw (o, le-leb _ _ p, lt-ltb _ _ q)))) refl in
          let r = earlier (λ x. h (same ∙ x)) in
          (r.0, omega (arith, r.1), r.2, r.3, r.4)

  -- An enabled channel's element holds its pattern afterwards, if the elements lie inside the list and apart.
  pub scattered-holds : (on : ℕ → Bool) (pattern : ℕ → ℕ) (n k : ℕ) → k < n → on k ≡ true
      → ((j : ℕ) → j < n → element j + size ≤ length l)
      → ((i j : ℕ) → i < j → j < n → element i + size ≤ element j)
      → number_at (scattered l element size on pattern n) (element k) size ≡ pattern k % 256 ^ size
  unfolding scattered
  scattered-holds on pattern zero k h e inside apart = absurd (omega arith)
  scattered-holds on pattern (suc n) k h e inside apart =
      let m : List ℕ = scattered l element size on pattern n in
      let lm : length m ≡ length l = length-scattered on pattern n in
      ⊎_elim
      (λ q. let e' : on n ≡ true = subst (λ (i : ℕ). on i ≡ true) q e in
      subst (λ (i : ℕ). number_at (cond (on n) (put_at m (element n) size (pattern n)) m) (element i) size ≡ pattern i % 256 ^ size) (sym q)
      (rw e' (number_at-put_at size m (element n) (pattern n) (omega (arith, lm, inside n (omega arith))))))
      (λ q. let y : number_at m (element k) size ≡ pattern k % 256 ^ size =
      scattered-holds on pattern n k q e (λ j r. inside j (omega arith)) (λ i j r s. apart i j r (omega arith)) in
      chosen (on n) (put_at m (element n) size (pattern n)) m (pattern k % 256 ^ size) (λ t. number_at t (element k) size)
      (λ _. number_at_same size (put_at m (element n) size (pattern n)) m (element k)
      (λ j r. put_at_other size m (element n) (pattern n) (element k + j) (λ s t. omega (arith, apart k n q (omega arith)))) ∙ y)
      y)
      (eq-or-lt_of_le (le_of_suc-le-suc h))

-- ---- what an instruction does to the registers and to a0

module _ (p : Plain) (w : ℕ) (awake : List Bool) (st : Store) where
  -- What it writes to a file keeps the file's length.
  written_length : (bytes : List ℕ) → length (written_to p w awake st bytes) ≡ length bytes
  written_length bytes = length-scattered bytes (dst_element w) (dst_size w) (is_on p w awake st) (channel_stores p w st) (channels w)

  -- So the registers keep their length,
  pub registers_length : length (registers_after p w awake st) ≡ length st.registers
  unfolding registers_after
  registers_length =
      chosen (is_null w || dst_is_a0 w) st.registers _ (length st.registers) length (λ _. refl) (written_length st.registers)

  -- and so does a0.
  pub addresses_length : length (addresses_after p w awake st) ≡ length st.addresses
  unfolding addresses_after
  addresses_length = chosen (dst_is_a0 w) _ st.addresses (length st.addresses) length (λ _. written_length st.addresses) refl

  -- It changes no byte but those of enabled channels' destination elements.
  pub registers_kept : (b : ℕ)
      → ((n : ℕ) → n < channels w → is_on p w awake st n ≡ true → dst_element w n ≤ b → b < dst_element w n + dst_size w → ⊥)
      → get_or (registers_after p w awake st) b 0 ≡ get_or st.registers b 0
  unfolding registers_after
  registers_kept b h =
      chosen (is_null w || dst_is_a0 w) st.registers _ (get_or st.registers b 0) (λ l. get_or l b 0) (λ _. refl)
      (scattered_other st.registers (dst_element w) (dst_size w) (is_on p w awake st) (channel_stores p w st) (channels w) b h)

  -- A byte that is not as it was lies in the destination element of an enabled channel, and the destination is neither null nor a0.
  pub registers_changed : (b : ℕ) → (get_or (registers_after p w awake st) b 0 ≡ get_or st.registers b 0 → ⊥)
      → ((is_null w || dst_is_a0 w) ≡ false) × ((n : ℕ) × (n < channels w) × (is_on p w awake st n ≡ true) × (dst_element w n ≤ b) × (b < dst_element w n + dst_size w))
  unfolding registers_after
  registers_changed b = go (is_null w || dst_is_a0 w) refl
    where
      after : List ℕ
      after = scattered st.registers (dst_element w) (dst_size w) (is_on p w awake st) (channel_stores p w st) (channels w)

      go : (t : Bool) → (is_null w || dst_is_a0 w) ≡ t → (get_or (cond t st.registers after) b 0 ≡ get_or st.registers b 0 → ⊥)
          → ((is_null w || dst_is_a0 w) ≡ false) × ((n : ℕ) × (n < channels w) × (is_on p w awake st n ≡ true) × (dst_element w n ≤ b) × (b < dst_element w n + dst_size w))
      go true e h = absurd (h refl)
      go false e h = (e, scattered_changed st.registers (dst_element w) (dst_size w) (is_on p w awake st) (channel_stores p w st) (channels w) b h)

  -- The element of a channel that is not enabled stays as it was, since elements of a legal word do not overlap.
  pub element_kept : LegalPlain p w → is_null w ≡ false → (n : ℕ) → is_on p w awake st n ≡ false
      → (b : ℕ) → dst_element w n ≤ b → b < dst_element w n + dst_size w → get_or (registers_after p w awake st) b 0 ≡ get_or st.registers b 0
  element_kept legal given n idle b low high = registers_kept b other
    where
      strides : dst_stride w ≡ 0 → ⊥
      strides = destination_strides p w legal.shape given

      other : (m : ℕ) → m < channels w → is_on p w awake st m ≡ true → dst_element w m ≤ b → b < dst_element w m + dst_size w → ⊥
      other m h on from to = by (ltb m n) refl (ltb n m) refl
        where
          by : (s : Bool) → ltb m n ≡ s → (t : Bool) → ltb n m ≡ t → ⊥
          by true e t f = let a = destination_apart w m n strides (ltb-true _ _ e) in omega arith
          by false e true f = let a = destination_apart w n m strides (ltb-true _ _ f) in omega arith
          by false e false f =
              let same : m ≡ n = omega (arith, ltb-false m n e, ltb-false n m f) in
              false≢true (sym idle ∙ ap (is_on p w awake st) (sym same) ∙ on)

  -- A null destination changes none.
  pub registers_null : is_null w ≡ true → registers_after p w awake st ≡ st.registers
  unfolding registers_after
  registers_null d = rw d

  -- What is not a0 leaves a0 as it is.
  pub addresses_kept : dst_is_a0 w ≡ false → addresses_after p w awake st ≡ st.addresses
  unfolding addresses_after
  addresses_kept d = rw d

  -- Every enabled channel of a legal word with a destination has stored its pattern, whole.
  pub registers_hold : LegalPlain p w → dst_by_address w ≡ false → is_null w ≡ false → dst_is_a0 w ≡ false → length st.registers ≡ register_bytes
      → (n : ℕ) → n < channels w → is_on p w awake st n ≡ true
      → number_at (registers_after p w awake st) (dst_element w n) (dst_size w) ≡ channel_stores p w st n
  unfolding registers_after channel_stores
  registers_hold legal named d a long n h on =
      ap (λ (t : Bool). number_at (cond t st.registers (written_to p w awake st st.registers)) (dst_element w n) (dst_size w)) (ap₂ ◌||◌ d a)
      ∙ (scattered-holds st.registers (dst_element w) (dst_size w) (is_on p w awake st) (channel_stores p w st) (channels w) n h on
      (λ j q. rw long (subst (λ (t : Bool). dst_element w j + dst_size w ≤ bytes_in t) a (destination_inside p w legal.reach d named j q)))
      (λ i j q r. destination_apart w i j (destination_strides p w legal.shape d) q)
      ∙ ap (λ (m : ℕ). channel_stores p w st n % m) (size_patterns (dst_type w))
      ∙ mod-eq_of_lt (made_fits p (cond_modifier w) (holds w st (channel_of w n)) (eqb (saturate w) 1) (dst_type w) _ _))
