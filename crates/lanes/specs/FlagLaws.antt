-- A flag after cmp, made by whole words. Assumes nothing.
use Rattle.std.specs.Prelude.{◌≡◌, refl, Bool, true, false, not, cond, ◌&&◌, ◌||◌, ℕ, ◌+◌, ◌-◌, ◌*◌, ◌^◌, ◌≤◌, ◌<◌, ltb, leb}
use Rattle.std.proofs.Common.{◌∙◌, sym, subst, arith, add-sub_of_le, lt_of_le_of_lt, pow_mono, pow_pos, shl_lt, ltb-true, leb-true, leb-false, lt-ltb, le-ltb}
use Rattle.std.proofs.Math.Bool.{and_comm}
use Rattle.std.specs.Int.Bits.{bit_and, bit_or}
use Rattle.std.proofs.lemmas.Nat.{or_lt, and_le_r}
use Rattle.paper.specs.Bits.{bit}
use Rattle.paper.specs.Enable.{of_bits, flag_bit, flag_after}
use Rattle.laws.specs.Differences.{ltb_by}
use Rattle.laws.specs.Masks.{of_bits_less, bit-of_bits, of_bits_same, same_bits}
use Rattle.lanes.specs.BitLaws.{bit_and_lem, bit_or_lem, bit_not, bit_shl_below, field_above}

-- The ones of the n channels from `first` on.
unfoldable pub field : ℕ → ℕ → ℕ
field first n = (2 ^ n - 1) * 2 ^ first

-- The ones of the enabled channels in the field.
unfoldable pub enabled_field : ℕ → ℕ → ℕ → ℕ
enabled_field first n enable = bit_and enable (field first n)

-- There the results, elsewhere the old flag.
unfoldable pub merged : ℕ → ℕ → ℕ → ℕ → ℕ → ℕ
merged old first n enable result = bit_or (bit_and old (2 ^ 16 - 1 - enabled_field first n enable)) (bit_and result (enabled_field first n enable))

-- The field has 16 bits.
pub field_less : (first n : ℕ) → first + n ≤ 16 → field first n < 2 ^ 16
unfolding field
field_less first n h =
    let inside : (2 ^ n - 1) * 2 ^ first < 2 ^ (n + first) = shl_lt n first (omega (arith, pow_pos n)) in
    omega (arith, inside, pow_mono {i = n + first} {j = 16} (omega arith))

-- So have the enabled channels in it.
enabled_less : (first n enable : ℕ) → first + n ≤ 16 → enabled_field first n enable < 2 ^ 16
unfolding enabled_field
enabled_less first n enable h = lt_of_le_of_lt (and_le_r enable (field first n)) (field_less first n h)

-- The field's bits are those of the channels.
field-bit : (first n k : ℕ) → bit (field first n) k ≡ (leb first k && ltb k (first + n))
unfolding field
field-bit first n k = go (leb first k) refl
  where
    go : (b : Bool) → leb first k ≡ b → bit ((2 ^ n - 1) * 2 ^ first) k ≡ (b && ltb k (first + n))
    go false e = bit_shl_below (2 ^ n - 1) first k (leb-false first k e)
    go true e =
        let h : first ≤ k = leb-true first k e in
        subst (λ (m : ℕ). bit ((2 ^ n - 1) * 2 ^ first) m ≡ ltb (k - first) n) (add-sub_of_le h) (field_above first n (k - first))
        ∙ ltb_by (k - first) n (ltb k (first + n)) (λ l. lt-ltb k (first + n) (omega arith)) (λ l. le-ltb k (first + n) (omega arith))

-- Of these the enabled ones.
enabled_bit : (first n enable k : ℕ) → bit (enabled_field first n enable) k ≡ ((leb first k && ltb k (first + n)) && bit enable k)
unfolding enabled_field
enabled_bit first n enable k =
    bit_and_lem enable (field first n) k ∙ rw (field-bit first n k) (and_comm (bit enable k) (leb first k && ltb k (first + n)))

-- What one bit of the merged number is.
merge_bit : (inside old result : Bool) → ((old && not inside) || (result && inside)) ≡ cond inside result old
merge_bit true true true = refl
merge_bit true true false = refl
merge_bit true false true = refl
merge_bit true false false = refl
merge_bit false true true = refl
merge_bit false true false = refl
merge_bit false false true = refl
merge_bit false false false = refl

-- The merged number is the flag after cmp.
pub merged_is : (old first n enable result : ℕ) → first + n ≤ 16
    → merged old first n enable result ≡ flag_after old first n (bit enable) (bit result)
unfolding merged flag_after flag_bit
merged_is old first n enable result h =
    let F : ℕ = enabled_field first n enable in
    let f : ℕ → Bool = flag_bit old first n (bit enable) (bit result) in
    let less : F < 2 ^ 16 = enabled_less first n enable h in
    same_bits (bit_or (bit_and old (2 ^ 16 - 1 - F)) (bit_and result F)) (of_bits f 16) 16
    (or_lt 16 _ _
    (lt_of_le_of_lt (and_le_r old (2 ^ 16 - 1 - F)) (omega arith))
    (lt_of_le_of_lt (and_le_r result F) less))
    (of_bits_less f 16)
    (λ k hk. bit_or_lem (bit_and old (2 ^ 16 - 1 - F)) (bit_and result F) k
    ∙ rw (
      bit_and_lem old (2 ^ 16 - 1 - F) k,
      bit_and_lem result F k,
      bit_not F 16 k less hk,
      enabled_bit first n enable k,
    )
    (merge_bit ((leb first k && ltb k (first + n)) && bit enable k) (bit old k) (bit result k))
    ∙ sym (bit-of_bits f 16 k hk))

-- A flag has 16 bits.
pub flag_less : (old first n : ℕ) (on result : ℕ → Bool) → flag_after old first n on result < 2 ^ 16
unfolding flag_after
flag_less old first n on result = of_bits_less (flag_bit old first n on result) 16

-- A flag after cmp depends on what is enabled and found for its own channels only.
pub flag_same : (old first n : ℕ) (on on' result result' : ℕ → Bool)
    → ((m : ℕ) → first ≤ m → m < first + n → m < 16 → (on m ≡ on' m) × (result m ≡ result' m))
    → flag_after old first n on result ≡ flag_after old first n on' result'
unfolding flag_after flag_bit
flag_same old first n on on' result result' h =
    of_bits_same (flag_bit old first n on result) (flag_bit old first n on' result') 16 (λ m q. each m q (leb first m) (ltb m (first + n)) refl refl)
  where
    each : (m : ℕ) → m < 16 → (a b : Bool) → leb first m ≡ a → ltb m (first + n) ≡ b
        → cond ((a && b) && on m) (result m) (bit old m) ≡ cond ((a && b) && on' m) (result' m) (bit old m)
    each m q true true p r = let e = h m (leb-true first m p) (ltb-true m (first + n) r) q in rw (e.0, e.1)
    each m q true false p r = refl
    each m q false b p r = refl
