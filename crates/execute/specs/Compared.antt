-- What cmp finds, as a mask taken from its results: channel k's bit is the lowest of what the channel stores. Assumes nothing.
use Rattle.std.specs.Prelude.{◌≡◌, refl, Bool, true, false, cond, List, ℕ, ◌+◌, ◌-◌, ◌*◌, ◌%◌, ◌^◌, ◌≤◌, ◌<◌, eqb, ◌-ℤ◌, get_or}
use Rattle.std.proofs.Common.{sym, ap, ◌∙◌, subst, arith, mul-le-mul_right, mod-eq_of_lt, add-one, pow_mono}
use Rattle.paper.specs.Bits.{bit}
use Rattle.paper.specs.Word.{src0, src1, cond_modifier, saturate, dst_type, src_is_a0, qtr_ctrl}
use Rattle.paper.specs.Operation.{Plain}
use Rattle.paper.specs.Value.{width, IsType, mod_z, stored}
use Rattle.paper.specs.Element.{one_if, compares, is_float, meaning, meets_floats, result, float_result, result_of, made, meets}
use Rattle.paper.specs.Region.{channels}
use Rattle.paper.specs.Store.{Store}
use Rattle.paper.specs.Enable.{digit, of_bits, channel_of}
use Rattle.paper.specs.Effect.{operand, file_in, source_at, finds}
use Rattle.laws.specs.Bits.{bits-mod, bits_below}
use Rattle.laws.specs.Values.{by_type}
use Rattle.laws.specs.Masks.{digit-bit, of_bits_less, bit-of_bits}
use Rattle.lanes.specs.Masks.{raised_mask}
use Rattle.lanes.specs.MaskLaws.{bit_raised}
use Rattle.execute.specs.Readable.{Acting, one_file}
use Rattle.execute.specs.Results.{channel_makes, Makes}

-- The lowest bits of the n first values: bit k is value k's.
unfoldable pub lowest_bits : List ℕ → ℕ → ℕ
lowest_bits results n = of_bits (λ k. bit (get_or results k 0) 0) n

-- One value more.
pub lowest_more : (results : List ℕ) (k : ℕ) → k < 16 → lowest_bits results k + get_or results k 0 % 2 * 2 ^ k % 2 ^ 64 ≡ lowest_bits results (k + 1)
unfolding lowest_bits of_bits
lowest_more results k h =
    let v : ℕ = get_or results k 0 in
    let lowest : digit (bit v 0) ≡ v % 2 = digit-bit v 0 ∙ bits-mod v 1 in
    let one : v % 2 * 2 ^ k ≤ 1 * 2 ^ k = mul-le-mul_right (2 ^ k) (omega arith) in
    let short : v % 2 * 2 ^ k % 2 ^ 64 ≡ v % 2 * 2 ^ k = mod-eq_of_lt (omega (arith, one, pow_mono {i = k} {j = 16} (omega arith))) in
    rw (add-one k, lowest, short) (omega arith)

-- The mask has n bits.
pub lowest_less : (results : List ℕ) (n : ℕ) → n ≤ 16 → lowest_bits results n < 2 ^ 16
unfolding lowest_bits
lowest_less results n h = omega (arith, of_bits_less (λ k. bit (get_or results k 0) 0) n, pow_mono {i = n} {j = 16} h)

-- What a destination of any type stores for an outcome has the outcome as its lowest bit.
stored_outcome : (t : ℕ) → IsType t → (b : Bool) → bit (stored false t (one_if b)) 0 ≡ b
unfolding stored mod_z
stored_outcome t is true = by_type (λ size bits. bit (1 % 2 ^ bits) 0 ≡ true) refl refl refl t is
stored_outcome t is false = by_type (λ size bits. bit (0 % 2 ^ bits) 0 ≡ false) refl refl refl t is

-- What cmp stores for a channel has what it finds as its lowest bit.
makes_outcome : (w predicate : ℕ) (registers : List ℕ) (k : ℕ) → IsType (dst_type w) → saturate w ≡ 0
    → bit (channel_makes Plain.cmp w predicate registers k) 0 ≡ meets (cond_modifier w) (operand w registers src0 k) (operand w registers src1 k)
unfolding channel_makes made meets result float_result result_of
makes_outcome w predicate registers k is e =
    let a = operand w registers src0 k in
    let b = operand w registers src1 k in
    rw e (go (is_float a.kind) (meets_floats (cond_modifier w) (meaning a) (meaning b)) (compares (cond_modifier w) (meaning a -ℤ meaning b)))
  where
    go : (f x y : Bool) → bit (stored false (dst_type w) (cond f (one_if x) (one_if y))) 0 ≡ cond f x y
    go true x y = stored_outcome (dst_type w) is x
    go false x y = stored_outcome (dst_type w) is y

-- A number's lowest bit is that of its low bits.
bit_low : (kind v : ℕ) → IsType kind → bit v 0 ≡ bit (v % 2 ^ width kind) 0
bit_low kind v is = by_type (λ size bits. bit v 0 ≡ bit (v % 2 ^ bits) 0) (same 31) (same 15) (same 7) kind is
  where
    same : (q : ℕ) → bit v 0 ≡ bit (v % 2 ^ (1 + q)) 0
    same q = ap (λ (x : ℕ). eqb x 1) (sym (bits_below 0 1 q v))

-- By channel number, the mask says what the paper's cmp finds.
pub bit-finds : (w predicate : ℕ) (st : Store) (made : List ℕ) → Acting Plain.cmp w → IsType (dst_type w) → saturate w ≡ 0
    → Makes Plain.cmp w predicate (file_in (src_is_a0 src0 w) st) made
    → (m : ℕ) → channel_of w 0 ≤ m → m < channel_of w 0 + channels w
    → bit (raised_mask (lowest_bits made (channels w)) (qtr_ctrl w)) m ≡ finds w st m
unfolding lowest_bits finds Makes
bit-finds w predicate st made acting is e makes m from before =
    let n : ℕ = m - channel_of w 0 in
    let own : n < channels w = omega arith in
    let mask : ℕ = of_bits (λ k. bit (get_or made k 0) 0) (channels w) in
    let at : 8 * qtr_ctrl w + n ≡ m = omega arith in
    subst (λ (i : ℕ). bit (raised_mask mask (qtr_ctrl w)) i ≡ bit mask n) at (bit_raised mask (qtr_ctrl w) n)
    ∙ bit-of_bits (λ k. bit (get_or made k 0) 0) (channels w) n own
    ∙ bit_low (dst_type w) (get_or made n 0) is
    ∙ ap (λ (v : ℕ). bit v 0) (makes n own)
    ∙ makes_outcome w predicate (file_in (src_is_a0 src0 w) st) n is e
    ∙ ap (λ (f : Bool). meets (cond_modifier w) (source_at w st src0 n) (operand w (file_in f st) src1 n)) (sym (one_file Plain.cmp w acting refl))
