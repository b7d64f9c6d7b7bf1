-- What a word that passes the rules gives: every rule by itself, and, where its operands are named directly, every channel's elements inside their file. Assumes
-- nothing.
use Rattle.std.specs.Prelude.{◌≡◌, refl, Bool, true, false, not, cond, ◌&&◌, ◌||◌, ℕ, zero, suc, ◌+◌, ◌-◌, ◌*◌, ◌/◌, ◌%◌, ◌^◌, ◌≤◌, ◌<◌, ltb}
use Rattle.std.proofs.Common.{ap, ◌∙◌, subst, true≢false, arith, mul-le-mul_right, mod-lt, sub-add_cancel, suc-mul, add-mul, add-zero, div-one, pow-suc, pow_pos, ltb-false, leb-false}
use Rattle.std.proofs.lemmas.Bool.{false≢true, eqb-false, not-false}
use mathlib.Core.List.{List, Memᴰ}
use Rattle.std.proofs.Math.Nat.{mod-one}
use Rattle.std.proofs.Math.Pow.{shr_mono, ones_split, low, ones_lt}
use Rattle.paper.specs.Bits.{bits}
use Rattle.paper.specs.Word.{Source, shift_of, exec_size, src_field, src_width, dst_stride, is_null, dst_is_a0, src_is_a0, is_immediate, dst_by_address, src_by_address}
use Rattle.paper.specs.Operation.{Plain, plain, operation, sources}
use Rattle.paper.specs.Region.{Region, stride_of, channels, element_at, src_region, dst_origin, dst_size, dst_element}
use Rattle.paper.specs.Legal.{any_of, some_operand, reserved_set, plain_served, operand_rule_broken, shape_refused, shape_broken, src_shape_broken, alignment_broken}
use Rattle.paper.specs.Legal.{bytes_in, too_far, region_too_far, last_channel, reach_broken, later, refusal_of}
use Rattle.laws.specs.Bits.{bits_inner}

-- ---- the rules one by one

-- Rules 6 to 11, each passed by a word of the plain operation p.
pub record LegalPlain (p : Plain) (w : ℕ) : Type 0 where
  pub reserved : reserved_set w ≡ false
  pub served : plain_served p w ≡ true
  pub operands : operand_rule_broken p w ≡ false
  pub shape : shape_broken p w ≡ false
  pub alignment : alignment_broken p w ≡ false
  pub reach : reach_broken p w ≡ false

-- Where a rule and the later ones together give 0, the rule is not broken and the later ones give 0.
passed_on : (b : Bool) (number rest : ℕ) → cond b (suc number) rest ≡ 0 → (b ≡ false) × (rest ≡ 0)
passed_on true number rest e = absurd (let h : suc number ≡ 0 = e in omega arith)
passed_on false number rest e = (refl, e)

-- A word of a plain operation that is not refused passes all six.
pub legal_plain : (p : Plain) (w : ℕ) → operation w ≡ plain p → refusal_of w ≡ 0 → LegalPlain p w
unfolding refusal_of later
legal_plain p w o e =
    let first = passed_on (reserved_set w) 5 (later (operation w) w) e in
    let rest : later (plain p) w ≡ 0 = subst (λ q. later q w ≡ 0) o first.1 in
    let a = passed_on (not (plain_served p w)) 6 _ rest in
    let b = passed_on (operand_rule_broken p w) 7 _ a.1 in
    let c = passed_on (shape_broken p w) 8 _ b.1 in
    let d = passed_on (alignment_broken p w) 9 _ c.1 in
    let f = passed_on (reach_broken p w) 10 _ d.1 in
    record {
      reserved = first.0;
      served = not-false (plain_served p w) a.0;
      operands = b.0;
      shape = c.0;
      alignment = d.0;
      reach = f.0;
    }

-- ---- one rule over all operands

-- Of a false disjunction both parts are false.
pub or-false : (a b : Bool) → (a || b) ≡ false → (a ≡ false) × (b ≡ false)
or-false true b e = absurd (true≢false e)
or-false false b e = (refl, e)

-- Of a false conjunction with a true first part the second is false.
and-false : (a b : Bool) → (a && b) ≡ false → a ≡ true → b ≡ false
and-false true b e h = e
and-false false b e h = absurd (false≢true h)

-- What no source of a list passes, each of them fails.
pub none_of : (test : Source → Bool) {x : Source} {xs : List Source} → any_of test xs ≡ false → Memᴰ x xs → test x ≡ false
none_of test {x} {xs} e (Memᴰ.head {x = y} {xs = ys} q) = ap test q ∙ (or-false (test y) (any_of test ys) e).0
none_of test {x} {xs} e (Memᴰ.tail {x = y} {xs = ys} m) = none_of test (or-false (test y) (any_of test ys) e).1 m

-- A rule that no operand breaks is kept by the destination if it is not null,
pub by_destination : (p : Plain) (w : ℕ) (dst : Bool) (src : Source → Bool) → some_operand p w dst src ≡ false → is_null w ≡ false → dst ≡ false
by_destination p w dst src e n = and-false (not (is_null w)) dst (or-false (not (is_null w) && dst) _ e).0 (ap not n)

-- and by every source that is no immediate.
pub by_source : (p : Plain) (w : ℕ) (dst : Bool) (src : Source → Bool) → some_operand p w dst src ≡ false
    → (x : Source) → Memᴰ x (sources p) → is_immediate x w ≡ false → src x ≡ false
by_source p w dst src e x m i =
    and-false (not (is_immediate x w)) (src x)
    (none_of (λ y. not (is_immediate y w) && src y) (or-false (not (is_null w) && dst) _ e).1 m)
    (ap not i)

-- ---- shapes

-- The shape that twelve source bits say at an ExecSize code: its codes mean something, and a row is no wider than the channels are many.
pub record Shape (size field : ℕ) : Type 0 where
  pub vertical : bits field 8 4 ≤ 6
  pub width : bits field 5 3 ≤ 4
  pub wide : bits field 5 3 ≤ size

-- What 9 does not refuse has such a shape.
pub shape_kept : (size field : ℕ) → shape_refused size field ≡ false → Shape size field
unfolding shape_refused
shape_kept size field e =
    let v = or-false (ltb 6 (bits field 8 4)) _ e in
    let k = or-false (ltb 4 (bits field 5 3)) _ v.1 in
    let d = or-false (ltb size (bits field 5 3)) _ k.1 in
    record {
      vertical = ltb-false 6 (bits field 8 4) v.0;
      width = ltb-false 4 (bits field 5 3) k.0;
      wide = ltb-false size (bits field 5 3) d.0;
    }

-- Every register source of a legal word has one.
pub source-shape : (p : Plain) (w : ℕ) → shape_broken p w ≡ false
    → (x : Source) → Memᴰ x (sources p) → is_immediate x w ≡ false → Shape (exec_size w) (src_field x w)
unfolding shape_broken
source-shape p w s x m i = shape_kept (exec_size w) (src_field x w) (by_source p w _ (src_shape_broken w) s x m i)

-- Of the twelve bits, those of Width are the word's.
field_width : (x : Source) (w : ℕ) → bits (src_field x w) 5 3 ≡ src_width x w
field_width x w =
    let e : 77 + shift_of x + 5 ≡ 82 + shift_of x = omega arith in
    bits_inner w (77 + shift_of x) 5 3 4 ∙ ap (λ (k : ℕ). bits w k 3) e

-- ---- elements inside their file

-- Every operand of operation p that is not an immediate is named directly in word w.
pub record Named (p : Plain) (w : ℕ) : Type 0 where
  pub destination : dst_by_address w ≡ false
  pub source : (x : Source) → Memᴰ x (sources p) → src_by_address x w ≡ false

-- The last of 2^x channels stands last in its row of 2^k.
last_column : (x k : ℕ) → k ≤ x → (2 ^ x - 1) % 2 ^ k ≡ 2 ^ k - 1
last_column x k h =
    subst (λ (t : ℕ). (2 ^ t - 1) % 2 ^ k ≡ 2 ^ k - 1) (sub-add_cancel h)
    (ap (λ (t : ℕ). t % 2 ^ k) (ones_split (x - k) k) ∙ low (2 ^ (x - k) - 1) k (ones_lt k))

-- Where rows are whole, no channel's element starts past the last channel's.
pub region_last : (r : Region) (x k n : ℕ) → r.wide ≡ 2 ^ k → k ≤ x → n < 2 ^ x → element_at r n ≤ element_at r (2 ^ x - 1)
unfolding element_at
region_last r x k n e hk hn =
    let row : n / r.wide * r.vert ≤ (2 ^ x - 1) / r.wide * r.vert = rw e (mul-le-mul_right r.vert (shr_mono k (omega arith))) in
    let column : n % r.wide * r.horz ≤ (2 ^ x - 1) % r.wide * r.horz =
    rw e (mul-le-mul_right r.horz (omega (arith, last_column x k hk, mod-lt n (pow_pos k)))) in
    let t : (n / r.wide * r.vert + n % r.wide * r.horz) * r.size ≤ ((2 ^ x - 1) / r.wide * r.vert + (2 ^ x - 1) % r.wide * r.horz) * r.size =
    mul-le-mul_right r.size (omega arith) in
    omega arith

-- An element that does not reach too far ends inside its file.
near : (bytes origin element size : ℕ) → too_far bytes origin element size ≡ false → element + size ≤ bytes
unfolding too_far
near bytes origin element size e =
    let inside : element + size - 1 < bytes =
    leb-false bytes (element + size - 1) (or-false (ltb (origin / 32 + 1) ((element + size - 1) / 32)) _ e).1 in
    omega arith

-- An element that starts no later than another of its size ends no later.
ends_before : (a b size end : ℕ) → a ≤ b → b + size ≤ end → a + size ≤ end
ends_before a b size end h k = omega arith

-- The elements of the first `count` channels of a region lie inside a file of so many bytes.
abbrev pub Inside : ℕ → Region → ℕ → Type 0
Inside bytes r count = (n : ℕ) → n < count → element_at r n + r.size ≤ bytes

-- They do where rows are whole and the last one is not too far.
pub region_inside : (bytes : ℕ) (r : Region) (x k : ℕ) → r.wide ≡ 2 ^ k → k ≤ x → region_too_far bytes r (2 ^ x - 1) ≡ false → Inside bytes r (2 ^ x)
region_inside bytes r x k e hk far n h =
    ends_before _ _ _ _ (region_last r x k n e hk h) (near bytes r.origin (element_at r (2 ^ x - 1)) r.size far)

-- Every channel of a legal word reads a source that is named directly inside its file.
pub source_inside : (p : Plain) (w : ℕ) → shape_broken p w ≡ false → reach_broken p w ≡ false
    → (x : Source) → Memᴰ x (sources p) → is_immediate x w ≡ false → src_by_address x w ≡ false
    → Inside (bytes_in (src_is_a0 x w)) (src_region x w) (channels w)
unfolding reach_broken
source_inside p w s r x m i d =
    let wide : src_width x w ≤ exec_size w = rw (field_width x w) at (source-shape p w s x m i).wide in
    region_inside (bytes_in (src_is_a0 x w)) (src_region x w) (exec_size w) (src_width x w) refl wide
    (and-false (not (src_by_address x w)) _
    (by_source p w _ (λ y. not (src_by_address y w) && region_too_far (bytes_in (src_is_a0 y w)) (src_region y w) (last_channel w)) r x m i)
    (ap not d))

-- ---- the destination

-- The destination's elements are a region's: each channel is a row.
abbrev pub dst_region : ℕ → Region
dst_region w = record { origin = dst_origin w; vert = stride_of (dst_stride w); wide = 1; horz = 0; size = dst_size w }

pub destination_element : (w n : ℕ) → element_at (dst_region w) n ≡ dst_element w n
unfolding element_at
destination_element w n = rw (div-one n, mod-one n) (ap (λ (e : ℕ). dst_origin w + e * dst_size w) (add-zero (n * stride_of (dst_stride w))))

-- Every channel of a legal word that has a destination, which is named directly, writes inside its file.
pub destination_inside : (p : Plain) (w : ℕ) → reach_broken p w ≡ false → is_null w ≡ false → dst_by_address w ≡ false
    → (n : ℕ) → n < channels w → dst_element w n + dst_size w ≤ bytes_in (dst_is_a0 w)
unfolding reach_broken
destination_inside p w r d a n h =
    rw (destination_element w n) at
    (region_inside (bytes_in (dst_is_a0 w)) (dst_region w) (exec_size w) 0 refl (omega arith)
    (ap (λ (e : ℕ). too_far (bytes_in (dst_is_a0 w)) (dst_origin w) e (dst_size w)) (destination_element w (last_channel w))
    ∙ and-false (not (dst_by_address w)) _ (by_destination p w _ _ r d) (ap not a)) n h)

-- ---- elements apart

-- Where each channel is a row, and rows have a stride, elements do not overlap: each ends where a later one starts, or before.
pub region_apart : (r : Region) (m n : ℕ) → r.wide ≡ 1 → 0 < r.vert → m < n → element_at r m + r.size ≤ element_at r n
unfolding element_at
region_apart r m n e hs h =
    let a : suc m * r.vert * r.size ≤ n * r.vert * r.size = mul-le-mul_right r.size (mul-le-mul_right r.vert h) in
    let b : r.size ≤ r.vert * r.size = omega (arith, mul-le-mul_right {m = 1} {n = r.vert} r.size hs) in
    rw (e, div-one m, div-one n, mod-one m, mod-one n) (omega (arith, simp (suc-mul, add-mul) at a, b))

-- A stride code other than 0 means a stride of 1 or more.
pub stride_least : (c : ℕ) → (c ≡ 0 → ⊥) → 0 < stride_of c
stride_least zero h = absurd (h refl)
stride_least (suc c) h = rw pow-suc (omega (arith, pow_pos c))

-- A legal word's destination has a stride.
pub destination_strides : (p : Plain) (w : ℕ) → shape_broken p w ≡ false → is_null w ≡ false → dst_stride w ≡ 0 → ⊥
unfolding shape_broken
destination_strides p w s d = eqb-false (dst_stride w) 0 (by_destination p w _ (src_shape_broken w) s d)

-- No two channels of a word whose destination has a stride write the same byte.
pub destination_apart : (w m n : ℕ) → (dst_stride w ≡ 0 → ⊥) → m < n → dst_element w m + dst_size w ≤ dst_element w n
destination_apart w m n h l =
    rw (destination_element w m, destination_element w n) at (region_apart (dst_region w) m n refl (stride_least (dst_stride w) h) l)
