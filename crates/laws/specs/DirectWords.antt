-- What 02 §7 added to the rules of a word: one that uses neither a0 nor an address, in an operand that it reads, is judged as it was; one that does was 7. Assumes nothing.
use Rattle.std.specs.Prelude.{Bool, ◌&&◌, ◌||◌, ◌⊎◌, ◌≡◌, ℕ, zero, suc, ◌+◌, ◌*◌, ◌^◌, ◌<◌}
use Rattle.std.proofs.Math.Bool.{true, false, not, cond}
use Rattle.std.proofs.lemmas.Bool.{false≢true}
use mathlib.Core.List.{List, [], ◌∷◌, Memᴰ}
use Rattle.std.proofs.Common.{inl, inr, sym, ap₂, ◌∙◌, mod-lt, arith, pow_pos, eqb-true}
use Rattle.std.proofs.Math.Path.{refl, ap}
use Rattle.std.proofs.Math.Dec.{eqb}
use Rattle.paper.specs.Bits.{bits}
use Rattle.paper.specs.Word.{Source, src0, src1, dst_file, dst_type, dst_subregister, dst_register, dst_stride, dst_addr_mode}
use Rattle.paper.specs.Word.{src_file, src_type, src_subregister, src_register, src_addr_mode}
use Rattle.paper.specs.Word.{grf, arf, a0, is_null, dst_is_a0, src_is_a0, is_immediate, dst_by_address, src_by_address}
use Rattle.paper.specs.Operation.{Plain, plain, traits, sources}
use Rattle.paper.specs.Region.{stride_of, element_at, register_at, src_region, dst_origin, dst_size, dst_element}
use Rattle.paper.specs.Legal.{any_of, control_served, register_type, immediate_type, dst_served, src_served, uses_a0, uses_floats, floats_served, plain_served, operand_rule_broken, some_operand, shape_broken, unaligned, alignment_broken, bytes_in, too_far, region_too_far, last_channel, reach_broken, or_else, later}
use Rattle.laws.specs.Regions.{or-false, none_of}
use Rattle.laws.specs.SettledLegal.{any_same}
use Rattle.laws.specs.Truth.{both_true}
use Rattle.laws.specs.AddressesBefore.{direct_dst_served, direct_src_served, direct_plain_served, direct_src_region, direct_dst_origin, direct_dst_element, direct_alignment_broken, direct_too_far, direct_reach_broken, direct_later}

-- ---- what is new

-- A destination, or a source that is read, is by address or is a0.
abbrev pub new_operand : Plain → ℕ → Bool
new_operand p w = (dst_by_address w || dst_is_a0 w) || any_of (λ x. src_by_address x w || src_is_a0 x w) (sources p)

-- No source passes a test that is false of all.
pub none_any : (xs : List Source) → any_of (λ _. false) xs ≡ false
none_any [] = refl
none_any (x ∷ xs) = none_any xs

-- AddrMode has one bit: if it is not 1 it is 0,
mode_zero : (w k : ℕ) → eqb (bits w k 1) 1 ≡ false → eqb (bits w k 1) 0 ≡ true
mode_zero w k e = two (bits w k 1) (mod-lt _ (pow_pos 1)) e
  where
    two : (n : ℕ) → n < 2 ^ 1 → eqb n 1 ≡ false → eqb n 0 ≡ true
    two zero h e = refl
    two (suc zero) h e = absurd (false≢true (sym e))
    two (suc (suc n)) h e = absurd (omega arith)

-- and if it is 1 it is not 0.
mode_one : (n : ℕ) → eqb n 1 ≡ true → eqb n 0 ≡ false
mode_one n e = rw (eqb-true n 1 e)

-- So it is of a source.
src_mode_zero : (x : Source) (w : ℕ) → eqb (src_addr_mode x w) 1 ≡ false → eqb (src_addr_mode x w) 0 ≡ true
src_mode_zero src0 w e = mode_zero w 79 e
src_mode_zero src1 w e = mode_zero w 111 e

module _ (p : Plain) (w : ℕ) (old : new_operand p w ≡ false) where
  -- Neither the destination is new, nor a source.
  abbrev parts : ((dst_by_address w || dst_is_a0 w) ≡ false) × (any_of (λ x. src_by_address x w || src_is_a0 x w) (sources p) ≡ false)
  parts = or-false (dst_by_address w || dst_is_a0 w) (any_of (λ x. src_by_address x w || src_is_a0 x w) (sources p)) old

  -- So the destination is not by address,
  pub no_address : dst_by_address w ≡ false
  no_address = (or-false (dst_by_address w) (dst_is_a0 w) parts.0).0

  -- and is not a0;
  pub no_a0 : dst_is_a0 w ≡ false
  no_a0 = (or-false (dst_by_address w) (dst_is_a0 w) parts.0).1

  -- and a source that is read is not by address,
  pub src_no_address : (x : Source) → Memᴰ x (sources p) → src_by_address x w ≡ false
  src_no_address x m = (or-false (src_by_address x w) (src_is_a0 x w) (none_of (λ y. src_by_address y w || src_is_a0 y w) parts.1 m)).0

  -- and is not a0.
  pub src_no_a0 : (x : Source) → Memᴰ x (sources p) → src_is_a0 x w ≡ false
  src_no_a0 x m = (or-false (src_by_address x w) (src_is_a0 x w) (none_of (λ y. src_by_address y w || src_is_a0 y w) parts.1 m)).1

  -- ---- judged as before

  -- 7 of the destination,
  dst_served_lem : direct_dst_served w ≡ dst_served w
  unfolding direct_dst_served dst_served
  dst_served_lem = rw (no_a0, mode_zero w 63 no_address) (go (eqb (dst_file w) grf) (is_null w) (register_type (dst_type w)))
    where
      go : (a b c : Bool) → ((a || b) && (true && c)) ≡ ((a || ((b || false) && true)) && c)
      go true b c = refl
      go false true c = refl
      go false false c = refl

  -- and of a source.
  src_served_lem : (x : Source) → Memᴰ x (sources p) → direct_src_served w x ≡ src_served w x
  unfolding direct_src_served src_served
  src_served_lem x m = rw (src_no_a0 x m) (go (is_immediate x w) (src_no_address x m))
    where
      go : (t : Bool) → (not t && eqb (src_addr_mode x w) 1) ≡ false
          → cond t (immediate_type (src_type x w)) (eqb (src_file x w) grf && (eqb (src_addr_mode x w) 0 && register_type (src_type x w)))
          ≡ cond t (immediate_type (src_type x w)) ((eqb (src_file x w) grf || (false && eqb (src_addr_mode x w) 0)) && register_type (src_type x w))
      go true e = refl
      go false e = rw (src_mode_zero x w e) (same (eqb (src_file x w) grf))
        where
          same : (a : Bool) → (a && (true && register_type (src_type x w))) ≡ ((a || false) && register_type (src_type x w))
          same true = refl
          same false = refl

  -- No operand is a0, so nothing is asked for its sake.
  no_use : uses_a0 p w ≡ false
  unfolding uses_a0
  no_use = rw no_a0 (any_same (λ x. src_is_a0 x w) (λ _. false) (sources p) src_no_a0 ∙ none_any (sources p))

  -- 7 of the whole word.
  plain_served_lem : direct_plain_served p w ≡ plain_served p w
  unfolding direct_plain_served plain_served
  plain_served_lem =
      rw (dst_served_lem, any_same (λ x. not (direct_src_served w x)) (λ x. not (src_served w x)) (sources p) (λ x m. ap not (src_served_lem x m)), no_use)

  -- A rule over the operands that says the same of each says the same of all.
  operands_same : (dst dst' : Bool) (src src' : Source → Bool) → dst ≡ dst' → ((x : Source) → Memᴰ x (sources p) → src x ≡ src' x)
      → some_operand p w dst src ≡ some_operand p w dst' src'
  operands_same dst dst' src src' e h =
      ap₂ ◌||◌ (ap (λ (t : Bool). not (is_null w) && t) e)
      (any_same (λ x. not (is_immediate x w) && src x) (λ x. not (is_immediate x w) && src' x) (sources p)
      (λ x m. ap (λ (t : Bool). not (is_immediate x w) && t) (h x m)))

  -- 10.
  alignment : direct_alignment_broken p w ≡ alignment_broken p w
  unfolding direct_alignment_broken alignment_broken
  alignment =
      operands_same (unaligned (dst_subregister w) (dst_size w)) (not (dst_by_address w) && unaligned (dst_subregister w) (dst_size w))
      (λ x. unaligned (src_subregister x w) (direct_src_region x w).size) (λ x. not (src_by_address x w) && unaligned (src_subregister x w) (src_region x w).size)
      (ap (λ (t : Bool). not t && unaligned (dst_subregister w) (dst_size w)) (sym no_address))
      (λ x m. ap (λ (t : Bool). not t && unaligned (src_subregister x w) (src_region x w).size) (sym (src_no_address x m)))

  -- The region of a source that is read is the one that it was,
  pub region : (x : Source) → Memᴰ x (sources p) → direct_src_region x w ≡ src_region x w
  region x m = λ i. record {
    origin = register_at (sym (src_no_a0 x m) i) (src_register x w) + src_subregister x w;
    vert = (src_region x w).vert;
    wide = (src_region x w).wide;
    horz = (src_region x w).horz;
    size = (src_region x w).size;
  }

  -- the destination begins where it did,
  origin : direct_dst_origin w ≡ dst_origin w
  origin = ap (λ (t : Bool). register_at t (dst_register w) + dst_subregister w) (sym no_a0)

  -- and so does each element of it.
  pub element : direct_dst_element w ≡ dst_element w
  element = λ i n. origin i + n * stride_of (dst_stride w) * dst_size w

  -- 11.
  reach : direct_reach_broken p w ≡ reach_broken p w
  unfolding direct_reach_broken reach_broken direct_too_far too_far
  reach =
      operands_same (direct_too_far (direct_dst_origin w) (direct_dst_element w (last_channel w)) (dst_size w))
      (not (dst_by_address w) && too_far (bytes_in (dst_is_a0 w)) (dst_origin w) (dst_element w (last_channel w)) (dst_size w))
      (λ x. let r = direct_src_region x w in direct_too_far r.origin (element_at r (last_channel w)) r.size)
      (λ x. not (src_by_address x w) && region_too_far (bytes_in (src_is_a0 x w)) (src_region x w) (last_channel w))
      (λ i. not (sym no_address i) && too_far (bytes_in (sym no_a0 i)) (origin i) (element i (last_channel w)) (dst_size w))
      (λ x m i. not (sym (src_no_address x m) i) && region_too_far (bytes_in (sym (src_no_a0 x m) i)) (region x m i) (last_channel w))

  -- The rules say of the word what they said.
  pub plain_before : direct_later (plain p) w ≡ later (plain p) w
  unfolding direct_later later
  plain_before = rw (plain_served_lem, alignment, reach)

-- ---- what is new was 7

-- An address, or a0, as the destination was not served,
new_destination : (w : ℕ) → (dst_by_address w || dst_is_a0 w) ≡ true → direct_dst_served w ≡ false
unfolding direct_dst_served
new_destination w e = go (dst_by_address w) refl e
  where
    last : (a b : Bool) → (a && (false && b)) ≡ false
    last true b = refl
    last false b = refl

    go : (t : Bool) → dst_by_address w ≡ t → (t || dst_is_a0 w) ≡ true → ((eqb (dst_file w) grf || is_null w) && (eqb (dst_addr_mode w) 0 && register_type (dst_type w))) ≡ false
    go true h f = rw (mode_one (dst_addr_mode w) h) (last (eqb (dst_file w) grf || is_null w) (register_type (dst_type w)))
    go false h f =
        let b = both_true (eqb (dst_file w) arf) (eqb (dst_register w) a0) f in
        rw (eqb-true (dst_file w) arf b.0, eqb-true (dst_register w) a0 b.1)

-- nor as a source.
new_source : (w : ℕ) (x : Source) → (src_by_address x w || src_is_a0 x w) ≡ true → direct_src_served w x ≡ false
unfolding direct_src_served
new_source w x e = go (src_by_address x w) refl e
  where
    middle : (a b : Bool) → (a && (false && b)) ≡ false
    middle true b = refl
    middle false b = refl

    by : (t : Bool) → (not t && eqb (src_addr_mode x w) 1) ≡ true
        → cond t (immediate_type (src_type x w)) (eqb (src_file x w) grf && (eqb (src_addr_mode x w) 0 && register_type (src_type x w))) ≡ false
    by true h = absurd (false≢true h)
    by false h = rw (mode_one (src_addr_mode x w) h) (middle (eqb (src_file x w) grf) (register_type (src_type x w)))

    go : (t : Bool) → src_by_address x w ≡ t → (t || src_is_a0 x w) ≡ true
        → cond (is_immediate x w) (immediate_type (src_type x w)) (eqb (src_file x w) grf && (eqb (src_addr_mode x w) 0 && register_type (src_type x w))) ≡ false
    go true h f = by (is_immediate x w) h
    go false h f = rw (eqb-true (src_file x w) arf (both_true (eqb (src_file x w) arf) _ f).0)

-- Where one source of a list passes a test, and each that passes it passes another, one passes the other.
pub any_more : (f g : Source → Bool) → ((x : Source) → f x ≡ true → g x ≡ true) → (xs : List Source) → any_of f xs ≡ true → any_of g xs ≡ true
any_more f g h [] e = absurd (false≢true e)
any_more f g h (x ∷ xs) e = go (f x) refl (any_more f g h xs) e
  where
    or_right : (a : Bool) → (a || true) ≡ true
    or_right true = refl
    or_right false = refl

    go : (t : Bool) → f x ≡ t → (any_of f xs ≡ true → any_of g xs ≡ true) → (t || any_of f xs) ≡ true → (g x || any_of g xs) ≡ true
    go true q later r = rw (h x q)
    go false q later r = rw (later r) (or_right (g x))

-- So a word with a new operand was refused as 7.
pub new_was_seven : (p : Plain) (w : ℕ) → new_operand p w ≡ true → direct_later (plain p) w ≡ 7
unfolding direct_later direct_plain_served
new_was_seven p w e = go (dst_by_address w || dst_is_a0 w) refl e
  where
    seven : (a b c d : Bool) → (b ≡ false) ⊎ (c ≡ true) → (n : ℕ) → or_else (not (a && (b && (not c && d)))) 7 n ≡ 7
    seven false b c d h n = refl
    seven true b c d (inl h) n = rw h
    seven true true c d (inr h) n = rw h
    seven true false c d (inr h) n = refl

    floating : Bool
    floating = not (uses_floats p w) || floats_served p w

    later_ones : ℕ
    later_ones =
        or_else (operand_rule_broken p w) 8 (or_else (shape_broken p w) 9 (or_else (direct_alignment_broken p w) 10 (or_else (direct_reach_broken p w) 11 0)))

    go : (t : Bool) → (dst_by_address w || dst_is_a0 w) ≡ t → (t || any_of (λ x. src_by_address x w || src_is_a0 x w) (sources p)) ≡ true
        → or_else (not (control_served (traits p).compares (traits p).saturates w && (direct_dst_served w && (not (any_of (λ x. not (direct_src_served w x)) (sources p)) && floating)))) 7 later_ones ≡ 7
    go true h f = seven (control_served (traits p).compares (traits p).saturates w) (direct_dst_served w) (any_of (λ x. not (direct_src_served w x)) (sources p)) floating (inl (new_destination w h)) later_ones
    go false h f =
        seven (control_served (traits p).compares (traits p).saturates w) (direct_dst_served w) (any_of (λ x. not (direct_src_served w x)) (sources p)) floating
        (inr (any_more (λ x. src_by_address x w || src_is_a0 x w) (λ x. not (direct_src_served w x)) (λ x q. ap not (new_source w x q)) (sources p) f)) later_ones
