-- The rules over an operation's sources, by the first and the second source. Assumes nothing.
use Rattle.std.specs.Prelude.{Bool, true, false, not, cond, ◌&&◌, ◌||◌, ◌≡◌, refl, ℕ, eqb, ltb, leb}
use Rattle.std.proofs.Common.{true≢false, sym, ap, ap₂, ◌∙◌}
use Rattle.paper.specs.Bits.{bit}
use Rattle.paper.specs.Word.{Source, src0, src1, exec_size, saturate, dst_type, dst_subregister, dst_stride, src_field, src_type, src_subregister}
use Rattle.paper.specs.Value.{type_f, type_vf}
use Rattle.paper.specs.Word.{grf, src_file, src_addr_mode, is_null, dst_is_a0, src_is_a0, is_immediate, dst_by_address, src_by_address}
use Rattle.paper.specs.Operation.{Plain, Branch, Operation, plain, branch, operation, is_mov, traits, sources}
use Rattle.paper.specs.Region.{src_is_vector, channels, src_region, dst_size, dst_origin, dst_element}
use Rattle.paper.specs.Legal.{any_of, control_served, dst_served, src_served, uses_a0, moves_words, dst_is_float, src_is_float, uses_floats, floats_served, plain_served}
use Rattle.paper.specs.Legal.{unequal_halves, bad_modifier, own_rule_broken, mixed, vector_too_short, operand_rule_broken}
use Rattle.paper.specs.Legal.{some_operand, src_shape_broken, shape_broken, unaligned, alignment_broken}
use Rattle.paper.specs.Legal.{bytes_in, too_far, region_too_far, last_channel, reach_broken}
use Rattle.paper.specs.Legal.{reserved_set, branch_served, or_else, later, refusal_of}
use Rattle.laws.specs.Regions.{dst_region, destination_element}
use Rattle.laws.specs.Sources.{reads_two, two_counted}
use Rattle.words.specs.Usual.{Whole, Usual}
use Rattle.table.specs.Entries.{entry_of}
use Rattle.judge.specs.Sources.{any_source, any_source_lem}

-- 7

-- No operand is a0, or words are moved.
abbrev pub a0_served : Plain → ℕ → Bool
a0_served p w = not (uses_a0 p w) || moves_words p w

pub uses_a0_lem : (p : Plain) (w : ℕ) → uses_a0 p w ≡ (dst_is_a0 w || any_source p (src_is_a0 src0 w) (src_is_a0 src1 w))
unfolding uses_a0
uses_a0_lem p w = ap (λ (b : Bool). dst_is_a0 w || b) (any_source_lem p (λ x. src_is_a0 x w))

pub moves_words_lem : (p : Plain) (w : ℕ)
    → moves_words p w ≡ (is_mov p && (eqb (dst_type w) 2 && not (any_source p (not (eqb (src_type src0 w) 2)) (not (eqb (src_type src1 w) 2)))))
unfolding moves_words
moves_words_lem p w = ap (λ (b : Bool). is_mov p && (eqb (dst_type w) 2 && not b)) (any_source_lem p (λ x. not (eqb (src_type x w) 2)))

-- Some operand is a float, by the first source and the second.
pub uses_floats_lem : (p : Plain) (w : ℕ) → uses_floats p w ≡ (dst_is_float w || any_source p (src_is_float w src0) (src_is_float w src1))
unfolding uses_floats
uses_floats_lem p w = ap (λ (b : Bool). dst_is_float w || b) (any_source_lem p (src_is_float w))

-- No operand is a float, or floats are served.
abbrev pub floats_allowed : Plain → ℕ → Bool
floats_allowed p w = not (uses_floats p w) || floats_served p w

-- Where some operand is a float, the operation must be one of floats, and nothing may saturate.
pub floats_allowed_lem : (p : Plain) (w : ℕ) → uses_floats p w ≡ true → floats_allowed p w ≡ ((traits p).floats && eqb (saturate w) 0)
unfolding floats_served
floats_allowed_lem p w e = rw e

-- 7 of the operands of an operation, and of a0 and of floats among them.
unfoldable pub operands_served : Plain → ℕ → Bool
operands_served p w =
    dst_served w && (not (any_source p (not (src_served w src0)) (not (src_served w src1))) && (a0_served p w && floats_allowed p w))

-- What no operand is, none of those that are read is.
nowhere : (t : Bool) → (false || (false || (t && false))) ≡ false
nowhere true = refl
nowhere false = refl

none_float : (p : Plain) (w : ℕ) → Whole w → uses_floats p w ≡ false
none_float p w u = uses_floats_lem p w ∙ rw (u.destination, u.source src0, u.source src1) (nowhere (reads_two p))

-- In a word that is as most are neither is asked for.
pub served_usual : (p : Plain) (w : ℕ) → Usual w
    → operands_served p w ≡ (dst_served w && not (any_source p (not (src_served w src0)) (not (src_served w src1))))
unfolding operands_served
served_usual p w u =
    let none : uses_a0 p w ≡ false = uses_a0_lem p w ∙ rw (u.destination, u.source src0, u.source src1) (nowhere (reads_two p)) in
    ap (λ (b : Bool). dst_served w && b)
    (ap₂ (λ (a f : Bool). not (any_source p (not (src_served w src0)) (not (src_served w src1))) && ((not a || moves_words p w) && (not f || floats_served p w))) none (none_float p w u.whole)
    ∙ kept (not (any_source p (not (src_served w src0)) (not (src_served w src1)))))
  where
    kept : (b : Bool) → (b && true) ≡ b
    kept true = refl
    kept false = refl

pub plain_served_lem : (p : Plain) (w : ℕ) → plain_served p w ≡ (control_served (traits p).compares (traits p).saturates w && operands_served p w)
unfolding plain_served operands_served
plain_served_lem p w =
    ap (λ (b : Bool). control_served (traits p).compares (traits p).saturates w && (dst_served w && (not b && (a0_served p w && floats_allowed p w))))
    (any_source_lem p (λ x. not (src_served w x)))

-- 8

-- What is asked of every word;
unfoldable pub whole_rule_broken : Plain → ℕ → Bool
whole_rule_broken p w =
    (reads_two p && is_immediate src0 w)
    || (any_source p (unequal_halves w src0) (unequal_halves w src1)
    || (any_source p (bad_modifier p w src0) (bad_modifier p w src1)
    || own_rule_broken p w))

-- and of floats.
unfoldable pub float_rule_broken : Plain → ℕ → Bool
float_rule_broken p w = mixed p w || any_source p (vector_too_short w src0) (vector_too_short w src1)

pub mixed_rule : (p : Plain) (w : ℕ)
    → mixed p w ≡ (uses_floats p w && (not (dst_is_float w) || any_source p (not (src_is_float w src0)) (not (src_is_float w src1))))
unfolding mixed
mixed_rule p w = ap (λ (b : Bool). uses_floats p w && (not (dst_is_float w) || b)) (any_source_lem p (λ x. not (src_is_float w x)))

pub operand_rule : (p : Plain) (w : ℕ) → operand_rule_broken p w ≡ (whole_rule_broken p w || float_rule_broken p w)
unfolding operand_rule_broken whole_rule_broken float_rule_broken
operand_rule p w =
    ap₂ ◌||◌ (ap (λ (b : Bool). b && is_immediate src0 w) (two_counted p))
    (ap₂ ◌||◌ (any_source_lem p (unequal_halves w)) (ap₂ (λ (b c : Bool). b || (own_rule_broken p w || (mixed p w || c))) (any_source_lem p (bad_modifier p w)) (any_source_lem p (vector_too_short w))))
    ∙ apart (reads_two p && is_immediate src0 w) (any_source p (unequal_halves w src0) (unequal_halves w src1)) (any_source p (bad_modifier p w src0) (bad_modifier p w src1)) (own_rule_broken p w) (mixed p w || any_source p (vector_too_short w src0) (vector_too_short w src1))
  where
    apart : (a b c d e : Bool) → (a || (b || (c || (d || e)))) ≡ ((a || (b || (c || d))) || e)
    apart true b c d e = refl
    apart false true c d e = refl
    apart false false true d e = refl
    apart false false false true e = refl
    apart false false false false e = refl

-- Where no operand is a float, nothing is asked of floats.
pub operand_usual : (p : Plain) (w : ℕ) → Usual w → operand_rule_broken p w ≡ whole_rule_broken p w
unfolding float_rule_broken mixed
operand_usual p w u = operand_rule p w ∙ ap (λ (b : Bool). whole_rule_broken p w || b) silent ∙ kept (whole_rule_broken p w)
  where
    kept : (b : Bool) → (b || false) ≡ b
    kept true = refl
    kept false = refl

    right : (a b : Bool) → (a || b) ≡ false → b ≡ false
    right true b e = absurd (true≢false e)
    right false b e = e

    short : (x : Source) → vector_too_short w x ≡ false
    short x = ap (λ (b : Bool). b && ltb 4 (channels w)) (right (eqb (src_type x w) 7) (src_is_vector x w) (u.whole.source x))

    silent : float_rule_broken p w ≡ false
    silent =
        ap₂ (λ (a b : Bool). (a && (not (dst_is_float w) || any_of (λ x. not (src_is_float w x)) (sources p))) || b) (none_float p w u.whole)
        (ap₂ (any_source p) (short src0) (short src1) ∙ nowhere (reads_two p))

-- A rule over the register operands: the destination's test, and each source's.
abbrev pub operand_test : Plain → ℕ → Bool → Bool → Bool → Bool
operand_test p w dst first second =
    (not (is_null w) && dst) || any_source p (not (is_immediate src0 w) && first) (not (is_immediate src1 w) && second)

some_operand_lem : (p : Plain) (w : ℕ) (dst : Bool) (src : Source → Bool) → some_operand p w dst src ≡ operand_test p w dst (src src0) (src src1)
some_operand_lem p w dst src = ap (λ (b : Bool). (not (is_null w) && dst) || b) (any_source_lem p (λ x. not (is_immediate x w) && src x))

-- 9

pub shape_rule : (p : Plain) (w : ℕ) → shape_broken p w ≡ operand_test p w (eqb (dst_stride w) 0) (src_shape_broken w src0) (src_shape_broken w src1)
unfolding shape_broken
shape_rule p w = some_operand_lem p w (eqb (dst_stride w) 0) (src_shape_broken w)

-- A source's bits do not pass at ExecSize, by the table.
abbrev pub look_refuses : Source → ℕ → Bool
look_refuses x w = not (bit (entry_of (src_field x w)) (exec_size w))

-- 10

abbrev pub src_unaligned : Source → ℕ → Bool
src_unaligned x w = not (src_by_address x w) && unaligned (src_subregister x w) (src_region x w).size

abbrev pub dst_unaligned : ℕ → Bool
dst_unaligned w = not (dst_by_address w) && unaligned (dst_subregister w) (dst_size w)

pub alignment_rule : (p : Plain) (w : ℕ) → alignment_broken p w ≡ operand_test p w (dst_unaligned w) (src_unaligned src0 w) (src_unaligned src1 w)
unfolding alignment_broken
alignment_rule p w = some_operand_lem p w (dst_unaligned w) (λ x. src_unaligned x w)

-- 11

abbrev pub src_far : Source → ℕ → Bool
src_far x w = not (src_by_address x w) && region_too_far (bytes_in (src_is_a0 x w)) (src_region x w) (last_channel w)

abbrev pub dst_far : ℕ → Bool
dst_far w = not (dst_by_address w) && too_far (bytes_in (dst_is_a0 w)) (dst_origin w) (dst_element w (last_channel w)) (dst_size w)

-- The destination's rule over its region.
pub dst_far_lem : (w : ℕ) → (not (dst_by_address w) && region_too_far (bytes_in (dst_is_a0 w)) (dst_region w) (last_channel w)) ≡ dst_far w
dst_far_lem w =
    ap (λ (e : ℕ). not (dst_by_address w) && too_far (bytes_in (dst_is_a0 w)) (dst_origin w) e (dst_size w)) (destination_element w (last_channel w))

pub reach_rule : (p : Plain) (w : ℕ) → reach_broken p w ≡ operand_test p w (dst_far w) (src_far src0 w) (src_far src1 w)
unfolding reach_broken
reach_rule p w = some_operand_lem p w (dst_far w) (λ x. src_far x w)

-- ---- what is told of a word

-- A test that is asked of unusual words, and that fails of the others, is the test.
pub asked : (unusual t : Bool) → (unusual ≡ false → t ≡ false) → (unusual && t) ≡ t
asked true t f = refl
asked false t f = sym (f refl)

-- So are the tests of a source's type.
asked_kind : (unusual imm v f low five named : Bool) → (unusual ≡ false → (f || (imm && v)) ≡ false)
    → cond imm (low || (unusual && (v || f))) (named && (five || (unusual && f))) ≡ cond imm (low || (v || f)) (named && (five || f))
asked_kind true imm v f low five named h = refl
asked_kind false true true true low five named h = absurd (true≢false (h refl))
asked_kind false true true false low five named h = absurd (true≢false (h refl))
asked_kind false true false true low five named h = absurd (true≢false (h refl))
asked_kind false true false false low five named h = refl
asked_kind false false v true low five named h = absurd (true≢false (h refl))
asked_kind false false v false low five named h = refl

pub asked_source : (unusual : Bool) (w : ℕ) (x : Source) → (unusual ≡ false → src_is_float w x ≡ false)
    → cond (is_immediate x w) (leb (src_type x w) 3 || (unusual && (eqb (src_type x w) type_vf || eqb (src_type x w) type_f)))
    ((eqb (src_file x w) grf || (src_is_a0 x w && eqb (src_addr_mode x w) 0)) && (leb (src_type x w) 5 || (unusual && eqb (src_type x w) type_f)))
    ≡ src_served w x
unfolding src_served
asked_source unusual w x h =
    asked_kind unusual (is_immediate x w) (eqb (src_type x w) type_vf) (eqb (src_type x w) type_f) (leb (src_type x w) 3) (leb (src_type x w) 5)
    (eqb (src_file x w) grf || (src_is_a0 x w && eqb (src_addr_mode x w) 0)) h

-- ---- the six in order, by which rule is the first that is broken

-- 10 and 11, by which of them is the first.
abbrev pub places_of : Plain → ℕ → ℕ
places_of p w = or_else (alignment_broken p w) 10 (or_else (reach_broken p w) 11 0)

module _ (p : Plain) (w : ℕ) where
  -- What breaks 7 is refused for it.
  pub later_field : plain_served p w ≡ false → later (plain p) w ≡ 7
  unfolding later
  later_field a = rw a

  module _ (a : plain_served p w ≡ true) where
    -- What breaks 8 and not 7 is refused for 8,
    pub later_operand : operand_rule_broken p w ≡ true → later (plain p) w ≡ 8
    unfolding later
    later_operand b = rw (a, b)

    module _ (b : operand_rule_broken p w ≡ false) where
      -- what breaks 9 and none before it for 9,
      pub later_shape : shape_broken p w ≡ true → later (plain p) w ≡ 9
      unfolding later
      later_shape d = rw (a, b, d)

      module _ (d : shape_broken p w ≡ false) where
        -- and what breaks none of these by 10 and 11.
        pub later_places : later (plain p) w ≡ places_of p w
        unfolding later
        later_places = rw (a, b, d)

-- A branch is refused for 7 or not at all.
pub later-branch : (b : Branch) (w : ℕ) (t : Bool) → branch_served b w ≡ t → later (branch b) w ≡ cond t 0 7
unfolding later
later-branch b w true e = rw e
later-branch b w false e = rw e

pub refusal_reserved : (w : ℕ) → reserved_set w ≡ true → refusal_of w ≡ 6
unfolding refusal_of
refusal_reserved w e = rw e

pub refusal_later : (w : ℕ) (o : Operation) → reserved_set w ≡ false → operation w ≡ o → refusal_of w ≡ later o w
unfolding refusal_of
refusal_later w o e f = rw (e, f)
