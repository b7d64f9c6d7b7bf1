-- What 02 §8 added to the rules of a word: one without a float among the operands that it reads is judged as it was; one with a float was 7. Assumes nothing.
use Rattle.std.proofs.Math.Bool.{Bool, true, false, not}
use Rattle.std.specs.Prelude.{cond, ◌&&◌, ◌||◌, ◌⊎◌, ◌≡◌}
use Rattle.std.proofs.lemmas.Bool.{not-true, not-false}
use Rattle.std.proofs.Common.{inl, inr, sym, ◌∙◌, arith, eqb-true, lt-ltb}
use mathlib.Core.List.{Memᴰ}
use Rattle.std.proofs.Math.Path.{refl, ap, ap₂}
use Prim.Native.Nat.{ℕ, ◌≤◌}
use Rattle.std.proofs.Math.Dec.{eqb, ltb, leb}
use Rattle.paper.specs.Bits.{bits}
use Rattle.paper.specs.Word.{Source, dst_file, dst_type, dst_addr_mode, src_file, src_type, src_addr_mode, grf, is_null, dst_is_a0, src_is_a0, is_immediate}
use Rattle.paper.specs.Value.{type_f, type_vf, size_of, is_signed}
use Rattle.paper.specs.Region.{channels, src_is_vector}
use Rattle.paper.specs.Operation.{Plain, plain, traits, sources}
use Rattle.paper.specs.Legal.{any_of, control_served, register_type, immediate_type, dst_served, src_served, uses_a0, moves_words, dst_is_float, src_is_float, uses_floats, floats_served, plain_served}
use Rattle.paper.specs.Legal.{misplaced, unequal_halves, bad_modifier, own_rule_broken, mixed, vector_too_short, operand_rule_broken, shape_broken, alignment_broken, reach_broken, or_else, later}
use Rattle.laws.specs.Regions.{or-false, none_of}
use Rattle.laws.specs.SettledLegal.{any_same}
use Rattle.laws.specs.DirectWords.{none_any, any_more}
use Rattle.laws.specs.Truth.{both_true}
use Rattle.laws.specs.FloatsBefore.{whole_size_of, whole_is_signed, whole_dst_served, whole_src_served, whole_plain_served, whole_unequal_halves, whole_operand_rule_broken, whole_later}

-- ---- types 0 to 5 have the sizes and the signs that they had

pub sizes_stay : (t : ℕ) → t ≤ 5 → whole_size_of t ≡ size_of t
sizes_stay t h = rw (lt-ltb t 6 (omega arith))

pub signs_stay : (t : ℕ) → t ≤ 5 → whole_is_signed t ≡ is_signed t
signs_stay t h = rw (lt-ltb t 6 (omega arith))

-- ---- judged as before

or_nothing : (b : Bool) → (b || false) ≡ b
or_nothing true = refl
or_nothing false = refl

module _ (p : Plain) (w : ℕ) (old : uses_floats p w ≡ false) where
  -- Neither the destination is a float, nor a source that is read.
  abbrev parts : (dst_is_float w ≡ false) × (any_of (src_is_float w) (sources p) ≡ false)
  unfolding uses_floats
  parts = or-false (dst_is_float w) (any_of (src_is_float w) (sources p)) old

  -- Such a source is not of type f,
  pub src_no_float : (x : Source) → Memᴰ x (sources p) → eqb (src_type x w) type_f ≡ false
  src_no_float x m = (or-false (eqb (src_type x w) type_f) (src_is_vector x w) (none_of (src_is_float w) parts.1 m)).0

  -- and is no immediate of type vf.
  pub src_no_vector : (x : Source) → Memᴰ x (sources p) → src_is_vector x w ≡ false
  src_no_vector x m = (or-false (eqb (src_type x w) type_f) (src_is_vector x w) (none_of (src_is_float w) parts.1 m)).1

  -- 7 of the destination,
  dst_served_lem : whole_dst_served w ≡ dst_served w
  unfolding whole_dst_served dst_served
  dst_served_lem =
      ap (λ (t : Bool). (eqb (dst_file w) grf || ((is_null w || dst_is_a0 w) && eqb (dst_addr_mode w) 0)) && t)
      (sym (or_nothing (leb (dst_type w) 5)) ∙ ap (λ (f : Bool). leb (dst_type w) 5 || f) (sym parts.0))

  -- of an immediate,
  listed_immediate : (x : Source) → Memᴰ x (sources p) → is_immediate x w ≡ true → immediate_type (src_type x w) ≡ leb (src_type x w) 3
  listed_immediate x m i =
      let v : eqb (src_type x w) type_vf ≡ false = rw i at (src_no_vector x m) in
      rw (v, src_no_float x m) (or_nothing (leb (src_type x w) 3))

  -- and of a source.
  src_served_lem : (x : Source) → Memᴰ x (sources p) → whole_src_served w x ≡ src_served w x
  unfolding whole_src_served src_served
  src_served_lem x m = go (is_immediate x w) refl
    where
      in_file : Bool
      in_file = eqb (src_file x w) grf || (src_is_a0 x w && eqb (src_addr_mode x w) 0)

      go : (t : Bool) → is_immediate x w ≡ t
          → cond t (leb (src_type x w) 3) (in_file && leb (src_type x w) 5) ≡ cond t (immediate_type (src_type x w)) (in_file && register_type (src_type x w))
      go true i = sym (listed_immediate x m i)
      go false i =
          ap (λ (t : Bool). in_file && t)
          (sym (or_nothing (leb (src_type x w) 5)) ∙ ap (λ (f : Bool). leb (src_type x w) 5 || f) (sym (src_no_float x m)))

  -- 7 of the whole word.
  plain_served_lem : whole_plain_served p w ≡ plain_served p w
  unfolding whole_plain_served plain_served
  plain_served_lem =
      rw (dst_served_lem, any_same (λ x. not (whole_src_served w x)) (λ x. not (src_served w x)) (sources p) (λ x m. ap not (src_served_lem x m)), old)
      (go (control_served (traits p).compares (traits p).saturates w) (dst_served w) (not (any_of (λ x. not (src_served w x)) (sources p)))
      (not (uses_a0 p w) || moves_words p w))
    where
      go : (a b c d : Bool) → (a && (b && (c && d))) ≡ (a && (b && (c && (d && true))))
      go false b c d = refl
      go true false c d = refl
      go true true false d = refl
      go true true true true = refl
      go true true true false = refl

  -- 8: halves are asked of the immediates that had them, since no other immediate is served;
  halves : plain_served p w ≡ true → (x : Source) → Memᴰ x (sources p) → whole_unequal_halves w x ≡ unequal_halves w x
  unfolding plain_served src_served
  halves served x m = go (is_immediate x w) refl
    where
      rest : ((dst_served w && (not (any_of (λ x. not (src_served w x)) (sources p)) && ((not (uses_a0 p w) || moves_words p w) && (not (uses_floats p w) || floats_served p w)))) ≡ true)
      rest = (both_true (control_served (traits p).compares (traits p).saturates w) _ served).1

      own : src_served w x ≡ true
      own =
          let b = both_true (dst_served w) _ rest in
          let c = both_true (not (any_of (λ x. not (src_served w x)) (sources p))) _ b.1 in
          not-false (src_served w x) (none_of (λ y. not (src_served w y)) (not-true (any_of (λ y. not (src_served w y)) (sources p)) c.0) m)

      three : is_immediate x w ≡ true → leb (src_type x w) 3 ≡ true
      three i =
          let given : immediate_type (src_type x w) ≡ true = rw i at own in
          sym (listed_immediate x m i) ∙ given

      same : (a b c : Bool) → b ≡ true → (a && c) ≡ ((a && b) && c)
      same true b c e = rw e
      same false b c e = refl

      go : (t : Bool) → is_immediate x w ≡ t
          → (t && (leb 2 (src_type x w) && not (eqb (bits w 96 16) (bits w 112 16))))
          ≡ (t && ((leb 2 (src_type x w) && leb (src_type x w) 3) && not (eqb (bits w 96 16) (bits w 112 16))))
      go true i = same (leb 2 (src_type x w)) (leb (src_type x w) 3) _ (three i)
      go false i = refl

  -- and nothing is asked for the sake of floats.
  operand_rule : plain_served p w ≡ true → whole_operand_rule_broken p w ≡ operand_rule_broken p w
  unfolding whole_operand_rule_broken operand_rule_broken mixed
  operand_rule served =
      ap₂ (λ (a b : Bool). misplaced p w || (a || (any_of (bad_modifier p w) (sources p) || b)))
      (any_same (whole_unequal_halves w) (unequal_halves w) (sources p) (halves served))
      (sym (or_nothing (own_rule_broken p w))
      ∙ ap₂ (λ (a b : Bool). own_rule_broken p w || ((a && (not (dst_is_float w) || any_of (λ x. not (src_is_float w x)) (sources p))) || b)) (sym old) (sym vectors))
    where
      vectors : any_of (vector_too_short w) (sources p) ≡ false
      vectors =
          any_same (vector_too_short w) (λ _. false) (sources p) (λ x m. ap (λ (t : Bool). t && ltb 4 (channels w)) (src_no_vector x m))
          ∙ none_any (sources p)

  -- The rules say of the word what they said.
  pub plain_before : whole_later (plain p) w ≡ later (plain p) w
  unfolding whole_later later
  plain_before = rw plain_served_lem (go (plain_served p w) refl)
    where
      more : ℕ
      more = or_else (shape_broken p w) 9 (or_else (alignment_broken p w) 10 (or_else (reach_broken p w) 11 0))

      go : (t : Bool) → plain_served p w ≡ t → or_else (not t) 7 (or_else (whole_operand_rule_broken p w) 8 more) ≡ or_else (not t) 7 (or_else (operand_rule_broken p w) 8 more)
      go true e = ap (λ (b : Bool). or_else b 8 more) (operand_rule e)
      go false e = refl

-- ---- what is new was 7

-- Code 7 is not among 0 to 5,
seven_over : (t : ℕ) → eqb t type_f ≡ true → leb t 5 ≡ false
seven_over t e = rw (eqb-true t type_f e)

-- nor among 0 to 3, and 5 is not either.
seven_over_three : (t : ℕ) → eqb t type_f ≡ true → leb t 3 ≡ false
seven_over_three t e = rw (eqb-true t type_f e)

five_over : (t : ℕ) → eqb t type_vf ≡ true → leb t 3 ≡ false
five_over t e = rw (eqb-true t type_vf e)

and_nothing : (b : Bool) → (b && false) ≡ false
and_nothing true = refl
and_nothing false = refl

-- A float as the destination was not served,
new_destination : (w : ℕ) → dst_is_float w ≡ true → whole_dst_served w ≡ false
unfolding whole_dst_served
new_destination w e =
    rw (seven_over (dst_type w) e) (and_nothing (eqb (dst_file w) grf || ((is_null w || dst_is_a0 w) && eqb (dst_addr_mode w) 0)))

-- nor as a source.
new_source : (w : ℕ) (x : Source) → src_is_float w x ≡ true → whole_src_served w x ≡ false
unfolding whole_src_served
new_source w x e = go (eqb (src_type x w) type_f) refl e
  where
    in_file : Bool
    in_file = eqb (src_file x w) grf || (src_is_a0 x w && eqb (src_addr_mode x w) 0)

    either : (t : Bool) → eqb (src_type x w) type_f ≡ true → cond t (leb (src_type x w) 3) (in_file && leb (src_type x w) 5) ≡ false
    either true f = seven_over_three (src_type x w) f
    either false f = rw (seven_over (src_type x w) f) (and_nothing in_file)

    go : (t : Bool) → eqb (src_type x w) type_f ≡ t → (t || src_is_vector x w) ≡ true
        → cond (is_immediate x w) (leb (src_type x w) 3) (in_file && leb (src_type x w) 5) ≡ false
    go true f h = either (is_immediate x w) f
    go false f h =
        let b = both_true (is_immediate x w) (eqb (src_type x w) type_vf) h in
        rw b.0 (five_over (src_type x w) b.1)

-- So a word with a float was refused as 7.
pub new_was_seven : (p : Plain) (w : ℕ) → uses_floats p w ≡ true → whole_later (plain p) w ≡ 7
unfolding whole_later whole_plain_served uses_floats
new_was_seven p w e = go (dst_is_float w) refl e
  where
    seven : (a b c d : Bool) → (b ≡ false) ⊎ (c ≡ true) → (n : ℕ) → or_else (not (a && (b && (not c && d)))) 7 n ≡ 7
    seven false b c d h n = refl
    seven true b c d (inl h) n = rw h
    seven true true c d (inr h) n = rw h
    seven true false c d (inr h) n = refl

    control : Bool
    control = control_served (traits p).compares (traits p).saturates w

    unserved : Bool
    unserved = any_of (λ x. not (whole_src_served w x)) (sources p)

    words : Bool
    words = not (uses_a0 p w) || moves_words p w

    more : ℕ
    more =
        or_else (whole_operand_rule_broken p w) 8 (or_else (shape_broken p w) 9 (or_else (alignment_broken p w) 10 (or_else (reach_broken p w) 11 0)))

    go : (t : Bool) → dst_is_float w ≡ t → (t || any_of (src_is_float w) (sources p)) ≡ true
        → or_else (not (control && (whole_dst_served w && (not unserved && words)))) 7 more ≡ 7
    go true h f = seven control (whole_dst_served w) unserved words (inl (new_destination w h)) more
    go false h f =
        seven control (whole_dst_served w) unserved words
        (inr (any_more (src_is_float w) (λ x. not (whole_src_served w x)) (λ x q. ap not (new_source w x q)) (sources p) f)) more
