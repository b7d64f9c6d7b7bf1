-- A legal word stays legal when its operands by address are named directly, if no address is broken (02 §7). Assumes nothing.
use Rattle.std.specs.Prelude.{Bool, ◌≡◌, ℕ, ◌+◌, leb, length}
use Rattle.std.proofs.Math.Bool.{true, false, not, cond, ◌&&◌, ◌||◌}
use Rattle.std.proofs.Common.{true≢false, sym, ◌∙◌, subst, eqb-true}
use Rattle.std.proofs.lemmas.Bool.{false≢true, not-true, not-false}
use mathlib.Core.List.Memᴰ
use mathlib.Core.List.{List, [], ◌∷◌, Memᴰ}
use Rattle.std.proofs.Math.Path.{refl, ap, ap₂}
use Rattle.std.proofs.Math.Dec.{eqb, ltb}
use Rattle.paper.specs.Bits.{bits}
use Rattle.paper.specs.Word.{Source, src0, src1, shift_of}
use Rattle.paper.specs.Word.{dst_file, dst_type, dst_register, dst_addr_mode, src_file, src_type, src_register, src_addr_mode, src_field}
use Rattle.paper.specs.Word.{grf, arf, is_null, dst_is_a0, src_is_a0, is_immediate, immediate_form, dst_by_address, src_by_address}
use Rattle.paper.specs.Operation.{Plain, is_mov, traits, sources}
use Rattle.paper.specs.Value.{type_f, type_vf}
use Rattle.paper.specs.Region.{count_of, src_is_vector}
use Rattle.paper.specs.Legal.{any_of, reserved_set, control_served, register_type, immediate_type, dst_served, src_served, uses_a0, moves_words}
use Rattle.paper.specs.Legal.{dst_is_float, src_is_float, uses_floats, floats_served, plain_served, mixed, vector_too_short}
use Rattle.paper.specs.Legal.{misplaced, unequal_halves, bad_modifier, own_rule_broken, operand_rule_broken, shape_refused, src_shape_broken, shape_broken}
use Rattle.paper.specs.Legal.{alignment_broken, reach_broken}
use Rattle.paper.specs.Address.{settled, some_outside, address_broken}
use Rattle.laws.specs.Bits.{bits_inner}
use Rattle.laws.specs.Sources.{reads_two, two_counted, one_source}
use Rattle.laws.specs.Regions.{LegalPlain, or-false, none_of}
use Rattle.laws.specs.Truth.{both_true}
use Rattle.laws.specs.Settled.{spares, settled_field, field_stays}

-- A test of each source of a list says of all what another says that agrees at each.
pub any_same : (f g : Source → Bool) (xs : List Source) → ((x : Source) → Memᴰ x xs → f x ≡ g x) → any_of f xs ≡ any_of g xs
any_same f g [] h = refl
any_same f g (x ∷ xs) h = ap₂ ◌||◌ (h x (Memᴰ.head refl)) (any_same f g xs (λ y m. h y (Memᴰ.tail m)))

-- Where the second source is read and no immediate is misplaced, the first is none.
last_only : (p : Plain) (w : ℕ) → Memᴰ src1 (sources p) → misplaced p w ≡ false → is_immediate src0 w ≡ false
last_only p w m e = go (reads_two p) refl
  where
    first : Source → Bool
    first src0 = true
    first src1 = false

    alone : Memᴰ src1 (src0 ∷ []) → ⊥
    alone (Memᴰ.head q) = false≢true (ap first q)
    alone (Memᴰ.tail n) = Memᴰ.not-nil n

    go : (t : Bool) → reads_two p ≡ t → is_immediate src0 w ≡ false
    go true f = rw (two_counted p, f) at e
    go false f = absurd (alone (subst (Memᴰ src1) (one_source p f) m))

-- The other source.
abbrev other : Source → Source
other src0 = src1
other src1 = src0

module _ (addresses : List ℕ) (p : Plain) (w : ℕ) (legal : LegalPlain p w) where
  abbrev v : ℕ
  v = settled p addresses w

  -- 7 of the parts.
  parts : (control_served (traits p).compares (traits p).saturates w ≡ true)
      × (dst_served w ≡ true) × (not (any_of (λ x. not (src_served w x)) (sources p)) ≡ true)
  unfolding plain_served
  parts =
      let a = both_true (control_served (traits p).compares (traits p).saturates w) _ legal.served in
      let b = both_true (dst_served w) _ a.1 in
      let c = both_true (not (any_of (λ x. not (src_served w x)) (sources p))) _ b.1 in
      (a.0, b.0, c.0)

  -- Each source that is read is served.
  source_served : (x : Source) → Memᴰ x (sources p) → src_served w x ≡ true
  source_served x m =
      not-false (src_served w x) (none_of (λ y. not (src_served w y)) (not-true (any_of (λ y. not (src_served w y)) (sources p)) parts.2) m)

  -- What is by address is in the register file.
  dst_file_lem : dst_by_address w ≡ true → eqb (dst_file w) grf ≡ true
  unfolding dst_served
  dst_file_lem e = go (eqb (dst_file w) grf) refl parts.1
    where
      mode : eqb (dst_addr_mode w) 0 ≡ false
      mode = rw (eqb-true (dst_addr_mode w) 1 e)

      none : (b : Bool) → (b && false) ≡ true → ⊥
      none true f = false≢true f
      none false f = false≢true f

      go : (t : Bool) → eqb (dst_file w) grf ≡ t → ((t || ((is_null w || dst_is_a0 w) && eqb (dst_addr_mode w) 0)) && register_type (dst_type w)) ≡ true → eqb (dst_file w) grf ≡ true
      go true f h = f
      go false f h = absurd (none (is_null w || dst_is_a0 w) (rw mode at (both_true ((is_null w || dst_is_a0 w) && eqb (dst_addr_mode w) 0) (register_type (dst_type w)) h).0))

  src_file_lem : (x : Source) → Memᴰ x (sources p) → src_by_address x w ≡ true → eqb (src_file x w) grf ≡ true
  unfolding src_served
  src_file_lem x m e = go (eqb (src_file x w) grf) refl (subst served (not-true (is_immediate x w) by.0) (source_served x m))
    where
      by : (not (is_immediate x w) ≡ true) × (eqb (src_addr_mode x w) 1 ≡ true)
      by = both_true (not (is_immediate x w)) (eqb (src_addr_mode x w) 1) e

      served : Bool → Type 0
      served t = cond t (immediate_type (src_type x w)) ((eqb (src_file x w) grf || (src_is_a0 x w && eqb (src_addr_mode x w) 0)) && register_type (src_type x w)) ≡ true

      mode : eqb (src_addr_mode x w) 0 ≡ false
      mode = rw (eqb-true (src_addr_mode x w) 1 by.1)

      none : (b : Bool) → (b && false) ≡ true → ⊥
      none true f = false≢true f
      none false f = false≢true f

      go : (t : Bool) → eqb (src_file x w) grf ≡ t → ((t || (src_is_a0 x w && eqb (src_addr_mode x w) 0)) && register_type (src_type x w)) ≡ true → eqb (src_file x w) grf ≡ true
      go true f h = f
      go false f h = absurd (none (src_is_a0 x w) (rw mode at (both_true (src_is_a0 x w && eqb (src_addr_mode x w) 0) (register_type (src_type x w)) h).0))

  -- No operand is in two files.
  two_files : (f : ℕ) → eqb f grf ≡ true → eqb f grf ≡ false → ⊥
  two_files f a b = false≢true (sym b ∙ a)

  arf-not-grf : (f : ℕ) → eqb f arf ≡ true → eqb f grf ≡ false
  arf-not-grf f e = rw (eqb-true f arf e)

  -- So an operand that is not in the register file is not by address.
  dst_still : eqb (dst_file w) grf ≡ false → dst_by_address w ≡ false
  dst_still f = go (dst_by_address w) refl
    where
      go : (t : Bool) → dst_by_address w ≡ t → t ≡ false
      go true e = absurd (two_files (dst_file w) (dst_file_lem e) f)
      go false e = refl

  src_still : (x : Source) → Memᴰ x (sources p) → eqb (src_file x w) grf ≡ false → src_by_address x w ≡ false
  src_still x m f = go (src_by_address x w) refl
    where
      go : (t : Bool) → src_by_address x w ≡ t → t ≡ false
      go true e = absurd (two_files (src_file x w) (src_file_lem x m e) f)
      go false e = refl

  -- The fields of an operand that is not by address stay.
  dst_own : dst_by_address w ≡ false → (lo n : ℕ) → spares 64 lo n ≡ true → spares 96 lo n ≡ true → bits v lo n ≡ bits w lo n
  dst_own d lo n b c = settled_field addresses p w lo n (λ e. absurd (false≢true (sym d ∙ e))) (λ x m e. each x)
    where
      each : (x : Source) → spares (64 + shift_of x) lo n ≡ true
      each src0 = b
      each src1 = c

  src_own : (x : Source) → src_by_address x w ≡ false → (lo n : ℕ) → spares 48 lo n ≡ true → spares (64 + shift_of (other x)) lo n ≡ true → bits v lo n ≡ bits w lo n
  src_own x d lo n a b = settled_field addresses p w lo n (λ _. a) (λ y m e. each x y d b e)
    where
      each : (x y : Source) → src_by_address x w ≡ false → spares (64 + shift_of (other x)) lo n ≡ true → src_by_address y w ≡ true → spares (64 + shift_of y) lo n ≡ true
      each src0 src0 d b e = absurd (false≢true (sym d ∙ e))
      each src0 src1 d b e = b
      each src1 src0 d b e = b
      each src1 src1 d b e = absurd (false≢true (sym d ∙ e))

  -- A file, a type and a modifier stay.
  stays : (lo n : ℕ) → spares 48 lo n ≡ true → spares 64 lo n ≡ true → spares 96 lo n ≡ true → bits v lo n ≡ bits w lo n
  stays = field_stays addresses p w

  file_same : (x : Source) → src_file x v ≡ src_file x w
  file_same src0 = stays 37 2 refl refl refl
  file_same src1 = stays 42 2 refl refl refl

  type_same : (x : Source) → src_type x v ≡ src_type x w
  type_same src0 = stays 39 3 refl refl refl
  type_same src1 = stays 44 3 refl refl refl

  immediate_same : (x : Source) → is_immediate x v ≡ is_immediate x w
  immediate_same x = ap (λ (f : ℕ). eqb f 3) (file_same x)

  -- A destination in file 00 keeps its register, so it is null, or a0, as it was.
  in_file : (f r : ℕ) (q : ℕ) → (eqb f arf ≡ true → r ≡ q) → (m : ℕ) → (eqb f arf && eqb r m) ≡ (eqb f arf && eqb q m)
  in_file f r q h m = go (eqb f arf) refl
    where
      go : (t : Bool) → eqb f arf ≡ t → (t && eqb r m) ≡ (t && eqb q m)
      go true e = ap (λ (k : ℕ). eqb k m) (h e)
      go false e = refl

  dst_register_lem : eqb (dst_file w) arf ≡ true → dst_register v ≡ dst_register w
  dst_register_lem e = dst_own (dst_still (arf-not-grf (dst_file w) e)) 53 8 refl refl

  pub null_same : is_null v ≡ is_null w
  null_same = ap (λ (f : ℕ). eqb f arf && eqb (dst_register v) 0) (stays 32 2 refl refl refl) ∙ in_file (dst_file w) (dst_register v) (dst_register w) dst_register_lem 0

  pub dst_a0_same : dst_is_a0 v ≡ dst_is_a0 w
  dst_a0_same = ap (λ (f : ℕ). eqb f arf && eqb (dst_register v) 0x10) (stays 32 2 refl refl refl) ∙ in_file (dst_file w) (dst_register v) (dst_register w) dst_register_lem 0x10

  src_register_lem : (x : Source) → Memᴰ x (sources p) → eqb (src_file x w) arf ≡ true → src_register x v ≡ src_register x w
  src_register_lem x m e = own x (src_still x m (arf-not-grf (src_file x w) e))
    where
      own : (x : Source) → src_by_address x w ≡ false → src_register x v ≡ src_register x w
      own src0 d = src_own src0 d 69 8 refl refl
      own src1 d = src_own src1 d 101 8 refl refl

  pub src_a0_same : (x : Source) → Memᴰ x (sources p) → src_is_a0 x v ≡ src_is_a0 x w
  src_a0_same x m =
      ap (λ (f : ℕ). eqb f arf && eqb (src_register x v) 0x10) (file_same x) ∙ in_file (src_file x w) (src_register x v) (src_register x w) (src_register_lem x m) 0x10

  -- ---- rule by rule

  reserved_same : reserved_set v ≡ reserved_set w
  unfolding reserved_set immediate_form
  reserved_same =
      rw (
        stays 7 1 refl refl refl,
        stays 0 7 refl refl refl,
        stays 47 1 refl refl refl,
        stays 90 6 refl refl refl,
        stays 37 2 refl refl refl,
        stays 42 2 refl refl refl,
        stays 121 7 refl refl refl,
      )

  control_same : (compares saturates : Bool) → control_served compares saturates v ≡ control_served compares saturates w
  unfolding control_served
  control_same compares saturates =
      rw (
        stays 8 1 refl refl refl,
        stays 28 1 refl refl refl,
        stays 21 3 refl refl refl,
        stays 12 2 refl refl refl,
        stays 16 4 refl refl refl,
        stays 24 4 refl refl refl,
        stays 31 1 refl refl refl,
      )

  dst_same : dst_served v ≡ dst_served w
  unfolding dst_served
  dst_same =
      ap₂ (λ (f t : ℕ). (eqb f grf || ((is_null v || dst_is_a0 v) && eqb (dst_addr_mode v) 0)) && register_type t) (stays 32 2 refl refl refl) (stays 34 3 refl refl refl)
      ∙ ap₂ (λ (a b : Bool). (eqb (dst_file w) grf || ((a || b) && eqb (dst_addr_mode v) 0)) && register_type (dst_type w)) null_same dst_a0_same
      ∙ go (eqb (dst_file w) grf) refl
    where
      go : (t : Bool) → eqb (dst_file w) grf ≡ t
          → ((t || ((is_null w || dst_is_a0 w) && eqb (dst_addr_mode v) 0)) && register_type (dst_type w)) ≡ ((t || ((is_null w || dst_is_a0 w) && eqb (dst_addr_mode w) 0)) && register_type (dst_type w))
      go true e = refl
      go false e = ap (λ (m : ℕ). ((is_null w || dst_is_a0 w) && eqb m 0) && register_type (dst_type w)) (dst_own (dst_still e) 63 1 refl refl)

  src_same : (x : Source) → Memᴰ x (sources p) → src_served v x ≡ src_served w x
  unfolding src_served
  src_same x m =
      ap₂ (λ (f t : ℕ). cond (eqb f 3) (immediate_type t) ((eqb f grf || (src_is_a0 x v && eqb (src_addr_mode x v) 0)) && register_type t)) (file_same x) (type_same x)
      ∙ ap (λ (b : Bool). cond (is_immediate x w) (immediate_type (src_type x w)) ((eqb (src_file x w) grf || (b && eqb (src_addr_mode x v) 0)) && register_type (src_type x w))) (src_a0_same x m)
      ∙ go (eqb (src_file x w) grf) refl
    where
      mode : (x : Source) → src_by_address x w ≡ false → src_addr_mode x v ≡ src_addr_mode x w
      mode src0 d = src_own src0 d 79 1 refl refl
      mode src1 d = src_own src1 d 111 1 refl refl

      served : Bool → ℕ → Bool
      served t a = cond (is_immediate x w) (immediate_type (src_type x w)) ((t || (src_is_a0 x w && eqb a 0)) && register_type (src_type x w))

      go : (t : Bool) → eqb (src_file x w) grf ≡ t → served t (src_addr_mode x v) ≡ served t (src_addr_mode x w)
      go true e = refl
      go false e = ap (served false) (mode x (src_still x m e))

  uses_same : uses_a0 p v ≡ uses_a0 p w
  unfolding uses_a0
  uses_same = ap₂ ◌||◌ dst_a0_same (any_same (λ x. src_is_a0 x v) (λ x. src_is_a0 x w) (sources p) src_a0_same)

  moves_same : moves_words p v ≡ moves_words p w
  unfolding moves_words
  moves_same =
      ap₂ (λ (t : ℕ) (b : Bool). is_mov p && (eqb t 2 && not b)) (stays 34 3 refl refl refl)
      (any_same (λ x. not (eqb (src_type x v) 2)) (λ x. not (eqb (src_type x w) 2)) (sources p) (λ x m. ap (λ (t : ℕ). not (eqb t 2)) (type_same x)))

  vector_same : (x : Source) → src_is_vector x v ≡ src_is_vector x w
  vector_same x = ap₂ (λ (b : Bool) (t : ℕ). b && eqb t type_vf) (immediate_same x) (type_same x)

  float_same : (x : Source) → src_is_float v x ≡ src_is_float w x
  float_same x = ap₂ (λ (t : ℕ) (b : Bool). eqb t type_f || b) (type_same x) (vector_same x)

  dst_float_same : dst_is_float v ≡ dst_is_float w
  dst_float_same = ap (λ (t : ℕ). eqb t type_f) (stays 34 3 refl refl refl)

  pub floats_same : uses_floats p v ≡ uses_floats p w
  unfolding uses_floats
  floats_same = ap₂ ◌||◌ dst_float_same (any_same (src_is_float v) (src_is_float w) (sources p) (λ x m. float_same x))

  floats_served_same : floats_served p v ≡ floats_served p w
  unfolding floats_served
  floats_served_same = ap (λ (s : ℕ). (traits p).floats && eqb s 0) (stays 31 1 refl refl refl)

  served_same : plain_served p v ≡ plain_served p w
  unfolding plain_served
  served_same =
      ap₂ ◌&&◌ (control_same (traits p).compares (traits p).saturates)
      (ap₂ ◌&&◌ dst_same
      (ap₂ ◌&&◌ (ap not (any_same (λ x. not (src_served v x)) (λ x. not (src_served w x)) (sources p) (λ x m. ap not (src_same x m))))
      (ap₂ ◌&&◌ (ap₂ (λ (a b : Bool). not a || b) uses_same moves_same) (ap₂ (λ (a b : Bool). not a || b) floats_same floats_served_same))))

  -- No immediate is misplaced.
  placed : misplaced p w ≡ false
  unfolding operand_rule_broken
  placed = go (misplaced p w) legal.operands
    where
      go : (t : Bool) → (t || (any_of (unequal_halves w) (sources p) || (any_of (bad_modifier p w) (sources p) || (own_rule_broken p w || (mixed p w || any_of (vector_too_short w) (sources p)))))) ≡ false → t ≡ false
      go true e = absurd (true≢false e)
      go false e = refl

  -- An immediate keeps its halves: no source by address has its bits, since an immediate stands as last source.
  halves_same : (x : Source) → Memᴰ x (sources p) → unequal_halves v x ≡ unequal_halves w x
  halves_same x m =
      ap₂ (λ (b : Bool) (t : ℕ). b && ((leb 2 t && leb t 3) && not (eqb (bits v 96 16) (bits v 112 16)))) (immediate_same x) (type_same x)
      ∙ ap (λ (h : ℕ). is_immediate x w && ((leb 2 (src_type x w) && leb (src_type x w) 3) && not (eqb (bits v 96 16) h))) (stays 112 16 refl refl refl)
      ∙ go (is_immediate x w) refl
    where
      last : (y : Source) → Memᴰ y (sources p) → src_by_address y w ≡ true → is_immediate x w ≡ true → spares (64 + shift_of y) 96 16 ≡ true
      last src0 n e i = refl
      last src1 n e i = absurd (apart x m i)
        where
          given : is_immediate src1 w ≡ false
          given = not-true (is_immediate src1 w) (both_true (not (is_immediate src1 w)) _ e).0

          apart : (x : Source) → Memᴰ x (sources p) → is_immediate x w ≡ true → ⊥
          apart src1 m i = false≢true (sym given ∙ i)
          apart src0 m i = false≢true (sym (last_only p w n placed) ∙ i)

      go : (t : Bool) → is_immediate x w ≡ t
          → (t && ((leb 2 (src_type x w) && leb (src_type x w) 3) && not (eqb (bits v 96 16) (bits w 112 16))))
          ≡ (t && ((leb 2 (src_type x w) && leb (src_type x w) 3) && not (eqb (bits w 96 16) (bits w 112 16))))
      go false i = refl
      go true i =
          ap (λ (h : ℕ). (leb 2 (src_type x w) && leb (src_type x w) 3) && not (eqb h (bits w 112 16)))
          (settled_field addresses p w 96 16 (λ _. refl) (λ y n e. last y n e i))

  modifier_same : (x : Source) → bad_modifier p v x ≡ bad_modifier p w x
  modifier_same src0 = rw (stays 37 2 refl refl refl, stays 77 2 refl refl refl)
  modifier_same src1 = rw (stays 42 2 refl refl refl, stays 109 2 refl refl refl)

  own_same : (q : Plain) → own_rule_broken q v ≡ own_rule_broken q w
  own_same Plain.mul = rw (stays 39 3 refl refl refl, stays 44 3 refl refl refl)
  own_same Plain.shr = rw (stays 39 3 refl refl refl)
  own_same Plain.asr = rw (stays 39 3 refl refl refl)
  own_same Plain.sel = rw (stays 16 4 refl refl refl)
  own_same Plain.mov = refl
  own_same Plain.not = refl
  own_same Plain.and = refl
  own_same Plain.or = refl
  own_same Plain.xor = refl
  own_same Plain.shl = refl
  own_same Plain.cmp = refl
  own_same Plain.add = refl
  own_same Plain.avg = refl

  mixed_same : mixed p v ≡ mixed p w
  unfolding mixed
  mixed_same =
      ap₂ ◌&&◌ floats_same
      (ap₂ ◌||◌ (ap not dst_float_same)
      (any_same (λ x. not (src_is_float v x)) (λ x. not (src_is_float w x)) (sources p) (λ x m. ap not (float_same x))))

  operands_same : operand_rule_broken p v ≡ operand_rule_broken p w
  unfolding operand_rule_broken
  operands_same =
      ap₂ ◌||◌ (ap (λ (b : Bool). eqb (length (sources p)) 2 && b) (immediate_same src0))
      (ap₂ ◌||◌ (any_same (unequal_halves v) (unequal_halves w) (sources p) halves_same)
      (ap₂ ◌||◌ (any_same (bad_modifier p v) (bad_modifier p w) (sources p) (λ x m. modifier_same x))
      (ap₂ ◌||◌ (own_same p)
      (ap₂ ◌||◌ mixed_same
      (any_same (vector_too_short v) (vector_too_short w) (sources p)
      (λ x m. ap₂ (λ (b : Bool) (s : ℕ). b && ltb 4 (count_of s)) (vector_same x) (stays 21 3 refl refl refl)))))))

  -- 9 reads no AddrMode.
  inner : (x : Source) (u j m q : ℕ) → j + m + q ≡ 12 → bits (src_field x u) j m ≡ bits u (77 + shift_of x + j) m
  inner x u j m q e = ap (λ (n : ℕ). bits (bits u (77 + shift_of x) n) j m) (sym e) ∙ bits_inner u (77 + shift_of x) j m q

  part_same : (x : Source) (j m q : ℕ) → j + m + q ≡ 12 → bits v (77 + shift_of x + j) m ≡ bits w (77 + shift_of x + j) m
      → bits (src_field x v) j m ≡ bits (src_field x w) j m
  part_same x j m q e f = inner x v j m q e ∙ f ∙ sym (inner x w j m q e)

  shape_same : (x : Source) → src_shape_broken v x ≡ src_shape_broken w x
  unfolding shape_refused
  shape_same src0 =
      rw (
        stays 21 3 refl refl refl,
        part_same src0 8 4 0 refl (stays 85 4 refl refl refl),
        part_same src0 5 3 4 refl (stays 82 3 refl refl refl),
        part_same src0 3 2 7 refl (stays 80 2 refl refl refl),
      )
  shape_same src1 =
      rw (
        stays 21 3 refl refl refl,
        part_same src1 8 4 0 refl (stays 117 4 refl refl refl),
        part_same src1 5 3 4 refl (stays 114 3 refl refl refl),
        part_same src1 3 2 7 refl (stays 112 2 refl refl refl),
      )

  shapes_same : shape_broken p v ≡ shape_broken p w
  unfolding shape_broken
  shapes_same =
      ap₂ ◌||◌ (ap₂ (λ (b : Bool) (t : ℕ). not b && eqb t 0) null_same (stays 61 2 refl refl refl))
      (any_same (λ x. not (is_immediate x v) && src_shape_broken v x) (λ x. not (is_immediate x w) && src_shape_broken w x) (sources p)
      (λ x m. ap₂ (λ (a b : Bool). not a && b) (immediate_same x) (shape_same x)))

  -- With its addresses not broken, the settled word is legal.
  pub settled_legal : address_broken p addresses w ≡ false → LegalPlain p v
  unfolding address_broken
  settled_legal e =
      let a = or-false (some_outside p addresses w) _ e in
      let b = or-false (alignment_broken p v) (reach_broken p v) a.1 in
      record {
        reserved = reserved_same ∙ legal.reserved;
        served = served_same ∙ legal.served;
        operands = operands_same ∙ legal.operands;
        shape = shapes_same ∙ legal.shape;
        alignment = b.0;
        reach = b.1;
      }
