-- Operands by address named directly, as a0 stands (02 §7): which fields stay, and that no operand is left by address. Assumes nothing.
use Rattle.std.specs.Prelude.{Bool, not, ◌&&◌, ◌||◌, ◌≡◌, ℕ, ◌+◌, ◌*◌, ◌^◌, ◌<◌, eqb, leb}
use Rattle.std.proofs.Math.Bool.{true, false, cond}
use Rattle.std.proofs.lemmas.Bool.{false≢true}
use mathlib.Core.List.{List, [], ◌∷◌, Memᴰ}
use Rattle.std.proofs.Math.Path.{refl, ap}
use Rattle.std.proofs.Common.{sym, ◌∙◌, subst, mod-lt, arith, pow_pos, leb-true}
use Rattle.std.proofs.Math.ListN.{get_or}
use Rattle.paper.specs.Bits.{bits, put}
use Rattle.paper.specs.Word.{Source, src0, src1, shift_of}
use Rattle.paper.specs.Word.{src_addr_mode}
use Rattle.paper.specs.Word.{is_immediate, dst_by_address, src_by_address}
use Rattle.paper.specs.Operation.{Plain, operation_of, operation, traits, sources}
use Rattle.paper.specs.Region.{count_of, channels}
use Rattle.paper.specs.Store.{Store}
use Rattle.paper.specs.Enable.{predicate, holds, enabled}
use Rattle.paper.specs.Effect.{is_on}
use Rattle.paper.specs.Jump.{place_of}
use Rattle.paper.specs.Address.{named_directly, dst_address, src_address, dst_direct, src_direct, all_direct, settled}
use Rattle.laws.specs.Put.{put_below, put_above, put_at}
use Rattle.laws.specs.Regions.{Named}
use Rattle.laws.specs.Truth.{both_true}

-- ---- one operand

-- A field of n bits from lo on lies beside those of m bits from k on.
abbrev beside : ℕ → ℕ → ℕ → ℕ → Bool
beside k m lo n = leb (lo + n) k || leb (k + m) lo

-- It lies beside what naming the operand at k changes: thirteen bits, and AddrMode.
abbrev pub spares : ℕ → ℕ → ℕ → Bool
spares k lo n = beside k 13 lo n && beside (k + 15) 1 lo n

put-beside : (w k m v lo n : ℕ) → v < 2 ^ m → beside k m lo n ≡ true → bits (put w k m v) lo n ≡ bits w lo n
put-beside w k m v lo n h e = go (leb (lo + n) k) refl e
  where
    go : (t : Bool) → leb (lo + n) k ≡ t → (t || leb (k + m) lo) ≡ true → bits (put w k m v) lo n ≡ bits w lo n
    go true f g = put_below w k m v lo n (leb-true _ _ f)
    go false f g = put_above w k m v lo n h (leb-true _ _ g)

module _ (k a w : ℕ) where
  -- Every field beside stays,
  pub named_field : (lo n : ℕ) → spares k lo n ≡ true → bits (named_directly k a w) lo n ≡ bits w lo n
  named_field lo n e =
      let b = both_true (beside k 13 lo n) (beside (k + 15) 1 lo n) e in
      put-beside (put w k 13 (bits a 0 13)) (k + 15) 1 0 lo n (pow_pos 1) b.1
      ∙ put-beside w k 13 (bits a 0 13) lo n (mod-lt _ (pow_pos 13)) b.0

  -- the operand is no longer by address,
  named_mode : bits (named_directly k a w) (k + 15) 1 ≡ 0
  named_mode = put_at (put w k 13 (bits a 0 13)) (k + 15) 1 0 (pow_pos 1)

  -- and its thirteen bits are the address.
  named_bits : bits (named_directly k a w) k 13 ≡ bits a 0 13
  named_bits =
      put_below (put w k 13 (bits a 0 13)) (k + 15) 1 0 k 13 (omega arith) ∙ put_at w k 13 (bits a 0 13) (mod-lt _ (pow_pos 13))

-- ---- the settled word

-- What a choice between a word with an operand named and the word itself keeps.
chosen_field : (t : Bool) (k a w lo n : ℕ) → (t ≡ true → spares k lo n ≡ true) → bits (cond t (named_directly k a w) w) lo n ≡ bits w lo n
chosen_field true k a w lo n h = named_field k a w lo n (h refl)
chosen_field false k a w lo n h = refl

module _ (addresses : List ℕ) where
  dst_field : (w lo n : ℕ) → (dst_by_address w ≡ true → spares 48 lo n ≡ true) → bits (dst_direct addresses w) lo n ≡ bits w lo n
  unfolding dst_direct
  dst_field w lo n h = chosen_field (dst_by_address w) 48 (place_of (dst_address addresses w)) w lo n h

  src_field : (x : Source) (w lo n : ℕ) → (src_by_address x w ≡ true → spares (64 + shift_of x) lo n ≡ true)
      → bits (src_direct addresses x w) lo n ≡ bits w lo n
  unfolding src_direct
  src_field x w lo n h = chosen_field (src_by_address x w) (64 + shift_of x) (place_of (src_address addresses x w)) w lo n h

  -- Whether a source is by address is told by fields that naming the destination or the other source keeps.
  by_kept : (y : Source) (v w : ℕ) → bits v 37 2 ≡ bits w 37 2 → bits v 42 2 ≡ bits w 42 2 → bits v (79 + shift_of y) 1 ≡ bits w (79 + shift_of y) 1
      → src_by_address y v ≡ src_by_address y w
  by_kept src0 v w e f g = rw (e, g)
  by_kept src1 v w e f g = rw (f, g)

  by_dst : (y : Source) (w : ℕ) → src_by_address y (dst_direct addresses w) ≡ src_by_address y w
  by_dst src0 w = by_kept src0 _ w (dst_field w 37 2 (λ _. refl)) (dst_field w 42 2 (λ _. refl)) (dst_field w 79 1 (λ _. refl))
  by_dst src1 w = by_kept src1 _ w (dst_field w 37 2 (λ _. refl)) (dst_field w 42 2 (λ _. refl)) (dst_field w 111 1 (λ _. refl))

  -- A source named directly is not by address.
  src_named : (x : Source) (w : ℕ) → src_by_address x (src_direct addresses x w) ≡ false
  unfolding src_direct
  src_named x w = go (src_by_address x w) refl
    where
      none : (b : Bool) → (not b && false) ≡ false
      none true = refl
      none false = refl

      mode : (y : Source) (a v : ℕ) → src_addr_mode y (named_directly (64 + shift_of y) a v) ≡ 0
      mode src0 a v = named_mode 64 a v
      mode src1 a v = named_mode 96 a v

      go : (t : Bool) → src_by_address x w ≡ t → src_by_address x (cond t (named_directly (64 + shift_of x) (place_of (src_address addresses x w)) w) w) ≡ false
      go true e = rw (mode x (place_of (src_address addresses x w)) w) (none (is_immediate x (named_directly (64 + shift_of x) (place_of (src_address addresses x w)) w)))
      go false e = e

  -- Naming a source leaves no other by address that was not.
  by_src : (x y : Source) (w : ℕ) → src_by_address y w ≡ false → src_by_address y (src_direct addresses x w) ≡ false
  by_src src0 src0 w e = src_named src0 w
  by_src src1 src1 w e = src_named src1 w
  by_src src0 src1 w e =
      by_kept src1 _ w (src_field src0 w 37 2 (λ _. refl)) (src_field src0 w 42 2 (λ _. refl)) (src_field src0 w 111 1 (λ _. refl)) ∙ e
  by_src src1 src0 w e =
      by_kept src0 _ w (src_field src1 w 37 2 (λ _. refl)) (src_field src1 w 42 2 (λ _. refl)) (src_field src1 w 79 1 (λ _. refl)) ∙ e

  -- A field that no source of a list changes, if it is by address, stays.
  all_field : (xs : List Source) (w lo n : ℕ) → ((x : Source) → Memᴰ x xs → src_by_address x w ≡ true → spares (64 + shift_of x) lo n ≡ true)
      → bits (all_direct addresses xs w) lo n ≡ bits w lo n
  all_field [] w lo n h = refl
  all_field (x ∷ xs) w lo n h =
      all_field xs (src_direct addresses x w) lo n
      (λ y m e. h y (Memᴰ.tail m) (was y (src_by_address y w) refl e)) ∙ src_field x w lo n (λ e. h x (Memᴰ.head refl) e)
    where
      was : (y : Source) (t : Bool) → src_by_address y w ≡ t → src_by_address y (src_direct addresses x w) ≡ true → src_by_address y w ≡ true
      was y true f e = f
      was y false f e = absurd (false≢true (sym (by_src x y w f) ∙ e))

  all_named : (xs : List Source) (w : ℕ) (y : Source) → src_by_address y w ≡ false → src_by_address y (all_direct addresses xs w) ≡ false
  all_named [] w y e = e
  all_named (x ∷ xs) w y e = all_named xs (src_direct addresses x w) y (by_src x y w e)

  -- (The check wants the source of such a recursion first.)
  named_each : (y : Source) (xs : List Source) (w : ℕ) → Memᴰ y xs → src_by_address y (all_direct addresses xs w) ≡ false
  named_each y xs w (Memᴰ.head {x = x} {xs = ys} q) =
      all_named ys (src_direct addresses x w) y (subst (λ (z : Source). src_by_address z (src_direct addresses x w) ≡ false) (sym q) (src_named x w))
  named_each y xs w (Memᴰ.tail {x = x} {xs = ys} m) = named_each y ys (src_direct addresses x w) m

  each_named : (xs : List Source) (w : ℕ) (y : Source) → Memᴰ y xs → src_by_address y (all_direct addresses xs w) ≡ false
  each_named xs w y m = named_each y xs w m

  module _ (p : Plain) (w : ℕ) where
    abbrev word : ℕ
    word = settled p addresses w

    -- A field that no operand by address has stays.
    pub settled_field : (lo n : ℕ) → (dst_by_address w ≡ true → spares 48 lo n ≡ true)
        → ((x : Source) → Memᴰ x (sources p) → src_by_address x w ≡ true → spares (64 + shift_of x) lo n ≡ true) → bits word lo n ≡ bits w lo n
    unfolding settled
    settled_field lo n h g =
        all_field (sources p) (dst_direct addresses w) lo n (λ x m e. g x m (sym (by_dst x w) ∙ e)) ∙ dst_field w lo n h

    -- A field beside those of all operands stays.
    pub field_stays : (lo n : ℕ) → spares 48 lo n ≡ true → spares 64 lo n ≡ true → spares 96 lo n ≡ true → bits word lo n ≡ bits w lo n
    field_stays lo n a b c = settled_field lo n (λ _. a) (λ x m e. each x)
      where
        each : (x : Source) → spares (64 + shift_of x) lo n ≡ true
        each src0 = b
        each src1 = c

    -- No operand is by address any more.
    pub settled_named : Named p word
    unfolding settled dst_direct
    settled_named = record {
      destination = rw (all_field (sources p) (dst_direct addresses w) 63 1 (λ x m e. high x)) (named (dst_by_address w) refl);
      source = λ x m. each_named (sources p) (dst_direct addresses w) x m;
    }
      where
        high : (x : Source) → spares (64 + shift_of x) 63 1 ≡ true
        high src0 = refl
        high src1 = refl

        named : (t : Bool) → dst_by_address w ≡ t → dst_by_address (cond t (named_directly 48 (place_of (dst_address addresses w)) w) w) ≡ false
        named true e = rw (named_mode 48 (place_of (dst_address addresses w)) w)
        named false e = e

    -- A word of which no operand is by address is its own settled word.
    pub settled_none : Named p w → word ≡ w
    unfolding settled dst_direct src_direct
    settled_none named =
        ap (all_direct addresses (sources p)) (ap (λ (t : Bool). cond t (named_directly 48 (place_of (dst_address addresses w)) w) w) named.destination)
        ∙ sources_none (sources p) named.source
      where
        sources_none : (xs : List Source) → ((x : Source) → Memᴰ x xs → src_by_address x w ≡ false) → all_direct addresses xs w ≡ w
        sources_none [] h = refl
        sources_none (x ∷ xs) h =
            ap (all_direct addresses xs)
            (ap (λ (t : Bool). cond t (named_directly (64 + shift_of x) (place_of (src_address addresses x w)) w) w) (h x (Memᴰ.head refl)))
            ∙ sources_none xs (λ y m. h y (Memᴰ.tail m))

    -- Settling keeps the operation, the number of channels and which channels are enabled.
    pub operation-settled : operation word ≡ operation w
    operation-settled = ap operation_of (field_stays 0 7 refl refl refl)

    pub channels-settled : channels word ≡ channels w
    channels-settled = ap count_of (field_stays 21 3 refl refl refl)

    pub holds-settled : (st : Store) → holds word st ≡ holds w st
    unfolding holds
    holds-settled st = λ i m. predicate (field_stays 16 4 refl refl refl i) (field_stays 20 1 refl refl refl i)
        (cond (eqb (field_stays 89 1 refl refl refl i) 0) st.flag0 st.flag1) m

    pub enabled-settled : (q : Plain) (awake : List Bool) (st : Store) → is_on q word awake st ≡ is_on q w awake st
    unfolding enabled
    enabled-settled q awake st =
        λ i n. (eqb (field_stays 9 1 refl refl refl i) 1 || get_or awake (8 * field_stays 12 2 refl refl refl i + n) false)
        && (not (traits q).masks || holds-settled st i (8 * field_stays 12 2 refl refl refl i + n))
