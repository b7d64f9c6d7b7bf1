-- A kernel of long words, laid out anew and then with every word long again, is the kernel itself. Assumes nothing.
use Rattle.std.specs.Prelude.{◌≡◌, Bool, true, false, ℕ, zero, suc, ◌+◌, ◌*◌, ◌-◌, ◌^◌, ◌%◌, ◌<◌, ◌≤◌, length, ltb, ℤ, pos, negsuc, ◌+ℤ◌}
use Rattle.std.proofs.Math.Path.{refl, ap₂}
use Rattle.std.proofs.Common.{ap, sym, ◌∙◌, arith, mod-eq_of_lt, mod-lt, pow_pos, ltb-false, lt-ltb}
use Rattle.std.proofs.lemmas.Bool.{false≢true}
use mathlib.Core.List.{List, [], ◌∷◌, map, map-map}
use Rattle.std.proofs.Math.Nat.{add-mod_right}
use Rattle.std.proofs.lemmas.List.{length-map}
use Rattle.std.proofs.Math.IntN.{sub_ℕ, pos-ne-negsuc}
use Rattle.paper.specs.Bits.{bits, put}
use Rattle.paper.specs.Operation.{operation}
use Rattle.paper.specs.Kernel.{Instr}
use Rattle.paper.specs.Jump.{next_of, Distance, distances, base_of, signed_of, reach, reached, targets_of, place_of, end_from, jump_lands, targets_land}
use Rattle.paper.specs.Packing.{index, Piece, Form, piece, new_size, start_of, new_targets, aimed, rewritten}
use Rattle.paper.specs.Program.{goal_of}
use Rattle.laws.specs.Names.{Laid, AllLand, Sound, AllLong, long_form, pieces_of, new_end, moved_to, moved, relaid_by}
use Rattle.laws.specs.Put.{put-put, put_same}
use Rattle.laws.specs.Places.{at, here, there, index-here, index-there, index_le, Names, lands_names, place_lands}
use Rattle.laws.specs.Truth.{both_true}
use Rattle.laws.specs.Moved.{Clears, clear_more, clears, distance_fits, aim, aimed-put, rewritten-operation, first_ends, moved_goals, relaid_length}

-- ---- a distance comes back

-- If a less b is t, then a is t more than b.
sub_back : (a b t : ℕ) → sub_ℕ a b ≡ pos t → a ≡ t + b
sub_back a b t e = go (ltb a b) refl
  where
    go : (c : Bool) → ltb a b ≡ c → a ≡ t + b
    go true f = let q : negsuc (b - suc a) ≡ pos t = rw f at e in absurd (pos-ne-negsuc t (b - suc a) (sym q))
    go false f =
        let q : pos (a - b) ≡ pos t = rw f at e in
        let r : a - b ≡ t = cc in
        omega (arith, ltb-false a b f)

-- A field of n bits that leads from a to t is t − a modulo 2^n.
distance_back : (n a d t : ℕ) → d < 2 ^ n → pos a +ℤ signed_of n d ≡ pos t → (t + 2 ^ n - a) % 2 ^ n ≡ d
distance_back n a d t h e = go (ltb d (2 ^ (n - 1))) refl
  where
    go : (b : Bool) → ltb d (2 ^ (n - 1)) ≡ b → (t + 2 ^ n - a) % 2 ^ n ≡ d
    go true f =
        let q : pos (a + d) ≡ pos t = rw f at e in
        let r : a + d ≡ t = cc in
        ap (λ (x : ℕ). x % 2 ^ n) (omega arith) ∙ add-mod_right d (2 ^ n) ∙ mod-eq_of_lt h
    go false f =
        let q : sub_ℕ a (suc (2 ^ n - suc d)) ≡ pos t = rw (f, lt-ltb d (2 ^ n) h) at e in
        let r : a ≡ t + suc (2 ^ n - suc d) = sub_back a (suc (2 ^ n - suc d)) t q in
        ap (λ (x : ℕ). x % 2 ^ n) (omega arith) ∙ mod-eq_of_lt h

-- Words aimed at the places that they reach already are the words themselves.
pub aimed_same : (k : List Instr) (fs : List Distance) (i : Instr) → targets_land k (reached fs i) ≡ true
    → aimed fs i.word i.place (next_of i) (map place_of (reached fs i)) ≡ i.word
unfolding aimed
aimed_same k [] i e = refl
aimed_same k (f ∷ fs) i e =
    let h = both_true (jump_lands k (reach f i.word i.place (next_of i))) (targets_land k (reached fs i)) e in
    ap (λ (x : ℕ). aimed fs x i.place (next_of i) (map place_of (reached fs i))) (go (reach f i.word i.place (next_of i)) refl h.0)
    ∙ aimed_same k fs i h.1
  where
    go : (z : ℤ) → reach f i.word i.place (next_of i) ≡ z → jump_lands k z ≡ true → aim f i.word i.place (next_of i) (place_of z) ≡ i.word
    go (pos t) q h =
        ap (put i.word f.lo f.width)
        (distance_back f.width (base_of f.base i.place (next_of i)) (bits i.word f.lo f.width) t (mod-lt _ (pow_pos f.width)) q)
        ∙ put_same i.word f.lo f.width
    go (negsuc t) q h = absurd (false≢true h)

-- Of two aims the last counts.
aimed_again : (fs : List Distance) → Clears fs → (w a m : ℕ) (ts : List ℕ) (b n : ℕ) (us : List ℕ) → length ts ≡ length us
    → aimed fs (aimed fs w a m ts) b n us ≡ aimed fs w b n us
unfolding aimed
aimed_again [] c w a m ts b n us e = refl
aimed_again (f ∷ fs) c w a m [] b n us e = refl
aimed_again (f ∷ fs) c w a m (t ∷ ts) b n [] e = absurd (omega arith)
aimed_again (f ∷ fs) (clear_more c apart cs) w a m (t ∷ ts) b n (u ∷ us) e =
    ap (λ (x : ℕ). aimed fs x b n us)
    (aimed-put f fs apart (aim f w a m t) a m ts _ (distance_fits f (base_of f.base b n) u)
    ∙ ap (λ (x : ℕ). aimed fs x a m ts) (put-put w f.lo f.width _ _ (distance_fits f (base_of f.base a m) t)))
    ∙ aimed_again fs cs (aim f w b n u) a m ts b n us (omega arith)

-- ---- a place comes back

-- With every word long, piece j starts 2 × j places on.
long_start : (b : ℕ) (rest : List Instr) (j : ℕ) → j ≤ length rest → start_of b (pieces_of long_form rest) j ≡ b + 2 * j
unfolding start_of
long_start b rest zero h = omega arith
long_start b [] (suc j) h = absurd (omega arith)
long_start b (i ∷ rest) (suc j) h = omega (arith, long_start (b + 2) rest j (omega arith))

-- In a kernel of long words, so does instruction j; and the end comes after the last.
pub long_place : (b : ℕ) (rest : List Instr) (p : ℕ) → Laid b rest → AllLong rest → (index rest p ≡ length rest → p ≡ end_from b rest)
    → p ≡ b + 2 * index rest p
unfolding Laid AllLong index end_from
long_place b [] p l s e = omega (arith, e refl)
long_place b (i ∷ rest) p l s e =
    elim (at i p) [
      | here h ↦ omega (arith, l.0, index-here i rest p h)
      | there h ↦
          let n : index (i ∷ rest) p ≡ suc (index rest p) = index-there i rest p h in
          omega (arith, l.0, s.0, long_place (next_of i) rest p l.2 s.1 (λ q. e (n ∙ ap suc q)))
    ]

-- ---- the kernel comes back

-- Instruction i of kernel k, moved by `form` to place a.
abbrev moved_by : Form → List Instr → ℕ → Instr → Instr
moved_by form k a i = moved_to k (pieces_of form k) a (piece form i)

-- The pieces of the kernel laid out by `form`, every word long again.
abbrev long_pieces : Form → List Instr → List Piece
long_pieces form k = pieces_of long_form (relaid_by form k)

module _ (form : Form) (k : List Instr) (sound : Sound k) (long : AllLong k) (end : new_end form k < 2 ^ 15) where
  -- A place that names something is where that starts once every word is long again.
  place_back : (p : ℕ) → Names k p → start_of 0 (long_pieces form k) (index k p) ≡ p
  place_back p h =
      long_start 0 (relaid_by form k) (index k p) (omega (arith, index_le k p, relaid_length form k))
      ∙ sym (long_place 0 k p sound.laid long h.last)

  -- So targets that land come to stand where they stood.
  places_back : (zs : List ℤ) → targets_land k zs ≡ true → map (λ j. start_of 0 (long_pieces form k) j) (map (goal_of k) zs) ≡ map place_of zs
  places_back [] e = refl
  places_back (z ∷ zs) e =
      let h = both_true (jump_lands k z) (targets_land k zs) e in
      ap₂ {C = List ℕ} (λ x y. x ∷ y) (place_back (place_of z) (lands_names k sound.laid (place_of z) (place_lands k z h.0))) (places_back zs h.1)

  module _ (a : ℕ) (i : Instr) (inside : a + new_size (piece form i) ≤ 2 ^ 15) (land : targets_land k (targets_of i) ≡ true) where
    -- So an instruction that lands is aimed at its old targets again.
    targets_back : new_targets (relaid_by form k) (long_pieces form k) (moved_by form k a i) ≡ map place_of (targets_of i)
    targets_back =
        sym (map-map (λ (j : ℕ). start_of 0 (long_pieces form k) j) (goal_of (relaid_by form k)) (targets_of (moved_by form k a i)))
        ∙ ap (map (λ (j : ℕ). start_of 0 (long_pieces form k) j))
        (moved_goals k sound.laid (pieces_of form k) (length-map k (piece form)) end a (piece form i) inside)
        ∙ places_back (targets_of i) land

    -- So its word comes back.
    word_back : i.size ≡ 2 → rewritten (relaid_by form k) (long_pieces form k) i.place (piece long_form (moved_by form k a i)) ≡ i.word
    word_back s =
        let fs : List Distance = distances (operation i.word) in
        let w : ℕ = (moved_by form k a i).word in
        (λ j. aimed (distances (rewritten-operation k (pieces_of form k) a (piece form i) j)) w i.place (i.place + sym s j) (targets_back j))
        ∙ aimed_again fs (clears (operation i.word)) i.word a (a + new_size (piece form i)) (new_targets k (pieces_of form k) i) i.place (next_of i)
        (map place_of (targets_of i)) (length-map (targets_of i) _ ∙ sym (length-map (targets_of i) place_of))
        ∙ aimed_same k fs i land

    -- So it comes back whole, where it stood.
    instr_back : (b : ℕ) → i.place ≡ b → i.size ≡ 2
        → moved_to (relaid_by form k) (long_pieces form k) b (piece long_form (moved_by form k a i)) ≡ i
    instr_back b e s =
        (λ j. moved_to (relaid_by form k) (long_pieces form k) (sym e j) (piece long_form (moved_by form k a i)))
        ∙ (λ j. record { place = i.place; size = sym s j; word = word_back s j })

  -- So for each instruction.
  rest_back : (a b : ℕ) (rest : List Instr) → Laid b rest → AllLong rest → AllLand k rest
      → start_of a (pieces_of form rest) (length (pieces_of form rest)) < 2 ^ 15
      → moved (relaid_by form k) (long_pieces form k) b (pieces_of long_form (moved k (pieces_of form k) a (pieces_of form rest))) ≡ rest
  unfolding moved start_of Laid AllLong AllLand
  rest_back a b [] l s v h = refl
  rest_back a b (i ∷ rest) l s v h =
      let inside : a + new_size (piece form i) ≤ 2 ^ 15 = omega (arith, first_ends a (piece form i) (pieces_of form rest)) in
      let next : b + 2 ≡ next_of i = omega (arith, l.0, s.0) in
      let later : List Piece = pieces_of long_form (moved k (pieces_of form k) (a + new_size (piece form i)) (pieces_of form rest)) in
      ap₂ {C = List Instr} (λ x y. x ∷ y) (instr_back a i inside v.0 b l.0 s.0)
      (ap (λ (x : ℕ). moved (relaid_by form k) (long_pieces form k) x later) next
      ∙ rest_back (a + new_size (piece form i)) (next_of i) rest l.2 s.1 v.1 h)

-- Laid out anew, and then with every word long again, a sound kernel of long words is itself, word for word and place for place.
pub relaid_back : (form : Form) (k : List Instr) → Sound k → AllLong k → new_end form k < 2 ^ 15 → relaid_by long_form (relaid_by form k) ≡ k
relaid_back form k sound long end = rest_back form k sound long end 0 0 k sound.laid long sound.land end
