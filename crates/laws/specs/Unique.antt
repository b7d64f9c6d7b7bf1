-- A kernel of long words is told by its program: two that are sound and have one program are one kernel, and so are two of their instructions that have one
-- line. Assumes nothing.
use Rattle.std.specs.Prelude.{◌≡◌, true, ℕ, zero, suc, ◌+◌, ◌*◌, ◌^◌, ◌<◌, ℤ, length}
use Rattle.std.proofs.Math.Path.{refl, ap₂, sym}
use Rattle.std.proofs.Common.{ap, ◌∙◌, subst, pow_pos}
use mathlib.Core.List.{List, [], ◌∷◌, map, head-eq_of_cons-eq, tail-eq_of_cons-eq, cons-ne-nil}
use Rattle.std.proofs.Math.Option.{some, none-ne-some, some-injective}
use native.Mathlib.Omega.{arith}
use Rattle.std.proofs.Math.ListN.{get_elem?}
use Rattle.std.proofs.lemmas.List.{length-map}
use Rattle.paper.specs.Bits.{bits, put}
use Rattle.paper.specs.Operation.{operation_of, operation}
use Rattle.paper.specs.Kernel.{Instr}
use Rattle.paper.specs.Jump.{next_of, Distance, distances, base_of, targets_of, place_of, lands, jump_lands, targets_land}
use Rattle.paper.specs.Packing.{index, Piece, aimed, start_of, new_size}
use Rattle.paper.specs.Program.{blanked, blank, goal_of, Line, line_of, program}
use Rattle.laws.specs.Names.{Laid, AllLand, Sound, AllLong, long_form, pieces_of, moved_to, moved, relaid_by}
use Rattle.laws.specs.Put.{put_below, put-put}
use Rattle.laws.specs.Places.{lands_names, place_lands}
use Rattle.laws.specs.Moved.{Apart, Clears, clear_more, clears, distance_fits, put_commutes}
use Rattle.laws.specs.Back.{long_place, aimed_same}
use Rattle.laws.specs.Truth.{both_true}

-- ---- a word by what is left of it without its distances

-- The opcode stays without the distances, and so the operation does.
blanked_opcode : (fs : List Distance) → Clears fs → (w : ℕ) → bits (blanked fs w) 0 7 ≡ bits w 0 7
unfolding blanked
blanked_opcode [] c w = refl
blanked_opcode (f ∷ fs) (clear_more c a cs) w =
    blanked_opcode fs cs (put w f.lo f.width 0) ∙ put_below w f.lo f.width 0 0 7 (omega (arith, c.low))

blank-operation : (w : ℕ) → operation (blank w) ≡ operation w
blank-operation w = ap operation_of (blanked_opcode (distances (operation w)) (clears (operation w)) w)

-- A field apart from the distances is written before they are blanked, or after.
blanked-put : (f : Distance) (fs : List Distance) → Apart f fs → (w v : ℕ) → v < 2 ^ f.width
    → put (blanked fs w) f.lo f.width v ≡ blanked fs (put w f.lo f.width v)
unfolding blanked
blanked-put f [] a w v h = refl
blanked-put f (g ∷ fs) a w v h =
    blanked-put f fs a.1 (put w g.lo g.width 0) v h ∙ ap (blanked fs) (put_commutes f g a.0 w v 0 h (pow_pos g.width))

-- What is aimed anew does not depend on the distances that it had.
aimed-blanked : (fs : List Distance) → Clears fs → (w here next : ℕ) (to : List ℕ) → length to ≡ length fs
    → aimed fs (blanked fs w) here next to ≡ aimed fs w here next to
unfolding aimed blanked
aimed-blanked [] c w here next to e = refl
aimed-blanked (f ∷ fs) c w here next [] e = absurd (omega arith)
aimed-blanked (f ∷ fs) (clear_more c apart cs) w here next (t ∷ to) e =
    let fits = distance_fits f (base_of f.base here next) t in
    ap (λ (x : ℕ). aimed fs x here next to)
    (blanked-put f fs apart (put w f.lo f.width 0) _ fits ∙ ap (blanked fs) (put-put w f.lo f.width 0 _ (pow_pos f.width)))
    ∙ aimed-blanked fs cs (put w f.lo f.width _) here next to (omega arith)

-- ---- instruction n of a kernel

-- Of a kernel of long words it starts 2 × n places on.
pub long_at : (b : ℕ) (k : List Instr) → Laid b k → AllLong k → (n : ℕ) (i : Instr) → get_elem? k n ≡ some i → (i.place ≡ b + 2 * n) × (i.size ≡ 2)
unfolding Laid AllLong
long_at b [] l s n i e = absurd (none-ne-some i e)
long_at b (j ∷ k) l s zero i e =
    subst (λ (x : Instr). (x.place ≡ b + 0) × (x.size ≡ 2)) (some-injective j i e) (omega (arith, l.0), s.0)
long_at b (j ∷ k) l s (suc n) i e = let r = long_at (next_of j) k l.2 s.1 n i e in (omega (arith, r.0, l.0, s.0), r.1)

-- Its jumps land, if all do.
pub land_at : (k r : List Instr) → AllLand k r → (n : ℕ) (i : Instr) → get_elem? r n ≡ some i → targets_land k (targets_of i) ≡ true
unfolding AllLand
land_at k [] l n i e = absurd (none-ne-some i e)
land_at k (j ∷ r) l zero i e = subst (λ (x : Instr). targets_land k (targets_of x) ≡ true) (some-injective j i e) l.0
land_at k (j ∷ r) l (suc n) i e = land_at k r l.1 n i e

-- A place that lands is twice its instruction's number.
place_twice : (k : List Instr) → Sound k → AllLong k → (p : ℕ) → lands k p ≡ true → p ≡ 0 + 2 * index k p
place_twice k a s p e = long_place 0 k p a.laid s (lands_names k a.laid p e).last

-- ---- two kernels of long words

module _ (k l : List Instr) (a : Sound k) (b : Sound l) (s : AllLong k) (t : AllLong l) where
  -- Targets that land in both have the same numbers in both.
  goals_same : (zs : List ℤ) → targets_land k zs ≡ true → targets_land l zs ≡ true → map (goal_of k) zs ≡ map (goal_of l) zs
  goals_same [] e f = refl
  goals_same (z ∷ zs) e f =
      let g = both_true (jump_lands k z) (targets_land k zs) e in
      let h = both_true (jump_lands l z) (targets_land l zs) f in
      let p = place_twice k a s (place_of z) (place_lands k z g.0) in
      let q = place_twice l b t (place_of z) (place_lands l z h.0) in
      ap₂ {C = List ℕ} (λ x y. x ∷ y) (omega arith) (goals_same zs g.1 h.1)

  -- Targets with the same numbers are the same places.
  goals_places : (zs ys : List ℤ) → targets_land k zs ≡ true → targets_land l ys ≡ true → map (goal_of k) zs ≡ map (goal_of l) ys → map place_of zs ≡ map place_of ys
  goals_places [] [] e f m = refl
  goals_places [] (y ∷ ys) e f m = absurd (cons-ne-nil _ _ (sym m))
  goals_places (z ∷ zs) [] e f m = absurd (cons-ne-nil _ _ m)
  goals_places (z ∷ zs) (y ∷ ys) e f m =
      let g = both_true (jump_lands k z) (targets_land k zs) e in
      let h = both_true (jump_lands l y) (targets_land l ys) f in
      let p = place_twice k a s (place_of z) (place_lands k z g.0) in
      let q = place_twice l b t (place_of y) (place_lands l y h.0) in
      let n : goal_of k z ≡ goal_of l y = head-eq_of_cons-eq m in
      ap₂ {C = List ℕ} (λ x u. x ∷ u) (omega arith) (goals_places zs ys g.1 h.1 (tail-eq_of_cons-eq m))

  module _ (i j : Instr) (at : i.place ≡ j.place) (size : i.size ≡ j.size) (li : targets_land k (targets_of i) ≡ true) (lj : targets_land l (targets_of j) ≡ true) where
    -- Instructions at one place with one word have one line,
    pub word_line : i.word ≡ j.word → line_of k i ≡ line_of l j
    word_line w =
        let e : i ≡ j = (λ x. record { place = at x; size = size x; word = w x }) in
        let g = goals_same (targets_of i) li (ap (λ (x : Instr). targets_land l (targets_of x)) e ∙ lj) in
        (λ x. record { word = blank i.word; goals = g x }) ∙ ap (line_of l) e

    -- and with one line they have one word.
    pub line_word : line_of k i ≡ line_of l j → i.word ≡ j.word
    line_word e =
        let bare : blank i.word ≡ blank j.word = ap (λ (x : Line). x.word) e in
        let op : operation i.word ≡ operation j.word = sym (blank-operation i.word) ∙ ap operation bare ∙ blank-operation j.word in
        let to : map place_of (targets_of i) ≡ map place_of (targets_of j) = goals_places (targets_of i) (targets_of j) li lj (ap (λ (x : Line). x.goals) e) in
        sym (back k i li)
        ∙ (λ x. aimed (distances (op x)) (bare x) (at x) (at x + size x) (to x))
        ∙ back l j lj
      where
        -- Without its distances, and aimed at its targets again, a word that lands is itself.
        back : (m : List Instr) (o : Instr) → targets_land m (targets_of o) ≡ true
            → aimed (distances (operation o.word)) (blank o.word) o.place (next_of o) (map place_of (targets_of o)) ≡ o.word
        back m o h =
            let fs : List Distance = distances (operation o.word) in
            aimed-blanked fs (clears (operation o.word)) o.word o.place (next_of o) (map place_of (targets_of o))
            (length-map (targets_of o) place_of ∙ length-map fs _)
            ∙ aimed_same m fs o h

  -- So for all of them.
  rest_one : (c : ℕ) (r u : List Instr) → Laid c r → Laid c u → AllLong r → AllLong u → AllLand k r → AllLand l u → map (line_of k) r ≡ map (line_of l) u → r ≡ u
  unfolding Laid AllLong AllLand
  rest_one c [] [] d e f g v w m = refl
  rest_one c [] (j ∷ u) d e f g v w m = absurd (cons-ne-nil _ _ (sym m))
  rest_one c (i ∷ r) [] d e f g v w m = absurd (cons-ne-nil _ _ m)
  rest_one c (i ∷ r) (j ∷ u) d e f g v w m =
      let at : i.place ≡ j.place = d.0 ∙ sym e.0 in
      let size : i.size ≡ j.size = f.0 ∙ sym g.0 in
      let word = line_word i j at size v.0 w.0 (head-eq_of_cons-eq m) in
      let next : next_of j ≡ next_of i = omega arith in
      ap₂ {C = List Instr} (λ x y. x ∷ y) (λ x. record { place = at x; size = size x; word = word x })
      (rest_one (next_of i) r u d.2 (subst (λ (x : ℕ). Laid x u) next e.2) f.1 g.1 v.1 w.1 (tail-eq_of_cons-eq m))

  -- Two sound kernels of long words with one program are one.
  pub long_one : program k ≡ program l → k ≡ l
  long_one e = rest_one 0 k l a.laid b.laid s t a.land b.land e

-- ---- a kernel with every word long

-- Its words are long.
moved_long : (k : List Instr) (ps : List Piece) (a : ℕ) (rest : List Instr) → AllLong (moved k ps a (pieces_of long_form rest))
unfolding moved AllLong
moved_long k ps a [] = tt
moved_long k ps a (i ∷ rest) = (refl, moved_long k ps (a + 2) rest)

pub relaid_long : (k : List Instr) → AllLong (relaid_by long_form k)
relaid_long k = moved_long k (pieces_of long_form k) 0 k

-- Its instruction n is piece n, moved to where that starts.
pub moved_at : (k : List Instr) (ps : List Piece) (a : ℕ) (rest : List Piece) (n : ℕ) (p : Piece) → get_elem? rest n ≡ some p
    → get_elem? (moved k ps a rest) n ≡ some (moved_to k ps (start_of a rest n) p)
unfolding moved start_of
moved_at k ps a [] n p e = absurd (none-ne-some p e)
moved_at k ps a (q ∷ rest) zero p e = ap (λ (x : Piece). some (moved_to k ps a x)) (some-injective q p e)
moved_at k ps a (q ∷ rest) (suc n) p e = moved_at k ps (a + new_size q) rest n p e
