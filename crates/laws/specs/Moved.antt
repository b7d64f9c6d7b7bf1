-- A kernel laid out anew: each rewritten distance fits its bits and reaches the same instruction, so that the kernel is sound and has the
-- program of the old one. Assumes nothing.
use Rattle.std.specs.Prelude.{◌≡◌, ◌⊎◌, Bool, true, false, ◌||◌, length, eqb, ltb, leb, ℤ, pos, ◌+ℤ◌}
use Rattle.std.proofs.Math.Path.{refl, ap, ap₂}
use Rattle.std.proofs.Common.{sym, ◌∙◌, inl, inr, arith, mod-eq_of_lt, mod-lt, pow_pos, pow-add, pow_mono, eq-eqb, ltb-true, ltb-false, leb-true, leb-false, lt-ltb, le-ltb}
use Rattle.std.proofs.lemmas.Bool.{false≢true}
use mathlib.Core.List.{List, [], ◌∷◌, map, map-map}
use Rattle.std.proofs.Math.Option.{Option, none, some}
use Prim.Native.Nat.{ℕ, zero, suc, ◌+◌, ◌*◌, ◌-◌, ◌^◌, ◌%◌, ◌<◌, ◌≤◌}
use Rattle.std.proofs.Math.Nat.{add-mod_right}
use Rattle.std.proofs.lemmas.List.{length-map}
use Rattle.paper.specs.Bits.{bits, put}
use Rattle.paper.specs.Operation.{Branch, jmpi, if, else, endif, while, break, cont, Operation, plain, nop, branch, unlisted, operation_of, operation, is_branch}
use Rattle.paper.specs.Kernel.{Instr}
use Rattle.paper.specs.Jump.{Base, own_start, own_end, Distance, jip, uip, distances_of, distances, base_of, signed_of, reach, reached, targets_of, place_of}
use Rattle.paper.specs.Jump.{fetch, end_from, end_of, found, lands, targets_land}
use Rattle.paper.specs.Packing.{index, Piece, Form, piece, places_taken, new_size, start_of, distance_to, new_targets, aimed, rewritten}
use Rattle.paper.specs.Program.{blanked, blank, goal_of, Line, line_of, program}
use Rattle.laws.specs.Names.{Laid, AllLand, Sound, pieces_of, new_end, moved_to, moved, relaid_by}
use Rattle.laws.specs.Put.{put_below, put_above, put_at, put-put, put_fits, put_apart}
use Rattle.laws.specs.Rename.{AtPlaces}
use Rattle.laws.specs.Places.{index-here, index-there, index_le, none-length}

-- ---- where distances stand

-- A distance has 16 bits or more, stands in a long word from bit 48 on, and does not cover bit 89, the flag choice.
pub record Clear (f : Distance) : Type 0 where
  pub low : 48 ≤ f.lo
  pub wide : 16 ≤ f.width
  pub top : f.lo + f.width ≤ 128
  pub beside : (f.lo + f.width ≤ 89) ⊎ (90 ≤ f.lo)

-- Two distances have no bit in common.
abbrev pub Beside : Distance → Distance → Type 0
Beside f g = (f.lo + f.width ≤ g.lo) ⊎ (g.lo + g.width ≤ f.lo)

-- A distance has no bit in common with any of a list.
abbrev pub Apart : Distance → List Distance → Type 0
Apart f [] = Unit {0}
Apart f (g ∷ gs) = Beside f g × Apart f gs

-- Distances that stand so, each apart from the others.
pub data Clears : List Distance → Type 0 where
  clear_none : Clears []
  clear_more : {f : Distance} {fs : List Distance} → Clear f → Apart f fs → Clears fs → Clears (f ∷ fs)

-- 63:48 and 127:96 are such places.
near_clear : Clear (record { lo = 48; width = 16; base = own_start })
near_clear = record { low = omega arith; wide = omega arith; top = omega arith; beside = inl (omega arith) }

far_clear : Clear (record { lo = 96; width = 32; base = own_end })
far_clear = record { low = omega arith; wide = omega arith; top = omega arith; beside = inr (omega arith) }

-- So are JIP's 111:96 and UIP's 127:112, side by side.
jip_clear : Clear jip
jip_clear = record { low = omega arith; wide = omega arith; top = omega arith; beside = inr (omega arith) }

uip_clear : Clear uip
uip_clear = record { low = omega arith; wide = omega arith; top = omega arith; beside = inr (omega arith) }

leaving_clear : Clears (jip ∷ uip ∷ [])
leaving_clear = clear_more {f = jip} {fs = uip ∷ []} jip_clear (inl (omega arith), tt) (clear_more uip_clear tt clear_none)

-- So the distances of every branch stand so, and what is no branch has none.
pub clear : (b : Branch) → Clears (distances_of b)
clear jmpi = clear_more far_clear tt clear_none
clear if = clear_more near_clear tt clear_none
clear else = clear_more near_clear tt clear_none
clear endif = clear_more near_clear tt clear_none
clear while = clear_more near_clear tt clear_none
clear break = leaving_clear
clear cont = leaving_clear

pub clears : (o : Operation) → Clears (distances o)
clears (plain p) = clear_none
clears nop = clear_none
clears (branch b) = clear b
clears unlisted = clear_none

-- ---- what a distance reaches

-- A field d that is t − a modulo 2^n leads from a to t.
signed_from : (n a d t : ℕ) → 2 ^ n ≡ 2 * 2 ^ (n - 1) → a ≤ 2 ^ (n - 1) → t < 2 ^ (n - 1) → d < 2 ^ n → (a + d ≡ t) ⊎ (a + d ≡ t + 2 ^ n)
    → pos a +ℤ signed_of n d ≡ pos t
signed_from n a d t two ha ht hd o = go (ltb d (2 ^ (n - 1))) refl o
  where
    go : (b : Bool) → ltb d (2 ^ (n - 1)) ≡ b → (a + d ≡ t) ⊎ (a + d ≡ t + 2 ^ n) → pos a +ℤ signed_of n d ≡ pos t
    go true e (inl q) = rw e (ap pos q)
    go true e (inr q) = absurd (omega (arith, ltb-true d (2 ^ (n - 1)) e))
    go false e (inl q) = absurd (omega (arith, ltb-false d (2 ^ (n - 1)) e))
    go false e (inr q) =
        rw (e, lt-ltb d (2 ^ n) hd, le-ltb a (suc (2 ^ n - suc d)) (omega (arith, ltb-false d (2 ^ (n - 1)) e)))
        (ap pos (omega (arith, ltb-false d (2 ^ (n - 1)) e)))

-- t − a modulo m, added to a, is t or t + m.
wrapped : (m a t : ℕ) → a ≤ m → t < m → (a + (t + m - a) % m ≡ t) ⊎ (a + (t + m - a) % m ≡ t + m)
wrapped m a t ha ht = go (leb a t) refl
  where
    go : (b : Bool) → leb a t ≡ b → (a + (t + m - a) % m ≡ t) ⊎ (a + (t + m - a) % m ≡ t + m)
    go true e =
        let h = leb-true a t e in
        let f : (t + m - a) % m ≡ t - a = ap (λ (x : ℕ). x % m) (omega arith) ∙ add-mod_right (t - a) m ∙ mod-eq_of_lt (omega arith) in
        inl (omega arith)
    go false e =
        let h = leb-false a t e in
        let f : (t + m - a) % m ≡ t + m - a = mod-eq_of_lt (omega arith) in
        inr (omega arith)

-- The distance that leads to a place fits its field.
pub distance_fits : (f : Distance) (from to : ℕ) → distance_to f from to < 2 ^ f.width
distance_fits f from to = mod-lt (to + 2 ^ f.width - from) (pow_pos f.width)

-- Where both ends lie below 2^15, a word with that distance reaches that place.
reaches : (f : Distance) → 16 ≤ f.width → (w here next to : ℕ) → here ≤ 2 ^ 15 → next ≤ 2 ^ 15 → to < 2 ^ 15
    → reach f (put w f.lo f.width (distance_to f (base_of f.base here next) to)) here next ≡ pos to
reaches f wide w here next to a b h =
    let from : ℕ = base_of f.base here next in
    let d : ℕ = distance_to f from to in
    let near : from ≤ 2 ^ 15 = low f.base in
    let two : 2 ^ f.width ≡ 2 * 2 ^ (f.width - 1) = ap (λ (x : ℕ). 2 ^ x) (omega arith) ∙ pow-add 2 1 (f.width - 1) in
    let big : 2 ^ 15 ≤ 2 ^ (f.width - 1) = pow_mono {i = 15} {j = f.width - 1} (omega arith) in
    ap (λ (x : ℕ). pos from +ℤ signed_of f.width x) (put_at w f.lo f.width d (distance_fits f from to))
    ∙ signed_from f.width from d to two (omega arith) (omega arith) (distance_fits f from to)
    (wrapped (2 ^ f.width) from to (omega arith) (omega arith))
  where
    low : (x : Base) → base_of x here next ≤ 2 ^ 15
    low own_start = a
    low own_end = b

-- ---- a word with other distances

-- A word with the distance f that leads to a place.
abbrev pub aim : Distance → ℕ → ℕ → ℕ → ℕ → ℕ
aim f w here next to = put w f.lo f.width (distance_to f (base_of f.base here next) to)

-- Every place of a list is one that 15 bits can tell.
abbrev pub AllNear : List ℕ → Type 0
AllNear ts = AtPlaces (λ t. t < 2 ^ 15) ts

-- Fields below bit 48 stay, the opcode among them.
pub aimed_below : (fs : List Distance) → Clears fs → (w here next : ℕ) (to : List ℕ) (lo n : ℕ) → lo + n ≤ 48 → bits (aimed fs w here next to) lo n ≡ bits w lo n
unfolding aimed
aimed_below [] c w here next to lo n h = refl
aimed_below (f ∷ fs) c w here next [] lo n h = refl
aimed_below (f ∷ fs) (clear_more c a cs) w here next (t ∷ to) lo n h =
    aimed_below fs cs (aim f w here next t) here next to lo n h ∙ put_below w f.lo f.width _ lo n (omega (arith, c.low))

-- So the operation stays.
pub aimed-operation : (fs : List Distance) → Clears fs → (w here next : ℕ) (to : List ℕ) → operation (aimed fs w here next to) ≡ operation w
aimed-operation fs c w here next to = ap operation_of (aimed_below fs c w here next to 0 7 (omega arith))

-- A long word stays one.
pub aimed_fits : (fs : List Distance) → Clears fs → (w here next : ℕ) (to : List ℕ) → w < 2 ^ 128 → aimed fs w here next to < 2 ^ 128
unfolding aimed
aimed_fits [] c w here next to h = h
aimed_fits (f ∷ fs) c w here next [] h = h
aimed_fits (f ∷ fs) (clear_more c a cs) w here next (t ∷ to) h =
    aimed_fits fs cs (aim f w here next t) here next to
    (put_fits w f.lo f.width _ 128 h (distance_fits f (base_of f.base here next) t) c.top)

-- What is no branch stays as it is.
pub aimed-plain : (o : Operation) (w here next : ℕ) (to : List ℕ) → is_branch o ≡ false → aimed (distances o) w here next to ≡ w
unfolding aimed
aimed-plain (plain p) w here next to e = refl
aimed-plain nop w here next to e = refl
aimed-plain (branch b) w here next to e = absurd (false≢true (sym e))
aimed-plain unlisted w here next to e = refl

-- A field that has no bit in common with the distances stays.
put-beside : (f g : Distance) → Beside f g → (w v : ℕ) → v < 2 ^ g.width → bits (put w g.lo g.width v) f.lo f.width ≡ bits w f.lo f.width
put-beside f g (inl h) w v fits = put_below w g.lo g.width v f.lo f.width h
put-beside f g (inr h) w v fits = put_above w g.lo g.width v f.lo f.width fits h

aimed-beside : (f : Distance) (fs : List Distance) → Apart f fs → (w here next : ℕ) (to : List ℕ)
    → bits (aimed fs w here next to) f.lo f.width ≡ bits w f.lo f.width
unfolding aimed
aimed-beside f [] a w here next to = refl
aimed-beside f (g ∷ fs) a w here next [] = refl
aimed-beside f (g ∷ fs) a w here next (t ∷ to) =
    aimed-beside f fs a.1 (aim g w here next t) here next to
    ∙ put-beside f g a.0 w _ (distance_fits g (base_of g.base here next) t)

-- So it is written before them or after them.
pub put_commutes : (f g : Distance) → Beside f g → (w u v : ℕ) → u < 2 ^ f.width → v < 2 ^ g.width
    → put (put w g.lo g.width v) f.lo f.width u ≡ put (put w f.lo f.width u) g.lo g.width v
put_commutes f g (inl h) w u v a b = put_apart w f.lo f.width u g.lo g.width v a h
put_commutes f g (inr h) w u v a b = sym (put_apart w g.lo g.width v f.lo f.width u b h)

pub aimed-put : (f : Distance) (fs : List Distance) → Apart f fs → (w here next : ℕ) (to : List ℕ) (v : ℕ) → v < 2 ^ f.width
    → put (aimed fs w here next to) f.lo f.width v ≡ aimed fs (put w f.lo f.width v) here next to
unfolding aimed
aimed-put f [] a w here next to v h = refl
aimed-put f (g ∷ fs) a w here next [] v h = refl
aimed-put f (g ∷ fs) a w here next (t ∷ to) v h =
    aimed-put f fs a.1 (aim g w here next t) here next to v h
    ∙ ap (λ (x : ℕ). aimed fs x here next to) (put_commutes f g a.0 w v _ h (distance_fits g (base_of g.base here next) t))

-- Without its distances the word is what it was without its distances.
aimed-blank : (fs : List Distance) → Clears fs → (w here next : ℕ) (to : List ℕ) → blanked fs (aimed fs w here next to) ≡ blanked fs w
unfolding aimed blanked
aimed-blank [] c w here next to = refl
aimed-blank (f ∷ fs) c w here next [] = refl
aimed-blank (f ∷ fs) (clear_more c a cs) w here next (t ∷ to) =
    ap (blanked fs)
    (aimed-put f fs a (aim f w here next t) here next to 0 (pow_pos f.width)
    ∙ ap (λ (x : ℕ). aimed fs x here next to) (put-put w f.lo f.width _ 0 (distance_fits f (base_of f.base here next) t)))
    ∙ aimed-blank fs cs (put w f.lo f.width 0) here next to

-- Distances aimed at places below 2^15, from below 2^15, reach them, one each.
aimed-reach : (fs : List Distance) → Clears fs → (w here next : ℕ) (to : List ℕ) → here ≤ 2 ^ 15 → next ≤ 2 ^ 15 → AllNear to → length to ≡ length fs
    → map (λ f. reach f (aimed fs w here next to) here next) fs ≡ map pos to
unfolding aimed
aimed-reach [] c w here next [] p q h e = refl
aimed-reach [] c w here next (t ∷ to) p q h e = absurd (omega arith)
aimed-reach (f ∷ fs) c w here next [] p q h e = absurd (omega arith)
aimed-reach (f ∷ fs) (clear_more c a cs) w here next (t ∷ to) p q h e =
    ap₂ {C = List ℤ} (λ x y. x ∷ y)
    (ap (λ (x : ℕ). pos (base_of f.base here next) +ℤ signed_of f.width x) (aimed-beside f fs a (aim f w here next t) here next to)
    ∙ reaches f c.wide w here next t p q h.0)
    (aimed-reach fs cs (aim f w here next t) here next to p q h.1 (omega arith))

-- ---- the rewritten words

module _ (k : List Instr) (ps : List Piece) (a : ℕ) (p : Piece) where
  -- Rewriting keeps the operation.
  pub rewritten-operation : operation (rewritten k ps a p) ≡ operation p.instr.word
  rewritten-operation = aimed-operation _ (clears (operation p.instr.word)) p.instr.word a (a + new_size p) (new_targets k ps p.instr)

  -- What is no branch is kept whole.
  pub rewritten-plain : is_branch (operation p.instr.word) ≡ false → rewritten k ps a p ≡ p.instr.word
  rewritten-plain e = aimed-plain (operation p.instr.word) p.instr.word a (a + new_size p) (new_targets k ps p.instr) e

  -- A long word stays one.
  pub rewritten_fits : p.instr.word < 2 ^ 128 → rewritten k ps a p < 2 ^ 128
  rewritten_fits h = aimed_fits _ (clears (operation p.instr.word)) p.instr.word a (a + new_size p) (new_targets k ps p.instr) h

  -- Every field below bit 48 is kept.
  pub rewritten_below : (lo n : ℕ) → lo + n ≤ 48 → bits (rewritten k ps a p) lo n ≡ bits p.instr.word lo n
  rewritten_below lo n h = aimed_below _ (clears (operation p.instr.word)) p.instr.word a (a + new_size p) (new_targets k ps p.instr) lo n h

-- ---- where pieces start

-- Every piece takes a place or two.
pub takes_some : (o : Option ℕ) → 0 < places_taken o
takes_some none = omega arith
takes_some (some s) = omega arith

takes_few : (o : Option ℕ) → places_taken o ≤ 2
takes_few none = omega arith
takes_few (some s) = omega arith

-- So the end lies at most two places on for each piece.
pub end_near : (a : ℕ) (ps : List Piece) → start_of a ps (length ps) ≤ a + 2 * length ps
unfolding start_of
end_near a [] = omega arith
end_near a (p ∷ ps) = omega (arith, takes_few p.short, end_near (a + new_size p) ps)

-- No piece starts before the first.
pub start_low : (a : ℕ) (ps : List Piece) (j : ℕ) → a ≤ start_of a ps j
unfolding start_of
start_low a ps zero = omega arith
start_low a [] (suc j) = omega arith
start_low a (p ∷ ps) (suc j) = omega (arith, start_low (a + new_size p) ps j)

-- None starts past the end.
pub start_high : (a : ℕ) (ps : List Piece) (j : ℕ) → start_of a ps j ≤ start_of a ps (length ps)
unfolding start_of
start_high a ps zero = start_low a ps (length ps)
start_high a [] (suc j) = omega arith
start_high a (p ∷ ps) (suc j) = start_high (a + new_size p) ps j

-- The first piece ends no later than the last.
pub first_ends : (a : ℕ) (p : Piece) (ps : List Piece) → a + new_size p ≤ start_of a (p ∷ ps) (length (p ∷ ps))
unfolding start_of
first_ends a p ps = start_low (a + new_size p) ps (length ps)

-- ---- the moved instructions

module _ (k : List Instr) (ps : List Piece) where
  -- There are as many as there are pieces.
  pub moved_length : (a : ℕ) (rest : List Piece) → length (moved k ps a rest) ≡ length rest
  unfolding moved
  moved_length a [] = refl
  moved_length a (p ∷ rest) = ap suc (moved_length (a + new_size p) rest)

  -- They end where the pieces end.
  pub moved_end : (a : ℕ) (rest : List Piece) → end_from a (moved k ps a rest) ≡ start_of a rest (length rest)
  unfolding moved end_from start_of
  moved_end a [] = refl
  moved_end a (p ∷ rest) = moved_end (a + new_size p) rest

  -- They stand one after the other.
  pub moved_laid : (a : ℕ) (rest : List Piece) → Laid a (moved k ps a rest)
  unfolding moved Laid
  moved_laid a [] = tt
  moved_laid a (p ∷ rest) = (refl, takes_some p.short, moved_laid (a + new_size p) rest)

  -- The place at which piece j starts has number j.
  pub moved-index : (a : ℕ) (rest : List Piece) (j : ℕ) → j ≤ length rest → index (moved k ps a rest) (start_of a rest j) ≡ j
  unfolding moved index start_of
  moved-index a [] zero h = refl
  moved-index a [] (suc j) h = absurd (omega arith)
  moved-index a (p ∷ rest) zero h = index-here (moved_to k ps a p) (moved k ps (a + new_size p) rest) a refl
  moved-index a (p ∷ rest) (suc j) h =
      index-there (moved_to k ps a p) (moved k ps (a + new_size p) rest) (start_of (a + new_size p) rest j)
      (λ e. omega (arith, takes_some p.short, start_low (a + new_size p) rest j))
      ∙ ap suc (moved-index (a + new_size p) rest j (omega arith))

  -- So it is an instruction's start, or the end.
  start_lands : (j : ℕ) → j ≤ length ps → lands (moved k ps 0 ps) (start_of 0 ps j) ≡ true
  unfolding lands
  start_lands j h = go (fetch (moved k ps 0 ps) (start_of 0 ps j)) refl
    where
      p : ℕ
      p = start_of 0 ps j

      go : (o : Option Instr) → fetch (moved k ps 0 ps) p ≡ o → (found o || eqb p (end_of (moved k ps 0 ps))) ≡ true
      go (some i) e = refl
      go none e =
          let n : index (moved k ps 0 ps) p ≡ length (moved k ps 0 ps) = none-length (moved k ps 0 ps) p e in
          let m : j ≡ length ps = sym (moved-index 0 ps j h) ∙ n ∙ moved_length 0 ps in
          eq-eqb p (end_of (moved k ps 0 ps)) (ap (start_of 0 ps) m ∙ sym (moved_end 0 ps))

-- ---- their jumps

module _ (k : List Instr) (ps : List Piece) (end : start_of 0 ps (length ps) < 2 ^ 15) where
  -- New targets are places that a distance of 16 bits can reach.
  pub targets_near : (zs : List ℤ) → AllNear (map (λ z. start_of 0 ps (index k (place_of z))) zs)
  targets_near [] = tt
  targets_near (z ∷ zs) = (omega (arith, start_high 0 ps (index k (place_of z))), targets_near zs)

  -- A moved instruction reaches exactly the places at which its old targets come to stand.
  pub moved_reaches : (a : ℕ) (p : Piece) → a + new_size p ≤ 2 ^ 15 → targets_of (moved_to k ps a p) ≡ map pos (new_targets k ps p.instr)
  moved_reaches a p inside =
      let w : ℕ = p.instr.word in
      ap (λ (o : Operation). reached (distances o) (moved_to k ps a p)) (rewritten-operation k ps a p)
      ∙ aimed-reach (distances (operation w)) (clears (operation w)) w a (a + new_size p) (new_targets k ps p.instr) (omega arith) inside
      (targets_near (targets_of p.instr))
      (length-map (targets_of p.instr) _ ∙ length-map (distances (operation w)) _)

module _ (k : List Instr) (laid : Laid 0 k) (ps : List Piece) (whole : length ps ≡ length k) (end : start_of 0 ps (length ps) < 2 ^ 15) where
  -- An old target's number is that of a piece, or of the end.
  old_index : (z : ℤ) → goal_of k z ≤ length ps
  old_index z = omega (arith, index_le k (place_of z))

  -- The new places of some targets have the numbers that the targets had, and land.
  goals_kept : (zs : List ℤ)
      → map (goal_of (moved k ps 0 ps)) (map pos (map (λ z. start_of 0 ps (goal_of k z)) zs)) ≡ map (goal_of k) zs
  goals_kept [] = refl
  goals_kept (z ∷ zs) = ap₂ {C = List ℕ} (λ x y. x ∷ y) (moved-index k ps 0 ps (goal_of k z) (old_index z)) (goals_kept zs)

  goals_land : (zs : List ℤ) → targets_land (moved k ps 0 ps) (map pos (map (λ z. start_of 0 ps (goal_of k z)) zs)) ≡ true
  goals_land [] = refl
  goals_land (z ∷ zs) = rw (start_lands k ps (goal_of k z) (old_index z)) (goals_land zs)

  module _ (a : ℕ) (p : Piece) (inside : a + new_size p ≤ 2 ^ 15) where
    -- A moved instruction leads to what it led to.
    pub moved_goals : map (goal_of (moved k ps 0 ps)) (targets_of (moved_to k ps a p)) ≡ map (goal_of k) (targets_of p.instr)
    moved_goals = ap (map (goal_of (moved k ps 0 ps))) (moved_reaches k ps end a p inside) ∙ goals_kept (targets_of p.instr)

    -- So it has its old line.
    moved_line : line_of (moved k ps 0 ps) (moved_to k ps a p) ≡ line_of k p.instr
    moved_line =
        let w : ℕ = p.instr.word in
        let e : blank (rewritten k ps a p) ≡ blank w =
        ap (λ (o : Operation). blanked (distances o) (rewritten k ps a p)) (rewritten-operation k ps a p)
        ∙ aimed-blank (distances (operation w)) (clears (operation w)) w a (a + new_size p) (new_targets k ps p.instr) in
        λ j. record { word = e j; goals = moved_goals j }

    -- Its jumps land.
    moved-lands : targets_land (moved k ps 0 ps) (targets_of (moved_to k ps a p)) ≡ true
    moved-lands = ap (targets_land (moved k ps 0 ps)) (moved_reaches k ps end a p inside) ∙ goals_land (targets_of p.instr)

  -- So for each of them.
  moved_lines : (a : ℕ) (rest : List Piece) → start_of a rest (length rest) < 2 ^ 15
      → map (line_of (moved k ps 0 ps)) (moved k ps a rest) ≡ map (λ p. line_of k p.instr) rest
  unfolding moved start_of
  moved_lines a [] h = refl
  moved_lines a (p ∷ rest) h =
      ap₂ {C = List Line} (λ x y. x ∷ y) (moved_line a p (omega (arith, first_ends a p rest))) (moved_lines (a + new_size p) rest h)

  -- So for each of them.
  moved_all : (a : ℕ) (rest : List Piece) → start_of a rest (length rest) < 2 ^ 15 → AllLand (moved k ps 0 ps) (moved k ps a rest)
  unfolding moved start_of AllLand
  moved_all a [] h = tt
  moved_all a (p ∷ rest) h = (moved-lands a p (omega (arith, first_ends a p rest)), moved_all (a + new_size p) rest h)

-- ---- the whole kernel

module _ (form : Form) (k : List Instr) where
  -- A relayout keeps the number of instructions.
  pub relaid_length : length (relaid_by form k) ≡ length k
  relaid_length = moved_length k (pieces_of form k) 0 (pieces_of form k) ∙ length-map k (piece form)

  -- It ends where its last piece ends.
  pub relaid_end : end_of (relaid_by form k) ≡ new_end form k
  relaid_end = moved_end k (pieces_of form k) 0 (pieces_of form k)

  -- It has the program of the kernel.
  pub relaid_program : Laid 0 k → new_end form k < 2 ^ 15 → program (relaid_by form k) ≡ program k
  relaid_program laid end =
      moved_lines k laid (pieces_of form k) (length-map k (piece form)) end 0 (pieces_of form k) end
      ∙ map-map (λ (p : Piece). line_of k p.instr) (piece form) k

  -- It is sound.
  pub relaid_sound : Laid 0 k → new_end form k < 2 ^ 15 → Sound (relaid_by form k)
  relaid_sound laid end =
      record {
        laid = moved_laid k (pieces_of form k) 0 (pieces_of form k);
        land = moved_all k laid (pieces_of form k) (length-map k (piece form)) end 0 (pieces_of form k) end;
      }
