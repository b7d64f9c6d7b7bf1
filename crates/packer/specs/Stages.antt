-- A pass over an accepted kernel, instruction by instruction: where it stands in the old bytes and in the new, and which new places it has stored.
-- Assumes nothing.
use Rattle.std.specs.Prelude.{Bool, false, List, [], ◌∷◌, map, ◌≡◌, ℕ, suc, ◌+◌, ◌*◌, ◌/◌, ◌<◌, ◌≤◌, eqb, ℤ, length, get_or, set}
use Rattle.std.proofs.Math.Bool.{true}
use Rattle.std.proofs.Math.Option
use Rattle.std.proofs.Math.Option.{Option, none, some}
use Rattle.std.proofs.Math.Path.{refl, sym}
use Rattle.std.proofs.Common.{ap, ap₂, ◌∙◌, subst, arith, get_or-set_same, get_or-set_other, eqb-true, eq-eqb}
use Rattle.std.proofs.Math.ListN.{get_elem?}
use Rattle.std.proofs.lemmas.List.{length-map}
use Rattle.std.proofs.lemmas.Bool.{eqb-false}
use Rattle.paper.specs.Dictionary.{dictionary_of}
use Rattle.paper.specs.Kernel.{Instr, Forms}
use Rattle.paper.specs.Jump.{next_of, targets_of, place_of, fetch, end_of, lands, jump_lands, targets_land}
use Rattle.paper.specs.Packing.{index, Form, piece, places_taken, start_of, new_targets}
use Rattle.laws.specs.Names.{pieces_of, new_end}
use Rattle.laws.specs.Lasting.{lands_before}
use Rattle.laws.specs.Moved.{start_high}
use Rattle.laws.specs.Places.{apart, index_le, start_zero, none-length, fetch-index, lands_names, jump_lands_lem, zero_lands, place_lands}
use Rattle.laws.specs.Places as places
use Rattle.laws.specs.Rename.{AtPlaces}
use Rattle.laws.specs.Truth.{both_true}
use Rattle.laws.specs.Relay.{new_end_near}
use Rattle.kernel.specs.Standing.{Whole, Fetches}
use Rattle.kernel.specs.Marks.{place_count}
use Rattle.kernel.specs.Jumps.{instr_of}
use Rattle.kernel.specs.Accepting.{AcceptedKernel, Here, found_here, none_past, lands_here}
use Rattle.packer.specs.Pieces.{start_next}

-- At each place at which an instruction starts, and at the end's, stands the place at which it comes to stand.
abbrev pub Placed : Form → List Instr → List ℕ → Type 0
Placed form k news = (p : ℕ) → lands k p ≡ true → get_or news p 0 ≡ start_of 0 (pieces_of form k) (index k p)

-- So for the instructions before the one at place q.
abbrev pub PlacedTo : Form → List Instr → List ℕ → ℕ → Type 0
PlacedTo form k news q = (p : ℕ) → lands k p ≡ true → index k p < index k q → get_or news p 0 ≡ start_of 0 (pieces_of form k) (index k p)

-- The new places of what instruction i leads to, as they are stored.
abbrev pub new_places : List ℕ → Instr → List ℕ
new_places news i = map (λ z. get_or news (place_of z) 0) (targets_of i)

-- The new place of place p is there.
abbrev pub ReachesAt : List ℕ → ℕ → Type 0
ReachesAt news p = (p < place_count) × (get_or news p 0 < place_count)

-- They all are.
abbrev pub Reaches : List ℕ → Instr → Type 0
Reaches news i = AtPlaces (ReachesAt news) (map place_of (targets_of i))

-- A pass stands at byte `from`, where an instruction starts or the kernel ends, and that comes to stand at place `to`.
pub record Stage (form : Form) (k : List Instr) (from to : ℕ) : Type 0 where
  pub whole : 8 * (from / 8) ≡ from
  pub starts : lands k (from / 8) ≡ true
  pub to_is : to ≡ start_of 0 (pieces_of form k) (index k (from / 8))

module _ (forms : Forms) (dictionary kernel : List ℕ) (k : List Instr) (h : AcceptedKernel forms dictionary kernel k) (form : Form) where
  -- ---- the places of an accepted kernel

  -- No instruction starts at the end, whose number is therefore that past the last.
  end_last : index k (end_of k) ≡ length k
  end_last = none-length k (end_of k) (none_past forms dictionary kernel k h (end_of k) (omega (arith, h.ends)))

  -- No place past the end lands.
  pub lands_low : (p : ℕ) → lands k p ≡ true → 8 * p ≤ length kernel
  lands_low p e = omega (arith, lands_before k h.sound.laid p e, h.ends)

  -- The place after an instruction lands.
  next_lands : (p : ℕ) (i : Instr) → fetch k p ≡ some i → lands k (next_of i) ≡ true
  unfolding lands
  next_lands p i e = go (fetch k (next_of i)) refl
    where
      go : (o : Option Instr) → fetch k (next_of i) ≡ o → lands k (next_of i) ≡ true
      go none n =
          rw n (eq-eqb (next_of i) (end_of k) ((places.found 0 k p i h.sound.laid e).last (none-length k (next_of i) n)))
      go (some j) n = rw n

  -- No new place lies past the new end, which is a place too.
  pub start_few : (j : ℕ) → start_of 0 (pieces_of form k) j ≤ new_end form k
  start_few j = start_high 0 (pieces_of form k) j

  pub end_few : new_end form k < place_count
  end_few = omega (arith, new_end_near form k h.few)

  -- ---- where jumps that land come to lead, by the stored places

  module _ (news : List ℕ) (placed : Placed form k news) where
    all_placed : (zs : List ℤ) → targets_land k zs ≡ true
        → map (λ z. get_or news (place_of z) 0) zs ≡ map (λ z. start_of 0 (pieces_of form k) (index k (place_of z))) zs
    all_placed [] e = refl
    all_placed (z ∷ zs) e =
        let t = both_true (jump_lands k z) (targets_land k zs) e in
        ap₂ {C = List ℕ} (λ x y. x ∷ y) (placed (place_of z) (place_lands k z t.0)) (all_placed zs t.1)

    all_reach : (zs : List ℤ) → targets_land k zs ≡ true → AtPlaces (λ p. (p < place_count) × (get_or news p 0 < place_count)) (map place_of zs)
    all_reach [] e = tt
    all_reach (z ∷ zs) e =
        let t = both_true (jump_lands k z) (targets_land k zs) e in
        let l = place_lands k z t.0 in (
          (
            omega (arith, lands_low (place_of z) l, h.sizes.kernel-most),
            omega (arith, placed (place_of z) l, start_few (index k (place_of z)), end_few),
          ),
          all_reach zs t.1,
        )

  -- ---- a pass

  pub stage_start : Stage form k 0 0
  unfolding start_of
  stage_start =
      record {
        whole = refl;
        starts = zero_lands k h.sound.laid;
        to_is = sym (ap (start_of 0 (pieces_of form k)) (start_zero 0 k h.sound.laid));
      }

  module _ (from to : ℕ) (s : Stage form k from to) where
    pub stage_inside : from ≤ length kernel
    stage_inside = omega (arith, lands_low (from / 8) s.starts, s.whole)

    pub stage_room : to ≤ new_end form k
    stage_room = omega (arith, s.to_is, start_few (index k (from / 8)))

    pub stage_few : to < place_count
    stage_few = omega (arith, stage_room, end_few)

    -- At the end of the bytes it stands at the kernel's end.
    at_end : length kernel ≤ from → from / 8 ≡ end_of k
    at_end e = omega (arith, stage_inside, s.whole, h.ends)

    pub stage_end : length kernel ≤ from → index k (from / 8) ≡ length k
    stage_end e = ap (index k) (at_end e) ∙ end_last

    pub end_to : length kernel ≤ from → to ≡ new_end form k
    end_to e = s.to_is ∙ ap (start_of 0 (pieces_of form k)) (stage_end e ∙ sym (length-map k (piece form)))

    module _ (inside : from < length kernel) where
      -- Before it an instruction stands there.
      here : Here forms (dictionary_of dictionary) kernel k (from / 8)
      here = lands_here forms dictionary kernel k h (from / 8) s.starts (λ e. omega (arith, s.whole))

      pub stage_whole : Whole kernel from
      stage_whole = subst (λ (x : ℕ). Whole kernel x) s.whole here.whole

      module _ (size w : ℕ) (f : Fetches (dictionary_of dictionary) kernel from size w) where
        abbrev instr : Instr
        instr = instr_of (from / 8) size w

        pub stage_fetch : fetch k (from / 8) ≡ some instr
        stage_fetch =
            let g = subst (λ (x : ℕ). Fetches (dictionary_of dictionary) kernel x size w) (sym s.whole) f in
            (found_here forms (dictionary_of dictionary) kernel k (from / 8) here size w g).fetched

        pub stage_piece : get_elem? (pieces_of form k) (index k (from / 8)) ≡ some (piece form instr)
        stage_piece = fetch-index (piece form) k (from / 8) ∙ ap (Option.map (piece form)) stage_fetch

        next_place : (from + 8 * size) / 8 ≡ from / 8 + size
        next_place = omega (arith, s.whole)

        pub next_index : index k ((from + 8 * size) / 8) ≡ suc (index k (from / 8))
        next_index = ap (index k) next_place ∙ (places.found 0 k (from / 8) instr h.sound.laid stage_fetch).next

        -- The next stage.
        further : Stage form k (from + 8 * size) (to + places_taken (form w))
        further =
            record {
              whole = omega (arith, s.whole);
              starts = ap (lands k) next_place ∙ next_lands (from / 8) instr stage_fetch;
              to_is =
                  ap (λ (x : ℕ). x + places_taken (form w)) s.to_is
                  ∙ sym (start_next 0 (pieces_of form k) (index k (from / 8)) (piece form instr) stage_piece)
                  ∙ ap (start_of 0 (pieces_of form k)) (sym next_index);
            }

        -- As the code finds it, the word's form being o, which takes `taken` places.
        pub stage_next : (o : Option ℕ) (taken : ℕ) → o ≡ form w → taken ≡ places_taken o → Stage form k (from + 8 * size) (to + taken)
        stage_next o taken e f = rw (f, e) further

        -- The instruction's jumps land.
        jumps_land : targets_land k (targets_of instr) ≡ true
        jumps_land = jump_lands_lem k k (from / 8) instr h.sound.land stage_fetch

        -- So the new places of what it leads to are there.
        pub targets_are : (news : List ℕ) → Placed form k news → new_places news instr ≡ new_targets k (pieces_of form k) instr
        targets_are news placed = all_placed news placed (targets_of instr) jumps_land

        pub targets_reach : (news : List ℕ) → Placed form k news → Reaches news instr
        targets_reach news placed = all_reach news placed (targets_of instr) jumps_land

  -- ---- the places stored

  -- Before the first instruction there is none.
  pub placed_start : (news : List ℕ) → PlacedTo form k news 0
  placed_start news p e l = absurd (omega (arith, start_zero 0 k h.sound.laid))

  module _ (from to : ℕ) (s : Stage form k from to) (news : List ℕ) (long : length news ≡ place_count) (placed : PlacedTo form k news (from / 8)) where
    -- One place more.
    one_more : (p : ℕ) → lands k p ≡ true → index k p ≤ index k (from / 8)
        → get_or (set news (from / 8) to) p 0 ≡ start_of 0 (pieces_of form k) (index k p)
    one_more p e l = go (eqb p (from / 8)) refl
      where
        go : (b : Bool) → eqb p (from / 8) ≡ b → get_or (set news (from / 8) to) p 0 ≡ start_of 0 (pieces_of form k) (index k p)
        go true t =
            let same : p ≡ from / 8 = eqb-true p (from / 8) t in
            let room : from / 8 < length news = omega (arith, lands_low (from / 8) s.starts, h.sizes.kernel-most) in
            rw same (get_or-set_same news (from / 8) to 0 room ∙ s.to_is)
        go false f =
            let n : index k p ≡ index k (from / 8) → ⊥ =
            eqb-false (index k p) (index k (from / 8))
            (apart k p (from / 8) (lands_names k h.sound.laid p e) (lands_names k h.sound.laid (from / 8) s.starts) ∙ f) in
            get_or-set_other news (from / 8) p to 0 (eqb-false p (from / 8) f) ∙ placed p e (omega arith)

    pub placed_next : from < length kernel → (size w : ℕ) → Fetches (dictionary_of dictionary) kernel from size w
        → PlacedTo form k (set news (from / 8) to) ((from + 8 * size) / 8)
    placed_next inside size w f p e l = one_more p e (omega (arith, next_index from to s inside size w f))

    pub placed_end : length kernel ≤ from → Placed form k (set news (from / 8) to)
    placed_end over p e = one_more p e (omega (arith, index_le k p, stage_end from to s over))
