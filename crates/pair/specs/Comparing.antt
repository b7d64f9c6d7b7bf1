-- One pass over a long kernel and one that was sent for it: what is known after n instructions that are the same, and what the next one tells. Assumes nothing.
use Rattle.std.specs.Prelude.{true, List, [], ◌∷◌, map, ◌≡◌, refl, ℕ, zero, suc, ◌+◌, ◌*◌, ◌/◌, ◌^◌, ◌<◌, ◌≤◌, length}
use Rattle.std.proofs.Math.Option
use Rattle.std.proofs.Math.Option.{none, some, some-injective}
use Rattle.std.proofs.Common.{sym, ap, ◌∙◌, subst, arith, add-one}
use Rattle.std.proofs.Math.ListN.{get_elem?}
use Rattle.paper.specs.Bits.{number_at}
use Rattle.paper.specs.Dictionary.{dictionary_of}
use Rattle.paper.specs.Operation.{operation}
use Rattle.paper.specs.Kernel.{Instr, long_and_short, long_only}
use Rattle.paper.specs.Jump.{distances, targets_of, targets_land}
use Rattle.paper.specs.Packing.{index, piece, start_of, aimed}
use Rattle.paper.specs.Program.{Line, line_of, program, agreed}
use Rattle.laws.specs.Names.{AllLong, Sound, long_form, pieces_of, new_end, moved_to, relaid_by}
use Rattle.laws.specs.Places.{fetch-index, start_zero}
use Rattle.laws.specs.Moved.{relaid_program, relaid_sound}
use Rattle.laws.specs.Relay.{new_end_near}
use Rattle.laws.specs.Unique.{land_at, word_line, line_word, relaid_long, moved_at}
use Rattle.laws.specs.Agreed.{Common, common_none, common_more, common_differs, common_ends, common_stops}
use Rattle.kernel.specs.Standing.{Whole, Fetches}
use Rattle.kernel.specs.Marks.{place_count}
use Rattle.kernel.specs.Jumps.{instr_of}
use Rattle.kernel.specs.Accepting.{AcceptedKernel}
use Rattle.packer.specs.Stages.{Placed, new_places, Stage, stage_start, stage_room, stage_end, stage_whole, stage_fetch, stage_piece, stage_next, next_index, end_few, targets_are, Reaches, targets_reach}
use Rattle.pair.specs.Straight.{stands_long, stands_at, stands_none}

-- An element of a list, after a map.
at_map : {A B : Type 0} (f : A → B) (xs : List A) (n : ℕ) → get_elem? (map f xs) n ≡ Option.map f (get_elem? xs n)
at_map f [] n = refl
at_map f (x ∷ xs) zero = refl
at_map f (x ∷ xs) (suc n) = at_map f xs n

-- Past the end of a list there is none.
past_none : {A : Type 0} (xs : List A) → get_elem? xs (length xs) ≡ none
past_none [] = refl
past_none (x ∷ xs) = past_none xs

-- The pass over k, the long kernel, and l stands at byte `from` of l, where instruction n starts or the kernel ends, and the first n instructions are the same.
pub record Reached (k l : List Instr) (from n : ℕ) : Type 0 where
  pub stage : Stage long_form l from (2 * n)
  pub number : n ≡ index l (from / 8)
  pub common : Common (program k) (program l) n

module _ (dictionary long sent : List ℕ) (k l : List Instr) (h : AcceptedKernel long_only dictionary long k) (g : AcceptedKernel long_and_short dictionary sent l) where
  pub reached_start : Reached k l 0 0
  reached_start =
      record {
        stage = stage_start long_and_short dictionary sent l g long_form;
        number = sym (start_zero 0 l g.sound.laid);
        common = common_none (program k) (program l);
      }

  -- The sent kernel with every word long: sound, and the same program.
  near : new_end long_form l < 2 ^ 15
  near = let n = new_end_near long_form l g.few in omega arith

  abbrev straight : List Instr
  straight = relaid_by long_form l

  straight_sound : Sound straight
  straight_sound = relaid_sound long_form l g.sound.laid near

  straight-program : program straight ≡ program l
  straight-program = relaid_program long_form l g.sound.laid near

  long_k : AllLong k
  long_k = stands_long (dictionary_of dictionary) long 0 k h.stands

  module _ (from n : ℕ) (r : Reached k l from n) where
    -- There are no more instructions than a kernel may have.
    pub reached_few : 2 * n < place_count
    reached_few = omega (arith, stage_room long_and_short dictionary sent l g long_form from (2 * n) r.stage, end_few long_and_short dictionary sent l g long_form)

    -- The sent kernel ends here,
    pub reached_end : length sent ≤ from → n ≡ agreed (program k) (program l)
    reached_end over =
        let last : n ≡ length l = r.number ∙ stage_end long_and_short dictionary sent l g long_form from (2 * n) r.stage over in
        let none_left : get_elem? (program l) n ≡ none =
        at_map (line_of l) l n ∙ ap (Option.map (line_of l)) (ap (get_elem? l) last ∙ past_none l) in
        sym (common_stops (program k) (program l) n r.common none_left)

    -- or the long one does.
    pub reached_over : length long ≤ 16 * n → n ≡ agreed (program k) (program l)
    reached_over over =
        let gone = stands_none (dictionary_of dictionary) long 0 k h.stands n (omega arith) in
        sym (common_ends (program k) (program l) n r.common (at_map (line_of k) k n ∙ ap (Option.map (line_of k)) gone))

    -- Before that an instruction stands there, whole.
    pub reached_whole : from < length sent → Whole sent from
    reached_whole inside = stage_whole long_and_short dictionary sent l g long_form from (2 * n) r.stage inside

    -- The long kernel has its next word.
    pub reached_room : 16 * n < length long → 16 * n + 16 ≤ length long
    reached_room inside = omega (arith, (stands_at (dictionary_of dictionary) long 0 k h.stands n (omega arith)).0)

    module _ (inside : from < length sent) (inside' : 16 * n < length long) (size w : ℕ) (f : Fetches (dictionary_of dictionary) sent from size w) where
      -- The next instructions: of the long kernel, of the sent one, and that with every word long.
      abbrev ours : Instr
      ours = instr_of (2 * n) 2 (number_at long (16 * n) 16)

      abbrev theirs : Instr
      theirs = instr_of (from / 8) size w

      abbrev moved : Instr
      moved = moved_to l (pieces_of long_form l) (2 * n) (piece long_form theirs)

      ours_at : get_elem? k n ≡ some ours
      ours_at =
          let e = (stands_at (dictionary_of dictionary) long 0 k h.stands n (omega arith)).1 in
          let place : 0 / 8 + 2 * n ≡ 2 * n = omega arith in
          let byte : 0 + 16 * n ≡ 16 * n = omega arith in
          e ∙ ap some (λ x. record { place = place x; size = 2; word = number_at long (byte x) 16 })

      theirs_at : get_elem? (program l) n ≡ some (line_of l theirs)
      theirs_at =
          ap (get_elem? (program l)) r.number ∙ fetch-index (line_of l) l (from / 8)
          ∙ ap (Option.map (line_of l)) (stage_fetch long_and_short dictionary sent l g long_form from (2 * n) r.stage inside size w f)

      moved_there : get_elem? straight n ≡ some moved
      moved_there =
          let ps = pieces_of long_form l in
          let p = stage_piece long_and_short dictionary sent l g long_form from (2 * n) r.stage inside size w f in
          let q : get_elem? ps n ≡ some (piece long_form theirs) = ap (get_elem? ps) r.number ∙ p in
          let start : start_of 0 ps n ≡ 2 * n = ap (start_of 0 ps) r.number ∙ sym r.stage.to_is in
          moved_at l ps 0 ps n (piece long_form theirs) q ∙ ap (λ (a : ℕ). some (moved_to l ps a (piece long_form theirs))) start

      moved_line : line_of straight moved ≡ line_of l theirs
      moved_line =
          some-injective _ _
          (sym (at_map (line_of straight) straight n ∙ ap (Option.map (line_of straight)) moved_there)
          ∙ ap (λ (p : List Line). get_elem? p n) straight-program ∙ theirs_at)

      ours_line : get_elem? (program k) n ≡ some (line_of k ours)
      ours_line = at_map (line_of k) k n ∙ ap (Option.map (line_of k)) ours_at

      ours_land : targets_land k (targets_of ours) ≡ true
      ours_land = land_at k k h.sound.land n ours ours_at

      moved_land : targets_land straight (targets_of moved) ≡ true
      moved_land = land_at straight straight straight_sound.land n moved moved_there

      -- The word of the sent kernel as the code writes it anew.
      module _ (news : List ℕ) (placed : Placed long_form l news) (v : ℕ)
          (e : v ≡ aimed (distances (operation w)) w (2 * n) (2 * n + 2) (new_places news theirs)) where
        word_moved : v ≡ moved.word
        word_moved =
            e ∙ ap (aimed (distances (operation w)) w (2 * n) (2 * n + 2))
            (targets_are long_and_short dictionary sent l g long_form from (2 * n) r.stage inside size w f news placed)

        -- It is the long kernel's: one instruction more is the same.
        pub reached_more : v ≡ number_at long (16 * n) 16 → Reached k l (from + 8 * size) (n + 1)
        reached_more same =
            let line = word_line k straight h.sound straight_sound long_k (relaid_long l) ours moved refl refl ours_land moved_land (sym same ∙ word_moved) in
            let twice : 2 * n + 2 ≡ 2 * (n + 1) = omega arith in
            record {
              stage = subst (λ (x : ℕ). Stage long_form l (from + 8 * size) x) twice
                  (stage_next long_and_short dictionary sent l g long_form from (2 * n) r.stage inside size w f none 2 refl refl);
              number = add-one n ∙ ap suc r.number ∙ sym (next_index long_and_short dictionary sent l g long_form from (2 * n) r.stage inside size w f);
              common = subst (λ (x : ℕ). Common (program k) (program l) x) (sym (add-one n))
                  (common_more (program k) (program l) n (line_of k ours) (line_of l theirs) r.common ours_line theirs_at (line ∙ moved_line));
            }

        -- It is another: this is the first difference.
        pub reached_differs : (v ≡ number_at long (16 * n) 16 → ⊥) → n ≡ agreed (program k) (program l)
        reached_differs other =
            sym (common_differs (program k) (program l) n (line_of k ours) (line_of l theirs) r.common ours_line theirs_at
            (λ line. other (word_moved ∙ sym (line_word k straight h.sound straight_sound long_k (relaid_long l) ours moved refl refl ours_land moved_land (line ∙ sym moved_line)))))

      -- What it leads to has its new places.
      pub reached_targets : (news : List ℕ) → Placed long_form l news → Reaches news theirs
      reached_targets news placed = targets_reach long_and_short dictionary sent l g long_form from (2 * n) r.stage inside size w f news placed

      -- It comes to stand where there still are places.
      pub reached_next : 2 * n + 2 < place_count
      reached_next =
          omega (
            arith,
            stage_room long_and_short dictionary sent l g long_form (from + 8 * size) (2 * n + 2)
                (stage_next long_and_short dictionary sent l g long_form from (2 * n) r.stage inside size w f none 2 refl refl),
            end_few long_and_short dictionary sent l g long_form,
          )
