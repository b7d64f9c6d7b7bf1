-- A second pass over a text that can be read: the instructions that are still to come, and what they say of all. Assumes nothing.
use Rattle.std.specs.Prelude.{◌≡◌, ℕ, ◌+◌, ◌*◌, ◌<◌, ◌≤◌}
use Rattle.std.proofs.Math.Bool.{true, false}
use mathlib.Core.List.{List, [], ◌∷◌}
use Rattle.std.proofs.Math.Option.{Option, none, some}
use Rattle.std.proofs.Math.Path.{refl, sym, ap, subst}
use Rattle.std.proofs.Common.{◌∙◌}
use native.Mathlib.Omega.{arith}
use Rattle.std.proofs.Math.ListN.{length, drop, length-append, length-drop}
use Rattle.paper.specs.Limits.{instruction_limit}
use Rattle.paper.specs.Dictionary.{Dictionary, dictionary_of}
use Rattle.paper.specs.Kernel.{Instr}
use Rattle.paper.specs.Jump.{next_of, lands, targets_of, targets_land}
use Rattle.paper.specs.Listing.{instr_text, listing, candidate, Listing, faulty, listed, lines_from, astray_lines}
use Rattle.laws.specs.Names.{Laid}
use Rattle.text.specs.Reading.{after_text}
use Rattle.kernel.specs.Marks.{place_count, marked}
use Rattle.kernel.specs.Jumps.{land_by, instr_of, all_same}
use Rattle.std.specs.Prelude as std
use Rattle.listing.specs.Lines.{candidate_is, lines_length}
use Rattle.listing.specs.Texts.{Readable, ReadFrom, size_most}

-- The instructions of a text, before its jumps are judged; none of one that is faulty.
abbrev pub read_of : Listing → List Instr
read_of (faulty from) = []
read_of (listed k) = k

unfoldable pub lines_in : List ℕ → List ℕ → List Instr
lines_in dictionary s = read_of (lines_from (dictionary_of dictionary) s instruction_limit 0 0)

-- It can be read.
abbrev pub CanRead : List ℕ → List ℕ → Type 0
CanRead dictionary s = ReadFrom (dictionary_of dictionary) s instruction_limit 0 0 (lines_in dictionary s)

-- The marks are those of some instructions: where one starts, and at the end.
abbrev pub MarksAre : List Instr → List ℕ → Type 0
MarksAre k marks = (p : ℕ) → marked marks p ≡ lands k p

-- What the code's answer is: none, or the byte.
abbrev pub astray_is : std.Option ℕ → Option ℕ
astray_is std.None = none
astray_is (std.Some from) = some from

-- ---- what is still to come

-- The instructions `rest` are still to come, at place p and byte `from` of the text.
pub record Coming (D : Dictionary) (s : List ℕ) (p from : ℕ) (rest : List Instr) : Type 0 where
  pub text : drop from s ≡ listing rest
  pub laid : Laid p rest
  pub able : Readable D rest
  pub near : p + 2 * length rest ≤ 2 * instruction_limit

pub coming_all : (dictionary s : List ℕ) → CanRead dictionary s → Coming (dictionary_of dictionary) s 0 0 (lines_in dictionary s)
coming_all dictionary s r = record { text = r.text; laid = r.laid; able = r.able; near = let f = r.few in omega arith }

-- Before the text's end there is a next one, which is the candidate, and `later` come after it.
pub record Next (D : Dictionary) (s : List ℕ) (p from size w : ℕ) (rest : List Instr) : Type 0 where
  pub later : List Instr
  pub split : rest ≡ instr_of p size w ∷ later
  pub coming : Coming D s (p + size) (from + length (instr_text (instr_of p size w))) later
  pub inside : from + length (instr_text (instr_of p size w)) ≤ length s
  pub more : 0 < length (instr_text (instr_of p size w))
  pub few : size ≤ 2
  pub here : p < place_count

module _ (D : Dictionary) (s : List ℕ) (p from : ℕ) where
  pub none-coming : (rest : List Instr) → Coming D s p from rest → length s ≤ from → rest ≡ []
  unfolding listing
  none-coming [] c h = refl
  none-coming (i ∷ k) c h =
      absurd (omega (arith, length-drop from s, ap length c.text, length-append (instr_text i) (listing k), lines_length i))

  next_is : (i : Instr) (k : List Instr) → Coming D s p from (i ∷ k) → (size w : ℕ) → instr_of p size w ≡ i → Next D s p from size w (i ∷ k)
  unfolding listing Laid Readable
  next_is i k c size w e =
      let size_is : size ≡ i.size = ap (λ (x : Instr). x.size) e in
      let here : i.place ≡ p = c.laid.0 in
      let few = size_most D s i c.able.0 in
      let text_is : instr_text (instr_of p size w) ≡ instr_text i = ap instr_text e in
      let l = ap length c.text in
      let a = length-append (instr_text i) (listing k) in
      let d = length-drop from s in
      let m = lines_length i in
      let q : length (instr_text (instr_of p size w)) ≡ length (instr_text i) = ap length text_is in
      let next : next_of i ≡ p + size = omega arith in
      record {
        later = k;
        split = ap (λ (x : Instr). x ∷ k) (sym e);
        coming = record {
          text = ap (λ (x : ℕ). drop (from + x) s) q ∙ after_text s (instr_text i) (listing k) from c.text;
          laid = subst (λ (x : ℕ). Laid x k) next c.laid.2;
          able = c.able.2;
          near = omega (arith, c.near);
        };
        inside = omega arith;
        more = omega arith;
        few = omega arith;
        here = omega (arith, c.near);
      }

  pub next_coming : (rest : List Instr) → Coming D s p from rest → from < length s → (size w : ℕ) → instr_of p size w ≡ candidate s p from
      → Next D s p from size w rest
  unfolding listing Laid Readable
  next_coming [] c h size w e = absurd (omega (arith, length-drop from s, ap length c.text))
  next_coming (i ∷ k) c h size w e =
      next_is i k c size w
      (e ∙ (ap (λ (x : ℕ). candidate s x from) (sym c.laid.0) ∙ candidate_is s (listing k) from i c.able.0 c.text))

module _ (D : Dictionary) (s : List ℕ) (p from : ℕ) where
  -- Its place is one that there can be.
  pub coming_near : (rest : List Instr) → Coming D s p from rest → from < length s → p < place_count
  unfolding candidate
  coming_near rest c h = (next_coming D s p from rest c h (candidate s p from).size (candidate s p from).word refl).here

-- ---- jumps

-- The instructions k have the answer of those that are still to come.
pub record Judging (D : Dictionary) (s : List ℕ) (k : List Instr) (p from : ℕ) : Type 0 where
  pub rest : List Instr
  pub coming : Coming D s p from rest
  pub left : astray_lines k k 0 ≡ astray_lines k rest from

pub judging_start : (dictionary s : List ℕ) → CanRead dictionary s → Judging (dictionary_of dictionary) s (lines_in dictionary s) 0 0
judging_start dictionary s r = record { rest = lines_in dictionary s; coming = coming_all dictionary s r; left = refl }

module _ (D : Dictionary) (s : List ℕ) (k : List Instr) (p from : ℕ) (j : Judging D s k p from) where
  pub judging_end : length s ≤ from → none ≡ astray_lines k k 0
  unfolding astray_lines
  judging_end h =
      sym (j.left ∙ ap (λ (r : List Instr). astray_lines k r from) (none-coming D s p from j.rest j.coming h))

  module _ (inside : from < length s) (size w : ℕ) (e : instr_of p size w ≡ candidate s p from) where
    pub judging_next : Next D s p from size w j.rest
    judging_next = next_coming D s p from j.rest j.coming inside size w e

    module _ (marks : List ℕ) (are : MarksAre k marks) where
      -- It goes astray.
      pub judging_astray : land_by (marked marks) (targets_of (instr_of p size w)) ≡ false → some from ≡ astray_lines k k 0
      unfolding astray_lines
      judging_astray h =
          let t : targets_land k (targets_of (instr_of p size w)) ≡ false = sym (all_same (marked marks) k are (targets_of (instr_of p size w))) ∙ h in
          sym (j.left ∙ (ap (λ (r : List Instr). astray_lines k r from) judging_next.split ∙ rw t))

      -- It lands.
      pub judging_lands : land_by (marked marks) (targets_of (instr_of p size w)) ≡ true → (n : ℕ) → n ≡ length (instr_text (instr_of p size w)) → Judging D s k (p + size) (from + n)
      unfolding astray_lines
      judging_lands h n q =
          let t : targets_land k (targets_of (instr_of p size w)) ≡ true = sym (all_same (marked marks) k are (targets_of (instr_of p size w))) ∙ h in
          let x = judging_next in
          let step : astray_lines k (instr_of p size w ∷ x.later) from ≡ astray_lines k x.later (from + length (instr_text (instr_of p size w))) = rw t in
          record {
            rest = x.later;
            coming = subst (λ (m : ℕ). Coming D s (p + size) (from + m) x.later) (sym q) x.coming;
            left =
                j.left ∙ (ap (λ (r : List Instr). astray_lines k r from) x.split
                ∙ (step ∙ ap (λ (m : ℕ). astray_lines k x.later (from + m)) (sym q)));
          }
