-- The forms of a kernel's instructions, kept by number from one pass to the next. Assumes nothing.
use Rattle.std.specs.Prelude as std
use Rattle.std.specs.Prelude.{Some, None, unwrap_or, Bool, true, false, List, [], ◌∷◌, ◌≡◌, refl, ℕ, zero, suc, ◌+◌, ◌*◌, ◌/◌, ◌^◌, ◌<◌, ◌≤◌, eqb, length, get_or, set}
use Rattle.std.proofs.Math.Option.{none, some, some-injective}
use Rattle.std.proofs.Common.{sym, ap, ◌∙◌, arith, add-one, get_or-set_same, get_or-set_other, eqb-true}
use Rattle.std.proofs.Math.ListN.{get_elem?}
use Rattle.std.proofs.lemmas.Bool.{eqb-false}
use Rattle.paper.specs.Limits.{instruction_limit}
use Rattle.paper.specs.Dictionary.{Dictionary, dictionary_of}
use Rattle.paper.specs.Enable.{digit}
use Rattle.paper.specs.Expand.{is_short}
use Rattle.paper.specs.Shorten.{shorten}
use Rattle.paper.specs.Kernel.{Instr, Forms}
use Rattle.paper.specs.Packing.{index, Form, Piece, piece}
use Rattle.laws.specs.Names.{pieces_of}
use Rattle.laws.specs.Places.{start_zero, index_le}
use Rattle.laws.specs.Shorten.{shorten-some}
use Rattle.short.specs.Shorter.{shorter_is}
use Rattle.kernel.specs.Standing.{Fetches}
use Rattle.kernel.specs.Jumps.{instr_of}
use Rattle.kernel.specs.Accepting.{AcceptedKernel}
use Rattle.packer.specs.Forms.{form_of, recalled, recalled-some}
use Rattle.packer.specs.Stages.{Stage, stage_piece, stage_end, next_index}

-- The forms of the first n instructions are kept.
abbrev pub Kept : Form → List Instr → List ℕ → ℕ → Type 0
Kept form k shorts n = (j : ℕ) (p : Piece) → j < n → get_elem? (pieces_of form k) j ≡ some p → recalled (get_or shorts j 0) ≡ p.short

-- Those of all instructions.
abbrev pub AllKept : Form → List Instr → List ℕ → Type 0
AllKept form k shorts = Kept form k shorts (length k)

-- ---- a short word is not 0, so 0 can stand for none

module _ (packs : Bool) (on : packs ≡ true) (D : Dictionary) (w : ℕ) where
  -- A short form is kept as its word,
  pub form_short : (s : ℕ) → w < 2 ^ 128 → some s ≡ shorten D w → recalled s ≡ form_of packs D w
  form_short s h e =
      let marked : is_short s ≡ true = (shorten-some D w s h (sym e)).is.marked in
      let some_bit : s ≡ 0 → ⊥ = λ z. (let clear : ◌≡◌ {A = ℕ} 0 1 = ap digit (sym (ap is_short z) ∙ marked) in omega arith) in
      rw on (recalled-some s some_bit ∙ e)

  -- and none as 0.
  pub form_none : none ≡ shorten D w → recalled 0 ≡ form_of packs D w
  form_none e = rw on e

  -- What the code answers, or 0 in its place.
  pub form_kept : (o : std.Option ℕ) → w < 2 ^ 128 → shorter_is o ≡ shorten D w → recalled (unwrap_or o 0) ≡ form_of packs D w
  form_kept (Some s) h e = form_short s h e
  form_kept None h e = form_none e

-- ---- a pass

-- The first instruction has number 0.
pub number_start : (forms : Forms) (dictionary kernel : List ℕ) (k : List Instr) → AcceptedKernel forms dictionary kernel k → 0 ≡ index k (0 / 8)
number_start forms dictionary kernel k h = sym (start_zero 0 k h.sound.laid)

module _ (forms : Forms) (dictionary kernel : List ℕ) (k : List Instr) (h : AcceptedKernel forms dictionary kernel k) (form : Form) where
  -- Before the first instruction nothing is kept.
  pub kept_start : (shorts : List ℕ) → Kept form k shorts 0
  kept_start shorts j p l e = absurd (omega arith)

  module _ (from to n : ℕ) (s : Stage form k from to) (number : n ≡ index k (from / 8)) where
    -- At the end all are kept.
    pub kept_end : length kernel ≤ from → (shorts : List ℕ) → Kept form k shorts n → AllKept form k shorts
    kept_end over shorts kept = rw (number, stage_end forms dictionary kernel k h form from to s over) at kept

    module _ (inside : from < length kernel) (size w : ℕ) (f : Fetches (dictionary_of dictionary) kernel from size w) where
      pub number_next : n + 1 ≡ index k ((from + 8 * size) / 8)
      number_next = add-one n ∙ ap suc number ∙ sym (next_index forms dictionary kernel k h form from to s inside size w f)

      pub number_few : n < length k
      number_few = omega (arith, number_next, index_le k ((from + 8 * size) / 8))

      pub number_low : n < instruction_limit
      number_low = omega (arith, number_few, h.few)

      here_is : get_elem? (pieces_of form k) n ≡ some (piece form (instr_of (from / 8) size w))
      here_is = rw number (stage_piece forms dictionary kernel k h form from to s inside size w f)

      -- The form that was kept is recalled.
      pub kept_here : (shorts : List ℕ) → AllKept form k shorts → recalled (get_or shorts n 0) ≡ form w
      kept_here shorts kept = kept n (piece form (instr_of (from / 8) size w)) number_few here_is

      -- One form more is kept.
      pub kept_next : (shorts : List ℕ) (short : ℕ) → length shorts ≡ instruction_limit → Kept form k shorts n → recalled short ≡ form w
          → Kept form k (set shorts n short) (n + 1)
      kept_next shorts short long kept e j p l at = go (eqb j n) refl
        where
          go : (b : Bool) → eqb j n ≡ b → recalled (get_or (set shorts n short) j 0) ≡ p.short
          go true t =
              let same : j ≡ n = eqb-true j n t in
              let q : piece form (instr_of (from / 8) size w) ≡ p = some-injective _ p (sym here_is ∙ (rw same at at)) in
              rw (same, get_or-set_same shorts n short 0 (omega (arith, number_low))) (e ∙ ap (λ (x : Piece). x.short) q)
          go false t =
              let apart : j ≡ n → ⊥ = eqb-false j n t in
              rw (get_or-set_other shorts n j short 0 apart) (kept j p (omega arith) at)
