-- A kernel laid out anew, as bytes: they parse to the instructions that `relaid_by` lists, whatever form each word gets. Assumes nothing.
use Rattle.std.specs.Prelude.{true, false, ◌≡◌}
use mathlib.Core.List.{List, [], ◌∷◌, ◌++◌, map}
use Rattle.std.proofs.Math.Option.{Option, none, some}
use Rattle.std.proofs.Math.Path.{refl, ap}
use Rattle.std.proofs.Common.{sym, ◌∙◌, subst}
use Prim.Native.Nat.{ℕ, suc, ◌+◌, ◌*◌, ◌^◌, ◌<◌, ◌≤◌}
use native.Mathlib.Omega.{arith}
use Rattle.std.proofs.Math.Dec.{eqb}
use Rattle.std.proofs.Math.ListN.{length, length-append}
use Rattle.std.proofs.lemmas.List.{length-map}
use Rattle.paper.specs.Limits.{instruction_limit, last_place}
use Rattle.paper.specs.Dictionary.{Dictionary}
use Rattle.paper.specs.Expand.{is_short}
use Rattle.paper.specs.Shorten.{Shortens}
use Rattle.paper.specs.Operation.{Operation, plain, nop, branch, unlisted, operation, is_listed, is_branch}
use Rattle.paper.specs.Legal.{refusal_of}
use Rattle.paper.specs.Kernel.{Instr, Forms, takes_short, good, parse}
use Rattle.paper.specs.Packing.{Piece, Form, piece, new_size, start_of, rewritten, encode, lay_from, relay}
use Rattle.laws.specs.Expand.{expand-operation}
use Rattle.laws.specs.Names.{moved_to, moved, relaid_by, new_end, pieces_of}
use Rattle.laws.specs.Moved.{rewritten-operation, rewritten-plain, rewritten_fits, rewritten_below, end_near}
use Rattle.laws.specs.Kept.{refusal_kept}
use Rattle.laws.specs.Items.{Item, all_bytes, instrs_from, Legal, Formed, is_long, is_shortened, AllFormed, length-encode, parse_items}

-- A word as it stands in an accepted kernel: legal, of 128 bits, bit 29 clear.
pub record Sane (w : ℕ) : Type 0 where
  pub legal : Legal w
  pub fits : w < 2 ^ 128
  pub long : is_short w ≡ false

unfoldable pub AllSane : List Instr → Type 0
AllSane [] = Unit {0}
AllSane (i ∷ k) = Sane i.word × AllSane k

-- The forms that a word gets are right: a short word expands to it, and short words are taken.
abbrev pub Right : Forms → Dictionary → Form → Type 0
Right forms D form = (w s : ℕ) → w < 2 ^ 128 → form w ≡ some s → (takes_short forms ≡ true) × Shortens D w s

-- ---- the items of a layout

unfoldable pub items_from : List Instr → List Piece → ℕ → List Piece → List Item
items_from k ps a [] = []
items_from k ps a (p ∷ rest) = record { short = p.short; word = rewritten k ps a p } ∷ items_from k ps (a + new_size p) rest

abbrev pub items_of : Form → List Instr → List Item
items_of form k = items_from k (pieces_of form k) 0 (pieces_of form k)

module _ (k : List Instr) (ps : List Piece) where
  lay_items : (a : ℕ) (rest : List Piece) → lay_from k ps a rest ≡ all_bytes (items_from k ps a rest)
  unfolding lay_from items_from all_bytes
  lay_items a [] = refl
  lay_items a (p ∷ rest) = ap (λ (l : List ℕ). encode p.short (rewritten k ps a p) ++ l) (lay_items (a + new_size p) rest)

  moved_items : (a : ℕ) (rest : List Piece) → instrs_from a (items_from k ps a rest) ≡ moved k ps a rest
  unfolding moved items_from instrs_from
  moved_items a [] = refl
  moved_items a (p ∷ rest) = ap (λ (l : List Instr). moved_to k ps a p ∷ l) (moved_items (a + new_size p) rest)

  items_length : (a : ℕ) (rest : List Piece) → length (items_from k ps a rest) ≡ length rest
  unfolding items_from
  items_length a [] = refl
  items_length a (p ∷ rest) = ap suc (items_length (a + new_size p) rest)

  lay_length : (a : ℕ) (rest : List Piece) → 8 * a + length (lay_from k ps a rest) ≡ 8 * start_of a rest (length rest)
  unfolding lay_from start_of
  lay_length a [] = omega arith
  lay_length a (p ∷ rest) =
      let l : length (encode p.short (rewritten k ps a p)) ≡ 8 * new_size p = length-encode p.short (rewritten k ps a p) in
      let m = length-append (encode p.short (rewritten k ps a p)) (lay_from k ps (a + new_size p) rest) in
      let ih = lay_length (a + new_size p) rest in
      omega arith

-- The bytes of a layout are those of its items, and its instructions theirs.
pub relay_items : (form : Form) (k : List Instr) → relay form k ≡ all_bytes (items_of form k)
unfolding relay
relay_items form k = lay_items k (pieces_of form k) 0 (pieces_of form k)

pub relaid_items : (form : Form) (k : List Instr) → instrs_from 0 (items_of form k) ≡ relaid_by form k
relaid_items form k = moved_items k (pieces_of form k) 0 (pieces_of form k)

-- Eight bytes a place.
pub relay-length : (form : Form) (k : List Instr) → length (relay form k) ≡ 8 * new_end form k
unfolding relay
relay-length form k = let e = lay_length k (pieces_of form k) 0 (pieces_of form k) in omega arith

-- As many instructions as a kernel may have end at the largest place, at the latest.
pub new_end_near : (form : Form) (k : List Instr) → length k ≤ instruction_limit → new_end form k ≤ last_place
new_end_near form k few = omega (arith, end_near 0 (pieces_of form k), length-map k (piece form))

-- ---- legality is kept

module _ (k : List Instr) (ps : List Piece) (a : ℕ) (p : Piece) (sane : Sane p.instr.word) where
  w : ℕ
  w = p.instr.word

  v : ℕ
  v = rewritten k ps a p

  refusal_same : (o : Operation) → operation w ≡ o → refusal_of v ≡ refusal_of w
  unfolding w v
  refusal_same (branch b) e = refusal_kept v w (rewritten_below k ps a p) b e
  refusal_same (plain q) e = ap refusal_of (rewritten-plain k ps a p (ap is_branch e))
  refusal_same nop e = ap refusal_of (rewritten-plain k ps a p (ap is_branch e))
  refusal_same unlisted e = ap refusal_of (rewritten-plain k ps a p (ap is_branch e))

  sane_rewritten : Sane v
  unfolding w v
  sane_rewritten = record {
    legal = record {
      listed = ap is_listed (rewritten-operation k ps a p) ∙ sane.legal.listed;
      passes = refusal_same (operation w) refl ∙ sane.legal.passes;
    };
    fits = rewritten_fits k ps a p sane.fits;
    long = ap (λ (x : ℕ). eqb x 1) (rewritten_below k ps a p 29 1 (omega arith)) ∙ sane.long;
  }

-- What has a short word is no branch, so it is laid out as it is.
pub short_plain : (D : Dictionary) (w s : ℕ) → Shortens D w s → is_branch (operation w) ≡ false
short_plain D w s h = ap (λ (x : ℕ). is_branch (operation x)) (sym h.same) ∙ ap is_branch (expand-operation D s) ∙ h.plain

module _ (forms : Forms) (D : Dictionary) (form : Form) (right : Right forms D form) (k : List Instr) (ps : List Piece) where
  form_there : (a : ℕ) (i : Instr) → Sane i.word → (o : Option ℕ) → form i.word ≡ o
      → Formed forms D (rewritten k ps a (record { instr = i; short = o })) o
  unfolding v w
  form_there a i sane none e =
      let s = sane_rewritten k ps a (record { instr = i; short = none }) sane in is_long s.fits s.long
  form_there a i sane (some s) e =
      let r = right i.word s sane.fits e in
      let same = rewritten-plain k ps a (record { instr = i; short = some s }) (short_plain D i.word s r.1) in
      is_shortened r.0 (subst (λ (x : ℕ). Shortens D x s) (sym same) r.1)

  formed : (a : ℕ) (rest : List Instr) → AllSane rest → AllFormed forms D (items_from k ps a (map (piece form) rest))
  unfolding AllSane items_from AllFormed v w
  formed a [] sane = tt
  formed a (i ∷ rest) sane = (
    (sane_rewritten k ps a (piece form i) sane.0).legal,
    form_there a i sane.0 (form i.word) refl,
    formed (a + new_size (piece form i)) rest sane.1,
  )

-- The bytes parse, in the same dictionary, to the instructions laid out anew.
pub relay_parses : (forms : Forms) (D : Dictionary) (form : Form) → Right forms D form → (k : List Instr) → AllSane k → length k ≤ instruction_limit
    → parse forms D (relay form k) ≡ good (relaid_by form k)
relay_parses forms D form right k sane few =
    parse_items forms D (expand-operation D) (relay form k) (items_of form k)
    (let l = items_length k (pieces_of form k) 0 (pieces_of form k) in omega (arith, length-map k (piece form)))
    (relay_items form k) (formed forms D form right k (pieces_of form k) 0 k sane)
    ∙ ap good (relaid_items form k)
