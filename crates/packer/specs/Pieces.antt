-- Pieces one after the other: where the next one starts, and the bytes of the first of them. Assumes nothing.
use mathlib.Core.List.{List, [], ◌∷◌, ◌++◌, append_assoc, append-nil}
use Rattle.std.proofs.Math.Option.{some, none-ne-some, some-injective}
use Rattle.std.specs.Prelude.{◌≡◌, take}
use Rattle.std.proofs.Math.Path.{sym, ap}
use Rattle.std.proofs.Common.{◌∙◌}
use Prim.Native.Nat.{ℕ, zero, suc, ◌+◌, ◌*◌}
use native.Mathlib.Omega.{arith}
use Rattle.std.proofs.Math.ListN.{length, get_elem?, length-append}
use Rattle.paper.specs.Kernel.{Instr}
use Rattle.paper.specs.Packing.{Piece, new_size, start_of, rewritten, encode, lay_from}
use Rattle.laws.specs.Items.{length-encode}

-- The piece after piece j starts where piece j ends.
pub start_next : (a : ℕ) (ps : List Piece) (j : ℕ) (p : Piece) → get_elem? ps j ≡ some p → start_of a ps (suc j) ≡ start_of a ps j + new_size p
unfolding start_of
start_next a [] j p e = absurd (none-ne-some p e)
start_next a (q ∷ ps) zero p e = ap (λ (x : Piece). a + new_size x) (some-injective q p e)
start_next a (q ∷ ps) (suc j) p e = start_next (a + new_size q) ps j p e

module _ (k : List Instr) (ps : List Piece) where
  -- The first j pieces have eight bytes a place.
  pub lay_length : (a : ℕ) (rest : List Piece) (j : ℕ) → 8 * a + length (lay_from k ps a (take j rest)) ≡ 8 * start_of a rest j
  unfolding lay_from start_of
  lay_length a [] zero = omega arith
  lay_length a [] (suc j) = omega arith
  lay_length a (p ∷ rest) zero = omega arith
  lay_length a (p ∷ rest) (suc j) =
      let l : length (encode p.short (rewritten k ps a p)) ≡ 8 * new_size p = length-encode p.short (rewritten k ps a p) in
      let m = length-append (encode p.short (rewritten k ps a p)) (lay_from k ps (a + new_size p) (take j rest)) in
      let ih = lay_length (a + new_size p) rest j in
      omega arith

  -- Piece j's bytes come next.
  pub lay_next : (a : ℕ) (rest : List Piece) (j : ℕ) (p : Piece) → get_elem? rest j ≡ some p
      → lay_from k ps a (take (suc j) rest) ≡ lay_from k ps a (take j rest) ++ encode p.short (rewritten k ps (start_of a rest j) p)
  unfolding lay_from start_of
  lay_next a [] j p e = absurd (none-ne-some p e)
  lay_next a (q ∷ rest) zero p e =
      append-nil (encode q.short (rewritten k ps a q))
      ∙ ap (λ (x : Piece). encode x.short (rewritten k ps a x)) (some-injective q p e)
  lay_next a (q ∷ rest) (suc j) p e =
      ap (λ (l : List ℕ). encode q.short (rewritten k ps a q) ++ l) (lay_next (a + new_size q) rest j p e)
      ∙ sym (append_assoc (encode q.short (rewritten k ps a q)) (lay_from k ps (a + new_size q) (take j rest)) (encode p.short (rewritten k ps (start_of (a + new_size q) rest j) p)))
