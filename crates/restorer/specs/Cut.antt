-- A text that is longer than a listing can be: what follows its first 286,721 bytes changes nothing that is read of it. Assumes nothing.
use Rattle.std.specs.Prelude.{List, ◌++◌, ◌≡◌, take, drop}
use Rattle.std.proofs.Common.{append_assoc, sym, ◌∙◌, subst, length-take, length-drop, take-append-drop}
use Rattle.std.proofs.Math.Option.{Option, none, some}
use Rattle.std.proofs.Math.Path.{refl, ap}
use Prim.Native.Nat.{ℕ, zero, suc, ◌+◌, ◌*◌, ◌<◌, ◌≤◌}
use native.Mathlib.Omega.{arith}
use Rattle.std.proofs.Math.ListN.{length, length-append}
use Rattle.std.proofs.Math.Seq.{take-append_seam}
use Rattle.std.proofs.lemmas.List.{take-append-le, drop-append-le}
use borrow.Author.Tests.{lt-ltb}
use Rattle.paper.specs.Limits.{instruction_limit}
use Rattle.paper.specs.Dictionary.{Dictionary, dictionary_of}
use Rattle.paper.specs.Kernel.{Instr}
use Rattle.paper.specs.Jump.{next_of}
use Rattle.paper.specs.Listing.{instr_text, instr_at, follow, lined, lines_from, with_targets, read_listing, read_call}
use Rattle.listing.specs.Lines.{instr_only, instr_there, lines_most}
use Rattle.listing.specs.Texts.{size_most}

-- The most bytes that a listing can have: 70 for each instruction.
abbrev pub most_text : ℕ
most_text = 286720

module _ (D : Dictionary) (s t : List ℕ) where
  -- Lines that stand in a text stand in a longer one,
  some_longer : (p from : ℕ) (i : Instr) → from ≤ length s → instr_at D s p from ≡ some i → instr_at D (s ++ t) p from ≡ some i
  some_longer p from i h e =
      let r = instr_only D s p from i e in
      let rest = drop (from + length (instr_text i)) s in
      let there : drop from (s ++ t) ≡ instr_text i ++ (rest ++ t) = drop-append-le from s t h ∙ (ap (λ (l : List ℕ). l ++ t) r.there ∙ append_assoc (instr_text i) rest t) in
      subst (λ (x : ℕ). instr_at D (s ++ t) x from ≡ some i) r.place (instr_there D (s ++ t) (rest ++ t) from i r.shaped r.takes there)

  -- and the other way round where 70 bytes are there.
  some_shorter : (p from : ℕ) (i : Instr) → p < 10000 → from + 70 ≤ length s → instr_at D (s ++ t) p from ≡ some i → instr_at D s p from ≡ some i
  some_shorter p from i q h e =
      let r = instr_only D (s ++ t) p from i e in
      let here : i.place ≡ p = r.place in
      let n : ℕ = length (instr_text i) in
      let most : n ≤ 70 = lines_most i (omega arith) in
      let room : n ≤ length (drop from s) = omega (arith, length-drop from s) in
      let inside : from ≤ length s = omega arith in
      let both : drop from s ++ t ≡ instr_text i ++ drop (from + n) (s ++ t) = sym (drop-append-le from s t inside) ∙ r.there in
      let first : take n (drop from s) ≡ instr_text i = sym (take-append-le n (drop from s) t room) ∙ (ap (take n) both ∙ take-append_seam (instr_text i) (drop (from + n) (s ++ t))) in
      let there : drop from s ≡ instr_text i ++ drop n (drop from s) = sym (take-append-drop n (drop from s)) ∙ ap (λ (l : List ℕ). l ++ drop n (drop from s)) first in
      subst (λ (x : ℕ). instr_at D s x from ≡ some i) r.place (instr_there D s (drop n (drop from s)) from i r.shaped r.takes there)

  instr_longer : (p from : ℕ) → p < 10000 → from + 70 ≤ length s → instr_at D (s ++ t) p from ≡ instr_at D s p from
  instr_longer p from q h = go (instr_at D s p from) refl (instr_at D (s ++ t) p from) refl
    where
      go : (o : Option Instr) → instr_at D s p from ≡ o → (l : Option Instr) → instr_at D (s ++ t) p from ≡ l → instr_at D (s ++ t) p from ≡ instr_at D s p from
      go (some i) e l k = some_longer p from i (omega arith) e ∙ sym e
      go none e none k = k ∙ sym e
      go none e (some i) k = k ∙ sym (some_shorter p from i q h k)

  -- So with the lines of as many instructions as there may be.
  lines_longer : (n p from : ℕ) → p + 2 * n < 10001 → from + 70 * n < length s → lines_from D (s ++ t) n p from ≡ lines_from D s n p from
  unfolding lines_from
  lines_longer zero p from q h =
      let a : from < length (s ++ t) = omega (arith, length-append s t) in
      let b : from < length s = omega arith in
      rw (lt-ltb from (length (s ++ t)) a, lt-ltb from (length s) b)
  lines_longer (suc n) p from q h =
      let a : from < length (s ++ t) = omega (arith, length-append s t) in
      let b : from < length s = omega arith in
      let near : p < 10000 = omega arith in
      let room : from + 70 ≤ length s = omega arith in
      rw (lt-ltb from (length (s ++ t)) a, lt-ltb from (length s) b, instr_longer p from near room) (go (lines_longer n) (instr_at D s p from) refl)
    where
      go : ((p from : ℕ) → p + 2 * n < 10001 → from + 70 * n < length s → lines_from D (s ++ t) n p from ≡ lines_from D s n p from)
          → (o : Option Instr) → instr_at D s p from ≡ o → lined from o (lines_from D (s ++ t) n) ≡ lined from o (lines_from D s n)
      go ih none e = refl
      go ih (some i) e =
          let r = instr_only D s p from i e in
          let here : i.place ≡ p = r.place in
          let size = size_most D s i r.shaped in
          let most : length (instr_text i) ≤ 70 = lines_most i (omega arith) in
          ap (follow i) (ih (next_of i) (from + length (instr_text i)) (omega arith) (omega arith))

  text_longer : most_text < length s → read_listing D (s ++ t) ≡ read_listing D s
  unfolding read_listing
  text_longer h = ap with_targets (lines_longer instruction_limit 0 0 (omega arith) (omega arith))

-- So the program, which reads one byte more than a listing can have, has the answer that the whole input calls for.
pub read_cut : (dictionary text out : List ℕ) → most_text < length text → read_call dictionary text out ≡ read_call dictionary (take (most_text + 1) text) out
unfolding read_call
read_cut dictionary text out h =
    let D = dictionary_of dictionary in
    let start = take (most_text + 1) text in
    let rest = drop (most_text + 1) text in
    let most : most_text + 1 ≤ length text = omega arith in
    let still : most_text < length start = simp length-take (omega arith) in
    let e : read_listing D text ≡ read_listing D start = ap (read_listing D) (sym (take-append-drop (most_text + 1) text)) ∙ text_longer D start rest still in
    rw e refl
