-- Whole texts: a listing of instructions that can be read is read as these, and a text that is read is their listing; the byte that 30 tells. Assumes nothing.
use Rattle.std.specs.Prelude.{Bool, ◌≡◌, drop}
use Rattle.std.proofs.Math.Bool.{true, false, cond}
use mathlib.Core.List.{List, [], ◌∷◌, ◌++◌}
use Rattle.std.proofs.Math.Option.{Option, none, some}
use Rattle.std.proofs.Math.Path.{refl, ap, subst}
use Rattle.std.proofs.Common.{sym, ◌∙◌, length-append, length-drop, ltb-false, lt-ltb, le-ltb}
use Prim.Native.Nat.{ℕ, zero, suc, ◌+◌, ◌*◌, ◌<◌, ◌≤◌}
use native.Mathlib.Omega.{arith}
use Rattle.std.proofs.Math.Dec.{ltb}
use Rattle.std.proofs.Math.ListN.{length, drop_of_length-le}
use Rattle.paper.specs.Dictionary.{Dictionary}
use Rattle.paper.specs.Kernel.{Instr}
use Rattle.paper.specs.Jump.{next_of}
use Rattle.paper.specs.Listing.{instr_text, listing, taken, instr_at, Listing, faulty, listed, follow, lined, lines_from}
use Rattle.laws.specs.Names.{Laid}
use Rattle.text.specs.Reading.{after_text}
use Rattle.listing.specs.Lines.{Shaped, ReadAt, instr_only, instr_there, lines_length, lines_most}

-- Instructions that can be listed and read again: each has the shape of one, and can be taken.
unfoldable pub Readable : Dictionary → List Instr → Type 0
Readable D [] = Unit {0}
Readable D (i ∷ k) = Shaped i × (taken D i ≡ true) × Readable D k

-- A fault is no list of instructions.
pub clash {ℓ} : {A : Type ℓ} (from : ℕ) (k : List Instr) → faulty from ≡ listed k → A
clash from k e = let z : ◌≡◌ {A = ℕ} 0 1 = cc in absurd (omega arith)

pub same_list : (k l : List Instr) → listed k ≡ listed l → k ≡ l
same_list k l e = cc

pub same_fault : (a b : ℕ) → faulty a ≡ faulty b → a ≡ b
same_fault a b e = cc

-- ---- what was listed is read

nothing_left : (s : List ℕ) (from : ℕ) → drop from s ≡ [] → length s ≤ from
nothing_left s from e = omega (arith, length-drop from s, ap length e)

something_left : (s : List ℕ) (from : ℕ) (i : Instr) (rest : List ℕ) → drop from s ≡ instr_text i ++ rest → from < length s
something_left s from i rest e =
    omega (arith, length-drop from s, ap length e, length-append (instr_text i) rest, lines_length i)

module _ (D : Dictionary) (s : List ℕ) where
  pub lines_there : (n : ℕ) (k : List Instr) (p from : ℕ) → length k ≤ n → Laid p k → Readable D k → drop from s ≡ listing k
      → lines_from D s n p from ≡ listed k
  unfolding lines_from listing Laid Readable
  lines_there zero [] p from few laid able e = rw (le-ltb from (length s) (nothing_left s from e))
  lines_there zero (i ∷ k) p from few laid able e = absurd (omega arith)
  lines_there (suc n) [] p from few laid able e = rw (le-ltb from (length s) (nothing_left s from e))
  lines_there (suc n) (i ∷ k) p from few laid able e =
      let lt = something_left s from i (listing k) e in
      let r : instr_at D s p from ≡ some i =
      ap (λ (x : ℕ). instr_at D s x from) (sym laid.0) ∙ instr_there D s (listing k) from i able.0 able.1 e in
      let ih = lines_there n k (next_of i) (from + length (instr_text i)) (omega arith) laid.2 able.2 (after_text s (instr_text i) (listing k) from e) in
      rw (lt-ltb from (length s) lt, r, ih)

  -- ---- what is read was listed

  -- What is known of instructions that were read.
  pub record ReadFrom (n p from : ℕ) (k : List Instr) : Type 0 where
    pub few : length k ≤ n
    pub laid : Laid p k
    pub able : Readable D k
    pub text : drop from s ≡ listing k

  none_read : (n p from : ℕ) (k : List Instr) → length s ≤ from → listed [] ≡ listed k → ReadFrom n p from k
  unfolding listing Laid Readable
  none_read n p from k h e =
      subst (λ (k : List Instr). ReadFrom n p from k) (same_list [] k e)
      (record { few = omega arith; laid = tt; able = tt; text = drop_of_length-le s h })

  pub size_some : (i : Instr) → Shaped i → 0 < i.size
  size_some i h = rw h.size (go h.is_short)
    where
      go : (b : Bool) → 0 < cond b 1 2
      go true = omega arith
      go false = omega arith

  one_read : (n p from : ℕ) (i : Instr) (k : List Instr) → ReadAt D s p from i → ReadFrom n (next_of i) (from + length (instr_text i)) k
      → ReadFrom (suc n) p from (i ∷ k)
  unfolding listing Laid Readable
  one_read n p from i k r h =
      record {
        few = omega (arith, h.few);
        laid = (r.place, size_some i r.shaped, h.laid);
        able = (r.shaped, r.takes, h.able);
        text = r.there ∙ ap (λ (l : List ℕ). instr_text i ++ l) h.text;
      }

  follow-listed : (i : Instr) (q : Listing) (k : List Instr) → follow i q ≡ listed k → (r : List Instr) × (q ≡ listed r) × (i ∷ r ≡ k)
  follow-listed i (faulty from) k e = clash from k e
  follow-listed i (listed r) k e = (r, refl, same_list (i ∷ r) k e)

  pub lines_only : (n p from : ℕ) (k : List Instr) → lines_from D s n p from ≡ listed k → ReadFrom n p from k
  unfolding lines_from
  lines_only zero p from k e = go (ltb from (length s)) refl e
    where
      go : (t : Bool) → ltb from (length s) ≡ t → cond t (faulty from) (listed []) ≡ listed k → ReadFrom zero p from k
      go true h e = clash from k e
      go false h e = none_read zero p from k (ltb-false from (length s) h) e
  lines_only (suc n) p from k e = go (ltb from (length s)) refl (instr_at D s p from) refl (λ q m. lines_only n q m) e
    where
      go : (t : Bool) → ltb from (length s) ≡ t → (o : Option Instr) → instr_at D s p from ≡ o
          → ((q m : ℕ) (r : List Instr) → lines_from D s n q m ≡ listed r → ReadFrom n q m r)
          → cond t (lined from o (lines_from D s n)) (listed []) ≡ listed k → ReadFrom (suc n) p from k
      go false h o j ih e = none_read (suc n) p from k (ltb-false from (length s) h) e
      go true h none j ih e = clash from k e
      go true h (some i) j ih e =
          let q = follow-listed i (lines_from D s n (next_of i) (from + length (instr_text i))) k e in
          subst (λ (k : List Instr). ReadFrom (suc n) p from k) q.2
          (one_read n p from i q.0 (instr_only D s p from i j) (ih (next_of i) (from + length (instr_text i)) q.0 q.1))

  -- ---- the byte of a fault

  pub follow-faulty : (i : Instr) (q : Listing) (from : ℕ) → follow i q ≡ faulty from → q ≡ faulty from
  follow-faulty i (faulty m) from e = e
  follow-faulty i (listed k) from e = clash from (i ∷ k) (sym e)

  pub size_most : (i : Instr) → Shaped i → i.size ≤ 2
  size_most i h = rw h.size (go h.is_short)
    where
      go : (b : Bool) → cond b 1 2 ≤ 2
      go true = omega arith
      go false = omega arith

  -- It lies at most 70 bytes an instruction after the first line.
  pub fault_near : (n p from at : ℕ) → p + 2 * n < 10002 → lines_from D s n p from ≡ faulty at → at ≤ from + 70 * n
  unfolding lines_from
  fault_near zero p from at h e = go (ltb from (length s)) e
    where
      go : (t : Bool) → cond t (faulty from) (listed []) ≡ faulty at → at ≤ from + 70 * 0
      go true e = let q = same_fault from at e in omega arith
      go false e = clash at [] (sym e)
  fault_near (suc n) p from at h e = go (ltb from (length s)) (instr_at D s p from) refl (λ q m. fault_near n q m at) e
    where
      go : (t : Bool) → (o : Option Instr) → instr_at D s p from ≡ o
          → ((q m : ℕ) → q + 2 * n < 10002 → lines_from D s n q m ≡ faulty at → at ≤ m + 70 * n)
          → cond t (lined from o (lines_from D s n)) (listed []) ≡ faulty at → at ≤ from + 70 * suc n
      go false o j ih e = clash at [] (sym e)
      go true none j ih e = let q = same_fault from at e in omega arith
      go true (some i) j ih e =
          let r = instr_only D s p from i j in
          let m = from + length (instr_text i) in
          let size = size_most i r.shaped in
          let here : i.place ≡ p = r.place in
          let long : length (instr_text i) ≤ 70 = lines_most i (omega arith) in
          let q : at ≤ m + 70 * n = ih (next_of i) m (omega arith) (follow-faulty i (lines_from D s n (next_of i) m) at e) in
          omega arith
