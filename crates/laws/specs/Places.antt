-- Which instruction a place names: the numbers keep apart the places of a sound kernel. Assumes nothing.
use Rattle.std.specs.Prelude.{◌≡◌, refl, Bool, true, false, List, [], ◌∷◌, map, ℕ, suc, ◌<◌, ◌≤◌, eqb, ℤ, pos, negsuc, length}
use Rattle.std.proofs.Common.{ap, sym, ◌∙◌, subst, arith, eqb-true, eq-eqb, ne_eqb}
use Rattle.std.proofs.lemmas.Bool.{false≢true, eqb-false}
use Rattle.std.proofs.Math.Option
use Rattle.std.proofs.Math.Option.{Option, none, some, none-ne-some, some-ne-none, some-injective}
use Rattle.std.proofs.Math.ListN.{get_elem?}
use Rattle.paper.specs.Kernel.{Instr}
use Rattle.paper.specs.Jump.{next_of, fetch, end_from, lands, jump_lands, targets_land, targets_of, place_of}
use Rattle.paper.specs.Packing.{index}
use Rattle.laws.specs.Names.{Laid, AllLand}
use Rattle.laws.specs.Rename.{AtPlaces}
use Rattle.laws.specs.Truth.{both_true}

-- The clauses of `fetch` and `index` at a place that the first instruction has, and has not.
pub fetch-here : (i : Instr) (k : List Instr) (p : ℕ) → i.place ≡ p → fetch (i ∷ k) p ≡ some i
unfolding fetch
fetch-here i k p e = rw (eq-eqb i.place p e)

pub fetch-there : (i : Instr) (k : List Instr) (p : ℕ) → (i.place ≡ p → ⊥) → fetch (i ∷ k) p ≡ fetch k p
unfolding fetch
fetch-there i k p e = rw (ne_eqb i.place p e)

pub index-here : (i : Instr) (k : List Instr) (p : ℕ) → i.place ≡ p → index (i ∷ k) p ≡ 0
unfolding index
index-here i k p e = rw (eq-eqb i.place p e, index)

pub index-there : (i : Instr) (k : List Instr) (p : ℕ) → (i.place ≡ p → ⊥) → index (i ∷ k) p ≡ suc (index k p)
unfolding index
index-there i k p e = rw (ne_eqb i.place p e, index)

-- Place p is instruction i's, or not.
pub data At (i : Instr) (p : ℕ) : Type 0 where
  here : i.place ≡ p → At i p
  there : (i.place ≡ p → ⊥) → At i p

-- One of the two holds.
pub at : (i : Instr) (p : ℕ) → At i p
at i p = go (eqb i.place p) refl
  where
    go : (b : Bool) → eqb i.place p ≡ b → At i p
    go true e = here (eqb-true i.place p e)
    go false e = there (eqb-false i.place p e)

-- No number lies past the end's.
pub index_le : (k : List Instr) (p : ℕ) → index k p ≤ length k
unfolding index
index_le [] p = omega arith
index_le (i ∷ k) p =
    elim (at i p) [
      | here e ↦ omega (arith, index-here i k p e)
      | there e ↦ omega (arith, index-there i k p e, index_le k p)
    ]

-- Two places at which instructions start are equal where their numbers are.
index_eq : (k : List Instr) (p q : ℕ) → index k p ≡ index k q → index k p < length k → p ≡ q
unfolding index
index_eq [] p q e h = absurd (omega arith)
index_eq (i ∷ k) p q e h =
    elim (at i p) [
      | here a ↦ elim (at i q) [ here b ↦ omega arith | there b ↦ absurd (omega (arith, index-here i k p a, index-there i k q b)) ]
      | there a ↦
          elim (at i q) [
            | here b ↦ absurd (omega (arith, index-there i k p a, index-here i k q b))
            | there b ↦ index_eq k p q (omega (arith, index-there i k p a, index-there i k q b)) (omega (arith, index-there i k p a))
          ]
    ]

-- Place p names an instruction or the end.
pub record Names (k : List Instr) (p : ℕ) : Type 0 where
  pub last : index k p ≡ length k → p ≡ end_from 0 k

-- Two places that name one instruction, or the end, are one place.
index_inj : (k : List Instr) (p q : ℕ) → Names k p → Names k q → index k p ≡ index k q → p ≡ q
index_inj k p q n m e = go (eqb (index k p) (length k)) refl
  where
    go : (b : Bool) → eqb (index k p) (length k) ≡ b → p ≡ q
    go true t = let x = eqb-true (index k p) (length k) t in n.last x ∙ sym (m.last (sym e ∙ x))
    go false f = index_eq k p q e (omega (arith, index_le k p, eqb-false (index k p) (length k) f))

-- So the numbers keep apart the places that name something.
pub apart : (k : List Instr) (p q : ℕ) → Names k p → Names k q → eqb (index k p) (index k q) ≡ eqb p q
apart k p q n m = go (eqb p q) refl
  where
    go : (b : Bool) → eqb p q ≡ b → eqb (index k p) (index k q) ≡ b
    go true t = eq-eqb (index k p) (index k q) (ap (index k) (eqb-true p q t))
    go false f = ne_eqb (index k p) (index k q) (λ e. eqb-false p q f (index_inj k p q n m e))

-- An instruction is found by its place as it is found by its number.
pub fetch-index {ℓ} : {B : Type ℓ} (f : Instr → B) (k : List Instr) (p : ℕ) → get_elem? (map f k) (index k p) ≡ Option.map f (fetch k p)
unfolding fetch index
fetch-index f [] p = refl
fetch-index f (i ∷ k) p =
    elim (at i p) [
      | here e ↦ rw (index-here i k p e, fetch-here i k p e)
      | there e ↦ rw (index-there i k p e, fetch-there i k p e) (fetch-index f k p)
    ]

-- The place from which a kernel is laid has number 0.
pub start_zero : (a : ℕ) (k : List Instr) → Laid a k → index k a ≡ 0
unfolding index Laid
start_zero a [] l = refl
start_zero a (i ∷ k) l = index-here i k a l.0

-- What is known of the instruction i that starts at place p of a kernel laid from a.
pub record Found (a : ℕ) (k : List Instr) (p : ℕ) (i : Instr) : Type 0 where
  pub starts : i.place ≡ p
  pub low : a ≤ p
  pub inside : index k p < length k
  pub next : index k (next_of i) ≡ suc (index k p)
  pub last : index k (next_of i) ≡ length k → next_of i ≡ end_from a k

-- A kernel of no instruction ends where it begins.
last-here : (a : ℕ) (k : List Instr) → length k ≡ 0 → a ≡ end_from a k
unfolding end_from
last-here a [] e = refl
last-here a (i ∷ k) e = absurd (omega arith)

-- What is known of the first instruction.
found_here : (a : ℕ) (j : Instr) (k : List Instr) (p : ℕ) → Laid a (j ∷ k) → j.place ≡ p → Found a (j ∷ k) p j
unfolding Laid end_from
found_here a j k p l e =
    let z = index-here j k p e in
    let n = index-there j k (next_of j) (λ h. omega (arith, l.1)) in
    let s = start_zero (next_of j) k l.2 in
    record {
      starts = e;
      low = omega (arith, l.0);
      inside = omega arith;
      next = omega arith;
      last = λ h. last-here (next_of j) k (omega arith);
    }

-- What is known of a later one.
found_there : (a : ℕ) (j : Instr) (k : List Instr) (p : ℕ) (i : Instr) → Laid a (j ∷ k) → (j.place ≡ p → ⊥) → Found (next_of j) k p i
    → Found a (j ∷ k) p i
unfolding Laid end_from
found_there a j k p i l e f =
    let z = index-there j k p e in
    let n = index-there j k (next_of i) (λ h. omega (arith, l.1, f.starts, f.low)) in
    record {
      starts = f.starts;
      low = omega (arith, l.0, l.1, f.low);
      inside = omega (arith, f.inside);
      next = omega (arith, f.next);
      last = λ h. f.last (omega arith);
    }

-- What is known of whatever instruction starts at p.
pub found : (a : ℕ) (k : List Instr) (p : ℕ) (i : Instr) → Laid a k → fetch k p ≡ some i → Found a k p i
unfolding Laid fetch
found a [] p i l e = absurd (none-ne-some i e)
found a (j ∷ k) p i l e =
    elim (at j p) [
      | here h ↦ subst (λ x. Found a (j ∷ k) p x) (some-injective j i (sym (fetch-here j k p h) ∙ e)) (found_here a j k p l h)
      | there h ↦ found_there a j k p i l h (found (next_of j) k p i l.2 (sym (fetch-there j k p h) ∙ e))
    ]

-- Where no instruction starts, the number is the end's.
pub none-length : (k : List Instr) (p : ℕ) → fetch k p ≡ none → index k p ≡ length k
unfolding fetch index
none-length [] p e = refl
none-length (i ∷ k) p e =
    elim (at i p) [
      | here h ↦ absurd (some-ne-none i (sym (fetch-here i k p h) ∙ e))
      | there h ↦ index-there i k p h ∙ ap suc (none-length k p (sym (fetch-there i k p h) ∙ e))
    ]

-- A place that lands names an instruction or the end.
pub lands_names : (k : List Instr) → Laid 0 k → (p : ℕ) → lands k p ≡ true → Names k p
unfolding lands
lands_names k l p e = go (fetch k p) refl
  where
    go : (o : Option Instr) → fetch k p ≡ o → Names k p
    go none h = record { last = λ _. eqb-true p (end_from 0 k) (rw h at e) }
    go (some i) h = record { last = λ x. absurd (omega (arith, (found 0 k p i l h).inside)) }

-- So does the place after an instruction.
pub next_names : (k : List Instr) (p : ℕ) (i : Instr) → Found 0 k p i → Names k (next_of i)
next_names k p i f = record { last = f.last }

-- What Q of some instructions says of each, P, it says of the one that starts at a place.
pub of_fetched : (Q : List Instr → Type 0) (P : Instr → Type 0) → ((j : Instr) (r : List Instr) → Q (j ∷ r) → P j × Q r)
    → (r : List Instr) (p : ℕ) (i : Instr) → Q r → fetch r p ≡ some i → P i
unfolding fetch
of_fetched Q P each [] p i q e = absurd (none-ne-some i e)
of_fetched Q P each (j ∷ r) p i q e =
    elim (at j p) [
      | here h ↦ subst P (some-injective j i (sym (fetch-here j r p h) ∙ e)) (each j r q).0
      | there h ↦ of_fetched Q P each r p i (each j r q).1 (sym (fetch-there j r p h) ∙ e)
    ]

-- Each instruction that starts at some place has targets that land, if all have.
pub jump_lands_lem : (k r : List Instr) (p : ℕ) (i : Instr) → AllLand k r → fetch r p ≡ some i → targets_land k (targets_of i) ≡ true
unfolding AllLand
jump_lands_lem k = of_fetched (AllLand k) (λ i. targets_land k (targets_of i) ≡ true) (λ j r l. l)

-- A kernel ends no earlier than it begins.
pub end_after : (a : ℕ) (k : List Instr) → Laid a k → a ≤ end_from a k
unfolding Laid end_from
end_after a [] l = omega arith
end_after a (i ∷ k) l = omega (arith, l.0, l.1, end_after (next_of i) k l.2)

-- Place 0 is the first instruction's, or the end of a kernel of none.
pub zero_lands : (k : List Instr) → Laid 0 k → lands k 0 ≡ true
unfolding Laid lands end_from fetch
zero_lands [] l = refl
zero_lands (i ∷ k) l = rw (fetch-here i k 0 l.0)

-- The place of a jump that lands is an instruction's start or the end.
pub place_lands : (k : List Instr) (z : ℤ) → jump_lands k z ≡ true → lands k (place_of z) ≡ true
place_lands k (pos p) e = e
place_lands k (negsuc p) e = absurd (false≢true e)

-- So is each of a list of targets that land, and names something.
pub targets_name : (k : List Instr) → Laid 0 k → (zs : List ℤ) → targets_land k zs ≡ true → AtPlaces (Names k) (map place_of zs)
targets_name k l [] e = tt
targets_name k l (z ∷ zs) e =
    let h = both_true (jump_lands k z) (targets_land k zs) e in
    (lands_names k l (place_of z) (place_lands k z h.0), targets_name k l zs h.1)
