-- What is left of a text from where the code's first pass stands, and that it says of the whole what the pass says in the end. Assumes nothing.
use Rattle.std.specs.Prelude.{Result, Ok, Err, Bool, true, false, cond, ◌||◌, List, [], ◌≡◌, eqb, length, drop, set}
use Rattle.std.proofs.Math.Option.{Option, none, some}
use Rattle.std.proofs.Math.Path.{refl}
use Rattle.std.proofs.Common.{sym, ap, ◌∙◌, subst, length-append, length-drop, lt-ltb, le-ltb, eqb-true, eq-eqb, ne_eqb}
use Prim.Native.Nat.{ℕ, zero, suc, ◌+◌, ◌-◌, ◌<◌, ◌≤◌}
use native.Mathlib.Omega.{arith}
use Rattle.std.proofs.lemmas.Bool.{eqb-false}
use Rattle.paper.specs.Limits.{instruction_limit}
use Rattle.paper.specs.Dictionary.{Dictionary}
use Rattle.paper.specs.Kernel.{Instr}
use Rattle.paper.specs.Jump.{next_of, fetch, found, end_from, end_of, lands}
use Rattle.paper.specs.Listing.{instr_text, instr_at, Listing, faulty, listed, follow, lines_from}
use Rattle.kernel.specs.Marks.{place_count, marked, mark_more}
use Rattle.words.specs.declared.refusal.Refusal.TheVariants.{NoListing}
use Rattle.words.specs.declared.answer.Refused.{Refused}
use Rattle.words.specs.Answer.{refused_at}
use Rattle.listing.specs.Lines.{instr_only, lines_length}
use Rattle.listing.specs.Texts.{size_most}

-- What is said of a text: the place of its end, or its refusal.
abbrev pub Scanned : Type 0
Scanned = Result ℕ Refused

-- What is said of a text that is read so: the place of its end, and the marks; or where it is faulty.
unfoldable pub Scans : Listing → Scanned → List ℕ → Type 0
Scans (faulty from) r marks = r ≡ Err (refused_at NoListing from)
Scans (listed k) r marks = (r ≡ Ok (end_of k)) × ((p : ℕ) → marked marks p ≡ lands k p)

-- What the answer r and the marks m' say of what is left, read as q, from place p on, with the marks m made before it.
unfoldable pub Goes : ℕ → List ℕ → Listing → Scanned → List ℕ → Type 0
Goes p m (faulty from) r m' = r ≡ Err (refused_at NoListing from)
Goes p m (listed k) r m' =
    (r ≡ Ok (end_from p k)) × ((x : ℕ) → marked m' x ≡ (marked m x || (found (fetch k x) || eqb x (end_from p k))))

goes_whole : (m : List ℕ) → ((p : ℕ) → marked m p ≡ false) → (q : Listing) (r : Scanned) (m' : List ℕ) → Goes 0 m q r m' → Scans q r m'
unfolding lands Scans Goes
goes_whole m bare (faulty from) r m' h = h
goes_whole m bare (listed k) r m' h = (h.0, λ p. h.1 p ∙ rw (bare p))

found-more : (t : Bool) (i : Instr) (o : Option Instr) → found (cond t (some i) o) ≡ (t || found o)
found-more true i o = refl
found-more false i o = refl

regroup : (x t f e : Bool) → ((x || t) || (f || e)) ≡ (x || ((t || f) || e))
regroup true t f e = refl
regroup false true f e = refl
regroup false false f e = refl

-- One instruction more is one more marked.
goes_more : (i : Instr) (p : ℕ) (m : List ℕ) (r : Scanned) (m' : List ℕ) → i.place ≡ p → p < place_count → length m ≡ place_count → (q : Listing)
    → Goes (next_of i) (set m p 1) q r m' → Goes p m (follow i q) r m'
unfolding fetch end_from Goes
goes_more i p m r m' e l z (faulty from) h = h
goes_more i p m r m' e l z (listed k) h = (h.0, λ x. h.1 x ∙ marks_more x)
  where
    marks_more : (x : ℕ)
        → (marked (set m p 1) x || (found (fetch k x) || eqb x (end_from (next_of i) k)))
        ≡ (marked m x || (found (cond (eqb i.place x) (some i) (fetch k x)) || eqb x (end_from (next_of i) k)))
    marks_more x =
        ap (λ (b : Bool). b || (found (fetch k x) || eqb x (end_from (next_of i) k))) (mark_more m p x l z)
        ∙ regroup (marked m x) (eqb p x) (found (fetch k x)) (eqb x (end_from (next_of i) k))
        ∙ ap (λ (b : Bool). marked m x || (b || eqb x (end_from (next_of i) k)))
        (ap (λ (a : ℕ). eqb a x || found (fetch k x)) (sym e) ∙ sym (found-more (eqb i.place x) i (fetch k x)))

eqb_swap : (a b : ℕ) → eqb a b ≡ eqb b a
eqb_swap a b = go (eqb b a) refl
  where
    go : (t : Bool) → eqb b a ≡ t → eqb a b ≡ t
    go true e = eq-eqb a b (sym (eqb-true b a e))
    go false e = ne_eqb a b (λ h. eqb-false b a e (sym h))

-- At the end only the end itself is marked.
goes_end : (p : ℕ) (m : List ℕ) → p < place_count → length m ≡ place_count → Goes p m (listed []) (Ok p) (set m p 1)
unfolding fetch end_from Goes
goes_end p m l z = (refl, λ x. mark_more m p x l z ∙ ap (λ (b : Bool). marked m x || b) (eqb_swap p x))

-- ---- the pass, a turn at a time

module _ (D : Dictionary) (s : List ℕ) (p from : ℕ) where
  lines_end : (n : ℕ) → length s ≤ from → lines_from D s n p from ≡ listed []
  unfolding lines_from
  lines_end zero h = rw (le-ltb _ _ h)
  lines_end (suc n) h = rw (le-ltb _ _ h)

  module _ (inside : from < length s) where
    lines_full : lines_from D s 0 p from ≡ faulty from
    unfolding lines_from
    lines_full = rw (lt-ltb _ _ inside)

    lines_none : (n : ℕ) → instr_at D s p from ≡ none → lines_from D s (suc n) p from ≡ faulty from
    unfolding lines_from
    lines_none n e = rw (lt-ltb _ _ inside, e)

    lines_some : (n : ℕ) (i : Instr) → instr_at D s p from ≡ some i
        → lines_from D s (suc n) p from ≡ follow i (lines_from D s n (next_of i) (from + length (instr_text i)))
    unfolding lines_from
    lines_some n i e = rw (lt-ltb _ _ inside, e)

-- ---- the loop

-- The whole is read as q if what is left is: any answer and marks that say the rest say q.
abbrev pub Leads : Dictionary → List ℕ → ℕ → ℕ → ℕ → List ℕ → Listing → Type 0
Leads D s p from c m q = (r : Scanned) (m' : List ℕ) → Goes p m (lines_from D s (instruction_limit - c) p from) r m' → Scans q r m'

pub leads_start : (D : Dictionary) (s m : List ℕ) → ((p : ℕ) → marked m p ≡ false) → Leads D s 0 0 0 m (lines_from D s instruction_limit 0 0)
leads_start D s m bare r m' h = goes_whole m bare (lines_from D s instruction_limit 0 0) r m' h

module _ (D : Dictionary) (s : List ℕ) (p from c : ℕ) (m : List ℕ) (q : Listing) (leads : Leads D s p from c m q) where
  leads_as : (x : Listing) (r : Scanned) (m' : List ℕ) → lines_from D s (instruction_limit - c) p from ≡ x → Goes p m x r m' → Scans q r m'
  leads_as x r m' e g = leads r m' (subst (λ (x : Listing). Goes p m x r m') (sym e) g)

  pub leads_end : length s ≤ from → p < place_count → length m ≡ place_count → Scans q (Ok p) (set m p 1)
  leads_end h l z = leads_as (listed []) (Ok p) (set m p 1) (lines_end D s p from (instruction_limit - c) h) (goes_end p m l z)

  module _ (inside : from < length s) where
    pub leads_full : c ≡ instruction_limit → Scans q (Err (refused_at NoListing from)) m
    unfolding Goes
    leads_full e =
        let n : instruction_limit - c ≡ 0 = omega arith in
        leads_as (faulty from) (Err (refused_at NoListing from)) m (ap (λ (n : ℕ). lines_from D s n p from) n ∙ lines_full D s p from inside) refl

    module _ (few : c < instruction_limit) where
      left : instruction_limit - c ≡ suc (instruction_limit - (c + 1))
      left = omega arith

      pub leads_none : instr_at D s p from ≡ none → Scans q (Err (refused_at NoListing from)) m
      unfolding Goes
      leads_none e =
          leads_as (faulty from) (Err (refused_at NoListing from)) m
          (ap (λ (n : ℕ). lines_from D s n p from) left ∙ lines_none D s p from inside (instruction_limit - (c + 1)) e) refl

      pub leads_some : (i : Instr) (next : ℕ) → instr_at D s p from ≡ some i → next ≡ from + length (instr_text i) → p < place_count → length m ≡ place_count
          → Leads D s (p + i.size) next (c + 1) (set m p 1) q
      leads_some i next e n l z r m' g =
          let here : i.place ≡ p = (instr_only D s p from i e).place in
          let to : p + i.size ≡ next_of i = omega arith in
          let g' : Goes (next_of i) (set m p 1) (lines_from D s (instruction_limit - (c + 1)) (next_of i) (from + length (instr_text i))) r m' =
          subst (λ (a : ℕ). Goes a (set m p 1) (lines_from D s (instruction_limit - (c + 1)) a (from + length (instr_text i))) r m') to
          (subst (λ (a : ℕ). Goes (p + i.size) (set m p 1) (lines_from D s (instruction_limit - (c + 1)) (p + i.size) a) r m') n g) in
          leads_as (follow i (lines_from D s (instruction_limit - (c + 1)) (next_of i) (from + length (instr_text i)))) r m'
          (ap (λ (n : ℕ). lines_from D s n p from) left ∙ lines_some D s p from inside (instruction_limit - (c + 1)) i e)
          (goes_more i p m r m' here l z (lines_from D s (instruction_limit - (c + 1)) (next_of i) (from + length (instr_text i))) g')

-- What is known of an instruction that was read, for the loop's bounds.
pub record Bounds (s : List ℕ) (from next size : ℕ) : Type 0 where
  pub more : from < next
  pub inside : next ≤ length s
  pub few : size ≤ 2

pub instr_bounds : (D : Dictionary) (s : List ℕ) (p from next : ℕ) (i : Instr) → from < length s → instr_at D s p from ≡ some i → next ≡ from + length (instr_text i)
    → Bounds s from next i.size
instr_bounds D s p from next i h e n =
    let r = instr_only D s p from i e in
    let l = ap length r.there in
    let a = length-append (instr_text i) (drop (from + length (instr_text i)) s) in
    let d = length-drop from s in
    let d' = length-drop (from + length (instr_text i)) s in
    let some = lines_length i in
    record { more = omega arith; inside = omega arith; few = size_most D s i r.shaped }
