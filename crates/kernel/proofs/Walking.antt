-- What is left of a walk from where the code's loop stands, and that it says of the whole what the loop says in the end. Over any judgement.
-- Assumes nothing.
use mathlib.Core.Bool.{Bool, true, false, cond, ◌||◌}
use mathlib.Core.List.{List, []}
use mathlib.Core.Option.{Option, some}
use mathlib.Core.Path.{◌≡◌, refl, sym, ap, ap₂, ◌∙◌, subst}
use Prim.Native.Nat.{ℕ, zero, suc, ◌+◌, ◌-◌, ◌*◌, ◌/◌, ◌<◌, ◌≤◌}
use native.Mathlib.Omega.{arith}
use lib.Dec.{eqb}
use lib.ListN.{length, set}
use borrow.Author.Tests.{lt-ltb, le-ltb, eqb-true, eqb-false, eq-eqb, ne_eqb}
use Rattle.paper.specs.Limits.{instruction_limit}
use Rattle.paper.specs.Kernel.{Instr, Judged, refused, passed, Parsed, bad, good, prepend, walk}
use Rattle.paper.specs.Jump.{next_of, fetch, found, end_from, lands}
use Rattle.paper.specs.Calls.{verdict}
use Rattle.std.specs.Prelude.{Ok, Err}
use Rattle.words.specs.declared.refusal.Refusal.{Refusal}
use Rattle.words.specs.declared.refusal.Refusal.TheVariants.{TooMany}
use Rattle.words.specs.Refusals.{number}
use Rattle.words.specs.Answer.{refused_at}
use Rattle.kernel.specs.Marks.{Said, said_is, place_count, marked, Says, says_bad, mark_more}

-- What the answer r and the marks m' say of what is left, judged as q, from byte `from` on, with c instructions counted and the marks m made before it.
unfoldable pub Goes : ℕ → ℕ → List ℕ → Parsed → Said → List ℕ → Type 0
Goes from c m (bad number offset) r m' = Says (bad number offset) r m'
Goes from c m (good k) r m' =
    (said_is r ≡ verdict 0 (c + length k))
    × ((p : ℕ) → marked m' p ≡ (marked m p || (found (fetch k p) || eqb p (end_from (from / 8) k))))

-- Nothing counted and nothing marked: what is left is the whole.
goes_whole : (m : List ℕ) → ((p : ℕ) → marked m p ≡ false) → (q : Parsed) (r : Said) (m' : List ℕ) → Goes 0 0 m q r m' → Says q r m'
unfolding lands Says Goes
goes_whole m bare (bad number offset) r m' h = h
goes_whole m bare (good k) r m' h = let z : 0 + length k ≡ length k = omega arith in (h.0 ∙ ap (verdict 0) z, λ p. h.1 p ∙ rw (bare p))

found_more : (t : Bool) (i : Instr) (o : Option Instr) → found (cond t (some i) o) ≡ (t || found o)
found_more true i o = refl
found_more false i o = refl

regroup : (x t f e : Bool) → ((x || t) || (f || e)) ≡ (x || ((t || f) || e))
regroup true t f e = refl
regroup false true f e = refl
regroup false false f e = refl

-- One instruction more is one more counted and one more marked.
goes_more : (i : Instr) (from c : ℕ) (m : List ℕ) (r : Said) (m' : List ℕ) → i.place ≡ from / 8 → from / 8 < place_count → length m ≡ place_count → (q : Parsed)
    → Goes (from + 8 * i.size) (c + 1) (set m (from / 8) 1) q r m' → Goes from c m (prepend i q) r m'
unfolding fetch end_from Goes
goes_more i from c m r m' e l z (bad number offset) h = h
goes_more i from c m r m' e l z (good k) h = (h.0 ∙ ap (verdict 0) counted, λ p. h.1 p ∙ marks_more p)
  where
    counted : c + 1 + length k ≡ c + suc (length k)
    counted = omega arith

    next : (from + 8 * i.size) / 8 ≡ next_of i
    next = omega arith

    marks_more : (p : ℕ)
        → (marked (set m (from / 8) 1) p || (found (fetch k p) || eqb p (end_from ((from + 8 * i.size) / 8) k)))
        ≡ (marked m p || (found (cond (eqb i.place p) (some i) (fetch k p)) || eqb p (end_from (next_of i) k)))
    marks_more p =
        ap₂ (λ (x : Bool) (a : ℕ). x || (found (fetch k p) || eqb p (end_from a k))) (mark_more m (from / 8) p l z) next
        ∙ regroup (marked m p) (eqb (from / 8) p) (found (fetch k p)) (eqb p (end_from (next_of i) k))
        ∙ ap (λ (x : Bool). marked m p || (x || eqb p (end_from (next_of i) k)))
        (ap (λ (a : ℕ). eqb a p || found (fetch k p)) (sym e) ∙ sym (found_more (eqb i.place p) i (fetch k p)))

eqb_swap : (a b : ℕ) → eqb a b ≡ eqb b a
eqb_swap a b = go (eqb b a) refl
  where
    go : (t : Bool) → eqb b a ≡ t → eqb a b ≡ t
    go true e = eq-eqb a b (sym (eqb-true b a e))
    go false e = ne_eqb a b (λ h. eqb-false b a e (sym h))

-- At the end only the end itself is marked.
goes_end : (from c : ℕ) (m : List ℕ) → from / 8 < place_count → length m ≡ place_count → Goes from c m (good []) (Ok c) (set m (from / 8) 1)
unfolding fetch end_from Goes
goes_end from c m l z =
    let n : c ≡ c + 0 = omega arith in
    (ap (verdict 0) n, λ p. mark_more m (from / 8) p l z ∙ ap (λ (x : Bool). marked m p || x) (eqb_swap (from / 8) p))

-- ---- the walk, a turn at a time

module _ (judge : ℕ → Judged) (end from : ℕ) where
  walk_end : (n : ℕ) → end ≤ from → walk judge end n from ≡ good []
  unfolding walk
  walk_end zero h = rw (le-ltb _ _ h)
  walk_end (suc n) h = rw (le-ltb _ _ h)

  module _ (inside : from < end) where
    walk_full : walk judge end 0 from ≡ bad 17 from
    unfolding walk
    walk_full = rw (lt-ltb _ _ inside)

    walk_refused : (n x : ℕ) → judge from ≡ refused x → walk judge end (suc n) from ≡ bad x from
    unfolding walk
    walk_refused n x j = rw (lt-ltb _ _ inside, j)

    walk-passed : (n size w : ℕ) → judge from ≡ passed size w
        → walk judge end (suc n) from ≡ prepend (record { place = from / 8; size = size; word = w }) (walk judge end n (from + 8 * size))
    unfolding walk
    walk-passed n size w j = rw (lt-ltb _ _ inside, j)

-- ---- the loop

-- The whole is judged as q if what is left is: any answer and marks that say the rest say q.
abbrev pub Leads : (ℕ → Judged) → ℕ → ℕ → ℕ → List ℕ → Parsed → Type 0
Leads judge end from c m q = (r : Said) (m' : List ℕ) → Goes from c m (walk judge end (instruction_limit - c) from) r m' → Says q r m'

pub leads_start : (judge : ℕ → Judged) (end : ℕ) (m : List ℕ) → ((p : ℕ) → marked m p ≡ false) → Leads judge end 0 0 m (walk judge end instruction_limit 0)
leads_start judge end m bare r m' h = goes_whole m bare (walk judge end instruction_limit 0) r m' h

module _ (judge : ℕ → Judged) (end from c : ℕ) (m : List ℕ) (q : Parsed) (leads : Leads judge end from c m q) where
  -- What is left is judged as x.
  leads_as : (x : Parsed) (r : Said) (m' : List ℕ) → walk judge end (instruction_limit - c) from ≡ x → Goes from c m x r m' → Says q r m'
  leads_as x r m' e g = leads r m' (subst (λ (x : Parsed). Goes from c m x r m') (sym e) g)

  pub leads_end : end ≤ from → from / 8 < place_count → length m ≡ place_count → Says q (Ok c) (set m (from / 8) 1)
  leads_end h l z = leads_as (good []) (Ok c) (set m (from / 8) 1) (walk_end judge end from (instruction_limit - c) h) (goes_end from c m l z)

  module _ (inside : from < end) where
    pub leads_full : c ≡ instruction_limit → Says q (Err (refused_at TooMany from)) m
    unfolding Goes
    leads_full e =
        let n : instruction_limit - c ≡ 0 = omega arith in
        leads_as (bad 17 from) (Err (refused_at TooMany from)) m (ap (λ (n : ℕ). walk judge end n from) n ∙ walk_full judge end from inside) (says_bad TooMany from m)

    module _ (few : c < instruction_limit) where
      left : instruction_limit - c ≡ suc (instruction_limit - (c + 1))
      left = omega arith

      pub leads_refused : (x : Refusal) → judge from ≡ refused (number x) → Says q (Err (refused_at x from)) m
      unfolding Goes
      leads_refused x j =
          leads_as (bad (number x) from) (Err (refused_at x from)) m
          (ap (λ (n : ℕ). walk judge end n from) left ∙ walk_refused judge end from inside (instruction_limit - (c + 1)) (number x) j) (says_bad x from m)

      pub leads_passed : (size w : ℕ) → judge from ≡ passed size w → from / 8 < place_count → length m ≡ place_count
          → Leads judge end (from + 8 * size) (c + 1) (set m (from / 8) 1) q
      leads_passed size w j l z r m' s =
          let i : Instr = record { place = from / 8; size = size; word = w } in
          leads_as (prepend i (walk judge end (instruction_limit - (c + 1)) (from + 8 * size))) r m'
          (ap (λ (n : ℕ). walk judge end n from) left ∙ walk-passed judge end from inside (instruction_limit - (c + 1)) size w j)
          (goes_more i from c m r m' refl l z (walk judge end (instruction_limit - (c + 1)) (from + 8 * size)) s)
