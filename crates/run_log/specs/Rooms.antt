-- What code that reads a log rests on: a turn of its loop, and that what is read lies within. Assumes nothing.
use Rattle.std.specs.Prelude.{◌≡◌, refl, Err, List, [], ◌∷◌, ◌++◌, ℕ, zero, suc, ◌+◌, ◌-◌, ◌≤◌, ◌<◌, length, drop}
use Rattle.std.proofs.Common.{ap, ◌∙◌, sym, arith}
use borrow.Author.Tests.{le-leb, lt-leb}
use Rattle.paper.specs.Text.{decimal, line, Found, whole, torn, other, found, digits_from}
use Rattle.paper.specs.Log.{Reach, upto, torn_off, astray, reached_to, exactly_at, Item, exactly, at_most, item_at, further, read_items, record_at, onward, read_from, run_name, verdict_name, steps_name, place_name, awake_name, end_name}
use Rattle.paper.specs.Limits.{budget_limit, last_place}
use Rattle.text.specs.declared.read.Unread.{Unread}
use Rattle.text.specs.declared.read.Unread.TheVariants.{Torn, Other}
use Rattle.text.specs.Written.{length-line}
use Rattle.text.specs.Reading.{whole_room, past_torn}
use Rattle.run_log.specs.Meaning.{reach_is}

-- ---- one line

-- A line that is found whole has room.
pub whole_fits : (s name : List ℕ) (v at : ℕ) → whole ≡ found (line name (decimal v)) (drop at s) → at + length name + length (decimal v) + 1 ≤ length s
whole_fits s name v at e =
    omega (arith, length-line name v, whole_room (line name (decimal v)) s at (omega (arith, length-line name v)) (sym e))

-- A line that is read lies within.
pub exactly_room : (s name : List ℕ) (v at next : ℕ) → exactly_at s name v at ≡ upto next → next ≤ length s
exactly_room s name v at next e = go (found (line name (decimal v)) (drop at s)) refl e
  where
    go : (x : Found) → found (line name (decimal v)) (drop at s) ≡ x → reached_to (at + length (line name (decimal v))) x ≡ upto next → next ≤ length s
    go whole w e =
        let k : at + length (line name (decimal v)) ≡ next = cc in
        omega (arith, whole_room (line name (decimal v)) s at (omega (arith, length-line name v)) w)
    go torn w e = absurd (let z : ◌≡◌ {A = ℕ} 0 1 = cc in omega arith)
    go other w e = absurd (let z : ◌≡◌ {A = ℕ} 0 1 = cc in omega arith)

-- The line of a number up to a limit, by the number that the digits make.
module _ (s name : List ℕ) (at limit v : ℕ) where
  pub most_reads : v ≡ digits_from 0 (drop (at + length name) s) → v ≤ limit → item_at s (at_most name limit) at ≡ exactly_at s name v at
  unfolding item_at
  most_reads e h = rw (← e, le-leb v limit h)

  pub most_astray : v ≡ digits_from 0 (drop (at + length name) s) → limit < v → astray ≡ item_at s (at_most name limit) at
  unfolding item_at
  most_astray e h = rw (← e, lt-leb v limit h)

-- Past the end it is torn off.
pub most_past : (s name : List ℕ) (at limit : ℕ) → length s ≤ at → torn_off ≡ item_at s (at_most name limit) at
most_past s name at limit h =
    let t = past_torn s name at limit h in
    sym (most_reads s name at limit t.number (sym t.digits) t.most ∙ ap (reached_to (at + length (line name (decimal t.number)))) t.tears)

-- ---- a record

-- Its lines, one after another: nothing more is read after one that is not there.
stops : (s : List ℕ) (is : List Item) (e : Unread) → reach_is (Err e) ≡ read_items s is (reach_is (Err e))
unfolding read_items
stops s [] e = refl
stops s (i ∷ is) Torn = stops s is Torn
stops s (i ∷ is) Other = stops s is Other

module _ (s : List ℕ) (i : Item) (at : ℕ) where
  pub stop : (is : List Item) (e : Unread) → reach_is (Err e) ≡ item_at s i at → reach_is (Err e) ≡ read_items s (i ∷ is) (upto at)
  unfolding read_items
  stop is e h = stops s is e ∙ ap (read_items s is) h

  pub next : (is : List Item) (r : Reach) (place : ℕ) → upto place ≡ item_at s i at → r ≡ read_items s is (upto place) → r ≡ read_items s (i ∷ is) (upto at)
  unfolding read_items
  next is r place h k = k ∙ ap (read_items s is) h

  pub last : (r : Reach) → r ≡ item_at s i at → r ≡ read_items s (i ∷ []) (upto at)
  unfolding read_items
  last r h = h

-- What the last line reaches lies within.
pub last_room : (s name : List ℕ) (v next : ℕ) (r : Reach) → further s (exactly name v) r ≡ upto next → next ≤ length s
unfolding item_at
last_room s name v next (upto at) e = exactly_room s name v at next e
last_room s name v next torn_off e = absurd (let z : ◌≡◌ {A = ℕ} 0 1 = cc in omega arith)
last_room s name v next astray e = absurd (let z : ◌≡◌ {A = ℕ} 0 1 = cc in omega arith)

-- The lines of a record but the last.
abbrev five : ℕ → List Item
five run =
    exactly run_name run
    ∷ at_most (verdict_name ++ (50 ∷ [])) 2
    ∷ at_most steps_name budget_limit
    ∷ at_most place_name last_place
    ∷ at_most awake_name 16
    ∷ []

pub record_room : (s : List ℕ) (run at next : ℕ) → record_at s run at ≡ upto next → next ≤ length s
unfolding record_at read_items
record_room s run at next e = last_room s end_name 1 next (read_items s (five run) (upto at)) e

-- ---- a turn, by what stands at the place

pub read_step : (f : ℕ) (s : List ℕ) (run at : ℕ) (r : Reach) → 0 < f → record_at s run at ≡ r → read_from f s run at ≡ onward r run at (read_from (f - 1) s (run + 1))
unfolding read_from
read_step zero s run at r h e = absurd (omega arith)
read_step (suc f) s run at r h e =
    let a : suc f - 1 ≡ f = omega arith in
    let b : run + 1 ≡ suc run = omega arith in
    rw (e, a, b)

pub read_none : (f : ℕ) (s : List ℕ) (run at : ℕ) → f ≤ 0 → read_from f s run at ≡ read_from 0 s run at
read_none zero s run at h = refl
read_none (suc f) s run at h = absurd (omega arith)
