-- Lines that stand are read, nothing else is, and lines that are torn off anywhere are told: for one line, and for a list of lines. Assumes nothing.
use Rattle.std.specs.Prelude.{◌≡◌, refl, Bool, true, false, cond, List, [], ◌∷◌, ◌++◌, ℕ, ◌+◌, ◌-◌, ◌≤◌, ◌<◌, leb, length, take, drop}
use Rattle.std.proofs.Common.{ap, ◌∙◌, sym, ⊎_elim, append_assoc, arith, length-append, drop-drop, leb-true}
use Rattle.std.proofs.lemmas.List.{take-append-le}
use Rattle.std.proofs.Math.Seq.{take-append-add, take-append_seam}
use Rattle.paper.specs.Text.{decimal, line, Found, whole, torn, other, found, digits_from}
use Rattle.paper.specs.Log.{Reach, upto, torn_off, astray, reached_to, exactly_at, Item, exactly, at_most, item_at, read_items}
use Rattle.text.specs.Decimals.{below}
use Rattle.text.specs.Written.{length-line}
use Rattle.text.specs.Reading.{found-whole, found_start, whole_is, cut_is, after_text, line-digits, line-torn}
use Rattle.run_log.specs.Rooms.{most_reads}

-- ---- the numbers that a line may have

abbrev pub name_of : Item → List ℕ
name_of (exactly name v) = name
name_of (at_most name limit) = name

abbrev pub Allowed : Item → ℕ → Type 0
Allowed (exactly name v) w = w ≡ v
Allowed (at_most name limit) w = w ≤ limit

-- The largest number has at most ten digits.
abbrev pub Modest : Item → Type 0
Modest (exactly name v) = Unit {0}
Modest (at_most name limit) = limit < 10000000000

unfoldable pub item_text : Item → ℕ → List ℕ
item_text i v = line (name_of i) (decimal v)

-- A line has a byte.
pub item_some : (i : Item) (v : ℕ) → 0 < length (item_text i v)
unfolding item_text
item_some i v = omega (arith, length-line (name_of i) v)

-- ---- one line

exactly_read : (s name rest : List ℕ) (v at : ℕ) → drop at s ≡ line name (decimal v) ++ rest → exactly_at s name v at ≡ upto (at + length (line name (decimal v)))
exactly_read s name rest v at e =
    ap (reached_to (at + length (line name (decimal v)))) (ap (found (line name (decimal v))) e ∙ found-whole (line name (decimal v)) rest)

-- A line that stands is read;
pub item_read : (s rest : List ℕ) (i : Item) (v at : ℕ) → Modest i → Allowed i v → drop at s ≡ item_text i v ++ rest → item_at s i at ≡ upto (at + length (item_text i v))
unfolding item_text item_at
item_read s rest (exactly name w) v at m a e =
    exactly_read s name rest w at (e ∙ ap (λ (n : ℕ). line name (decimal n) ++ rest) a) ∙ ap (λ (n : ℕ). upto (at + length (line name (decimal n)))) (sym a)
item_read s rest (at_most name limit) v at m a e =
    most_reads s name at limit v (sym (line-digits s name rest at v (omega arith) e)) a ∙ exactly_read s name rest v at e

-- a line that is torn off is told.
pub item_torn : (s : List ℕ) (i : Item) (v at j : ℕ) → Modest i → Allowed i v → j < length (item_text i v) → drop at s ≡ take j (item_text i v) → item_at s i at ≡ torn_off
unfolding item_text item_at
item_torn s (exactly name w) v at j m a l e =
    let f : drop at s ≡ take j (line name (decimal w)) = e ∙ ap (λ (n : ℕ). take j (line name (decimal n))) a in
    let k : j < length (line name (decimal w)) = rw (← a) l in
    ap (reached_to (at + length (line name (decimal w)))) (ap (found (line name (decimal w))) f ∙ found_start (line name (decimal w)) j k)
item_torn s (at_most name limit) v at j m a l e =
    let t = line-torn s name at v j (omega arith) l e in
    most_reads s name at limit t.number (sym t.digits) (omega (arith, t.most)) ∙ ap (reached_to (at + length (line name (decimal t.number)))) t.tears

-- The line of a number stands at a place, and the next place is after it.
pub record Stands (s : List ℕ) (text : List ℕ) (at next : ℕ) : Type 0 where
  pub next-is : next ≡ at + length text
  pub is : drop at s ≡ text ++ drop next s

-- The first j bytes of a text, and not all of them, are what is left from a place on.
pub record Tears (s : List ℕ) (text : List ℕ) (at : ℕ) : Type 0 where
  pub bytes : ℕ
  pub short : bytes < length text
  pub is : drop at s ≡ take bytes text

module _ (s name : List ℕ) (v at : ℕ) where
  abbrev text : List ℕ
  text = line name (decimal v)

  exactly-stands : (next : ℕ) → exactly_at s name v at ≡ upto next → Stands s text at next
  exactly-stands next e = go (found text (drop at s)) refl e
    where
      go : (x : Found) → found text (drop at s) ≡ x → reached_to (at + length text) x ≡ upto next → Stands s text at next
      go whole w e =
          let k : at + length text ≡ next = cc in
          record {
            next-is = sym k;
            is = whole_is text (drop at s) w ∙ ap (λ (r : List ℕ). text ++ r) (drop-drop (length text) at s ∙ ap (λ (n : ℕ). drop n s) k);
          }
      go torn w e = absurd (let z : ◌≡◌ {A = ℕ} 0 1 = cc in omega arith)
      go other w e = absurd (let z : ◌≡◌ {A = ℕ} 0 1 = cc in omega arith)

  exactly-tears : exactly_at s name v at ≡ torn_off → Tears s text at
  exactly-tears e = go (found text (drop at s)) refl e
    where
      go : (x : Found) → found text (drop at s) ≡ x → reached_to (at + length text) x ≡ torn_off → Tears s text at
      go whole w e = absurd (let z : ◌≡◌ {A = ℕ} 0 1 = cc in omega arith)
      go torn w e =
          let k = cut_is text (drop at s) w in
          record {
            bytes = length (drop at s);
            short = k.1;
            is = sym (ap (take (length (drop at s))) k.0 ∙ take-append_seam (drop at s) (drop (length (drop at s)) text));
          }
      go other w e = absurd (let z : ◌≡◌ {A = ℕ} 0 1 = cc in omega arith)

-- What is read is a line of a number that it may have;
pub item_stands : (s : List ℕ) (i : Item) (at next : ℕ) → item_at s i at ≡ upto next → (v : ℕ) × (Allowed i v) × Stands s (item_text i v) at next
unfolding item_text item_at
item_stands s (exactly name w) at next e = (w, refl, exactly-stands s name w at next e)
item_stands s (at_most name limit) at next e = go (digits_from 0 (drop (at + length name) s)) (leb (digits_from 0 (drop (at + length name) s)) limit) refl e
  where
    go : (v : ℕ) (b : Bool) → leb v limit ≡ b → cond b (exactly_at s name v at) astray ≡ upto next
        → (v : ℕ) × (v ≤ limit) × Stands s (line name (decimal v)) at next
    go v true h e = (v, leb-true v limit h, exactly-stands s name v at next e)
    go v false h e = absurd (let z : ◌≡◌ {A = ℕ} 0 1 = cc in omega arith)

-- and what is torn off is torn off of one.
pub item_tears : (s : List ℕ) (i : Item) (at : ℕ) → item_at s i at ≡ torn_off → (v : ℕ) × (Allowed i v) × Tears s (item_text i v) at
unfolding item_text item_at
item_tears s (exactly name w) at e = (w, refl, exactly-tears s name w at e)
item_tears s (at_most name limit) at e = go (digits_from 0 (drop (at + length name) s)) (leb (digits_from 0 (drop (at + length name) s)) limit) refl e
  where
    go : (v : ℕ) (b : Bool) → leb v limit ≡ b → cond b (exactly_at s name v at) astray ≡ torn_off
        → (v : ℕ) × (v ≤ limit) × Tears s (line name (decimal v)) at
    go v true h e = (v, leb-true v limit h, exactly-tears s name v at e)
    go v false h e = absurd (let z : ◌≡◌ {A = ℕ} 0 1 = cc in omega arith)

-- ---- lists of lines

abbrev pub AllAllowed : List Item → List ℕ → Type 0
AllAllowed [] [] = Unit {0}
AllAllowed [] (v ∷ vs) = ⊥
AllAllowed (i ∷ is) [] = ⊥
AllAllowed (i ∷ is) (v ∷ vs) = Allowed i v × AllAllowed is vs

abbrev pub AllModest : List Item → Type 0
AllModest [] = Unit {0}
AllModest (i ∷ is) = Modest i × AllModest is

unfoldable pub items_text : List Item → List ℕ → List ℕ
items_text [] vs = []
items_text (i ∷ is) [] = []
items_text (i ∷ is) (v ∷ vs) = item_text i v ++ items_text is vs

-- Some number that a line may have.
abbrev least : Item → ℕ
least (exactly name v) = v
least (at_most name limit) = 0

least-allowed : (i : Item) → Allowed i (least i)
least-allowed (exactly name v) = refl
least-allowed (at_most name limit) = omega arith

leasts : List Item → List ℕ
leasts [] = []
leasts (i ∷ is) = least i ∷ leasts is

leasts-allowed : (is : List Item) → AllAllowed is (leasts is)
unfolding leasts
leasts-allowed [] = tt
leasts-allowed (i ∷ is) = (least-allowed i, leasts-allowed is)

stuck_torn : (s : List ℕ) (is : List Item) → read_items s is torn_off ≡ torn_off
unfolding read_items
stuck_torn s [] = refl
stuck_torn s (i ∷ is) = stuck_torn s is

stuck_astray : (s : List ℕ) (is : List Item) → read_items s is astray ≡ astray
unfolding read_items
stuck_astray s [] = refl
stuck_astray s (i ∷ is) = stuck_astray s is

pub items_read : (s rest : List ℕ) (is : List Item) (vs : List ℕ) (at : ℕ) → AllModest is → AllAllowed is vs → drop at s ≡ items_text is vs ++ rest
    → read_items s is (upto at) ≡ upto (at + length (items_text is vs))
unfolding read_items items_text
items_read s rest [] [] at m a e = ap upto (let z : at ≡ at + 0 = omega arith in z)
items_read s rest [] (v ∷ vs) at m a e = absurd a
items_read s rest (i ∷ is) [] at m a e = absurd a
items_read s rest (i ∷ is) (v ∷ vs) at m a e =
    let f : drop at s ≡ item_text i v ++ (items_text is vs ++ rest) = e ∙ append_assoc (item_text i v) (items_text is vs) rest in
    ap (read_items s is) (item_read s (items_text is vs ++ rest) i v at m.0 a.0 f)
    ∙ (items_read s rest is vs (at + length (item_text i v)) m.1 a.1 (after_text s (item_text i v) (items_text is vs ++ rest) at f)
    ∙ ap upto (let z : at + length (item_text i v) + length (items_text is vs) ≡ at + length (item_text i v ++ items_text is vs) = omega (arith, length-append (item_text i v) (items_text is vs)) in z))

pub items_torn : (s : List ℕ) (is : List Item) (vs : List ℕ) (at j : ℕ) → AllModest is → AllAllowed is vs → j < length (items_text is vs)
    → drop at s ≡ take j (items_text is vs) → read_items s is (upto at) ≡ torn_off
unfolding read_items items_text
items_torn s [] vs at j m a l e = absurd (omega arith)
items_torn s (i ∷ is) [] at j m a l e = absurd a
items_torn s (i ∷ is) (v ∷ vs) at j m a l e = ⊎_elim
    (λ k. ap (read_items s is) (item_torn s i v at j m.0 a.0 k (e ∙ take-append-le j (item_text i v) (items_text is vs) (omega arith))) ∙ stuck_torn s is)
    (λ k.
    let n : j ≡ length (item_text i v) + (j - length (item_text i v)) = omega arith in
    let f : drop at s ≡ item_text i v ++ take (j - length (item_text i v)) (items_text is vs) =
    e ∙ (ap (λ (n : ℕ). take n (item_text i v ++ items_text is vs)) n ∙ take-append-add (item_text i v) (items_text is vs) (j - length (item_text i v))) in
    ap (read_items s is) (item_read s (take (j - length (item_text i v)) (items_text is vs)) i v at m.0 a.0 f)
    ∙ items_torn s is vs (at + length (item_text i v)) (j - length (item_text i v)) m.1 a.1
    (omega (arith, length-append (item_text i v) (items_text is vs))) (after_text s (item_text i v) (take (j - length (item_text i v)) (items_text is vs)) at f))
    (below j (length (item_text i v)))

-- The lines that were read, or torn off, are lines of numbers that they may have.
pub record ItemsStand (s : List ℕ) (is : List Item) (at next : ℕ) : Type 0 where
  pub numbers : List ℕ
  pub allowed : AllAllowed is numbers
  pub stands : Stands s (items_text is numbers) at next

pub record ItemsTear (s : List ℕ) (is : List Item) (at : ℕ) : Type 0 where
  pub numbers : List ℕ
  pub allowed : AllAllowed is numbers
  pub tears : Tears s (items_text is numbers) at

stands_more : (s t u : List ℕ) (at mid next : ℕ) → Stands s t at mid → Stands s u mid next → Stands s (t ++ u) at next
stands_more s t u at mid next a b =
    record {
      next-is = omega (arith, a.next-is, b.next-is, length-append t u);
      is = a.is ∙ (ap (λ (r : List ℕ). t ++ r) b.is ∙ sym (append_assoc t u (drop next s)));
    }

tears_more : (s t u : List ℕ) (at mid : ℕ) → Stands s t at mid → Tears s u mid → Tears s (t ++ u) at
tears_more s t u at mid a b =
    record {
      bytes = length t + b.bytes;
      short = omega (arith, b.short, length-append t u);
      is = a.is ∙ (ap (λ (r : List ℕ). t ++ r) b.is ∙ sym (take-append-add t u b.bytes));
    }

tears_before : (s t u : List ℕ) (at : ℕ) → Tears s t at → Tears s (t ++ u) at
tears_before s t u at a =
    record {
      bytes = a.bytes;
      short = omega (arith, a.short, length-append t u);
      is = a.is ∙ sym (take-append-le a.bytes t u (omega (arith, a.short)));
    }

pub items_stand : (s : List ℕ) (is : List Item) (at next : ℕ) → read_items s is (upto at) ≡ upto next → ItemsStand s is at next
unfolding read_items items_text
items_stand s [] at next e =
    let k : at ≡ next = cc in
    record {
      numbers = [];
      allowed = tt;
      stands = record { next-is = omega arith; is = ap (λ (n : ℕ). drop n s) k };
    }
items_stand s (i ∷ is) at next e = go (λ mid f. items_stand s is mid next f) (item_at s i at) refl e
  where
    go : ((mid : ℕ) → read_items s is (upto mid) ≡ upto next → ItemsStand s is mid next) → (r : Reach) → item_at s i at ≡ r → read_items s is r ≡ upto next → ItemsStand s (i ∷ is) at next
    go later (upto mid) w e =
        let h = item_stands s i at mid w in
        let t = later mid e in
        record {
          numbers = h.0 ∷ t.numbers;
          allowed = (h.1, t.allowed);
          stands = stands_more s (item_text i h.0) (items_text is t.numbers) at mid next h.2 t.stands;
        }
    go later torn_off w e = let z = sym (stuck_torn s is) ∙ e in absurd (let z : ◌≡◌ {A = ℕ} 0 1 = cc in omega arith)
    go later astray w e = let z = sym (stuck_astray s is) ∙ e in absurd (let z : ◌≡◌ {A = ℕ} 0 1 = cc in omega arith)

pub items_tear : (s : List ℕ) (is : List Item) (at : ℕ) → read_items s is (upto at) ≡ torn_off → ItemsTear s is at
unfolding read_items items_text
items_tear s [] at e = absurd (let z : ◌≡◌ {A = ℕ} 0 1 = cc in omega arith)
items_tear s (i ∷ is) at e = go (λ mid f. items_tear s is mid f) (item_at s i at) refl e
  where
    go : ((mid : ℕ) → read_items s is (upto mid) ≡ torn_off → ItemsTear s is mid) → (r : Reach) → item_at s i at ≡ r → read_items s is r ≡ torn_off → ItemsTear s (i ∷ is) at
    go later (upto mid) w e =
        let h = item_stands s i at mid w in
        let t = later mid e in
        record {
          numbers = h.0 ∷ t.numbers;
          allowed = (h.1, t.allowed);
          tears = tears_more s (item_text i h.0) (items_text is t.numbers) at mid h.2 t.tears;
        }
    go later torn_off w e =
        let h = item_tears s i at w in
        record {
          numbers = h.0 ∷ leasts is;
          allowed = (h.1, leasts-allowed is);
          tears = tears_before s (item_text i h.0) (items_text is (leasts is)) at h.2;
        }
    go later astray w e = let z = sym (stuck_astray s is) ∙ e in absurd (let z : ◌≡◌ {A = ℕ} 0 1 = cc in omega arith)
