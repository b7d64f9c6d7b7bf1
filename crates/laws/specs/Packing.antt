-- Packing and unpacking (demand 2): what is packed holds each word in its smallest form, and long words laid out are accepted. Assumes nothing.
-- That what is packed is accepted, runs the same program and unpacks to the long bytes, and that what is unpacked is accepted too, is in proofs/PackingHolds.
use Rattle.std.specs.Prelude.{Bool, true, false, cond, List, [], ◌∷◌, ◌++◌, map, ◌≡◌, refl, ℕ, suc, ◌+◌, ◌*◌, ◌^◌, ◌<◌, ◌≤◌, eqb, leb, length}
use Rattle.std.proofs.Math.Option.{Option, none, some}
use Rattle.std.proofs.Common.{sym, ap, ap₂, ◌∙◌, subst, arith, leb-true}
use Rattle.std.proofs.Math.Pow.{are_bytes}
use Rattle.paper.specs.Bits.{bytes_of}
use Rattle.paper.specs.Limits.{instruction_limit, kernel_bytes, dictionary_bytes, last_place}
use Rattle.paper.specs.Dictionary.{Dictionary, dictionary_of, in_range}
use Rattle.paper.specs.Shorten.{Shortens, Least, Shortest, shorten}
use Rattle.paper.specs.Operation.{operation, is_branch}
use Rattle.paper.specs.Kernel.{Instr, Forms, long_and_short, long_only, Parsed, bad, good, parse}
use Rattle.paper.specs.Jump.{next_of, end_of, with_jumps}
use Rattle.paper.specs.Packing.{Piece, Form, piece, new_size, rewritten, lay_from, relay, packed}
use Rattle.paper.specs.Calls.{judged_kernel, sized, accepted}
use Rattle.laws.specs.Shorten.{shorten-some, shorten-none}
use Rattle.laws.specs.Names.{Laid, Sound, moved, relaid_by, new_end, pieces_of, long_form, AllLong}
use Rattle.laws.specs.Moved.{rewritten-plain, rewritten-operation}
use Rattle.laws.specs.Expand.{expand-operation}
use Rattle.laws.specs.Items.{Item, all_bytes, instrs_from, is_long, AllFormed, parse_items}
use Rattle.laws.specs.Walk.{Each}
use Rattle.laws.specs.Parse.{WordAt, parsed, jumps_good, good_jumps, long_bytes, long_back}
use Rattle.laws.specs.Relay.{AllSane, Right, items_from, items_of, relay_items, relaid_items, new_end_near, short_plain}
use Rattle.laws.specs.Truth.{both_true}

-- ---- what an accepted kernel is

-- Its instructions stand one after the other, its jumps land, its words are sane and no more than a kernel may have, and they fill the bytes.
pub record Kernel (forms : Forms) (dictionary kernel : List ℕ) (k : List Instr) : Type 0 where
  pub sound : Sound k
  pub sane : AllSane k
  pub few : length k ≤ instruction_limit
  pub words : Each (WordAt forms kernel) k
  pub ends : 8 * end_of k ≡ length kernel
  pub sizes : sized dictionary kernel ≡ true
  pub range : in_range (dictionary_of dictionary) ≡ true
  pub parses : parse forms (dictionary_of dictionary) kernel ≡ good k

all_sane : (forms : Forms) (kernel : List ℕ) (k : List Instr) → Each (WordAt forms kernel) k → AllSane k
unfolding Each AllSane
all_sane forms kernel [] e = tt
all_sane forms kernel (i ∷ k) e = (record { legal = e.0.legal; fits = e.0.fits; long = e.0.long }, all_sane forms kernel k e.1)

-- The two tests before the parse.
both_tests : (a b : Bool) (q r : Parsed) (k : List Instr) → cond a (cond b q (bad 2 0)) (bad 1 0) ≡ good k → (a ≡ true) × (b ≡ true) × (q ≡ good k)
both_tests true true q r k e = (refl, refl, e)
both_tests true false q r k e = let z : ◌≡◌ {A = ℕ} 0 1 = cc in absurd (omega arith)
both_tests false b q r k e = let z : ◌≡◌ {A = ℕ} 0 1 = cc in absurd (omega arith)

pub kernel_of_lem : (forms : Forms) (dictionary kernel : List ℕ) → are_bytes kernel ≡ true → (k : List Instr) → accepted forms dictionary kernel ≡ good k
    → Kernel forms dictionary kernel k
unfolding accepted judged_kernel
kernel_of_lem forms dictionary kernel bytes k e =
    let D = dictionary_of dictionary in
    let t = both_tests (sized dictionary kernel) (in_range D) (with_jumps (parse forms D kernel)) (bad 1 0) k e in
    let j = jumps_good (parse forms D kernel) k t.2 in
    let v = parsed forms D kernel bytes k j.0 in
    record {
      sound = record { laid = v.laid; land = j.1 };
      sane = all_sane forms kernel k v.each;
      few = v.few;
      words = v.each;
      ends = v.ends;
      sizes = t.0;
      range = t.1;
      parses = j.0;
    }

-- ---- a relayout is accepted

-- An accepted kernel ends at the largest place, at the latest.
pub kernel_near : (forms : Forms) (dictionary kernel : List ℕ) (k : List Instr) → Kernel forms dictionary kernel k → end_of k ≤ last_place
kernel_near forms dictionary kernel k h =
    let p = both_true (eqb (length dictionary) dictionary_bytes) (leb (length kernel) kernel_bytes) h.sizes in
    omega (arith, h.ends, leb-true (length kernel) kernel_bytes p.1)

-- An accepted kernel has the right sizes, and passes what comes after them.
pub accepted_parts : (dictionary kernel : List ℕ) (k : List Instr) → accepted long_and_short dictionary kernel ≡ good k
    → (sized dictionary kernel ≡ true) × (judged_kernel long_and_short dictionary kernel ≡ good k)
unfolding accepted
accepted_parts dictionary kernel k e = go (sized dictionary kernel) refl e
  where
    go : (t : Bool) → sized dictionary kernel ≡ t → cond t (judged_kernel long_and_short dictionary kernel) (bad 1 0) ≡ good k
        → (sized dictionary kernel ≡ true) × (judged_kernel long_and_short dictionary kernel ≡ good k)
    go true h e = (h, e)
    go false h e = let z : ◌≡◌ {A = ℕ} 0 1 = cc in absurd (omega arith)

pub end_bound : (form : Form) (k : List Instr) → length k ≤ instruction_limit → new_end form k < 2 ^ 15
end_bound form k few = let n = new_end_near form k few in omega arith

-- Shortening is right where short words are taken; leaving every word long is right everywhere.
pub shorten_is_right : (D : Dictionary) → Right long_and_short D (shorten D)
shorten_is_right D w s fits e = (refl, (shorten-some D w s fits e).is)

pub long_is_right : (forms : Forms) (D : Dictionary) → Right forms D long_form
long_is_right forms D w s fits e = let z : ◌≡◌ {A = ℕ} 0 1 = cc in absurd (omega arith)

-- ---- kernels of long words

pub all_long : (kernel : List ℕ) (k : List Instr) → Each (WordAt long_only kernel) k → AllLong k
unfolding Each AllLong
all_long kernel [] h = tt
all_long kernel (i ∷ k) h = (h.0.two refl, all_long kernel k h.1)

-- Each word as it is, long.
long_items : List Instr → List Item
long_items [] = []
long_items (i ∷ k) = record { short = none; word = i.word } ∷ long_items k

long_items-bytes : (k : List Instr) → all_bytes (long_items k) ≡ long_bytes k
unfolding long_items all_bytes long_bytes
long_items-bytes [] = refl
long_items-bytes (i ∷ k) = ap (λ (l : List ℕ). bytes_of 16 i.word ++ l) (long_items-bytes k)

long_items-length : (k : List Instr) → length (long_items k) ≡ length k
unfolding long_items
long_items-length [] = refl
long_items-length (i ∷ k) = ap suc (long_items-length k)

long_items-instrs : (a : ℕ) (k : List Instr) → Laid a k → AllLong k → instrs_from a (long_items k) ≡ k
unfolding long_items instrs_from Laid AllLong
long_items-instrs a [] laid two = refl
long_items-instrs a (i ∷ k) laid two =
    let next : a + 2 ≡ next_of i = omega (arith, laid.0, two.0) in
    ap₂ {C = List Instr} (λ (x : Instr) (xs : List Instr). x ∷ xs)
    (λ j. record { place = sym laid.0 j; size = sym two.0 j; word = i.word })
    (ap (λ (b : ℕ). instrs_from b (long_items k)) next ∙ long_items-instrs (next_of i) k laid.2 two.1)

long_items_formed : (forms : Forms) (D : Dictionary) (k : List Instr) → AllSane k → AllFormed forms D (long_items k)
unfolding long_items AllSane AllFormed
long_items_formed forms D [] h = tt
long_items_formed forms D (i ∷ k) h = (h.0.legal, is_long h.0.fits h.0.long, long_items_formed forms D k h.1)

-- A kernel of long words is accepted also where short ones may stand, as the same instructions.
pub long_accepted : (dictionary kernel : List ℕ) (k : List Instr) → Kernel long_only dictionary kernel k → accepted long_and_short dictionary kernel ≡ good k
unfolding accepted judged_kernel
long_accepted dictionary kernel k h =
    let D = dictionary_of dictionary in
    let whole : kernel ≡ all_bytes (long_items k) = sym (long_items-bytes k ∙ long_back kernel 0 k h.sound.laid h.ends h.words) in
    let p : parse long_and_short D kernel ≡ good k =
    parse_items long_and_short D (expand-operation D) kernel (long_items k) (let l = long_items-length k in omega (arith, h.few)) whole
    (long_items_formed long_and_short D k h.sane)
    ∙ ap good (long_items-instrs 0 k h.sound.laid (all_long kernel k h.words)) in
    rw (h.sizes, h.range, p) (good_jumps k h.sound.land)

-- Laid out with every word long, the bytes are those of the words.
lay_long : (k : List Instr) (ps : List Piece) (a : ℕ) (rest : List Instr)
    → lay_from k ps a (map (piece long_form) rest) ≡ long_bytes (moved k ps a (map (piece long_form) rest))
unfolding lay_from moved long_bytes
lay_long k ps a [] = refl
lay_long k ps a (i ∷ rest) =
    ap (λ (l : List ℕ). bytes_of 16 (rewritten k ps a (piece long_form i)) ++ l) (lay_long k ps (a + new_size (piece long_form i)) rest)

pub relay_long : (k : List Instr) → relay long_form k ≡ long_bytes (relaid_by long_form k)
unfolding relay
relay_long k = lay_long k (pieces_of long_form k) 0 k

-- ---- every word that can be shortened is, to its smallest short word

-- Each item holds the smallest short word of its word, or its word has none.
unfoldable pub AllShortest : Dictionary → List Item → Type 0
AllShortest D [] = Unit {0}
AllShortest D (i ∷ is) = Shortest D i.word i.short × AllShortest D is

-- The same of a word whose distance may have been rewritten: a branch has no short form, and any other word is as it was.
rewritten-shortest : (D : Dictionary) (k : List Instr) (ps : List Piece) (a : ℕ) (i : Instr) → i.word < 2 ^ 128 → (o : Option ℕ) → shorten D i.word ≡ o
    → Shortest D (rewritten k ps a (record { instr = i; short = o })) o
rewritten-shortest D k ps a i fits (some s) e =
    let l = shorten-some D i.word s fits e in
    let same = rewritten-plain k ps a (record { instr = i; short = some s }) (short_plain D i.word s l.is) in
    subst (λ (x : ℕ). Least D x s) (sym same) l
rewritten-shortest D k ps a i fits none e = λ t h.
    let p : Piece = record { instr = i; short = none } in
    let plain : is_branch (operation i.word) ≡ false = sym (ap is_branch (rewritten-operation k ps a p)) ∙ short_plain D (rewritten k ps a p) t h in
    shorten-none D i.word fits e t (subst (λ (x : ℕ). Shortens D x t) (rewritten-plain k ps a p plain) h)

all_shortest : (D : Dictionary) (k : List Instr) (ps : List Piece) (a : ℕ) (rest : List Instr) → AllSane rest
    → AllShortest D (items_from k ps a (map (piece (shorten D)) rest))
unfolding AllSane items_from AllShortest
all_shortest D k ps a [] h = tt
all_shortest D k ps a (i ∷ rest) h = (
  rewritten-shortest D k ps a i h.0.fits (shorten D i.word) refl,
  all_shortest D k ps (a + new_size (piece (shorten D) i)) rest h.1,
)

-- The packed bytes are those of items in the smallest form each, which are the packed instructions.
pub record PackedItems (D : Dictionary) (k : List Instr) : Type 0 where
  pub items : List Item
  pub bytes : packed D k ≡ all_bytes items
  pub instrs : instrs_from 0 items ≡ relaid_by (shorten D) k
  pub shortest : AllShortest D items

pub packed-items : (D : Dictionary) (k : List Instr) → AllSane k → PackedItems D k
packed-items D k sane = record {
  items = items_of (shorten D) k;
  bytes = relay_items (shorten D) k;
  instrs = relaid_items (shorten D) k;
  shortest = all_shortest D k (pieces_of (shorten D) k) 0 k sane;
}
