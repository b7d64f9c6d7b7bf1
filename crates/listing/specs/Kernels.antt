-- The kernel that is read: the bench accepts it, with the instructions that were listed; and listing it gives the text. Assumes nothing.
use Rattle.std.specs.Prelude.{Bool, not, cond, ◌&&◌, List, [], ◌∷◌, ◌++◌, map, ◌≡◌, ℕ, ◌+◌, ◌*◌, ◌<◌, ◌≤◌, ◌^◌, eqb, length}
use Rattle.std.proofs.Math.Bool.{true, false}
use Rattle.std.proofs.Common.{sym, ap, ap₂, ◌∙◌, subst, arith, length-append, eqb-true, eq-eqb, le-leb}
use Rattle.std.proofs.lemmas.Bool.{false≢true}
use Rattle.std.proofs.Math.Option.{Option, none, some}
use Rattle.std.proofs.Math.Path.{refl}
use Rattle.std.proofs.lemmas.List.{length-map}
use Rattle.paper.specs.Limits.{instruction_limit, dictionary_bytes, kernel_bytes}
use Rattle.paper.specs.Dictionary.{Dictionary, dictionary_of, in_range}
use Rattle.paper.specs.Expand.{is_short}
use Rattle.paper.specs.Shorten.{shorten}
use Rattle.paper.specs.Operation.{operation, is_listed}
use Rattle.paper.specs.Legal.{refusal_of}
use Rattle.paper.specs.Kernel.{Instr, long_and_short, good, parse}
use Rattle.paper.specs.Jump.{next_of, end_from, targets_of, targets_land}
use Rattle.paper.specs.Packing.{places_taken, encode}
use Rattle.paper.specs.Calls.{judged_kernel, accepted}
use Rattle.paper.specs.Listing.{instr_text, listing, word_taken, present, form_taken, taken, Listing, faulty, listed, lines_from, astray_lines, landed, with_targets, read_listing, short_of, kernel_of}
use Rattle.laws.specs.Truth.{both_true}
use Rattle.laws.specs.Names.{Laid, AllLand}
use Rattle.laws.specs.Expand.{expand-operation}
use Rattle.laws.specs.Shorten.{shorten-some}
use Rattle.laws.specs.Items.{Item, all_bytes, instrs_from, Legal, Formed, is_long, is_shortened, AllFormed, length-encode, parse_items}
use Rattle.laws.specs.Parse.{good_jumps}
use Rattle.listing.specs.Lines.{Shaped}
use Rattle.listing.specs.Texts.{Readable, clash, same_list, lines_there, lines_only}

-- ---- one instruction

-- What it takes to be taken.
pub record Takes (D : Dictionary) (i : Instr) : Type 0 where
  pub long : is_short i.word ≡ false
  pub legal : Legal i.word
  pub form : form_taken D i ≡ true

not-true : (b : Bool) → not b ≡ true → b ≡ false
not-true false e = refl
not-true true e = absurd (false≢true e)

pub taken_takes : (D : Dictionary) (i : Instr) → taken D i ≡ true → Takes D i
unfolding word_taken
taken_takes D i e =
    let w = i.word in
    let a = both_true (word_taken w) (form_taken D i) e in
    let b = both_true (not (is_short w)) (is_listed (operation w) && eqb (refusal_of w) 0) a.0 in
    let c = both_true (is_listed (operation w)) (eqb (refusal_of w) 0) b.1 in
    record {
      long = not-true (is_short w) b.0;
      legal = record { listed = c.0; passes = eqb-true (refusal_of w) 0 c.1 };
      form = a.1;
    }

pub takes_taken : (D : Dictionary) (i : Instr) → Takes D i → taken D i ≡ true
unfolding word_taken
takes_taken D i t = rw (t.long, t.legal.listed, eq-eqb (refusal_of i.word) 0 t.legal.passes, t.form)

-- The form that it is laid out in.
abbrev pub item_of : Dictionary → Instr → Item
item_of D i = record { short = short_of D i; word = i.word }

is_some : (o : Option ℕ) → present o ≡ true → (s : ℕ) × (o ≡ some s)
is_some none e = absurd (false≢true e)
is_some (some s) e = (s, refl)

-- A short instruction has a short word, a long one none.
module _ (D : Dictionary) (i : Instr) (e : form_taken D i ≡ true) (fits : i.word < 2 ^ 128) (long : is_short i.word ≡ false) where
  form_is : (b : Bool) → i.size ≡ cond b 1 2 → (places_taken (short_of D i) ≡ i.size) × Formed long_and_short D i.word (short_of D i)
  unfolding form_taken short_of
  form_is true q =
      let p : present (shorten D i.word) ≡ true = rw q at e in
      let s = is_some (shorten D i.word) p in
      rw (q, s.1) (refl, is_shortened refl (shorten-some D i.word s.0 fits s.1).is)
  form_is false q = rw q (refl, is_long fits long)

-- ---- all of them

abbrev pub items_of : Dictionary → List Instr → List Item
items_of D k = map (item_of D) k

pub kernel_items : (D : Dictionary) (k : List Instr) → kernel_of D k ≡ all_bytes (items_of D k)
unfolding kernel_of all_bytes
kernel_items D [] = refl
kernel_items D (i ∷ k) = ap (λ (l : List ℕ). encode (short_of D i) i.word ++ l) (kernel_items D k)

pub one_form : (D : Dictionary) (i : Instr) → Shaped i → taken D i ≡ true → (places_taken (short_of D i) ≡ i.size) × Formed long_and_short D i.word (short_of D i)
one_form D i h e = let t = taken_takes D i e in form_is D i t.form h.fits t.long h.is_short h.size

instrs_back : (D : Dictionary) (p : ℕ) (k : List Instr) → Laid p k → Readable D k → instrs_from p (items_of D k) ≡ k
unfolding Laid Readable instrs_from
instrs_back D p [] laid able = refl
instrs_back D p (i ∷ k) laid able =
    let size : places_taken (short_of D i) ≡ i.size = (one_form D i able.0 able.1).0 in
    let here : i.place ≡ p = laid.0 in
    let next : p + places_taken (short_of D i) ≡ next_of i = omega arith in
    let ih : instrs_from (p + places_taken (short_of D i)) (items_of D k) ≡ k =
    ap (λ (x : ℕ). instrs_from x (items_of D k)) next ∙ instrs_back D (next_of i) k laid.2 able.2 in
    let first : record { place = p; size = places_taken (short_of D i); word = i.word } ≡ i =
    λ j. record { place = sym here j; size = size j; word = i.word } in
    ap₂ (λ (x : Instr) (y : List Instr). x ∷ y) first ih

all_formed : (D : Dictionary) (k : List Instr) → Readable D k → AllFormed long_and_short D (items_of D k)
unfolding Readable AllFormed
all_formed D [] able = tt
all_formed D (i ∷ k) able = ((taken_takes D i able.1).legal, (one_form D i able.0 able.1).1, all_formed D k able.2)

-- At most 16 bytes each.
pub few_bytes : (D : Dictionary) (k : List Instr) → length (kernel_of D k) ≤ 16 * length k
unfolding kernel_of
few_bytes D [] = omega arith
few_bytes D (i ∷ k) =
    let ih = few_bytes D k in
    let two = at_most_two (short_of D i) in
    omega (arith, length-append (encode (short_of D i) i.word) (kernel_of D k), length-encode (short_of D i) i.word)
  where
    at_most_two : (o : Option ℕ) → places_taken o ≤ 2
    at_most_two none = omega arith
    at_most_two (some s) = omega arith

-- Eight bytes a place.
pub kernel_length : (D : Dictionary) (p : ℕ) (k : List Instr) → Laid p k → Readable D k → 8 * p + length (kernel_of D k) ≡ 8 * end_from p k
unfolding kernel_of Laid Readable end_from
kernel_length D p [] laid able = omega arith
kernel_length D p (i ∷ k) laid able =
    let size : places_taken (short_of D i) ≡ i.size = (one_form D i able.0 able.1).0 in
    let here : i.place ≡ p = laid.0 in
    let ih = kernel_length D (next_of i) k laid.2 able.2 in
    omega (arith, length-append (encode (short_of D i) i.word) (kernel_of D k), length-encode (short_of D i) i.word)

-- Their bytes parse to them.
pub kernel_parses : (D : Dictionary) (k : List Instr) → length k ≤ instruction_limit → Laid 0 k → Readable D k → parse long_and_short D (kernel_of D k) ≡ good k
kernel_parses D k few laid able =
    parse_items long_and_short D (expand-operation D) (kernel_of D k) (items_of D k)
    (rw (length-map k (item_of D)) few) (kernel_items D k) (all_formed D k able)
    ∙ ap good (instrs_back D 0 k laid able)

-- ---- jumps

-- None goes astray exactly where all land.
lines_land : (k rest : List Instr) (from : ℕ) → astray_lines k rest from ≡ none → AllLand k rest
unfolding astray_lines AllLand
lines_land k [] from e = tt
lines_land k (i ∷ rest) from e = go (targets_land k (targets_of i)) refl (lines_land k rest (from + length (instr_text i))) e
  where
    go : (t : Bool) → targets_land k (targets_of i) ≡ t → (astray_lines k rest (from + length (instr_text i)) ≡ none → AllLand k rest)
        → cond t (astray_lines k rest (from + length (instr_text i))) (some from) ≡ none → (targets_land k (targets_of i) ≡ true) × AllLand k rest
    go true h ih e = (h, ih e)
    go false h ih e = let z : ◌≡◌ {A = ℕ} 0 1 = cc in absurd (omega arith)

land_lines : (k rest : List Instr) (from : ℕ) → AllLand k rest → astray_lines k rest from ≡ none
unfolding astray_lines AllLand
land_lines k [] from l = refl
land_lines k (i ∷ rest) from l = rw l.0 (land_lines k rest (from + length (instr_text i)) l.1)

targets_listed : (q : Listing) (k : List Instr) → with_targets q ≡ listed k → (q ≡ listed k) × AllLand k k
unfolding with_targets
targets_listed (faulty from) k e = clash from k e
targets_listed (listed r) k e = go (astray_lines r r 0) refl e
  where
    go : (o : Option ℕ) → astray_lines r r 0 ≡ o → landed r o ≡ listed k → (listed r ≡ listed k) × AllLand k k
    go none h e = (e, subst (λ (x : List Instr). AllLand x x) (same_list r k e) (lines_land r r 0 h))
    go (some from) h e = clash from k e

-- ---- a text that is read

-- What is known of it: it is the listing of the instructions, which can be read and whose jumps land.
pub record Text (D : Dictionary) (s : List ℕ) (k : List Instr) : Type 0 where
  pub few : length k ≤ instruction_limit
  pub laid : Laid 0 k
  pub able : Readable D k
  pub land : AllLand k k
  pub text : s ≡ listing k

pub read_text : (D : Dictionary) (s : List ℕ) (k : List Instr) → read_listing D s ≡ listed k → Text D s k
unfolding read_listing
read_text D s k e =
    let t = targets_listed (lines_from D s instruction_limit 0 0) k e in
    let r = lines_only D s instruction_limit 0 0 k t.0 in
    record { few = r.few; laid = r.laid; able = r.able; land = t.1; text = r.text }

pub text_read : (D : Dictionary) (s : List ℕ) (k : List Instr) → Text D s k → read_listing D s ≡ listed k
unfolding read_listing with_targets
text_read D s k t =
    ap with_targets (lines_there D s instruction_limit k 0 0 t.few t.laid t.able t.text)
    ∙ ap (landed k) (land_lines k k 0 t.land)

-- The bench accepts the kernel that was read, and its instructions are those that were listed: listing what was read gives the text.
pub read_accepted : (dictionary s : List ℕ) (k : List Instr) → length dictionary ≡ dictionary_bytes → in_range (dictionary_of dictionary) ≡ true
    → Text (dictionary_of dictionary) s k → accepted long_and_short dictionary (kernel_of (dictionary_of dictionary) k) ≡ good k
unfolding accepted judged_kernel
read_accepted dictionary s k size range t =
    let D = dictionary_of dictionary in
    let short : length (kernel_of D k) ≤ kernel_bytes = let l = few_bytes D k in let n = t.few in omega arith in
    rw (eq-eqb (length dictionary) dictionary_bytes size, le-leb (length (kernel_of D k)) kernel_bytes short, range, kernel_parses D k t.few t.laid t.able)
    (good_jumps k t.land)
