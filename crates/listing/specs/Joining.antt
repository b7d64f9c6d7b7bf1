-- From the first pass over a text to what the other two ask, how long its kernel is, and what the call then answers. Assumes nothing.
use Rattle.std.specs.Prelude.{Ok, Err, true, false, List, [], ◌∷◌, ◌≡◌, ℕ, ◌+◌, ◌*◌, ◌≤◌, length}
use Rattle.std.proofs.Math.Path.{refl, ap}
use Rattle.std.proofs.Common.{sym, ◌∙◌, arith, eq-eqb, ne_eqb}
use Rattle.paper.specs.Limits.{dictionary_bytes, instruction_limit}
use Rattle.paper.specs.Dictionary.{Dictionary, dictionary_of, in_range}
use Rattle.paper.specs.Kernel.{Instr}
use Rattle.paper.specs.Jump.{next_of, end_from, end_of}
use Rattle.paper.specs.Calls.{deliver}
use Rattle.paper.specs.Listing.{Listing, faulty, listed, lines_from, astray_lines, landed, with_targets, read_listing, kernel_of, read_as, read_call}
use Rattle.laws.specs.Names.{Laid}
use Rattle.std.specs.Prelude as std
use Rattle.words.specs.declared.refusal.Refusal.TheVariants.{WrongSize, WideDictionary, NoListing}
use Rattle.words.specs.declared.answer.Refused.{Refused}
use Rattle.words.specs.Answer.{Answer, Wrote, refused_at}
use Rattle.listing.specs.Texts.{Readable, size_most, lines_only}
use Rattle.listing.specs.Kernels.{kernel_length}
use Rattle.listing.specs.Scanning.{Scanned, Scans}
use Rattle.listing.specs.Again.{lines_in, CanRead, MarksAre, astray_is}

-- ---- the first pass

-- At most two places an instruction.
end_most : (D : Dictionary) (s : List ℕ) (p : ℕ) (k : List Instr) → Laid p k → Readable D k → end_from p k ≤ p + 2 * length k
unfolding Laid Readable end_from
end_most D s p [] laid able = omega arith
end_most D s p (i ∷ k) laid able =
    let here : i.place ≡ p = laid.0 in
    let ih = end_most D s (next_of i) k laid.2 able.2 in
    let few = size_most D s i able.0 in
    omega arith

-- What it tells of a text that can be read: the instructions, their marks, and how many places their kernel has.
pub record Passed (dictionary s marks : List ℕ) (places : ℕ) : Type 0 where
  pub lines : lines_from (dictionary_of dictionary) s instruction_limit 0 0 ≡ listed (lines_in dictionary s)
  pub read : CanRead dictionary s
  pub marks-are : MarksAre (lines_in dictionary s) marks
  pub bytes : 8 * places ≡ length (kernel_of (dictionary_of dictionary) (lines_in dictionary s))
  pub few : places ≤ 2 * instruction_limit

-- A text that is faulty has no places, one that can be read no fault.
no_places : {A : Type 0} (places : ℕ) (f : Refused) → ◌≡◌ {A = Scanned} (Ok places) (Err f) → A
no_places places f e = let z : ◌≡◌ {A = ℕ} 0 1 = cc in absurd (omega arith)

same_places : (a b : ℕ) → ◌≡◌ {A = Scanned} (Ok a) (Ok b) → a ≡ b
same_places a b e = cc

same_refusal : (f g : Refused) → ◌≡◌ {A = Scanned} (Err f) (Err g) → f ≡ g
same_refusal f g e = cc

module _ (dictionary s marks : List ℕ) (r : Scanned) where
  abbrev lines : Listing
  lines = lines_from (dictionary_of dictionary) s instruction_limit 0 0

  pub passed : Scans lines r marks → (places : ℕ) → r ≡ Ok places → Passed dictionary s marks places
  unfolding lines_in Scans
  passed scans places e = go lines refl scans
    where
      go : (q : Listing) → lines ≡ q → Scans q r marks → Passed dictionary s marks places
      go (faulty from) l h = no_places places (refused_at NoListing from) (sym e ∙ h)
      go (listed k) l h =
          let D = dictionary_of dictionary in
          let own : lines_in dictionary s ≡ k = rw l in
          let k_read = lines_only D s instruction_limit 0 0 k l in
          let end : end_of k ≡ places = same_places (end_of k) places (sym h.0 ∙ e) in
          record {
            lines = l ∙ ap listed (sym own);
            read = rw own k_read;
            marks-are = rw own h.1;
            bytes = rw own (omega (arith, kernel_length D 0 k k_read.laid k_read.able));
            few = omega (arith, end_most D s 0 k k_read.laid k_read.able, k_read.few);
          }

  -- The byte of a fault.
  pub faulted : Scans lines r marks → (f : Refused) → r ≡ Err f → (f ≡ refused_at NoListing f.offset) × (lines ≡ faulty f.offset)
  unfolding Scans
  faulted scans f e = go lines refl scans
    where
      go : (q : Listing) → lines ≡ q → Scans q r marks → (f ≡ refused_at NoListing f.offset) × (q ≡ faulty f.offset)
      go (faulty m) l h =
          let same : f ≡ refused_at NoListing m = same_refusal f (refused_at NoListing m) (sym e ∙ h) in
          let from : m ≡ f.offset = sym (ap (λ (g : Refused). g.offset) same) in
          (same ∙ ap (refused_at NoListing) from, ap faulty from)
      go (listed k) l h = no_places (end_of k) f (sym h.0 ∙ e)

-- ---- what is read

module _ (dictionary s marks : List ℕ) (places : ℕ) (p : Passed dictionary s marks places) (a : std.Option ℕ)
    (is : astray_is a ≡ astray_lines (lines_in dictionary s) (lines_in dictionary s) 0) where
  -- A jump that goes astray is told.
  pub read_astray : (from : ℕ) → a ≡ std.Some from → read_listing (dictionary_of dictionary) s ≡ faulty from
  unfolding read_listing with_targets
  read_astray from e = ap with_targets p.lines ∙ ap (landed (lines_in dictionary s)) (sym is ∙ ap astray_is e)

  -- If all land, the instructions are read.
  pub read-landed : a ≡ std.None → read_listing (dictionary_of dictionary) s ≡ listed (lines_in dictionary s)
  unfolding read_listing with_targets
  read-landed e = ap with_targets p.lines ∙ ap (landed (lines_in dictionary s)) (sym is ∙ ap astray_is e)

-- Lines that are faulty are told before any jump.
pub read-faulty : (D : Dictionary) (s : List ℕ) (from : ℕ) → lines_from D s instruction_limit 0 0 ≡ faulty from → read_listing D s ≡ faulty from
unfolding read_listing with_targets
read-faulty D s from e = ap with_targets e

-- ---- the answer

module _ (D : Dictionary) (s out : List ℕ) where
  pub told_faulty : (from : ℕ) → read_listing D s ≡ faulty from → Wrote (read_as D out (read_listing D s)) (Err (refused_at NoListing from)) out
  told_faulty from e = rw e (refl, refl)

  pub told_kernel : (k : List Instr) → read_listing D s ≡ listed k → (r : Answer) (after : List ℕ) → Wrote (deliver (kernel_of D k) out) r after
      → Wrote (read_as D out (read_listing D s)) r after
  told_kernel k e r after w = rw e w

module _ (dictionary s out : List ℕ) where
  pub read_size : (length dictionary ≡ dictionary_bytes → ⊥) → Wrote (read_call dictionary s out) (Err (refused_at WrongSize 0)) out
  unfolding read_call
  read_size h = rw (ne_eqb (length dictionary) dictionary_bytes h) (refl, refl)

  module _ (size : length dictionary ≡ dictionary_bytes) where
    pub read_range : in_range (dictionary_of dictionary) ≡ false → Wrote (read_call dictionary s out) (Err (refused_at WideDictionary 0)) out
    unfolding read_call
    read_range e = rw (eq-eqb (length dictionary) dictionary_bytes size, e) (refl, refl)

    pub read_told : in_range (dictionary_of dictionary) ≡ true → (r : Answer) (after : List ℕ)
        → Wrote (read_as (dictionary_of dictionary) out (read_listing (dictionary_of dictionary) s)) r after → Wrote (read_call dictionary s out) r after
    unfolding read_call
    read_told e r after w = rw (eq-eqb (length dictionary) dictionary_bytes size, e) w
