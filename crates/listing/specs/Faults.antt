-- What 30 tells: before its byte stand the lines of instructions that can be read, and there stand the lines of none; or the whole text can be read, and
-- there begin the lines of the first branch that lands nowhere. The byte fits its 24 bits. Assumes nothing.
use Rattle.std.specs.Prelude.{Bool, ◌⊎◌, ◌≡◌, drop}
use Rattle.std.proofs.Math.Bool.{true, false, cond}
use mathlib.Core.List.{List, [], ◌∷◌, ◌++◌, append_assoc}
use Rattle.std.proofs.Common.{inl, inr, ap, ◌∙◌, arith}
use Rattle.std.proofs.Math.Option.{Option, none, some}
use Rattle.std.proofs.Math.Path.{refl, sym, subst}
use Prim.Native.Nat.{ℕ, zero, suc, ◌+◌, ◌*◌, ◌<◌, ◌≤◌, ◌^◌}
use Rattle.std.proofs.Math.Dec.{ltb}
use Rattle.std.proofs.Math.ListN.{length, length-append}
use borrow.Author.Tests.{ltb-true}
use Rattle.paper.specs.Limits.{instruction_limit}
use Rattle.paper.specs.Dictionary.{Dictionary}
use Rattle.paper.specs.Kernel.{Instr}
use Rattle.paper.specs.Jump.{next_of, end_from, targets_of, targets_land}
use Rattle.paper.specs.Listing.{instr_text, listing, taken, instr_at, Listing, faulty, listed, lined, lines_from, astray_lines, landed, with_targets, read_listing}
use Rattle.laws.specs.Names.{Laid, AllLand}
use Rattle.listing.specs.Lines.{Shaped, ReadAt, instr_only, instr_there, lines_most}
use Rattle.listing.specs.Texts.{Readable, clash, same_fault, follow-faulty, size_some, size_most, ReadFrom, lines_only}

-- No instruction that can be read at place p has its lines at that byte.
abbrev pub NoneAt : Dictionary → List ℕ → ℕ → ℕ → Type 0
NoneAt D s p from = (i : Instr) (rest : List ℕ) → i.place ≡ p → Shaped i → taken D i ≡ true → drop from s ≡ instr_text i ++ rest → ⊥

-- The first faulty lines, of a text from byte `from` on, with place p and at most n instructions: they begin at byte `begin`.
pub record FaultyLines (D : Dictionary) (s : List ℕ) (n p from begin : ℕ) : Type 0 where
  pub before : List Instr
  pub few : length before ≤ n
  pub laid : Laid p before
  pub able : Readable D before
  pub text : drop from s ≡ listing before ++ drop begin s
  pub there : begin ≡ from + length (listing before)
  pub more : begin < length s
  pub fault : (length before ≡ n) ⊎ NoneAt D s (end_from p before) begin

-- The first branch that lands nowhere, of a text that can be read: its lines begin at byte `begin`.
pub record FaultyJump (D : Dictionary) (s : List ℕ) (begin : ℕ) : Type 0 where
  pub all : List Instr
  pub read : ReadFrom D s instruction_limit 0 0 all
  pub before : List Instr
  pub branch : Instr
  pub after : List Instr
  pub parts : all ≡ before ++ (branch ∷ after)
  pub there : begin ≡ length (listing before)
  pub land : AllLand all before
  pub astray : targets_land all (targets_of branch) ≡ false

-- ---- lines

none_at : (D : Dictionary) (s : List ℕ) (p from : ℕ) → instr_at D s p from ≡ none → NoneAt D s p from
none_at D s p from e i rest here h t d =
    let q : none ≡ some i = sym e ∙ (ap (λ (x : ℕ). instr_at D s x from) (sym here) ∙ instr_there D s rest from i h t d) in
    let z : ◌≡◌ {A = ℕ} 0 1 = cc in absurd (omega arith)

module _ (D : Dictionary) (s : List ℕ) where
  fault_here : (n p from : ℕ) → ltb from (length s) ≡ true → (0 ≡ n) ⊎ NoneAt D s p from → FaultyLines D s n p from from
  unfolding listing Laid Readable end_from
  fault_here n p from more fault =
      record { before = []; few = omega arith; laid = tt; able = tt; text = refl; there = omega arith; more = ltb-true from (length s) more; fault = fault }

  one_more : (n : ℕ) (k : List Instr) (p from : ℕ) → (length k ≡ n) ⊎ NoneAt D s p from → (suc (length k) ≡ suc n) ⊎ NoneAt D s p from
  one_more n k p from (inl e) = inl (ap suc e)
  one_more n k p from (inr h) = inr h

  fault_later : (n p from begin : ℕ) (i : Instr) → ReadAt D s p from i → FaultyLines D s n (next_of i) (from + length (instr_text i)) begin
      → FaultyLines D s (suc n) p from begin
  unfolding listing Laid Readable end_from
  fault_later n p from begin i r h =
      record {
        before = i ∷ h.before;
        few = omega (arith, h.few);
        laid = (r.place, size_some D s i r.shaped, h.laid);
        able = (r.shaped, r.takes, h.able);
        text =
            r.there ∙ (ap (λ (l : List ℕ). instr_text i ++ l) h.text
            ∙ sym (append_assoc (instr_text i) (listing h.before) (drop begin s)));
        there = omega (arith, h.there, length-append (instr_text i) (listing h.before));
        more = h.more;
        fault = one_more n h.before (end_from (next_of i) h.before) begin h.fault;
      }

  pub lines_fault : (n p from begin : ℕ) → lines_from D s n p from ≡ faulty begin → FaultyLines D s n p from begin
  unfolding lines_from
  lines_fault zero p from begin e = go (ltb from (length s)) refl e
    where
      go : (t : Bool) → ltb from (length s) ≡ t → cond t (faulty from) (listed []) ≡ faulty begin → FaultyLines D s zero p from begin
      go true h e = subst (λ (x : ℕ). FaultyLines D s zero p from x) (same_fault from begin e) (fault_here zero p from h (inl refl))
      go false h e = clash begin [] (sym e)
  lines_fault (suc n) p from begin e = go (ltb from (length s)) refl (instr_at D s p from) refl (λ q m. lines_fault n q m begin) e
    where
      go : (t : Bool) → ltb from (length s) ≡ t → (o : Option Instr) → instr_at D s p from ≡ o
          → ((q m : ℕ) → lines_from D s n q m ≡ faulty begin → FaultyLines D s n q m begin)
          → cond t (lined from o (lines_from D s n)) (listed []) ≡ faulty begin → FaultyLines D s (suc n) p from begin
      go false h o j ih e = clash begin [] (sym e)
      go true h none j ih e =
          subst (λ (x : ℕ). FaultyLines D s (suc n) p from x) (same_fault from begin e) (fault_here (suc n) p from h (inr (none_at D s p from j)))
      go true h (some i) j ih e =
          let m = from + length (instr_text i) in
          fault_later n p from begin i (instr_only D s p from i j) (ih (next_of i) m (follow-faulty D s i (lines_from D s n (next_of i) m) begin e))

-- ---- jumps

-- The first branch among `rest` that lands nowhere in k, the lines of `rest` beginning at `from`.
record Astray (k rest : List Instr) (from begin : ℕ) : Type 0 where
  before : List Instr
  branch : Instr
  after : List Instr
  parts : rest ≡ before ++ (branch ∷ after)
  there : begin ≡ from + length (listing before)
  land : AllLand k before
  astray : targets_land k (targets_of branch) ≡ false

astray-there : (k rest : List Instr) (from begin : ℕ) → astray_lines k rest from ≡ some begin → Astray k rest from begin
unfolding astray_lines AllLand listing
astray-there k [] from begin e = let z : ◌≡◌ {A = ℕ} 0 1 = cc in absurd (omega arith)
astray-there k (i ∷ rest) from begin e = go (targets_land k (targets_of i)) refl (astray-there k rest (from + length (instr_text i)) begin) e
  where
    go : (t : Bool) → targets_land k (targets_of i) ≡ t
        → (astray_lines k rest (from + length (instr_text i)) ≡ some begin → Astray k rest (from + length (instr_text i)) begin)
        → cond t (astray_lines k rest (from + length (instr_text i))) (some from) ≡ some begin → Astray k (i ∷ rest) from begin
    go true h ih e =
        let a = ih e in
        record {
          before = i ∷ a.before;
          branch = a.branch;
          after = a.after;
          parts = ap (λ (l : List Instr). i ∷ l) a.parts;
          there = omega (arith, a.there, length-append (instr_text i) (listing a.before));
          land = (h, a.land);
          astray = a.astray;
        }
    go false h ih e =
        let q : from ≡ begin = cc in
        record { before = []; branch = i; after = rest; parts = refl; there = omega arith; land = tt; astray = h }

-- ---- what 30 tells

pub fault_told : (D : Dictionary) (s : List ℕ) (begin : ℕ) → read_listing D s ≡ faulty begin
    → FaultyLines D s instruction_limit 0 0 begin ⊎ FaultyJump D s begin
unfolding read_listing with_targets
fault_told D s begin e = go (lines_from D s instruction_limit 0 0) refl e
  where
    jump : (k : List Instr) (o : Option ℕ) → lines_from D s instruction_limit 0 0 ≡ listed k → astray_lines k k 0 ≡ o → landed k o ≡ faulty begin → FaultyJump D s begin
    jump k none h a e = clash begin k (sym e)
    jump k (some m) h a e =
        let q = same_fault m begin e in
        let b = astray-there k k 0 m a in
        record {
          all = k;
          read = lines_only D s instruction_limit 0 0 k h;
          before = b.before;
          branch = b.branch;
          after = b.after;
          parts = b.parts;
          there = omega (arith, b.there);
          land = b.land;
          astray = b.astray;
        }

    go : (q : Listing) → lines_from D s instruction_limit 0 0 ≡ q → with_targets q ≡ faulty begin → FaultyLines D s instruction_limit 0 0 begin ⊎ FaultyJump D s begin
    go (faulty m) h e =
        inl (subst (λ (x : ℕ). FaultyLines D s instruction_limit 0 0 x) (same_fault m begin e) (lines_fault D s instruction_limit 0 0 m h))
    go (listed k) h e = inr (jump k (astray_lines k k 0) h refl e)

-- ---- how far

-- Instructions have at most 70 bytes of lines each.
listing_most : (D : Dictionary) (s : List ℕ) (k : List Instr) (p : ℕ) → Laid p k → Readable D k → p + 2 * length k < 10002 → length (listing k) ≤ 70 * length k
unfolding listing Laid Readable
listing_most D s [] p laid able h = omega arith
listing_most D s (i ∷ k) p laid able h =
    let here : i.place ≡ p = laid.0 in
    let size = size_most D s i able.0 in
    let long : length (instr_text i) ≤ 70 = lines_most i (omega arith) in
    let ih = listing_most D s k (next_of i) laid.2 able.2 (omega arith) in
    omega (arith, length-append (instr_text i) (listing k))

listing-append : (k l : List Instr) → listing (k ++ l) ≡ listing k ++ listing l
unfolding listing
listing-append [] l = refl
listing-append (i ∷ k) l = ap (λ (t : List ℕ). instr_text i ++ t) (listing-append k l) ∙ sym (append_assoc (instr_text i) (listing k) (listing l))

pub fault_fits : (D : Dictionary) (s : List ℕ) (begin : ℕ) → read_listing D s ≡ faulty begin → (begin ≤ 70 * instruction_limit) × (begin < 2 ^ 24)
fault_fits D s begin e = go (fault_told D s begin e)
  where
    go : FaultyLines D s instruction_limit 0 0 begin ⊎ FaultyJump D s begin → (begin ≤ 70 * instruction_limit) × (begin < 2 ^ 24)
    go (inl f) =
        let n = f.few in
        let m = listing_most D s f.before 0 f.laid f.able (omega arith) in
        (omega (arith, f.there), omega (arith, f.there))
    go (inr f) =
        let r = f.read in
        let n = r.few in
        let m = listing_most D s f.all 0 r.laid r.able (omega arith) in
        let l = ap (λ (k : List Instr). length (listing k)) f.parts ∙ ap length (listing-append f.before (f.branch ∷ f.after)) in
        let a = length-append (listing f.before) (listing (f.branch ∷ f.after)) in
        (omega (arith, f.there), omega (arith, f.there))
