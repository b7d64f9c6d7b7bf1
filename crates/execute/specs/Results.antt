-- What an instruction's channels make of their operands, and that its low bits are the pattern that the paper stores. Assumes nothing.
use Rattle.std.specs.Prelude.{◌≡◌, Bool, cond, List, ℕ, ◌+◌, ◌%◌, ◌^◌, ◌≤◌, ◌<◌, eqb, ℤ, length, get_or, replicate}
use Rattle.std.proofs.Math.Path.{refl, ap}
use Rattle.std.proofs.Common.{sym, ◌∙◌, subst, true≢false, arith, lit<}
use Rattle.std.proofs.Math.Bool.{true, false}
use Rattle.std.proofs.lemmas.List.{get_or-replicate}
use Rattle.paper.specs.Bits.{bit}
use Rattle.paper.specs.Word.{src0, src1, cond_modifier, saturate, dst_type, src_type, src_is_a0, qtr_ctrl}
use Rattle.paper.specs.Operation as paper
use Rattle.paper.specs.Value.{type_f, width, mod_z, clamp_to, stored}
use Rattle.paper.specs.Element.{Element, is_float, meaning, result, float_result, result_of, made}
use Rattle.paper.specs.Region.{src_kind, channels}
use Rattle.paper.specs.Store.{Store}
use Rattle.paper.specs.Enable.{channel_of, holds}
use Rattle.paper.specs.Effect.{operand, file_in, source_at, channel_stores}
use Rattle.words.specs.Operations.{plain_is}
use Rattle.laws.specs.Sources.{reads_two, one_source, first_source, second_source}
use Rattle.laws.specs.Values.{IsWhole}
use Rattle.laws.specs.FloatWords.{src_no_float, src_no_vector}
use Rattle.laws.specs.DirectActs.{first_only}
use Rattle.words.specs.declared.operation.Plain.{Plain}
use Rattle.words.specs.declared.operation.Plain.TheVariants.{Mov}
use Rattle.element.specs.Biased.{ex, Near, near_mono}
use Rattle.element.specs.Base.{ex-mod}
use Rattle.element.specs.Operands.{Operands, width_most, width_short, result_one}
use Rattle.lanes.specs.Mapped.{Mapped}
use Rattle.lanes.specs.Masks.{quarter_mask}
use Rattle.lanes.specs.MaskLaws.{predicate_of, bit_quarter, bit-predicate}
use Rattle.operands.specs.Sources.{OperandRead}
use Rattle.execute.specs.Readable.{Acting, Counting, source_type, one_file, legal_factors}

-- ---- the second source, where there is one

-- The type as near to 0 as whose values the second numbers lie: src1's, or one of bytes.
abbrev pub second_type : paper.Plain → ℕ → ℕ
second_type p w = cond (reads_two p) (src_type src1 w) 4

-- Each of the n first numbers lies near, and stands for what its channel of src1 reads if there is a second source.
pub record SecondRead (p : paper.Plain) (w : ℕ) (registers : List ℕ) (n : ℕ) (values : List ℕ) : Type 0 where
  pub near : (k : ℕ) → k < n → Near (width (second_type p w)) (get_or values k 0)
  pub reads : reads_two p ≡ true → (k : ℕ) → k < n → ex (get_or values k 0) ≡ meaning (operand w registers src1 k)

pub second_read : (p : paper.Plain) (w : ℕ) (registers : List ℕ) (n : ℕ) (old new : List ℕ) → reads_two p ≡ true
    → OperandRead w registers src1 n old new → SecondRead p w registers n new
unfolding OperandRead
second_read p w registers n old new e m =
    record { near = λ k h. rw e (m.done k h).1; reads = λ t k h. (m.done k h).0 }

pub second_none : (p : paper.Plain) (w : ℕ) (registers : List ℕ) (n : ℕ) (values : List ℕ) → reads_two p ≡ false
    → ((k : ℕ) → k < n → Near 8 (get_or values k 0)) → SecondRead p w registers n values
second_none p w registers n values e near =
    record { near = λ k h. rw e (near k h); reads = λ t k h. absurd (true≢false (sym t ∙ e)) }

-- What stands for 0 is near.
pub zeros-near : (v n : ℕ) → v ≡ 2 ^ 63 → n ≤ 16 → (k : ℕ) → k < n → Near 8 (get_or (replicate 16 v) k 0)
zeros-near v n e h k q = rw (get_or-replicate 16 k v 0 (omega arith), e) (record { above = lit< tt; below = lit< tt })

-- ---- the stages

-- Each of the n first numbers becomes the result of the operation on it and on the second.
unfoldable pub Combined : paper.Plain → ℕ → ℕ → ℕ → List ℕ → List ℕ → List ℕ → Type 0
Combined p condition predicate n first second made =
    Mapped (λ k a b. ex b ≡ result p condition (bit predicate k) (ex a) (ex (get_or second k 0))) n first made

-- The low bits of each of the n first numbers become what is stored for it.
unfoldable pub Kept : Bool → ℕ → ℕ → List ℕ → List ℕ → Type 0
Kept saturated kind n old new = Mapped (λ k a b. b % 2 ^ width kind ≡ stored saturated kind (ex a)) n old new

-- There are sixteen still.
pub read_sixteen : (w : ℕ) (registers : List ℕ) (n : ℕ) (old new : List ℕ) → OperandRead w registers src0 n old new → length new ≡ 16
unfolding OperandRead
read_sixteen w registers n old new m = m.sixteen

pub combined_sixteen : (p : paper.Plain) (condition predicate n : ℕ) (first second made : List ℕ) → Combined p condition predicate n first second made → length made ≡ 16
unfolding Combined
combined_sixteen p condition predicate n first second made m = m.sixteen

-- What a channel makes in the paper's terms; bit k of the predicate mask says whether its predicate holds.
unfoldable pub channel_makes : paper.Plain → ℕ → ℕ → List ℕ → ℕ → ℕ
channel_makes p w predicate registers k =
    made p (cond_modifier w) (bit predicate k) (eqb (saturate w) 1) (dst_type w) (operand w registers src0 k) (operand w registers src1 k)

-- The low bits of each channel's number are what it makes.
unfoldable pub Makes : paper.Plain → ℕ → ℕ → List ℕ → List ℕ → Type 0
Makes p w predicate registers made =
    (k : ℕ) → k < channels w → get_or made k 0 % 2 ^ width (dst_type w) ≡ channel_makes p w predicate registers k

-- ---- one channel

-- A number has the low bits of what it stands for.
low_bits : (kind v : ℕ) → v % 2 ^ width kind ≡ mod_z (ex v) (2 ^ width kind)
low_bits kind v = let most = width_most kind in sym (ex-mod (width kind) v (omega arith))

pub kept_stays : (kind v : ℕ) → v % 2 ^ width kind ≡ stored false kind (ex v)
unfolding stored
kept_stays kind v = low_bits kind v

pub kept_clamped : (kind v r : ℕ) → ex r ≡ clamp_to kind (ex v) → r % 2 ^ width kind ≡ stored true kind (ex v)
unfolding stored
kept_clamped kind v r e = low_bits kind r ∙ ap (λ (z : ℤ). mod_z z (2 ^ width kind)) e

-- Operands as near as their types' values are as an operation asks.
operands_near : (p : Plain) (kind0 kind1 a b : ℕ) → IsWhole kind0 → IsWhole kind1 → (plain_is p ≡ paper.mul → (2 ≤ kind0) × (2 ≤ kind1)) → Near (width kind0) a → Near (width kind1) b
    → Operands p a b
operands_near p kind0 kind1 a b h0 h1 f na nb =
    record {
      first = near_mono (width_most kind0) na;
      second = near_mono (width_most kind1) nb;
      factors = λ e. (near_mono (width_short kind0 (f e).0 h0) na, near_mono (width_short kind1 (f e).1 h1) nb);
    }

-- mul's types are not of dwords.
factors : (p : paper.Plain) (w : ℕ) → Acting p w → p ≡ paper.mul → (2 ≤ src_type src0 w) × (2 ≤ second_type p w)
factors p w legal e =
    subst (λ q. (2 ≤ src_type src0 w) × (2 ≤ second_type q w)) (sym e) (legal_factors w (subst (λ q. Acting q w) e legal))

-- The result of whole numbers is that of what they mean.
whole_result : (p : paper.Plain) (w : ℕ) → Counting p w → (c : ℕ) (holds : Bool) (registers : List ℕ) (k : ℕ) (b : Element)
    → result p c holds (meaning (operand w registers src0 k)) (meaning b) ≡ result_of p c holds (operand w registers src0 k) b
unfolding result_of operand
whole_result p w l c holds registers k b =
    let none : is_float (src_kind src0 w) ≡ false =
    ap (λ (t : Bool). eqb (cond t type_f (src_type src0 w)) type_f) (src_no_vector p w l.whole src0 (first_source p)) ∙ src_no_float p w l.whole src0 (first_source p) in
    let a : Element = operand w registers src0 k in
    ap (λ (t : Bool). cond t (float_result p c (meaning a) (meaning b)) (result p c holds (meaning a) (meaning b))) (sym none)

-- The type of the second numbers is one of whole numbers.
second_whole : (p : paper.Plain) (w : ℕ) → Counting p w → IsWhole (second_type p w)
second_whole p w l = go (reads_two p) refl
  where
    go : (t : Bool) → reads_two p ≡ t → IsWhole (cond t (src_type src1 w) 4)
    go true e = source_type p w l src1 (second_source p e)
    go false e = lit< tt

-- ---- all channels

module _ (p : Plain) (w : ℕ) (registers : List ℕ) (n : ℕ) (old first second : List ℕ)
    (a : OperandRead w registers src0 n old first) (b : SecondRead (plain_is p) w registers n second) where
  -- What was read is as the operation asks.
  pub read_operands : Counting (plain_is p) w → (k : ℕ) → k < n → Operands p (get_or first k 0) (get_or second k 0)
  unfolding OperandRead
  read_operands legal k h =
      operands_near p (src_type src0 w) (second_type (plain_is p) w) _ _ (source_type (plain_is p) w legal src0 (first_source (plain_is p))) (second_whole (plain_is p) w legal)
      (factors (plain_is p) w legal.acting) (a.done k h).1 (b.near k h)

  -- The result is the paper's, whether or not there is a second source.
  result_read : (c : ℕ) (holds : Bool) (k : ℕ) → k < n
      → result (plain_is p) c holds (ex (get_or first k 0)) (ex (get_or second k 0))
      ≡ result (plain_is p) c holds (meaning (operand w registers src0 k)) (meaning (operand w registers src1 k))
  unfolding OperandRead
  result_read c holds k h = ap (λ (z : ℤ). result (plain_is p) c holds z (ex (get_or second k 0))) (a.done k h).0 ∙ go (reads_two (plain_is p)) refl
    where
      go : (t : Bool) → reads_two (plain_is p) ≡ t
          → result (plain_is p) c holds (meaning (operand w registers src0 k)) (ex (get_or second k 0))
          ≡ result (plain_is p) c holds (meaning (operand w registers src0 k)) (meaning (operand w registers src1 k))
      go true e = ap (result (plain_is p) c holds (meaning (operand w registers src0 k))) (b.reads e k h)
      go false e = result_one (plain_is p) c holds _ _ _ (one_source (plain_is p) e)

  -- So is what is made of it.
  pub results_made : Counting (plain_is p) w → (predicate c kind : ℕ) (saturated : Bool) (combined made : List ℕ)
      → n ≡ channels w → c ≡ cond_modifier w → kind ≡ dst_type w → saturated ≡ eqb (saturate w) 1
      → Combined (plain_is p) c predicate n first second combined → Kept saturated kind n combined made → Makes (plain_is p) w predicate registers made
  unfolding Combined Kept Makes channel_makes made
  results_made legal predicate c kind saturated combined made en ec ek es m q k h =
      let below : k < n = rw en h in
      rw (← ek, ← es, ← ec) (q.done k below ∙ ap (stored saturated kind)
      (m.done k below ∙ result_read c (bit predicate k) k below ∙ whole_result (plain_is p) w legal c (bit predicate k) registers k (operand w registers src1 k)))

-- ---- mov

-- What stands for 0 where mov has no second source.
abbrev zeros : List ℕ
zeros = replicate 16 (2 ^ 63)

-- mov makes what its source reads, saturated if asked for, whatever the predicate.
pub moved_made : (w : ℕ) → Counting paper.mov w → (file : List ℕ) (n : ℕ) (old first made : List ℕ) → OperandRead w file src0 n old first → n ≡ channels w → n ≤ 16
    → (kind : ℕ) (saturated : Bool) → kind ≡ dst_type w → saturated ≡ eqb (saturate w) 1 → Kept saturated kind n first made
    → (predicate : ℕ) → Makes paper.mov w predicate file made
unfolding Combined result
moved_made w legal file n old first made a en most kind saturated ek es kept predicate =
    results_made Mov w file n old first zeros a (second_none paper.mov w file n zeros refl (zeros-near (2 ^ 63) n refl most)) legal predicate (cond_modifier w) kind saturated first made en refl ek es combined kept
  where
    combined : Combined paper.mov (cond_modifier w) predicate n first zeros first
    combined = record { sixteen = read_sixteen w file n old first a; done = λ k h. refl; kept = λ k h. refl }

-- ---- the paper's channels

-- What the channels make of the file that src0 stands in, by the mask of the predicate as the instruction numbers its channels, is what the paper says that they
-- store.
pub makes_stores : (p : paper.Plain) (w : ℕ) (st : Store) → Acting p w → channel_of w 0 + channels w ≤ 16 → (k : ℕ) → k < channels w
    → channel_makes p w (quarter_mask (predicate_of w st) (qtr_ctrl w)) (file_in (src_is_a0 src0 w) st) k ≡ channel_stores p w st k
unfolding channel_makes channel_stores
makes_stores p w st acting count k h =
    rw (bit_quarter (predicate_of w st) (qtr_ctrl w) k, bit-predicate w st (channel_of w k) (omega arith)) (go (reads_two p) refl)
  where
    makes : Element → ℕ
    makes b = made p (cond_modifier w) (holds w st (channel_of w k)) (eqb (saturate w) 1) (dst_type w) (source_at w st src0 k) b

    go : (t : Bool) → reads_two p ≡ t → makes (operand w (file_in (src_is_a0 src0 w) st) src1 k) ≡ makes (source_at w st src1 k)
    go true e = ap (λ (f : Bool). makes (operand w (file_in f st) src1 k)) (sym (one_file p w acting e))
    go false e = first_only p e _ _ _ _ _ _ _
