-- What a legal word gives whose operands are named directly: sources that can be read, a destination that can be written. Assumes nothing.
use Rattle.std.specs.Prelude.{◌≡◌, Bool, cond, ◌&&◌, ◌||◌, ℕ, ◌+◌, ◌≤◌, ◌<◌, eqb, ltb, leb}
use Rattle.std.proofs.Math.Path.{refl, ap}
use Rattle.std.proofs.Common.{sym, ◌∙◌, true≢false, arith}
use Rattle.std.proofs.Math.Bool.{true, false, not}
use Rattle.std.proofs.lemmas.Bool.{false≢true}
use mathlib.Core.List.{List, Memᴰ}
use borrow.Author.Tests.{leb-true, ltb-false, eqb-true, not-true, not-false}
use Rattle.paper.specs.Word.{Source, src0, src1, access_mode, acc_wr_ctrl, exec_size, saturate, cond_modifier, is_immediate}
use Rattle.paper.specs.Word.{grf, dst_file, dst_type, dst_addr_mode, src_file, src_type, src_addr_mode}
use Rattle.paper.specs.Operation.{Plain, Operation, plain, nop, branch, unlisted, operation, is_mov, traits, sources}
use Rattle.paper.specs.Store.{Store}
use Rattle.paper.specs.Address.{settled}
use Rattle.paper.specs.Effect.{plain_effect, effect}
use Rattle.laws.specs.Settled.{settled_none}
use Rattle.paper.specs.Value.{type_f, type_vf, IsType}
use Rattle.paper.specs.Region.{src_is_vector, channels, dst_size, dst_element}
use Rattle.paper.specs.Word.{is_null, dst_is_a0, src_is_a0}
use Rattle.paper.specs.Legal.{any_of, misplaced, unequal_halves, bad_modifier, own_rule_broken, mixed, quarter_served, predicate_served, condition_served, control_served, register_type, immediate_type, dst_served, src_served, uses_a0, moves_words, dst_is_float, src_is_float, uses_floats, floats_served, plain_served, operand_rule_broken, bytes_in}
use Rattle.paper.specs.Enable.{channel_of}
use Rattle.laws.specs.Truth.{both_true}
use Rattle.laws.specs.Values.{IsWhole, register_type_lem}
use Rattle.laws.specs.FloatWords.{src_no_float, src_no_vector}
use Rattle.laws.specs.Sources.{reads_two, sources_told, one_source, first_source, second_source}
use Rattle.laws.specs.Regions.{LegalPlain, Named, or-false, none_of, source_inside, destination_inside}
use Rattle.lanes.specs.Served.{plain_control, plain_channels}
use Rattle.operands.specs.Sources.{Readable}
use Rattle.operands.specs.Floats.{FloatsIn}

-- Word w of operation p can be executed: it is legal, and every operand is named directly.
pub record Acting (p : Plain) (w : ℕ) : Type 0 where
  pub legal : LegalPlain p w
  pub named : Named p w

-- Operation p of word w can be executed, and its operands are whole numbers.
pub record Counting (p : Plain) (w : ℕ) : Type 0 where
  pub acting : Acting p w
  pub whole : uses_floats p w ≡ false

-- Operation p of word w can be executed, and some of its operands is a float.
pub record Reckoning (p : Plain) (w : ℕ) : Type 0 where
  pub acting : Acting p w
  pub some : uses_floats p w ≡ true

-- Word w, if it is of an operation with operands, can be executed and has no operand that is a float or in a0: it acts on registers alone, and on whole numbers.
abbrev pub OnRegisters : ℕ → Type 0
OnRegisters w = (p : Plain) → operation w ≡ plain p → Counting p w × (uses_a0 p w ≡ false)

-- The effect of a word that can be executed is that of its operation as the word stands.
pub effect-acting : (p : Plain) (w : ℕ) (awake : List Bool) (st : Store) → operation w ≡ plain p → Acting p w → effect w awake st ≡ plain_effect p w awake st
unfolding effect
effect-acting p w awake st o acting =
    ap {B = Store} (λ (q : Operation). elim q [ plain p ↦ plain_effect p (settled p st.addresses w) awake st | nop ↦ st | branch b ↦ st | unlisted ↦ st ]) o
    ∙ ap (λ (v : ℕ). plain_effect p v awake st) (settled_none st.addresses p w acting.named)

-- ---- channels

-- A word's destination can be written: its type is one, and what is not null lies inside its file.
pub record Writable (w : ℕ) : Type 0 where
  pub count : exec_size w ≤ 4
  pub type : IsType (dst_type w)
  pub inside : is_null w ≡ false → (n : ℕ) → n < channels w → dst_element w n + dst_size w ≤ bytes_in (dst_is_a0 w)

-- A served ExecSize code is at most 4.
control_count : (compares saturates : Bool) (w : ℕ) → control_served compares saturates w ≡ true → exec_size w ≤ 4
unfolding control_served
control_count compares saturates w e =
    let a = both_true (eqb (access_mode w) 0) _ e in
    let b = both_true (eqb (acc_wr_ctrl w) 0) _ a.1 in
    leb-true (exec_size w) 4 (both_true (leb (exec_size w) 4) _ b.1).0

pub legal-count : (p : Plain) (w : ℕ) → Acting p w → exec_size w ≤ 4
legal-count p w l = control_count (traits p).compares (traits p).saturates w (plain_control p w l.legal.served)

-- Its channels end before channel 16.
pub legal-channels : (p : Plain) (w : ℕ) → Acting p w → channel_of w 0 + channels w ≤ 16
legal-channels p w l = plain_channels p w l.legal.served

-- ---- types

served_destination : (w : ℕ) → dst_served w ≡ true → register_type (dst_type w) ≡ true
unfolding dst_served
served_destination w e = (both_true (eqb (dst_file w) grf || ((is_null w || dst_is_a0 w) && eqb (dst_addr_mode w) 0)) _ e).1

-- A listed type that is not of floats is one of whole numbers.
listed_whole : (t : ℕ) → register_type t ≡ true → eqb t type_f ≡ false → IsWhole t
listed_whole t e f = let h = leb-true t 5 (left (leb t 5) (eqb t type_f) f e) in omega arith
  where
    left : (a b : Bool) → b ≡ false → (a || b) ≡ true → a ≡ true
    left true b f e = refl
    left false b f e = sym (sym e ∙ f)

served_source : (w : ℕ) (x : Source) → src_served w x ≡ true → eqb (src_type x w) type_f ≡ false → src_is_vector x w ≡ false → IsWhole (src_type x w)
unfolding src_served
served_source w x e f v = go (is_immediate x w) e v
  where
    low : (a b c : Bool) → (a || (b || c)) ≡ true → b ≡ false → c ≡ false → a ≡ true
    low true b c e f g = refl
    low false true c e f g = absurd (true≢false f)
    low false false c e f g = sym (sym e ∙ g)

    go : (b : Bool)
        → cond b (immediate_type (src_type x w)) ((eqb (src_file x w) grf || (src_is_a0 x w && eqb (src_addr_mode x w) 0)) && register_type (src_type x w)) ≡ true
        → (b && eqb (src_type x w) type_vf) ≡ false → IsWhole (src_type x w)
    go true e v = let h = leb-true (src_type x w) 3 (low (leb (src_type x w) 3) (eqb (src_type x w) type_vf) (eqb (src_type x w) type_f) e v f) in omega arith
    go false e v = listed_whole (src_type x w) (both_true (eqb (src_file x w) grf || (src_is_a0 x w && eqb (src_addr_mode x w) 0)) _ e).1 f

-- 7 of the parts of a legal word.
record Served (p : Plain) (w : ℕ) : Type 0 where
  destination : dst_served w ≡ true
  sources-not : any_of (λ x. not (src_served w x)) (sources p) ≡ false
  a0 : (not (uses_a0 p w) || moves_words p w) ≡ true
  floats : (not (uses_floats p w) || floats_served p w) ≡ true

served_parts : (p : Plain) (w : ℕ) → LegalPlain p w → Served p w
unfolding plain_served
served_parts p w l =
    let a = both_true (control_served (traits p).compares (traits p).saturates w) _ l.served in
    let b = both_true (dst_served w) _ a.1 in
    let c = both_true (not (any_of (λ x. not (src_served w x)) (sources p))) _ b.1 in
    let d = both_true (not (uses_a0 p w) || moves_words p w) _ c.1 in
    record { destination = b.0; sources-not = not-true (any_of (λ x. not (src_served w x)) (sources p)) c.0; a0 = d.0; floats = d.1 }

-- A legal word's destination has a type,
pub legal-type : (p : Plain) (w : ℕ) → Acting p w → IsType (dst_type w)
legal-type p w l = register_type_lem (dst_type w) (served_destination w (served_parts p w l.legal).destination)

-- which is one of whole numbers where no operand is a float,
pub legal-whole : (p : Plain) (w : ℕ) → Counting p w → IsWhole (dst_type w)
unfolding uses_floats
legal-whole p w l = listed_whole (dst_type w) (served_destination w (served_parts p w l.acting.legal).destination) (or-false (dst_is_float w) _ l.whole).0

-- and so is that of every source that its operation reads.
pub source_type : (p : Plain) (w : ℕ) → Counting p w → (x : Source) → Memᴰ x (sources p) → IsWhole (src_type x w)
source_type p w l x m =
    served_source w x (not-false (src_served w x) (none_of (λ y. not (src_served w y)) (served_parts p w l.acting.legal).sources-not m))
    (src_no_float p w l.whole x m) (src_no_vector p w l.whole x m)

-- ---- a0

-- Only mov is mov.
only_mov : (p : Plain) → is_mov p ≡ true → p ≡ Plain.mov
only_mov Plain.mov e = refl
only_mov Plain.sel e = absurd (false≢true e)
only_mov Plain.not e = absurd (false≢true e)
only_mov Plain.and e = absurd (false≢true e)
only_mov Plain.or e = absurd (false≢true e)
only_mov Plain.xor e = absurd (false≢true e)
only_mov Plain.shr e = absurd (false≢true e)
only_mov Plain.shl e = absurd (false≢true e)
only_mov Plain.asr e = absurd (false≢true e)
only_mov Plain.cmp e = absurd (false≢true e)
only_mov Plain.add e = absurd (false≢true e)
only_mov Plain.mul e = absurd (false≢true e)
only_mov Plain.avg e = absurd (false≢true e)

-- An operation that is not mov has no operand in a0.
pub moved_only : (p : Plain) (w : ℕ) → Acting p w → is_mov p ≡ false → uses_a0 p w ≡ false
unfolding moves_words
moved_only p w l e = go (uses_a0 p w) (rw e at (served_parts p w l.legal).a0)
  where
    go : (t : Bool) → (not t || false) ≡ true → t ≡ false
    go true f = absurd (false≢true f)
    go false f = refl

-- Where no operand is a0, the destination is not, nor is a source that is read.
pub not-destination : (p : Plain) (w : ℕ) → uses_a0 p w ≡ false → dst_is_a0 w ≡ false
unfolding uses_a0
not-destination p w e = (or-false (dst_is_a0 w) _ e).0

pub not_source : (p : Plain) (w : ℕ) → uses_a0 p w ≡ false → (x : Source) → Memᴰ x (sources p) → src_is_a0 x w ≡ false
unfolding uses_a0
not_source p w e x m = none_of (λ y. src_is_a0 y w) (or-false (dst_is_a0 w) _ e).1 m

-- Two sources stand in one file.
pub one_file : (p : Plain) (w : ℕ) → Acting p w → reads_two p ≡ true → src_is_a0 src1 w ≡ src_is_a0 src0 w
one_file p w l two = go (is_mov p) refl
  where
    go : (t : Bool) → is_mov p ≡ t → src_is_a0 src1 w ≡ src_is_a0 src0 w
    go true e = absurd (true≢false (sym two ∙ ap reads_two (only_mov p e)))
    go false e =
        let none = moved_only p w l e in
        not_source p w none src1 (second_source p two) ∙ sym (not_source p w none src0 (first_source p))

-- What has an operand in a0 is a mov,
pub a0_moves : (p : Plain) (w : ℕ) → Acting p w → uses_a0 p w ≡ true → p ≡ Plain.mov
a0_moves p w l e = only_mov p (go (is_mov p) refl)
  where
    go : (t : Bool) → is_mov p ≡ t → is_mov p ≡ true
    go true m = m
    go false m = absurd (true≢false (sym e ∙ moved_only p w l m))

-- and its destination or its first source is a0.
pub a0_told : (p : Plain) (w : ℕ) → Acting p w → uses_a0 p w ≡ (dst_is_a0 w || src_is_a0 src0 w)
unfolding uses_a0
a0_told p w l = ap (λ (b : Bool). dst_is_a0 w || b) (go (reads_two p) refl)
  where
    same : (b : Bool) → (b || (b || false)) ≡ b
    same true = refl
    same false = refl

    alone : (b : Bool) → (b || false) ≡ b
    alone true = refl
    alone false = refl

    go : (t : Bool) → reads_two p ≡ t → any_of (λ x. src_is_a0 x w) (sources p) ≡ src_is_a0 src0 w
    go true e = rw (sources_told p, e, one_file p w l e) (same (src_is_a0 src0 w))
    go false e = rw (one_source p e) (alone (src_is_a0 src0 w))

-- ---- operands

-- Every source that an operation reads can be read if the word is legal,
pub legal_readable : (p : Plain) (w : ℕ) → Counting p w → (x : Source) → Memᴰ x (sources p) → Readable x w
legal_readable p w l x m =
    record {
      count = legal-count p w l.acting;
      type = source_type p w l x m;
      whole = src_no_vector p w l.whole x m;
      inside = λ i. source_inside p w l.acting.legal.shape l.acting.legal.reach x m i (l.acting.named.source x m);
    }

-- and its destination can be written.
pub legal_writable : (p : Plain) (w : ℕ) → Acting p w → Writable w
legal_writable p w l =
    record { count = legal-count p w l; type = legal-type p w l; inside = λ d. destination_inside p w l.legal.reach d l.named.destination }

-- ---- single operations

-- mul's sources are no dwords.
pub legal_factors : (w : ℕ) → Acting Plain.mul w → (2 ≤ src_type src0 w) × (2 ≤ src_type src1 w)
unfolding operand_rule_broken
legal_factors w l =
    let a = or-false (misplaced Plain.mul w) _ l.legal.operands in
    let b = or-false (any_of (unequal_halves w) (sources Plain.mul)) _ a.1 in
    let c = or-false (any_of (bad_modifier Plain.mul w) (sources Plain.mul)) _ b.1 in
    let d = or-false (ltb (src_type src0 w) 2) (ltb (src_type src1 w) 2) (or-false (own_rule_broken Plain.mul w) _ c.1).0 in
    (ltb-false (src_type src0 w) 2 d.0, ltb-false (src_type src1 w) 2 d.1)

-- What does not serve Saturate has it clear.
control_saturate : (compares : Bool) (w : ℕ) → control_served compares false w ≡ true → saturate w ≡ 0
unfolding control_served
control_saturate compares w e =
    let a = both_true (eqb (access_mode w) 0) _ e in
    let b = both_true (eqb (acc_wr_ctrl w) 0) _ a.1 in
    let c = both_true (leb (exec_size w) 4) _ b.1 in
    let d = both_true (quarter_served w) _ c.1 in
    let f = both_true (predicate_served w) _ d.1 in
    let g = both_true (condition_served compares (cond_modifier w)) _ f.1 in
    eqb-true (saturate w) 0 (left (eqb (saturate w) 0) g.1)
  where
    left : (a : Bool) → (a || false) ≡ true → a ≡ true
    left true e = refl
    left false e = e

-- So cmp never saturates.
pub legal_compared : (w : ℕ) → Acting Plain.cmp w → saturate w ≡ 0
legal_compared w l = control_saturate true w (plain_control Plain.cmp w l.legal.served)

-- ---- floats

-- Of a conjunction with a true first part that is false, the second part is false.
other_false : (a b : Bool) → (a && b) ≡ false → a ≡ true → b ≡ false
other_false true b e h = e
other_false false b e h = absurd (false≢true h)

module _ (p : Plain) (w : ℕ) (l : Reckoning p w) where
  -- They are served on the operation, and Saturate is clear.
  pub floats_served_lem : ((traits p).floats ≡ true) × (saturate w ≡ 0)
  unfolding floats_served
  floats_served_lem =
      let served : floats_served p w ≡ true = ap (λ (b : Bool). not b || floats_served p w) (sym l.some) ∙ (served_parts p w l.acting.legal).floats in
      let a = both_true (traits p).floats _ served in
      (a.0, eqb-true (saturate w) 0 a.1)

  -- No operand is another's: the destination is a float, and so is every source that is read.
  alike : (not (dst_is_float w) || any_of (λ x. not (src_is_float w x)) (sources p)) ≡ false
  unfolding operand_rule_broken mixed
  alike =
      let a = or-false (misplaced p w) _ l.acting.legal.operands in
      let b = or-false (any_of (unequal_halves w) (sources p)) _ a.1 in
      let c = or-false (any_of (bad_modifier p w) (sources p)) _ b.1 in
      let d = or-false (own_rule_broken p w) _ c.1 in
      let e = or-false (mixed p w) _ d.1 in
      other_false (uses_floats p w) _ e.0 l.some

  pub float_destination : dst_type w ≡ type_f
  float_destination = eqb-true (dst_type w) type_f (not-false (dst_is_float w) (or-false (not (dst_is_float w)) _ alike).0)

  pub float_source : (x : Source) → Memᴰ x (sources p) → src_is_float w x ≡ true
  float_source x m = not-false (src_is_float w x) (none_of (λ y. not (src_is_float w y)) (or-false (not (dst_is_float w)) _ alike).1 m)

  -- None is a0.
  pub float_registers : uses_a0 p w ≡ false
  unfolding moves_words
  float_registers = go (uses_a0 p w) refl
    where
      go : (t : Bool) → uses_a0 p w ≡ t → uses_a0 p w ≡ false
      go false e = e
      go true e =
          let moves : moves_words p w ≡ true = ap (λ (b : Bool). not b || moves_words p w) (sym e) ∙ (served_parts p w l.acting.legal).a0 in
          let words = both_true (eqb (dst_type w) 2) _ (both_true (is_mov p) _ moves).1 in
          absurd (omega (arith, eqb-true (dst_type w) 2 words.0, float_destination))

  -- What is read can be read.
  pub legal-floats : (x : Source) → Memᴰ x (sources p) → FloatsIn x w
  legal-floats x m =
      record {
        count = legal-count p w l.acting;
        float = float_source x m;
        inside = λ i. source_inside p w l.acting.legal.shape l.acting.legal.reach x m i (l.acting.named.source x m);
      }

-- What has an operand in a0 has no float.
pub a0-whole : (p : Plain) (w : ℕ) → Acting p w → uses_a0 p w ≡ true → uses_floats p w ≡ false
a0-whole p w l e = go (uses_floats p w) refl
  where
    go : (t : Bool) → uses_floats p w ≡ t → uses_floats p w ≡ false
    go false f = f
    go true f = absurd (true≢false (sym e ∙ float_registers p w (record { acting = l; some = f })))
