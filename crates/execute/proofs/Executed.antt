-- What `execute` has made when it returns is the paper's effect. Assumes nothing.
use mathlib.Core.Bool.{Bool, true, false, not, cond, ◌||◌, or-true}
use mathlib.Core.Path.{◌≡◌, refl, sym, ap, ◌∙◌, subst}
use mathlib.Core.List.{List, []}
use Prim.Native.Nat.{ℕ, ◌*◌}
use native.Mathlib.Omega.{arith}
use lib.Dec.{eqb}
use Rattle.paper.specs.Bits.{bit}
use Rattle.paper.specs.Word.{src0, we_ctrl, qtr_ctrl, flag_choice, is_null, dst_is_a0, src_is_a0}
use Rattle.paper.specs.Operation.{Plain}
use Rattle.paper.specs.Region.{channels}
use Rattle.paper.specs.Store.{Store}
use Rattle.paper.specs.Enable.{chosen_flag, channel_of, flag_after}
use Rattle.paper.specs.Operation.{traits}
use Rattle.paper.specs.Effect.{file_in, written_to, registers_after, compared_flag, plain_effect}
use Rattle.paper.specs.Legal.{uses_a0}
use Rattle.laws.specs.Sources.{first_source}
use Rattle.laws.specs.Scatter.{addresses_kept}
use Rattle.lanes.specs.Masks.{enable_mask, quarter_mask, raised_mask, awake_list}
use Rattle.lanes.specs.MaskLaws.{predicate_of, enable_of}
use Rattle.lanes.specs.declared.flags.Flags.{Flags}
use Rattle.execute.specs.Stores.{store_of, FlagsOf}
use Rattle.execute.specs.Results.{Makes}
use Rattle.execute.specs.Compared.{lowest_bits}
use Rattle.execute.specs.Effects.{written, written_into, flag_from, flag_made, MadeOf, written_effect, written_addresses, flag_effect}
use Rattle.execute.specs.Readable.{Acting, not-destination, not_source}

-- ---- cmp's flag

-- A flag that is made of the masks is the one that the definition names.
pub flag_from_lem : (w flag enable r n quarter mask found : ℕ) (results : List ℕ)
    → n ≡ channels w → quarter ≡ qtr_ctrl w → mask ≡ lowest_bits results n → found ≡ raised_mask mask quarter
    → r ≡ flag_after flag (8 * quarter) n (bit enable) (bit found) → r ≡ flag_from w flag enable results
unfolding flag_from
flag_from_lem w flag enable r n quarter mask found results en eq em ef e =
    let first : 8 * quarter ≡ channel_of w 0 = omega arith in
    e ∙ rw (first, ef, em, en, eq)

-- ---- registers, flags and a0

-- What the code makes on its way: the masks by channel number and by the instruction's own, and the results, of the file that src0 stands in.
pub record Made (p : Plain) (w awake : ℕ) (bytes : List ℕ) (f : Flags ℕ) (quarter predicate enable holding working : ℕ) (results : List ℕ) : Type 0 where
  pub of_word : quarter ≡ qtr_ctrl w
  pub holds : predicate ≡ predicate_of w (store_of [] f [])
  pub enables : enable ≡ enable_mask (we_ctrl w) (traits p).masks awake predicate
  pub own-holds : holding ≡ quarter_mask predicate quarter
  pub own-enables : working ≡ quarter_mask enable quarter
  pub makes : Makes p w holding bytes results

module _ (p : Plain) (w awake : ℕ) (registers : List ℕ) (f : Flags ℕ) (addresses : List ℕ) (quarter predicate enable holding working : ℕ) (results : List ℕ)
    (acting : Acting p w)
    (made : Made p w awake (file_in (src_is_a0 src0 w) (store_of registers f addresses)) f quarter predicate enable holding working results) where
  -- The store before.
  abbrev before : Store
  before = store_of registers f addresses

  -- The enabled channels and the results are the paper's.
  enabled : enable ≡ enable_of p w awake before
  enabled = made.enables ∙ ap (enable_mask (we_ctrl w) (traits p).masks awake) made.holds

  resulting : MadeOf p w before results
  resulting =
      let mask : holding ≡ quarter_mask (predicate_of w before) (qtr_ctrl w) = made.own-holds ∙ rw (made.of_word, made.holds) in
      subst (λ (m : ℕ). Makes p w m (file_in (src_is_a0 src0 w) before) results) mask made.makes

  working_is : working ≡ quarter_mask (enable_of p w awake before) (qtr_ctrl w)
  working_is = made.own-enables ∙ rw (made.of_word, enabled)

  -- Registers that are so written are the paper's where the destination is not a0,
  pub registers_made : dst_is_a0 w ≡ false → (after : List ℕ) → after ≡ written w working registers results
      → after ≡ (plain_effect p w (awake_list awake) before).registers
  unfolding plain_effect
  registers_made a after e = e ∙ rw working_is (written_effect p w awake before results acting resulting a)

  -- and where it is, a0 is the paper's.
  pub addresses_made : dst_is_a0 w ≡ true → (after : List ℕ) → after ≡ written w working addresses results
      → after ≡ (plain_effect p w (awake_list awake) before).addresses
  unfolding plain_effect
  addresses_made a after e = e ∙ rw working_is (written_addresses p w awake before results acting resulting a)

  module _ (r : Flags ℕ) (e : FlagsOf r w (store_of [] f []) (flag_made p w (chosen_flag w (store_of [] f [])) enable results)) where
    -- The chosen flag is the paper's.
    flag_made_lem : flag_made p w (chosen_flag w before) enable results ≡ cond (traits p).compares (compared_flag w (awake_list awake) before) (chosen_flag w before)
    flag_made_lem = rw enabled (flag_effect p w awake before results acting resulting)

    -- Flags that are so made are the paper's.
    pub flag0_made : r.flag0 ≡ (plain_effect p w (awake_list awake) before).flag0
    unfolding plain_effect
    flag0_made = e.flag0 ∙ ap (λ (flag : ℕ). cond (eqb (flag_choice w) 0) flag f.flag0) flag_made_lem

    pub flag1_made : r.flag1 ≡ (plain_effect p w (awake_list awake) before).flag1
    unfolding plain_effect
    flag1_made = e.flag1 ∙ ap (λ (flag : ℕ). cond (eqb (flag_choice w) 0) f.flag1 flag) flag_made_lem

-- Where no operand is a0, registers alone are read and written, whatever a0 holds.
module _ (p : Plain) (w awake : ℕ) (registers : List ℕ) (f : Flags ℕ) (quarter predicate enable holding working : ℕ) (results : List ℕ)
    (acting : Acting p w) (none : uses_a0 p w ≡ false) (made : Made p w awake registers f quarter predicate enable holding working results) where
  read_registers : (addresses : List ℕ)
      → Made p w awake (file_in (src_is_a0 src0 w) (store_of registers f addresses)) f quarter predicate enable holding working results
  read_registers addresses =
      subst (λ (t : Bool). Made p w awake (file_in t (store_of registers f addresses)) f quarter predicate enable holding working results)
      (sym (not_source p w none src0 (first_source p))) made

  pub direct_registers : (after : List ℕ) → after ≡ written w working registers results
      → (addresses : List ℕ) → after ≡ (plain_effect p w (awake_list awake) (store_of registers f addresses)).registers
  direct_registers after e addresses =
      registers_made p w awake registers f addresses quarter predicate enable holding working results acting (read_registers addresses) (not-destination p w none) after e

  module _ (r : Flags ℕ) (e : FlagsOf r w (store_of [] f []) (flag_made p w (chosen_flag w (store_of [] f [])) enable results)) where
    pub direct_flags : (addresses : List ℕ)
        → (r.flag0 ≡ (plain_effect p w (awake_list awake) (store_of registers f addresses)).flag0)
        × (r.flag1 ≡ (plain_effect p w (awake_list awake) (store_of registers f addresses)).flag1)
    direct_flags addresses = (
      flag0_made p w awake registers f addresses quarter predicate enable holding working results acting (read_registers addresses) r e,
      flag1_made p w awake registers f addresses quarter predicate enable holding working results acting (read_registers addresses) r e,
    )

-- Where the destination is not a0, a0 stays, and where it is, the registers do.
pub addresses_still : (p : Plain) (w : ℕ) (awake : List Bool) (st : Store) → dst_is_a0 w ≡ false → st.addresses ≡ (plain_effect p w awake st).addresses
unfolding plain_effect
addresses_still p w awake st a = sym (addresses_kept p w awake st a)

pub registers_still : (p : Plain) (w : ℕ) (awake : List Bool) (st : Store) → dst_is_a0 w ≡ true → st.registers ≡ (plain_effect p w awake st).registers
unfolding plain_effect registers_after
registers_still p w awake st a = sym (ap (λ (t : Bool). cond t st.registers (written_to p w awake st st.registers)) (ap (◌||◌ (is_null w)) a ∙ or-true (is_null w)))

-- mov keeps the flags.
pub mov_flag0 : (w : ℕ) (awake : List Bool) (st : Store) → st.flag0 ≡ (plain_effect Plain.mov w awake st).flag0
unfolding plain_effect
mov_flag0 w awake st = go (eqb (flag_choice w) 0)
  where
    go : (t : Bool) → st.flag0 ≡ cond t (cond t st.flag0 st.flag1) st.flag0
    go true = refl
    go false = refl

pub mov_flag1 : (w : ℕ) (awake : List Bool) (st : Store) → st.flag1 ≡ (plain_effect Plain.mov w awake st).flag1
unfolding plain_effect
mov_flag1 w awake st = go (eqb (flag_choice w) 0)
  where
    go : (t : Bool) → st.flag1 ≡ cond t st.flag1 (cond t st.flag0 st.flag1)
    go true = refl
    go false = refl

-- mov: what is stored in the one file or in the other is the paper's.
pub transferred : (w awake : ℕ) (registers : List ℕ) (f : Flags ℕ) (addresses : List ℕ) (quarter predicate enable holding working : ℕ) (results : List ℕ)
    → Acting Plain.mov w
    → Made Plain.mov w awake (file_in (src_is_a0 src0 w) (store_of registers f addresses)) f quarter predicate enable holding working results
    → (after after' : List ℕ) → after ≡ written_into (dst_is_a0 w) w working registers results → after' ≡ written_into (not (dst_is_a0 w)) w working addresses results
    → (after ≡ (plain_effect Plain.mov w (awake_list awake) (store_of registers f addresses)).registers)
    × (after' ≡ (plain_effect Plain.mov w (awake_list awake) (store_of registers f addresses)).addresses)
transferred w awake registers f addresses quarter predicate enable holding working results acting made after after' = go (dst_is_a0 w) refl
  where
    st : Store
    st = store_of registers f addresses

    go : (t : Bool) → dst_is_a0 w ≡ t → after ≡ written_into t w working registers results → after' ≡ written_into (not t) w working addresses results
        → (after ≡ (plain_effect Plain.mov w (awake_list awake) st).registers) × (after' ≡ (plain_effect Plain.mov w (awake_list awake) st).addresses)
    go true a e e' = (
      e ∙ registers_still Plain.mov w (awake_list awake) st a,
      addresses_made Plain.mov w awake registers f addresses quarter predicate enable holding working results acting made a after' e',
    )
    go false a e e' = (
      registers_made Plain.mov w awake registers f addresses quarter predicate enable holding working results acting made a after e,
      e' ∙ addresses_still Plain.mov w (awake_list awake) st a,
    )
