-- What the code writes and what flag it leaves are the paper's effect. Assumes nothing.
use Rattle.std.specs.Prelude.{◌≡◌, Bool, ◌||◌, List, ℕ, ◌%◌, ◌^◌, ◌<◌, eqb, get_or}
use Rattle.std.proofs.Math.Path.{refl, sym, ap}
use Rattle.std.proofs.Common.{◌∙◌, subst, eqb-true}
use Rattle.std.proofs.Math.Bool.{true, false, cond}
use Rattle.paper.specs.Bits.{bit}
use Rattle.paper.specs.Word.{src0, qtr_ctrl, dst_file, dst_register, dst_type, dst_is_a0, src_is_a0}
use Rattle.paper.specs.Operation.{Plain, traits}
use Rattle.paper.specs.Region.{channels, dst_size, dst_element}
use Rattle.paper.specs.Word.{is_null}
use Rattle.paper.specs.Store.{Store}
use Rattle.paper.specs.Enable.{chosen_flag, channel_of, flag_after}
use Rattle.paper.specs.Effect.{file_in, scattered, channel_stores, is_on, written_to, registers_after, addresses_after, finds, compared_flag}
use Rattle.laws.specs.Changes.{only_cmp}
use Rattle.laws.specs.Truth.{both_true}
use Rattle.laws.specs.Values.{size_patterns}
use Rattle.laws.specs.Scatter.{scattered_same}
use Rattle.lanes.specs.Masks.{quarter_mask, raised_mask, awake_list}
use Rattle.lanes.specs.MaskLaws.{predicate_of, enable_of, get_d_awake_list}
use Rattle.lanes.specs.Served.{scattered_masked, flag_masked}
use Rattle.execute.specs.Readable.{Acting, legal-channels, legal-type, legal_compared}
use Rattle.execute.specs.Results.{Makes, makes_stores}
use Rattle.execute.specs.Stored.{scattered_low}
use Rattle.execute.specs.Compared.{lowest_bits, bit-finds}

-- ---- what the code does

-- The bytes of a file with results stored where a mask of the instruction's own channels says; as they were for a null destination.
unfoldable pub written : ℕ → ℕ → List ℕ → List ℕ → List ℕ
written w enable bytes results =
    cond (is_null w) bytes (scattered bytes (dst_element w) (dst_size w) (bit enable) (λ k. get_or results k 0) (channels w))

-- The bytes of a file, so written unless the destination stands in the other file.
abbrev pub written_into : Bool → ℕ → ℕ → List ℕ → List ℕ → List ℕ
written_into elsewhere w enable bytes results = cond elsewhere bytes (written w enable bytes results)

-- The chosen flag after cmp, from its results and the mask of enabled channels.
unfoldable pub flag_from : ℕ → ℕ → ℕ → List ℕ → ℕ
flag_from w flag enable results =
    flag_after flag (channel_of w 0) (channels w) (bit enable) (bit (raised_mask (lowest_bits results (channels w)) (qtr_ctrl w)))

-- The chosen flag after any plain operation: only cmp's is another.
unfoldable pub flag_made : Plain → ℕ → ℕ → ℕ → List ℕ → ℕ
flag_made p w flag enable results = cond (traits p).compares (flag_from w flag enable results) flag

-- ---- that it is the paper's effect

-- What is a0 is not null.
pub a0_not_null : (w : ℕ) → dst_is_a0 w ≡ true → is_null w ≡ false
a0_not_null w e =
    let a = both_true (eqb (dst_file w) 0) (eqb (dst_register w) 16) e in
    let r : dst_register w ≡ 16 = eqb-true (dst_register w) 16 a.1 in
    rw (a.0, r)

-- What an instruction's channels have made, by the mask that its predicate makes.
abbrev pub MadeOf : Plain → ℕ → Store → List ℕ → Type 0
MadeOf p w st made = Makes p w (quarter_mask (predicate_of w st) (qtr_ctrl w)) (file_in (src_is_a0 src0 w) st) made

-- cmp's flag is the paper's.
flag_compared : (w mask : ℕ) (st : Store) (made : List ℕ) → Acting Plain.cmp w → MadeOf Plain.cmp w st made
    → flag_from w (chosen_flag w st) (enable_of Plain.cmp w mask st) made ≡ compared_flag w (awake_list mask) st
unfolding flag_from compared_flag
flag_compared w mask st made legal makes =
    flag_masked w st (awake_list mask) mask (legal-channels Plain.cmp w legal) (get_d_awake_list mask) Plain.cmp (chosen_flag w st)
    (raised_mask (lowest_bits made (channels w)) (qtr_ctrl w))
    (finds w st)
    (bit-finds w (quarter_mask (predicate_of w st) (qtr_ctrl w)) st made legal (legal-type Plain.cmp w legal) (legal_compared w legal) makes)

-- So is that of any operation that is cmp.
flag_of_cmp : (p : Plain) (w mask : ℕ) (st : Store) (made : List ℕ) → p ≡ Plain.cmp → Acting p w → MadeOf p w st made
    → flag_from w (chosen_flag w st) (enable_of p w mask st) made ≡ compared_flag w (awake_list mask) st
flag_of_cmp p w mask st made e legal makes =
    subst (λ q. flag_from w (chosen_flag w st) (enable_of q w mask st) made ≡ compared_flag w (awake_list mask) st) (sym e)
    (flag_compared w mask st made (subst (λ q. Acting q w) e legal) (subst (λ q. MadeOf q w st made) e makes))

module _ (p : Plain) (w mask : ℕ) (st : Store) (made : List ℕ) (legal : Acting p w) (makes : MadeOf p w st made) where
  -- Channel k's low bits are the pattern that the paper says.
  low_stores : (k : ℕ) → k < channels w → get_or made k 0 % 256 ^ dst_size w ≡ channel_stores p w st k
  unfolding Makes
  low_stores k h = rw (size_patterns (dst_type w)) (makes k h ∙ makes_stores p w st legal (legal-channels p w legal) k h)

  -- What is stored in the bytes of a file is what the paper stores there.
  stored_bytes : (bytes : List ℕ) → scattered bytes (dst_element w) (dst_size w) (bit (quarter_mask (enable_of p w mask st) (qtr_ctrl w))) (λ k. get_or made k 0) (channels w)
      ≡ written_to p w (awake_list mask) st bytes
  stored_bytes bytes =
      let from_list : ℕ → ℕ = λ k. get_or made k 0 in
      let low : ℕ → ℕ = λ k. get_or made k 0 % 256 ^ dst_size w in
      scattered_masked w st (awake_list mask) mask (legal-channels p w legal) (get_d_awake_list mask) p bytes (dst_element w) (dst_size w) from_list
      ∙ scattered_low bytes (dst_element w) (dst_size w) (is_on p w (awake_list mask) st) from_list (channels w)
      ∙ scattered_same bytes (dst_element w) (dst_size w) (is_on p w (awake_list mask) st) (is_on p w (awake_list mask) st) low (channel_stores p w st) (channels w)
      (λ k h. refl) low_stores

  -- Where the destination is not a0, the registers are the paper's,
  pub written_effect : dst_is_a0 w ≡ false → written w (quarter_mask (enable_of p w mask st) (qtr_ctrl w)) st.registers made ≡ registers_after p w (awake_list mask) st
  unfolding written registers_after
  written_effect a =
      ap (cond (is_null w) st.registers) (stored_bytes st.registers)
      ∙ ap (λ (t : Bool). cond t st.registers (written_to p w (awake_list mask) st st.registers)) (neither (is_null w) (dst_is_a0 w) a)
    where
      neither : (n t : Bool) → t ≡ false → n ≡ (n || t)
      neither true t e = refl
      neither false t e = sym e

  -- and where it is, a0 is.
  pub written_addresses : dst_is_a0 w ≡ true → written w (quarter_mask (enable_of p w mask st) (qtr_ctrl w)) st.addresses made ≡ addresses_after p w (awake_list mask) st
  unfolding written addresses_after
  written_addresses a = rw (a0_not_null w a, a) (stored_bytes st.addresses)

  -- The flag is the paper's.
  pub flag_effect : flag_made p w (chosen_flag w st) (enable_of p w mask st) made
      ≡ cond (traits p).compares (compared_flag w (awake_list mask) st) (chosen_flag w st)
  unfolding flag_made
  flag_effect = go (traits p).compares refl
    where
      go : (b : Bool) → (traits p).compares ≡ b
          → cond b (flag_from w (chosen_flag w st) (enable_of p w mask st) made) (chosen_flag w st)
          ≡ cond b (compared_flag w (awake_list mask) st) (chosen_flag w st)
      go true e = flag_of_cmp p w mask st made (only_cmp p e) legal makes
      go false e = refl
