-- What an instruction that is no branch does to registers, flags and a0 (the paper, "Operations"). Every value is read from the store as it was
-- before: all sources are read before anything is written. Assumes nothing.
use Rattle.std.specs.Prelude.{Bool, cond, ◌||◌, List, ℕ, zero, suc, ◌-◌, eqb}
use Rattle.paper.specs.Bits.{number_at, put_at}
use Rattle.paper.specs.Word.{Source, src0, src1, cond_modifier, saturate, dst_type, src_modifier, flag_choice, is_null, dst_is_a0, src_is_a0, is_immediate}
use Rattle.paper.specs.Operation.{Plain, plain, nop, branch, unlisted, operation, traits}
use Rattle.paper.specs.Element.{Element, made, meets}
use Rattle.paper.specs.Restricted.{vector_float}
use Rattle.paper.specs.Region.{channels, element_at, Operand, fixed, vector, direct, src_kind, operand_of, dst_size, dst_element}
use Rattle.paper.specs.Store.{Store}
use Rattle.paper.specs.Address.{settled}
use Rattle.paper.specs.Enable.{chosen_flag, holds, channel_of, enabled, flag_after}

-- The pattern that channel n of an operand reads: an immediate, the same for all channels, its own of four restricted floats, or its element of the bytes of
-- its file.
unfoldable pub pattern_at : List ℕ → Operand → ℕ → ℕ
pattern_at bytes (fixed pattern) n = pattern
pattern_at bytes (vector immediate) n = vector_float immediate n
pattern_at bytes (direct r) n = number_at bytes (element_at r n) r.size

-- What channel n of source x reads of the bytes of its file. An immediate has no modifier.
unfoldable pub operand : ℕ → List ℕ → Source → ℕ → Element
operand w bytes x n =
    record {
      kind = src_kind x w;
      modifier = cond (is_immediate x w) 0 (src_modifier x w);
      pattern = pattern_at bytes (operand_of x w) n;
    }

-- The bytes of a file: a0's, or the registers.
abbrev pub file_in : Bool → Store → List ℕ
file_in is_a0 st = cond is_a0 st.addresses st.registers

-- What channel n of source x reads.
abbrev pub source_at : ℕ → Store → Source → ℕ → Element
source_at w st x n = operand w (file_in (src_is_a0 x w) st) x n

-- The pattern that channel n stores.
unfoldable pub channel_stores : Plain → ℕ → Store → ℕ → ℕ
channel_stores p w st n =
    made p (cond_modifier w) (holds w st (channel_of w n)) (eqb (saturate w) 1) (dst_type w)
    (source_at w st src0 n) (source_at w st src1 n)

-- Bytes with the first n channels' patterns stored, channel k's at byte `element k`, where it is enabled.
unfoldable pub scattered : List ℕ → (ℕ → ℕ) → ℕ → (ℕ → Bool) → (ℕ → ℕ) → ℕ → List ℕ
scattered bytes element size on pattern zero = bytes
scattered bytes element size on pattern (suc k) =
    let before = scattered bytes element size on pattern k in
    cond (on k) (put_at before (element k) size (pattern k)) before

abbrev pub is_on : Plain → ℕ → List Bool → Store → ℕ → Bool
is_on p w awake st n = enabled p w awake st (channel_of w n)

-- The bytes of the destination's file with what the enabled channels store.
abbrev pub written_to : Plain → ℕ → List Bool → Store → List ℕ → List ℕ
written_to p w awake st bytes = scattered bytes (dst_element w) (dst_size w) (is_on p w awake st) (channel_stores p w st) (channels w)

-- Registers are written unless the destination is null or a0;
unfoldable pub registers_after : Plain → ℕ → List Bool → Store → List ℕ
registers_after p w awake st =
    let written = written_to p w awake st st.registers in cond (is_null w || dst_is_a0 w) st.registers written

-- a0 is written if it is the destination.
unfoldable pub addresses_after : Plain → ℕ → List Bool → Store → List ℕ
addresses_after p w awake st =
    let written = written_to p w awake st st.addresses in cond (dst_is_a0 w) written st.addresses

-- What cmp finds for channel number m.
unfoldable pub finds : ℕ → Store → ℕ → Bool
finds w st m =
    let n = m - channel_of w 0 in
    meets (cond_modifier w) (source_at w st src0 n) (source_at w st src1 n)

-- The chosen flag after cmp.
unfoldable pub compared_flag : ℕ → List Bool → Store → ℕ
compared_flag w awake st =
    flag_after (chosen_flag w st) (channel_of w 0) (channels w) (enabled Plain.cmp w awake st) (finds w st)

-- The store with other registers, another chosen flag and another a0.
abbrev pub with_flag : ℕ → Store → List ℕ → ℕ → List ℕ → Store
with_flag w st registers flag addresses =
    record {
      registers = registers;
      flag0 = cond (eqb (flag_choice w) 0) flag st.flag0;
      flag1 = cond (eqb (flag_choice w) 0) st.flag1 flag;
      addresses = addresses;
    }

-- What an operation does whose operands are named directly. Only cmp changes a flag.
unfoldable pub plain_effect : Plain → ℕ → List Bool → Store → Store
plain_effect p w awake st =
    let flag = compared_flag w awake st in
    with_flag w st (registers_after p w awake st) (cond (traits p).compares flag (chosen_flag w st)) (addresses_after p w awake st)

-- An operation acts by its operands, those by address as a0 stands. nop does nothing. Branches leave registers, flags and a0 alone.
unfoldable pub effect : ℕ → List Bool → Store → Store
effect w awake st =
    elim (operation w) [ plain p ↦ plain_effect p (settled p st.addresses w) awake st | nop ↦ st | branch b ↦ st | unlisted ↦ st ]
