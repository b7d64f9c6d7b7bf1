-- Rules 6 to 11 over an expanded word, each by itself and then in the table's order (the paper, "When the bench says no"). Assumes nothing.
use Rattle.std.specs.Prelude.{Bool, false, not, cond, ◌&&◌, ◌||◌, List, [], ◌∷◌, ℕ, ◌+◌, ◌-◌, ◌*◌, ◌/◌, ◌%◌, eqb, ltb, leb, length}
use Rattle.paper.specs.Bits.{bits, bit}
use Rattle.paper.specs.Limits.{register_bytes, address_bytes}
use Rattle.paper.specs.Word.{Source, src0, src1, access_mode, we_ctrl, qtr_ctrl, pred_ctrl, exec_size, cond_modifier, acc_wr_ctrl, saturate}
use Rattle.paper.specs.Word.{dst_file, dst_type, dst_subregister, dst_stride, dst_addr_mode}
use Rattle.paper.specs.Word.{src_file, src_type, src_subregister, src_modifier, src_addr_mode, src_field}
use Rattle.paper.specs.Word.{grf, is_null, dst_is_a0, src_is_a0, is_immediate, immediate_form, dst_by_address, src_by_address}
use Rattle.paper.specs.Operation.{Plain, Branch, jmpi, if, else, endif, while, break, cont, Operation, plain, nop, branch, unlisted, operation, is_branch, is_mov, traits, sources}
use Rattle.paper.specs.Value.{type_f, type_vf, is_signed}
use Rattle.paper.specs.Enable.{group_of}
use Rattle.paper.specs.Region.{Region, count_of, stride_of, channels, element_at, src_is_vector, src_region, dst_origin, dst_size, dst_element}

-- Some source of the list passes the test.
abbrev pub any_of : (Source → Bool) → List Source → Bool
any_of test [] = false
any_of test (x ∷ xs) = test x || any_of test xs

-- ---- 6: a reserved bit is set

-- Bit 7; for all but branches 47 or 95:90, or 127:121 outside immediate form.
unfoldable pub reserved_set : ℕ → Bool
reserved_set w =
    bit w 7
    || (not (is_branch (operation w))
    && (bit w 47 || (not (eqb (bits w 90 6) 0) || (not (immediate_form w) && not (eqb (bits w 121 7) 0)))))

-- ---- 7: a field is not served

-- Quarter 0; or 1 with size 8.
abbrev pub quarter_served : ℕ → Bool
quarter_served w = eqb (qtr_ctrl w) 0 || (eqb (qtr_ctrl w) 1 && eqb (exec_size w) 3)

-- PredCtrl 0 or 1; or 4 to 11, with groups that are no larger than ExecSize.
abbrev pub predicate_served : ℕ → Bool
predicate_served w = leb (pred_ctrl w) 1 || ((leb 4 (pred_ctrl w) && leb (pred_ctrl w) 11) && leb (group_of (pred_ctrl w)) (channels w))

-- Condition codes 1 to 6 on cmp, 0 elsewhere.
abbrev pub condition_served : Bool → ℕ → Bool
condition_served compares c = cond compares (leb 1 c && leb c 6) (eqb c 0)

-- The control fields that every operation but nop is judged by.
unfoldable pub control_served : Bool → Bool → ℕ → Bool
control_served compares saturates w =
    eqb (access_mode w) 0
    && (eqb (acc_wr_ctrl w) 0
    && (leb (exec_size w) 4
    && (quarter_served w
    && (predicate_served w
    && (condition_served compares (cond_modifier w)
    && (eqb (saturate w) 0 || saturates))))))

-- The types listed: in registers 0 to 5, and f; as immediates 0 to 3, vf and f.
abbrev pub register_type : ℕ → Bool
register_type t = leb t 5 || eqb t type_f

abbrev pub immediate_type : ℕ → Bool
immediate_type t = leb t 3 || (eqb t type_vf || eqb t type_f)

-- Registers, named directly or by address; or null or a0, named directly; of a listed type.
unfoldable pub dst_served : ℕ → Bool
dst_served w = (eqb (dst_file w) grf || ((is_null w || dst_is_a0 w) && eqb (dst_addr_mode w) 0)) && register_type (dst_type w)

-- An immediate of a listed type; or, of a listed type, a register, named directly or by address, or a0, named directly.
unfoldable pub src_served : ℕ → Source → Bool
src_served w x =
    cond (is_immediate x w) (immediate_type (src_type x w))
    ((eqb (src_file x w) grf || (src_is_a0 x w && eqb (src_addr_mode x w) 0)) && register_type (src_type x w))

-- Some operand of an operation is a0.
unfoldable pub uses_a0 : Plain → ℕ → Bool
uses_a0 p w = dst_is_a0 w || any_of (λ x. src_is_a0 x w) (sources p)

-- The operation moves words: mov, with operands that are all of type uw, a null destination and an immediate too.
unfoldable pub moves_words : Plain → ℕ → Bool
moves_words p w = is_mov p && (eqb (dst_type w) 2 && not (any_of (λ x. not (eqb (src_type x w) 2)) (sources p)))

-- An operand is of type f; vf counts as f. A null destination goes by its type.
abbrev pub dst_is_float : ℕ → Bool
dst_is_float w = eqb (dst_type w) type_f

abbrev pub src_is_float : ℕ → Source → Bool
src_is_float w x = eqb (src_type x w) type_f || src_is_vector x w

-- Some operand of an operation is a float.
unfoldable pub uses_floats : Plain → ℕ → Bool
uses_floats p w = dst_is_float w || any_of (src_is_float w) (sources p)

-- Floats are served on mov, add, mul and cmp, without Saturate.
unfoldable pub floats_served : Plain → ℕ → Bool
floats_served p w = (traits p).floats && eqb (saturate w) 0

-- Every field of an operation with operands is served: control, destination, and the sources that it reads; a0 only where words are moved, floats only where
-- they are served.
unfoldable pub plain_served : Plain → ℕ → Bool
plain_served p w =
    control_served (traits p).compares (traits p).saturates w
    && (dst_served w
    && (not (any_of (λ x. not (src_served w x)) (sources p))
    && ((not (uses_a0 p w) || moves_words p w)
    && (not (uses_floats p w) || floats_served p w))))

-- if, else, endif, while, break and cont need size 16, quarter 0, WECtrl 0.
abbrev pub structured : ℕ → Bool
structured w = eqb (exec_size w) 4 && (eqb (qtr_ctrl w) 0 && eqb (we_ctrl w) 0)

-- jmpi needs size 1, which leaves it PredCtrl 0 and 1, and a d immediate as src1.
abbrev pub own_needs : Branch → ℕ → Bool
own_needs jmpi w = eqb (exec_size w) 0 && (is_immediate src1 w && eqb (src_type src1 w) 1)
own_needs if w = structured w
own_needs else w = structured w
own_needs endif w = structured w
own_needs while w = structured w
own_needs break w = structured w
own_needs cont w = structured w

-- Branches have no operand but jmpi's src1.
unfoldable pub branch_served : Branch → ℕ → Bool
branch_served b w = control_served false false w && own_needs b w

-- ---- 8: an operand rule is broken

-- An immediate stands elsewhere than as last source.
abbrev pub misplaced : Plain → ℕ → Bool
misplaced p w = eqb (length (sources p)) 2 && is_immediate src0 w

-- A word immediate's two halves differ (000, 5.3.5).
abbrev pub unequal_halves : ℕ → Source → Bool
unequal_halves w x = is_immediate x w && ((leb 2 (src_type x w) && leb (src_type x w) 3) && not (eqb (bits w 96 16) (bits w 112 16)))

-- A modifier where none is allowed: on a src0 immediate, and on the register sources of logic and shifts. A src1 immediate has no modifier.
abbrev pub bad_modifier : Plain → ℕ → Source → Bool
bad_modifier p w src0 = (is_immediate src0 w || not (traits p).modifiers) && not (eqb (src_modifier src0 w) 0)
bad_modifier p w src1 = (not (is_immediate src1 w) && not (traits p).modifiers) && not (eqb (src_modifier src1 w) 0)

-- What single operations ask: mul no dword sources, shr an unsigned and asr a signed src0, sel a predicate.
abbrev pub own_rule_broken : Plain → ℕ → Bool
own_rule_broken Plain.mul w = ltb (src_type src0 w) 2 || ltb (src_type src1 w) 2
own_rule_broken Plain.shr w = is_signed (src_type src0 w)
own_rule_broken Plain.asr w = not (is_signed (src_type src0 w))
own_rule_broken Plain.sel w = eqb (pred_ctrl w) 0
own_rule_broken Plain.mov w = false
own_rule_broken Plain.not w = false
own_rule_broken Plain.and w = false
own_rule_broken Plain.or w = false
own_rule_broken Plain.xor w = false
own_rule_broken Plain.shl w = false
own_rule_broken Plain.cmp w = false
own_rule_broken Plain.add w = false
own_rule_broken Plain.avg w = false

-- Some operand is a float and some is none.
unfoldable pub mixed : Plain → ℕ → Bool
mixed p w = uses_floats p w && (not (dst_is_float w) || any_of (λ x. not (src_is_float w x)) (sources p))

-- Four restricted floats for more than four channels.
abbrev pub vector_too_short : ℕ → Source → Bool
vector_too_short w x = src_is_vector x w && ltb 4 (channels w)

unfoldable pub operand_rule_broken : Plain → ℕ → Bool
operand_rule_broken p w =
    misplaced p w
    || (any_of (unequal_halves w) (sources p)
    || (any_of (bad_modifier p w) (sources p)
    || (own_rule_broken p w
    || (mixed p w
    || any_of (vector_too_short w) (sources p)))))

-- ---- 9, 10, 11: over the register operands; immediates and a null destination are passed over, never the other operands. 10 and 11 judge what is named
-- directly; an address is judged while running

-- The destination is not null and breaks a rule; or a source does that is read from registers.
abbrev pub some_operand : Plain → ℕ → Bool → (Source → Bool) → Bool
some_operand p w dst src = (not (is_null w) && dst) || any_of (λ x. not (is_immediate x w) && src x) (sources p)

-- Four shapes on which the machines hang, by what the codes say: ExecSize, VertStride, Width, HorzStride.

-- ExecSize equal to Width with HorzStride not 0 and VertStride not Width×HorzStride.
abbrev pub row_ends_elsewhere : ℕ → ℕ → ℕ → ℕ → Bool
row_ends_elsewhere size vert wide horz = eqb size wide && (not (eqb horz 0) && not (eqb vert (wide * horz)))

-- Width 1 with HorzStride not 0.
abbrev pub column_has_stride : ℕ → ℕ → ℕ → ℕ → Bool
column_has_stride size vert wide horz = eqb wide 1 && not (eqb horz 0)

-- ExecSize and Width both 1 with VertStride not 0.
abbrev pub element_has_stride : ℕ → ℕ → ℕ → ℕ → Bool
element_has_stride size vert wide horz = (eqb size 1 && eqb wide 1) && not (eqb vert 0)

-- VertStride and HorzStride both 0 with Width not 1.
abbrev pub scalar_is_wide : ℕ → ℕ → ℕ → ℕ → Bool
scalar_is_wide size vert wide horz = (eqb vert 0 && eqb horz 0) && not (eqb wide 1)

-- One of the four.
unfoldable pub hangs : ℕ → ℕ → ℕ → ℕ → Bool
hangs size vert wide horz =
    row_ends_elsewhere size vert wide horz
    || (column_has_stride size vert wide horz
    || (element_has_stride size vert wide horz
    || scalar_is_wide size vert wide horz))

-- The twelve bits that say a source's region (`src_field`) have one of them, at a code of ExecSize.
abbrev pub field_hangs : ℕ → ℕ → Bool
field_hangs size field = hangs (count_of size) (stride_of (bits field 8 4)) (count_of (bits field 5 3)) (stride_of (bits field 3 2))

-- 9: a stride or width code is undefined, or ExecSize lies under Width, or the shape is one of the four. It is asked of the twelve bits, and of the code of
-- ExecSize: nothing else decides it.
unfoldable pub shape_refused : ℕ → ℕ → Bool
shape_refused size field =
    let vert = bits field 8 4 in
    let wide = bits field 5 3 in
    ltb 6 vert || (ltb 4 wide || (ltb size wide || field_hangs size field))

-- 9 of source x.
abbrev pub src_shape_broken : ℕ → Source → Bool
src_shape_broken w x = shape_refused (exec_size w) (src_field x w)

-- 9 of all operands: the destination's stride is 0, or a source breaks it.
unfoldable pub shape_broken : Plain → ℕ → Bool
shape_broken p w = some_operand p w (eqb (dst_stride w) 0) (src_shape_broken w)

-- 10: a subregister is no multiple of the element size.
abbrev pub unaligned : ℕ → ℕ → Bool
unaligned subregister size = not (eqb (subregister % size) 0)

unfoldable pub alignment_broken : Plain → ℕ → Bool
alignment_broken p w =
    some_operand p w
    (not (dst_by_address w) && unaligned (dst_subregister w) (dst_size w))
    (λ x. not (src_by_address x w) && unaligned (src_subregister x w) (src_region x w).size)

-- How many bytes the file of an operand has: r0 to r127, or a0.
abbrev pub bytes_in : Bool → ℕ
bytes_in is_a0 = cond is_a0 address_bytes register_bytes

-- 11: the first and the last byte lie in registers more than one apart, or past the file's bytes: past r127, or past a0's sixteen. `element` is where the last
-- channel's element starts: no channel's lies farther, since 9 has passed and so rows are whole.
unfoldable pub too_far : ℕ → ℕ → ℕ → ℕ → Bool
too_far bytes origin element size =
    let last = element + size - 1 in ltb (origin / 32 + 1) (last / 32) || leb bytes last

-- A region reaches too far, its last channel being `last`.
abbrev pub region_too_far : ℕ → Region → ℕ → Bool
region_too_far bytes r last = too_far bytes r.origin (element_at r last) r.size

abbrev pub last_channel : ℕ → ℕ
last_channel w = channels w - 1

unfoldable pub reach_broken : Plain → ℕ → Bool
reach_broken p w =
    some_operand p w
    (not (dst_by_address w) && too_far (bytes_in (dst_is_a0 w)) (dst_origin w) (dst_element w (last_channel w)) (dst_size w))
    (λ x. not (src_by_address x w) && region_too_far (bytes_in (src_is_a0 x w)) (src_region x w) (last_channel w))

-- ---- the six in order: the number of the first rule that is broken, or 0

-- `number` if the rule is broken, else what the later rules say.
abbrev pub or_else : Bool → ℕ → ℕ → ℕ
or_else broken number later = cond broken number later

-- Only nop skips 7 to 11; branches skip 8 to 11. What is not listed never comes this far.
unfoldable pub later : Operation → ℕ → ℕ
later (plain p) w =
    or_else (not (plain_served p w)) 7
    (or_else (operand_rule_broken p w) 8
    (or_else (shape_broken p w) 9
    (or_else (alignment_broken p w) 10
    (or_else (reach_broken p w) 11
    0))))
later nop w = 0
later (branch b) w = or_else (not (branch_served b w)) 7 0
later unlisted w = 0

unfoldable pub refusal_of : ℕ → ℕ
refusal_of w = or_else (reserved_set w) 6 (later (operation w) w)
