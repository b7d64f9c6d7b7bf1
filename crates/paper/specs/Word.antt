-- The fields of the long word (the paper, "The long word"; source document 000, figure 5-1). Assumes nothing.
use Rattle.std.specs.Prelude.{Bool, not, ◌&&◌, ◌||◌, ℕ, ◌+◌, eqb}
use Rattle.paper.specs.Bits.{bits}

-- ---- control

abbrev pub opcode : ℕ → ℕ
opcode w = bits w 0 7

abbrev pub access_mode : ℕ → ℕ
access_mode w = bits w 8 1

abbrev pub we_ctrl : ℕ → ℕ
we_ctrl w = bits w 9 1

abbrev pub dep_ctrl : ℕ → ℕ
dep_ctrl w = bits w 10 2

abbrev pub qtr_ctrl : ℕ → ℕ
qtr_ctrl w = bits w 12 2

abbrev pub thread_ctrl : ℕ → ℕ
thread_ctrl w = bits w 14 2

abbrev pub pred_ctrl : ℕ → ℕ
pred_ctrl w = bits w 16 4

abbrev pub pred_inv : ℕ → ℕ
pred_inv w = bits w 20 1

abbrev pub exec_size : ℕ → ℕ
exec_size w = bits w 21 3

abbrev pub cond_modifier : ℕ → ℕ
cond_modifier w = bits w 24 4

abbrev pub acc_wr_ctrl : ℕ → ℕ
acc_wr_ctrl w = bits w 28 1

abbrev pub cmpt_ctrl : ℕ → ℕ
cmpt_ctrl w = bits w 29 1

abbrev pub debug_ctrl : ℕ → ℕ
debug_ctrl w = bits w 30 1

abbrev pub saturate : ℕ → ℕ
saturate w = bits w 31 1

-- ---- destination

abbrev pub dst_file : ℕ → ℕ
dst_file w = bits w 32 2

abbrev pub dst_type : ℕ → ℕ
dst_type w = bits w 34 3

abbrev pub dst_subregister : ℕ → ℕ
dst_subregister w = bits w 48 5

abbrev pub dst_register : ℕ → ℕ
dst_register w = bits w 53 8

abbrev pub dst_stride : ℕ → ℕ
dst_stride w = bits w 61 2

abbrev pub dst_addr_mode : ℕ → ℕ
dst_addr_mode w = bits w 63 1

-- ---- sources

pub data Source : Type 0 where
  src0 src1 : Source

abbrev pub src_file : Source → ℕ → ℕ
src_file src0 w = bits w 37 2
src_file src1 w = bits w 42 2

abbrev pub src_type : Source → ℕ → ℕ
src_type src0 w = bits w 39 3
src_type src1 w = bits w 44 3

-- src1's further fields are src0's shifted up 32 bits.
abbrev pub shift_of : Source → ℕ
shift_of src0 = 0
shift_of src1 = 32

abbrev pub src_subregister : Source → ℕ → ℕ
src_subregister x w = bits w (64 + shift_of x) 5

abbrev pub src_register : Source → ℕ → ℕ
src_register x w = bits w (69 + shift_of x) 8

abbrev pub src_modifier : Source → ℕ → ℕ
src_modifier x w = bits w (77 + shift_of x) 2

abbrev pub src_addr_mode : Source → ℕ → ℕ
src_addr_mode x w = bits w (79 + shift_of x) 1

abbrev pub src_horz_stride : Source → ℕ → ℕ
src_horz_stride x w = bits w (80 + shift_of x) 2

abbrev pub src_width : Source → ℕ → ℕ
src_width x w = bits w (82 + shift_of x) 3

abbrev pub src_vert_stride : Source → ℕ → ℕ
src_vert_stride x w = bits w (85 + shift_of x) 4

-- The twelve bits that say how a source is read, as one number: modifier, AddrMode at 2, HorzStride at 3, Width at 5, VertStride at 8.
abbrev pub src_field : Source → ℕ → ℕ
src_field x w = bits w (77 + shift_of x) 12

abbrev pub flag_choice : ℕ → ℕ
flag_choice w = bits w 89 1

-- ---- by address (000, figure 5-1): an operand's thirteen register and subregister bits as one number, of which the low ten are AddrImm, signed, and the top
-- three the number of an element of a0

abbrev pub dst_indirect : ℕ → ℕ
dst_indirect w = bits w 48 13

abbrev pub src_indirect : Source → ℕ → ℕ
src_indirect x w = bits w (64 + shift_of x) 13

abbrev pub addr_imm : ℕ → ℕ
addr_imm field = bits field 0 10

abbrev pub addr_element : ℕ → ℕ
addr_element field = bits field 10 3

-- ---- files, and the immediate form

-- Register files: 01 is the general register file, 00 the architecture's (of which null and a0 are served), 11 an immediate.
abbrev pub grf : ℕ
grf = 1

abbrev pub arf : ℕ
arf = 0

abbrev pub imm : ℕ
imm = 3

-- The destination is null: file 00, register 0.
abbrev pub is_null : ℕ → Bool
is_null w = eqb (dst_file w) arf && eqb (dst_register w) 0

-- The address register a0: file 00, register 0x10.
abbrev pub a0 : ℕ
a0 = 0x10

-- The destination is a0.
abbrev pub dst_is_a0 : ℕ → Bool
dst_is_a0 w = eqb (dst_file w) arf && eqb (dst_register w) a0

-- Source x is a0.
abbrev pub src_is_a0 : Source → ℕ → Bool
src_is_a0 x w = eqb (src_file x w) arf && eqb (src_register x w) a0

-- Source x is an immediate.
abbrev pub is_immediate : Source → ℕ → Bool
is_immediate x w = eqb (src_file x w) imm

-- A word is in immediate form when either source file is 11.
unfoldable pub immediate_form : ℕ → Bool
immediate_form w = is_immediate src0 w || is_immediate src1 w

-- The destination is by address. (Where 7 has passed, its file is 01 then; so it is of a source.)
abbrev pub dst_by_address : ℕ → Bool
dst_by_address w = eqb (dst_addr_mode w) 1

-- Source x is by address. An immediate has no AddrMode.
abbrev pub src_by_address : Source → ℕ → Bool
src_by_address x w = not (is_immediate x w) && eqb (src_addr_mode x w) 1

-- An immediate fills 127:96; its n low bits.
abbrev pub immediate : ℕ → ℕ → ℕ
immediate n w = bits w 96 n
