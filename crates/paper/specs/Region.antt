-- Regions: at which byte each channel's element starts (the paper, "Operations"; source document 001). Assumes nothing.
use Rattle.std.specs.Prelude.{Bool, cond, ◌&&◌, ℕ, ◌+◌, ◌*◌, ◌/◌, ◌%◌, ◌^◌, eqb}
use Rattle.paper.specs.Word.{Source, exec_size, dst_type, dst_subregister, dst_register, dst_stride, dst_is_a0}
use Rattle.paper.specs.Word.{src_type, src_subregister, src_register, src_horz_stride, src_width, src_vert_stride, src_is_a0, is_immediate, immediate}
use Rattle.paper.specs.Value.{type_f, type_vf, width, size_of}

-- ExecSize and Width codes 0 to 4 mean 1 to 16.
abbrev pub count_of : ℕ → ℕ
count_of c = 2 ^ c

-- Stride codes 0, 1, 2, … mean 0, 1, 2, 4, …: up to 32 for VertStride, up to 4 for HorzStride and the destination.
abbrev pub stride_of : ℕ → ℕ
stride_of c = 2 ^ c / 2

-- How many channels a word works on.
abbrev pub channels : ℕ → ℕ
channels w = count_of (exec_size w)

-- ---- regions

-- A region: the byte at which it begins, the strides from row to row and from channel to channel, in elements, how many channels a row has, and
-- how many bytes an element has.
pub record Region : Type 0 where
  pub origin : ℕ
  pub vert : ℕ
  pub wide : ℕ
  pub horz : ℕ
  pub size : ℕ

-- Channel j of row i reads byte origin + (i × VertStride + j × HorzStride) × size; channel n of all stands in row n / Width at n modulo Width.
unfoldable pub element_at : Region → ℕ → ℕ
element_at r n = r.origin + (n / r.wide * r.vert + n % r.wide * r.horz) * r.size

-- The byte at which a register begins: a0 is alone in its file.
abbrev pub register_at : Bool → ℕ → ℕ
register_at is_a0 register = cond is_a0 0 (register * 32)

-- The region of source x, in the register file or in a0.
abbrev pub src_region : Source → ℕ → Region
src_region x w =
    record {
      origin = register_at (src_is_a0 x w) (src_register x w) + src_subregister x w;
      vert = stride_of (src_vert_stride x w);
      wide = count_of (src_width x w);
      horz = stride_of (src_horz_stride x w);
      size = size_of (src_type x w);
    }

-- ---- operands

-- What a source names: an immediate's pattern, an immediate of four restricted floats, or a region of the file that it stands in.
pub data Operand : Type 0 where
  fixed : ℕ → Operand
  vector : ℕ → Operand
  direct : Region → Operand

-- Source x is an immediate of type vf.
abbrev pub src_is_vector : Source → ℕ → Bool
src_is_vector x w = is_immediate x w && eqb (src_type x w) type_vf

-- The type of the elements that source x gives: of vf, f.
abbrev pub src_kind : Source → ℕ → ℕ
src_kind x w = cond (src_is_vector x w) type_f (src_type x w)

-- An immediate is as many of the low bits as its type has; of vf, all 32.
abbrev pub operand_of : Source → ℕ → Operand
operand_of x w =
    cond (is_immediate x w)
    (cond (eqb (src_type x w) type_vf) (vector (immediate 32 w)) (fixed (immediate (width (src_type x w)) w)))
    (direct (src_region x w))

-- ---- the destination

abbrev pub dst_origin : ℕ → ℕ
dst_origin w = register_at (dst_is_a0 w) (dst_register w) + dst_subregister w

abbrev pub dst_size : ℕ → ℕ
dst_size w = size_of (dst_type w)

-- The first byte that channel n writes: origin + n × stride × size.
abbrev pub dst_element : ℕ → ℕ → ℕ
dst_element w n = dst_origin w + n * stride_of (dst_stride w) * dst_size w
