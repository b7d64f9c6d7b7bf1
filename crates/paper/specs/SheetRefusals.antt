-- Each refusal of an instruction, with its offset, and what just passes. Kernels that are lent with a dictionary stand in crate `computed`. Assumes nothing.
use Rattle.std.specs.Prelude.{List, [], ◌∷◌, ◌++◌, ℕ, ◌+◌, ◌-◌, ◌^◌}
use Rattle.paper.specs.Bits.{◌at◌, bytes_of}
use Rattle.paper.specs.Kernel.{walk, judge_at, parse, long_and_short}
use Rattle.paper.specs.Jump.{with_jumps}
use Rattle.paper.specs.Calls.{checked_as}
use Rattle.paper.specs.Assembler.{to, from0, from1, immediate0, immediate1, op, structured_to, jmpi_to, nop_word, long}
use Rattle.paper.specs.Sheet.{Row, ◌gives◌, shown}

-- What is said of a nop and then the given bytes, under a dictionary of zeros: what is refused stands at byte 16.
unfoldable pub second_bytes : List ℕ → List ℕ
second_bytes bytes = shown (checked_as (with_jumps (parse long_and_short (λ _. 0) (long (nop_word ∷ []) ++ bytes))))

-- The same for one long word.
unfoldable pub second_word : ℕ → List ℕ
second_word w = shown (checked_as (with_jumps (parse long_and_short (λ _. 0) (long (nop_word ∷ w ∷ [])))))

-- mov(8) of r2's dwords into r4, with something more.
unfoldable pub mov_with : ℕ → ℕ
mov_with more = op 0x01 3 + to 1 4 0 + from0 1 2 0 4 3 1 + more

-- add(8) r4:d, r2:d, r3:d with the given subregister of src0 and width code of src1.
unfoldable pub add_with : ℕ → ℕ → ℕ
add_with sub wide = op 0x40 3 + to 1 4 0 + from0 1 2 sub 4 3 1 + from1 1 3 0 4 wide 1

unfoldable pub rows_form : List Row
rows_form =
    -- 17 before 3, shown at a limit of two
    (shown (checked_as (walk (judge_at long_and_short (λ _. 0) (long (nop_word ∷ nop_word ∷ []) ++ (1 ∷ []))) 33 2 0)) gives 17 ∷ 32 ∷ 0 ∷ [])
    -- 3, 4 and 5
    ∷ (second_bytes (1 ∷ 2 ∷ 3 ∷ []) gives 3 ∷ 16 ∷ 0 ∷ [])
    ∷ (second_bytes (bytes_of 12 nop_word) gives 3 ∷ 16 ∷ 0 ∷ [])
    ∷ (second_word 0x03 gives 4 ∷ 16 ∷ 0 ∷ [])
    ∷ (second_bytes (bytes_of 8 (0x22 + 1 at 29)) gives 5 ∷ 16 ∷ 0 ∷ [])
    ∷ (second_bytes (bytes_of 8 (nop_word + 1 at 29)) gives 0 ∷ 0 ∷ 2 ∷ [])
    ∷ []

unfoldable pub rows_word : List Row
rows_word =
    (second_word (mov_with 0) gives 0 ∷ 0 ∷ 2 ∷ [])
    -- 6: reserved bits
    ∷ (second_word (nop_word + 1 at 7) gives 6 ∷ 16 ∷ 0 ∷ [])
    ∷ (second_word (mov_with (1 at 47)) gives 6 ∷ 16 ∷ 0 ∷ [])
    ∷ (second_word (mov_with (1 at 95)) gives 6 ∷ 16 ∷ 0 ∷ [])
    ∷ (second_word (mov_with (1 at 121)) gives 6 ∷ 16 ∷ 0 ∷ [])
    -- a second source's file of 11 makes immediate form, and frees 127:121, though mov does not read it
    ∷ (second_word (mov_with (3 at 42 + 127 at 121)) gives 0 ∷ 0 ∷ 2 ∷ [])
    -- in branches all of them but bit 7 are free
    ∷ (second_word (structured_to 0x25 2 + 1 at 47 + 63 at 90 + 127 at 121) gives 0 ∷ 0 ∷ 2 ∷ [])
    ∷ (second_word (structured_to 0x25 2 + 1 at 7) gives 6 ∷ 16 ∷ 0 ∷ [])
    ∷ (second_word (op 0x01 3 + to 1 4 0 + immediate0 1 0xFFFFFFFF) gives 0 ∷ 0 ∷ 2 ∷ [])
    -- 7: AccessMode, AccWrCtrl, ExecSize, QtrCtrl, PredCtrl, CondModifier, Saturate; file, type; a branch's own needs
    ∷ (second_word (mov_with (1 at 8)) gives 7 ∷ 16 ∷ 0 ∷ [])
    ∷ (second_word (mov_with (1 at 28)) gives 7 ∷ 16 ∷ 0 ∷ [])
    ∷ (second_word (mov_with (2 at 21)) gives 7 ∷ 16 ∷ 0 ∷ [])
    ∷ (second_word (mov_with (2 at 12)) gives 7 ∷ 16 ∷ 0 ∷ [])
    ∷ (second_word (mov_with (2 at 16)) gives 7 ∷ 16 ∷ 0 ∷ [])
    ∷ (second_word (mov_with (1 at 24)) gives 7 ∷ 16 ∷ 0 ∷ [])
    ∷ (second_word (add_with 0 3 + 1 at 31) gives 0 ∷ 0 ∷ 2 ∷ [])
    ∷ (second_word (op 0x04 3 + to 1 4 0 + from0 1 2 0 4 3 1 + 1 at 31) gives 7 ∷ 16 ∷ 0 ∷ [])
    ∷ (second_word (mov_with (1 at 33)) gives 7 ∷ 16 ∷ 0 ∷ [])
    ∷ (second_word (mov_with (5 at 39)) gives 7 ∷ 16 ∷ 0 ∷ [])
    -- the second quarter, with eight channels and with another size
    ∷ (second_word (mov_with (1 at 12)) gives 0 ∷ 0 ∷ 2 ∷ [])
    ∷ (second_word (op 0x01 4 + to 1 4 0 + from0 1 2 0 4 3 1 + 1 at 12) gives 7 ∷ 16 ∷ 0 ∷ [])
    ∷ (second_word (op 0x01 2 + to 1 4 0 + from0 1 2 0 3 2 1 + 1 at 12) gives 7 ∷ 16 ∷ 0 ∷ [])
    -- nop skips 7: AccessMode, QtrCtrl, PredCtrl, ExecSize, CondModifier, AccWrCtrl, Saturate and the files are not looked at
    ∷ (second_word (nop_word + 1 at 8 + 3 at 12 + 15 at 16 + 7 at 21 + 15 at 24 + 1 at 28 + 1 at 31 + 2 at 32 + 2 at 37) gives 0 ∷ 0 ∷ 2 ∷ [])
    -- else and endif take a predicate, and ignore it
    ∷ (second_word (structured_to 0x24 2 + 1 at 16) gives 0 ∷ 0 ∷ 2 ∷ [])
    ∷ (second_word (structured_to 0x25 2 + 1 at 16) gives 0 ∷ 0 ∷ 2 ∷ [])
    ∷ (second_word (structured_to 0x25 2 + 1 at 9) gives 7 ∷ 16 ∷ 0 ∷ [])
    ∷ (second_word (op 0x20 0 + immediate1 0 0) gives 7 ∷ 16 ∷ 0 ∷ [])
    -- 8: mul with dwords; an immediate that is not last; unequal halves; a modifier on a src0 immediate, on logic; signs of shifts; sel
    ∷ (second_word (op 0x41 3 + to 1 4 0 + from0 1 2 0 4 3 1 + from1 3 3 0 4 3 1) gives 8 ∷ 16 ∷ 0 ∷ [])
    ∷ (second_word (op 0x40 3 + to 1 4 0 + immediate0 1 5 + 1 at 42 + 1 at 44) gives 8 ∷ 16 ∷ 0 ∷ [])
    -- bit 111 of such an immediate is the second source's AddrMode, which is served; of an immediate as second source it is no AddrMode
    ∷ (second_word (op 0x40 3 + to 1 4 0 + immediate0 1 (5 + 1 at 15) + 1 at 42 + 1 at 44) gives 8 ∷ 16 ∷ 0 ∷ [])
    ∷ (second_word (op 0x40 3 + to 1 4 0 + from0 1 2 0 4 3 1 + immediate1 1 (1 at 15)) gives 0 ∷ 0 ∷ 2 ∷ [])
    ∷ (second_word (op 0x01 3 + to 1 4 0 + immediate0 3 5) gives 8 ∷ 16 ∷ 0 ∷ [])
    ∷ (second_word (op 0x01 3 + to 1 4 0 + immediate0 3 0x00050005) gives 0 ∷ 0 ∷ 2 ∷ [])
    ∷ (second_word (op 0x01 3 + to 1 4 0 + immediate0 1 5 + 1 at 77) gives 8 ∷ 16 ∷ 0 ∷ [])
    ∷ (second_word (mov_with (2 at 77)) gives 0 ∷ 0 ∷ 2 ∷ [])
    ∷ (second_word (op 0x04 3 + to 1 4 0 + from0 1 2 0 4 3 1 + 2 at 77) gives 8 ∷ 16 ∷ 0 ∷ [])
    ∷ (second_word (op 0x08 3 + to 1 4 0 + from0 1 2 0 4 3 1 + immediate1 0 1) gives 8 ∷ 16 ∷ 0 ∷ [])
    ∷ (second_word (op 0x0C 3 + to 1 4 0 + from0 0 2 0 4 3 1 + immediate1 0 1) gives 8 ∷ 16 ∷ 0 ∷ [])
    ∷ (second_word (op 0x02 3 + to 1 4 0 + from0 1 2 0 4 3 1 + immediate1 0 1) gives 8 ∷ 16 ∷ 0 ∷ [])
    -- 9 comes before 10, whichever operand breaks it
    ∷ (second_word (add_with 0 4) gives 9 ∷ 16 ∷ 0 ∷ [])
    ∷ (second_word (add_with 1 3) gives 10 ∷ 16 ∷ 0 ∷ [])
    ∷ (second_word (add_with 1 4) gives 9 ∷ 16 ∷ 0 ∷ [])
    ∷ (second_word (mov_with 0 - 1 at 61) gives 9 ∷ 16 ∷ 0 ∷ [])
    ∷ (second_word (op 0x01 3 + to 1 4 2 + from0 1 2 0 4 3 1) gives 10 ∷ 16 ∷ 0 ∷ [])
    -- 11: row J, on a source and on a destination
    ∷ (second_word (op 0x01 4 + to 1 4 0 + from0 1 2 0 4 3 1) gives 0 ∷ 0 ∷ 2 ∷ [])
    ∷ (second_word (op 0x01 4 + to 1 4 0 + from0 1 2 4 4 3 1) gives 11 ∷ 16 ∷ 0 ∷ [])
    ∷ (second_word (op 0x01 4 + to 1 4 0 + from0 1 127 0 4 3 1) gives 11 ∷ 16 ∷ 0 ∷ [])
    ∷ (second_word (op 0x01 3 + to 1 4 0 + from0 1 127 0 4 3 1) gives 0 ∷ 0 ∷ 2 ∷ [])
    ∷ (second_word (op 0x01 4 + to 1 127 0 + from0 1 2 0 4 3 1) gives 11 ∷ 16 ∷ 0 ∷ [])
    -- 12: into the middle of a long instruction, before the start, past the end; the end itself is no fault
    ∷ (second_word (jmpi_to (2 ^ 32 - 1)) gives 12 ∷ 16 ∷ 0 ∷ [])
    ∷ (second_word (structured_to 0x22 (2 ^ 16 - 3)) gives 12 ∷ 16 ∷ 0 ∷ [])
    ∷ (second_word (jmpi_to 2) gives 12 ∷ 16 ∷ 0 ∷ [])
    ∷ (second_word (jmpi_to 0) gives 0 ∷ 0 ∷ 2 ∷ [])
    ∷ (second_word (jmpi_to (2 ^ 32 - 4)) gives 0 ∷ 0 ∷ 2 ∷ [])
    ∷ []

-- mov of r2's dwords into r4 at a code of ExecSize, read by codes of VertStride, Width and HorzStride.
unfoldable pub mov_by : ℕ → ℕ → ℕ → ℕ → ℕ
mov_by size vert wide horz = op 0x01 size + to 1 4 0 + from0 1 2 0 vert wide horz

-- 9, the shapes on which the machines hang, and what lies beside each.
unfoldable pub rows_shape : List Row
rows_shape =
    -- ExecSize equal to Width: <8;8,1> at 8, then <16;8,1>, <4;8,1>, <0;8,1>; <4;8,1> at 16; HorzStride 0 leaves VertStride free
    (second_word (mov_by 3 4 3 1) gives 0 ∷ 0 ∷ 2 ∷ [])
    ∷ (second_word (mov_by 3 5 3 1) gives 9 ∷ 16 ∷ 0 ∷ [])
    ∷ (second_word (mov_by 3 3 3 1) gives 9 ∷ 16 ∷ 0 ∷ [])
    ∷ (second_word (mov_by 3 0 3 1) gives 9 ∷ 16 ∷ 0 ∷ [])
    ∷ (second_word (mov_by 4 3 3 1) gives 0 ∷ 0 ∷ 2 ∷ [])
    ∷ (second_word (mov_by 3 5 3 0) gives 0 ∷ 0 ∷ 2 ∷ [])
    -- <16;4,4> at 4, where VertStride is Width×HorzStride and not Width
    ∷ (second_word (mov_by 2 5 2 3) gives 0 ∷ 0 ∷ 2 ∷ [])
    ∷ (second_word (mov_by 2 3 2 3) gives 9 ∷ 16 ∷ 0 ∷ [])
    -- Width 1: <1;1,0> and <1;1,1> at 8; <0;1,1> at 1
    ∷ (second_word (mov_by 3 1 0 0) gives 0 ∷ 0 ∷ 2 ∷ [])
    ∷ (second_word (mov_by 3 1 0 1) gives 9 ∷ 16 ∷ 0 ∷ [])
    ∷ (second_word (mov_by 0 0 0 1) gives 9 ∷ 16 ∷ 0 ∷ [])
    -- ExecSize and Width 1: <0;1,0> and <1;1,0>; the same two at 2
    ∷ (second_word (mov_by 0 0 0 0) gives 0 ∷ 0 ∷ 2 ∷ [])
    ∷ (second_word (mov_by 0 1 0 0) gives 9 ∷ 16 ∷ 0 ∷ [])
    ∷ (second_word (mov_by 1 0 0 0) gives 0 ∷ 0 ∷ 2 ∷ [])
    ∷ (second_word (mov_by 1 1 0 0) gives 0 ∷ 0 ∷ 2 ∷ [])
    -- both strides 0: <0;2,0>, then <1;2,0> and <0;2,1> at 8
    ∷ (second_word (mov_by 3 0 1 0) gives 9 ∷ 16 ∷ 0 ∷ [])
    ∷ (second_word (mov_by 3 1 1 0) gives 0 ∷ 0 ∷ 2 ∷ [])
    ∷ (second_word (mov_by 3 0 1 1) gives 0 ∷ 0 ∷ 2 ∷ [])
    -- the second source too, and before 10; a source that is not read is passed over, and so is an immediate
    ∷ (second_word (add_with 0 0) gives 9 ∷ 16 ∷ 0 ∷ [])
    ∷ (second_word (add_with 1 0) gives 9 ∷ 16 ∷ 0 ∷ [])
    ∷ (second_word (mov_with (1 at 112)) gives 0 ∷ 0 ∷ 2 ∷ [])
    ∷ (second_word (op 0x01 3 + to 1 4 0 + immediate0 1 5 + 1 at 80) gives 0 ∷ 0 ∷ 2 ∷ [])
    ∷ []
