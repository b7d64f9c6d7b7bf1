-- The bench as it stood before 02 §7, when every operand was named directly and there was no a0: 7, 10 and 11, what an instruction does, the state, start, step and run. Where the paper has
-- changed a definition, the one that stood is written out here under its name with `direct` before it. Assumes nothing.
use Rattle.std.specs.Prelude.{Bool, not, cond, ◌&&◌, ◌||◌, List, [], ◌++◌, map, ℕ, ◌+◌, ◌-◌, ◌*◌, ◌/◌, eqb, ltb, leb, length}
use Rattle.std.proofs.Math.Option.{Option, none, some}
use Rattle.paper.specs.Bits.{bytes_of}
use Rattle.paper.specs.Limits.{register_bytes, budget_limit}
use Rattle.paper.specs.Word.{Source, src0, src1, cond_modifier, saturate, flag_choice, dst_file, dst_type, dst_subregister, dst_register, dst_stride, dst_addr_mode}
use Rattle.paper.specs.Word.{src_file, src_type, src_subregister, src_register, src_modifier, src_addr_mode, src_horz_stride, src_width, src_vert_stride}
use Rattle.paper.specs.Word.{grf, is_null, is_immediate, immediate}
use Rattle.paper.specs.Operation.{Plain, Operation, plain, nop, branch, unlisted, operation, traits, sources}
use Rattle.paper.specs.Value.{type_vf, width, size_of}
use Rattle.paper.specs.Element.{Element, made, meets}
use Rattle.paper.specs.Region.{Region, count_of, stride_of, channels, element_at, Operand, fixed, vector, direct, src_kind, dst_size}
use Rattle.paper.specs.Store.{Store}
use Rattle.paper.specs.Enable.{chosen_flag, holds, channel_of, enabled, flag_after}
use Rattle.paper.specs.Effect.{pattern_at, scattered, is_on}
use Rattle.paper.specs.Legal.{any_of, reserved_set, control_served, register_type, immediate_type, uses_floats, floats_served, branch_served, operand_rule_broken, some_operand, shape_broken, unaligned, last_channel, or_else}
use Rattle.paper.specs.Kernel.{Instr, long_and_short, Parsed, bad, good}
use Rattle.paper.specs.Jump.{fetch}
use Rattle.paper.specs.Machine.{Channel, State, Ways, wake, is_awake, act, Outcome, run_with, start}
use Rattle.paper.specs.State.{half, channels_in, all_three, state_lands, is_waiting, mask_of, places_of}
use Rattle.paper.specs.Calls.{Answer, verdict, refusal, Written, kept, Changed, unchanged, sized}
use Rattle.laws.specs.Otherwise.{Judgement, judge_at_by, judged_kernel_by, step_by}

-- ---- 7

-- Registers or null, addressed directly, of a listed type.
unfoldable pub direct_dst_served : ℕ → Bool
direct_dst_served w = (eqb (dst_file w) grf || is_null w) && (eqb (dst_addr_mode w) 0 && register_type (dst_type w))

-- An immediate of a listed type; or a register, addressed directly, of a listed type.
unfoldable pub direct_src_served : ℕ → Source → Bool
direct_src_served w x =
    cond (is_immediate x w) (immediate_type (src_type x w))
    (eqb (src_file x w) grf && (eqb (src_addr_mode x w) 0 && register_type (src_type x w)))

-- Control, destination, and the sources that the operation reads; floats where they are served.
unfoldable pub direct_plain_served : Plain → ℕ → Bool
direct_plain_served p w =
    control_served (traits p).compares (traits p).saturates w
    && (direct_dst_served w && (not (any_of (λ x. not (direct_src_served w x)) (sources p)) && (not (uses_floats p w) || floats_served p w)))

-- ---- regions

abbrev pub direct_src_region : Source → ℕ → Region
direct_src_region x w =
    record {
      origin = src_register x w * 32 + src_subregister x w;
      vert = stride_of (src_vert_stride x w);
      wide = count_of (src_width x w);
      horz = stride_of (src_horz_stride x w);
      size = size_of (src_type x w);
    }

abbrev pub direct_operand_of : Source → ℕ → Operand
direct_operand_of x w =
    cond (is_immediate x w)
    (cond (eqb (src_type x w) type_vf) (vector (immediate 32 w)) (fixed (immediate (width (src_type x w)) w)))
    (direct (direct_src_region x w))

abbrev pub direct_dst_origin : ℕ → ℕ
direct_dst_origin w = dst_register w * 32 + dst_subregister w

abbrev pub direct_dst_element : ℕ → ℕ → ℕ
direct_dst_element w n = direct_dst_origin w + n * stride_of (dst_stride w) * dst_size w

-- ---- 10 and 11

unfoldable pub direct_alignment_broken : Plain → ℕ → Bool
direct_alignment_broken p w =
    some_operand p w (unaligned (dst_subregister w) (dst_size w)) (λ x. unaligned (src_subregister x w) (direct_src_region x w).size)

-- The first and the last byte lie in registers more than one apart, or past r127.
unfoldable pub direct_too_far : ℕ → ℕ → ℕ → Bool
direct_too_far origin element size =
    let last = element + size - 1 in ltb (origin / 32 + 1) (last / 32) || leb register_bytes last

unfoldable pub direct_reach_broken : Plain → ℕ → Bool
direct_reach_broken p w =
    some_operand p w
    (direct_too_far (direct_dst_origin w) (direct_dst_element w (last_channel w)) (dst_size w))
    (λ x. let r = direct_src_region x w in direct_too_far r.origin (element_at r (last_channel w)) r.size)

-- ---- the rules with these

unfoldable pub direct_later : Operation → ℕ → ℕ
direct_later (plain p) w =
    or_else (not (direct_plain_served p w)) 7
    (or_else (operand_rule_broken p w) 8
    (or_else (shape_broken p w) 9
    (or_else (direct_alignment_broken p w) 10
    (or_else (direct_reach_broken p w) 11
    0))))
direct_later nop w = 0
direct_later (branch b) w = or_else (not (branch_served b w)) 7 0
direct_later unlisted w = 0

unfoldable pub direct_refusal : ℕ → ℕ
direct_refusal w = or_else (reserved_set w) 6 (direct_later (operation w) w)

-- ---- what an instruction does: to registers and flags, and nothing to a0, which was not there

unfoldable pub direct_operand : ℕ → List ℕ → Source → ℕ → Element
direct_operand w registers x n =
    record {
      kind = src_kind x w;
      modifier = cond (is_immediate x w) 0 (src_modifier x w);
      pattern = pattern_at registers (direct_operand_of x w) n;
    }

unfoldable pub direct_channel_stores : Plain → ℕ → Store → ℕ → ℕ
direct_channel_stores p w st n =
    made p (cond_modifier w) (holds w st (channel_of w n)) (eqb (saturate w) 1) (dst_type w)
    (direct_operand w st.registers src0 n) (direct_operand w st.registers src1 n)

unfoldable pub direct_registers_after : Plain → ℕ → List Bool → Store → List ℕ
direct_registers_after p w awake st =
    let written = scattered st.registers (direct_dst_element w) (dst_size w) (is_on p w awake st) (direct_channel_stores p w st) (channels w) in
    cond (is_null w) st.registers written

unfoldable pub direct_finds : ℕ → Store → ℕ → Bool
direct_finds w st m =
    let n = m - channel_of w 0 in
    meets (cond_modifier w) (direct_operand w st.registers src0 n) (direct_operand w st.registers src1 n)

unfoldable pub direct_compared_flag : ℕ → List Bool → Store → ℕ
direct_compared_flag w awake st =
    flag_after (chosen_flag w st) (channel_of w 0) (channels w) (enabled Plain.cmp w awake st) (direct_finds w st)

abbrev pub direct_with_flag : ℕ → Store → List ℕ → ℕ → Store
direct_with_flag w st registers flag =
    record {
      registers = registers;
      flag0 = cond (eqb (flag_choice w) 0) flag st.flag0;
      flag1 = cond (eqb (flag_choice w) 0) st.flag1 flag;
      addresses = st.addresses;
    }

unfoldable pub direct_plain_effect : Plain → ℕ → List Bool → Store → Store
direct_plain_effect p w awake st =
    let flag = direct_compared_flag w awake st in
    direct_with_flag w st (direct_registers_after p w awake st) (cond (traits p).compares flag (chosen_flag w st))

unfoldable pub direct_effect : ℕ → List Bool → Store → Store
direct_effect w awake st = elim (operation w) [ plain p ↦ direct_plain_effect p w awake st | nop ↦ st | branch b ↦ st | unlisted ↦ st ]

-- ---- a step

abbrev pub direct_pass : ℕ → Ways → Store → List Channel → State
direct_pass w ways st cs = record { store = direct_effect w (map is_awake cs) st; channels = cs; place = ways.next }

unfoldable pub direct_perform : Operation → ℕ → Ways → Store → List Channel → State
direct_perform (plain p) w ways st cs = direct_pass w ways st cs
direct_perform nop w ways st cs = direct_pass w ways st cs
direct_perform (branch b) w ways st cs = act b w ways st cs
direct_perform unlisted w ways st cs = direct_pass w ways st cs

abbrev pub direct_step : ℕ → ℕ → Ways → State → State
direct_step w here ways s = direct_perform (operation w) w ways s.store (map (wake here) s.channels)

-- ---- the state: 42 bytes, which say nothing of a0

abbrev pub direct_state_length : ℕ
direct_state_length = 42

-- The state that registers and state bytes write; a0 has no bytes in it.
unfoldable pub direct_state_of : List ℕ → List ℕ → State
direct_state_of registers bytes =
    record {
      store = record { registers = registers; flag0 = half bytes 0; flag1 = half bytes 2; addresses = [] };
      channels = channels_in bytes 0 16;
      place = half bytes 4;
    }

unfoldable pub direct_state_legal : List Instr → List ℕ → List ℕ → Bool
direct_state_legal k registers bytes = all_three bytes 16 && state_lands k (direct_state_of registers bytes)

unfoldable pub direct_state_bytes : State → List ℕ
direct_state_bytes s =
    bytes_of 2 s.store.flag0
    ++ (bytes_of 2 s.store.flag1
    ++ (bytes_of 2 s.place
    ++ (bytes_of 2 (mask_of is_awake s.channels)
    ++ (bytes_of 2 (mask_of is_waiting s.channels)
    ++ places_of s.channels))))

unfoldable pub direct_start_call : ℕ → ℕ → ℕ → List ℕ → Written
direct_start_call mask flag0 flag1 bytes =
    cond (eqb (length bytes) direct_state_length)
    (record { answer = verdict 0 0; output = direct_state_bytes (start (record { registers = []; flag0 = flag0; flag1 = flag1; addresses = [] }) mask) })
    (kept (refusal 1 0) bytes)

-- ---- step and run: only the end stopped a run early

-- The judgement of an instruction by the rules above.
abbrev pub direct_judge : Judgement
direct_judge = judge_at_by direct_refusal

abbrev pub direct_stops_on : Option Instr → Option ℕ
direct_stops_on none = some 20
direct_stops_on (some i) = none

abbrev pub direct_stops : List Instr → State → Option ℕ
direct_stops k s = direct_stops_on (fetch k s.place)

abbrev pub direct_run : List Instr → ℕ → State → Outcome
direct_run k n s = run_with (direct_stops k) (step_by direct_judge direct_step k) n s

abbrev pub direct_changed_to : Answer → State → Changed
direct_changed_to answer s = record { answer = answer; registers = s.store.registers; state = direct_state_bytes s }

abbrev pub direct_all_sized : List ℕ → List ℕ → List ℕ → List ℕ → Bool
direct_all_sized dictionary kernel registers bytes =
    sized dictionary kernel && (eqb (length registers) register_bytes && eqb (length bytes) direct_state_length)

abbrev pub direct_on_state : List ℕ → List ℕ → (List Instr → State → Changed) → Parsed → Changed
direct_on_state registers bytes go (bad number offset) = unchanged (refusal number offset) registers bytes
direct_on_state registers bytes go (good k) =
    let done = go k (direct_state_of registers bytes) in
    cond (direct_state_legal k registers bytes) done (unchanged (refusal 15 0) registers bytes)

abbrev pub direct_stepped_as : Option ℕ → List ℕ → List ℕ → State → Changed
direct_stepped_as none registers bytes after = direct_changed_to (verdict 0 0) after
direct_stepped_as (some number) registers bytes after = unchanged (verdict number 0) registers bytes

unfoldable pub direct_step_call : List ℕ → List ℕ → List ℕ → List ℕ → Changed
direct_step_call dictionary kernel registers bytes =
    let judged = judged_kernel_by direct_judge long_and_short dictionary kernel in
    cond (direct_all_sized dictionary kernel registers bytes)
    (direct_on_state registers bytes (λ k s. direct_stepped_as (direct_stops k s) registers bytes (step_by direct_judge direct_step k s)) judged)
    (unchanged (refusal 1 0) registers bytes)

abbrev pub direct_ran_as : Outcome → Changed
direct_ran_as o = direct_changed_to (verdict o.verdict o.steps) o.state

unfoldable pub direct_run_call : List ℕ → List ℕ → ℕ → List ℕ → List ℕ → Changed
direct_run_call dictionary kernel budget registers bytes =
    let judged = judged_kernel_by direct_judge long_and_short dictionary kernel in
    cond (not (direct_all_sized dictionary kernel registers bytes)) (unchanged (refusal 1 0) registers bytes)
    (cond (ltb budget_limit budget) (unchanged (refusal 16 0) registers bytes)
    (direct_on_state registers bytes (λ k s. direct_ran_as (direct_run k budget s)) judged))
