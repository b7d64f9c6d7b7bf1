-- The rules as they stood before floats were served (02 §8): 7, 8, and what an instruction does. A definition of the paper that the request changed is written out here as it
-- stood, under its name with `whole` before it, every number being whole then. What it names without `whole` is the paper's of today. Of that, `size_of` and `is_signed` gained
-- code 7, and are what they were at codes 0 to 5 (`sizes_stay` and `signs_stay` of FloatWords), the only ones that passed 7. Assumes nothing.
use Rattle.std.specs.Prelude.{Bool, not, cond, ◌&&◌, ◌||◌, List, map, ℕ, ◌-◌, ◌%◌, eqb, ltb, leb, ℤ, ◌-ℤ◌}
use Rattle.paper.specs.Bits.{bits}
use Rattle.paper.specs.Word.{Source, src0, src1, cond_modifier, saturate, dst_file, dst_type, dst_addr_mode, src_file, src_type, src_modifier, src_addr_mode}
use Rattle.paper.specs.Word.{grf, is_null, dst_is_a0, src_is_a0, is_immediate, immediate}
use Rattle.paper.specs.Operation.{Plain, Operation, plain, nop, branch, unlisted, operation, traits, sources}
use Rattle.paper.specs.Value.{width, value, modified, stored}
use Rattle.paper.specs.Element.{Element, compares, result}
use Rattle.paper.specs.Region.{channels, Operand, fixed, direct, src_region, dst_element, dst_size}
use Rattle.paper.specs.Store.{Store}
use Rattle.paper.specs.Enable.{chosen_flag, holds, channel_of, enabled, flag_after}
use Rattle.paper.specs.Address.{settled}
use Rattle.paper.specs.Effect.{pattern_at, file_in, scattered, is_on, with_flag}
use Rattle.paper.specs.Legal.{any_of, reserved_set, control_served, uses_a0, moves_words, branch_served, misplaced, bad_modifier, own_rule_broken, shape_broken, alignment_broken, reach_broken, or_else}
use Rattle.paper.specs.Machine.{Channel, State, Ways, wake, is_awake, act}

-- ---- types: 0 to 5, as `size_of` and `is_signed` had them

abbrev pub whole_size_of : ℕ → ℕ
whole_size_of t = cond (ltb t 2) 4 (cond (ltb t 4) 2 (cond (ltb t 6) 1 0))

abbrev pub whole_is_signed : ℕ → Bool
whole_is_signed t = eqb (t % 2) 1

-- ---- 7

unfoldable pub whole_dst_served : ℕ → Bool
whole_dst_served w = (eqb (dst_file w) grf || ((is_null w || dst_is_a0 w) && eqb (dst_addr_mode w) 0)) && leb (dst_type w) 5

unfoldable pub whole_src_served : ℕ → Source → Bool
whole_src_served w x =
    cond (is_immediate x w) (leb (src_type x w) 3)
    ((eqb (src_file x w) grf || (src_is_a0 x w && eqb (src_addr_mode x w) 0)) && leb (src_type x w) 5)

unfoldable pub whole_plain_served : Plain → ℕ → Bool
whole_plain_served p w =
    control_served (traits p).compares (traits p).saturates w
    && (whole_dst_served w && (not (any_of (λ x. not (whole_src_served w x)) (sources p)) && (not (uses_a0 p w) || moves_words p w)))

-- ---- 8

abbrev pub whole_unequal_halves : ℕ → Source → Bool
whole_unequal_halves w x = is_immediate x w && (leb 2 (src_type x w) && not (eqb (bits w 96 16) (bits w 112 16)))

unfoldable pub whole_operand_rule_broken : Plain → ℕ → Bool
whole_operand_rule_broken p w =
    misplaced p w
    || (any_of (whole_unequal_halves w) (sources p)
    || (any_of (bad_modifier p w) (sources p)
    || own_rule_broken p w))

-- ---- the rules with these

unfoldable pub whole_later : Operation → ℕ → ℕ
whole_later (plain p) w =
    or_else (not (whole_plain_served p w)) 7
    (or_else (whole_operand_rule_broken p w) 8
    (or_else (shape_broken p w) 9
    (or_else (alignment_broken p w) 10
    (or_else (reach_broken p w) 11
    0))))
whole_later nop w = 0
whole_later (branch b) w = or_else (not (branch_served b w)) 7 0
whole_later unlisted w = 0

unfoldable pub whole_refusal : ℕ → ℕ
whole_refusal w = or_else (reserved_set w) 6 (whole_later (operation w) w)

-- ---- what an operation makes of two elements

abbrev pub whole_meaning : Element → ℤ
whole_meaning a = modified a.modifier (value a.kind a.pattern)

unfoldable pub whole_made : Plain → ℕ → Bool → Bool → ℕ → Element → Element → ℕ
whole_made p c holds saturated kind a b = stored saturated kind (result p c holds (whole_meaning a) (whole_meaning b))

unfoldable pub whole_meets : ℕ → Element → Element → Bool
whole_meets c a b = compares c (whole_meaning a -ℤ whole_meaning b)

-- ---- what an instruction does

abbrev pub whole_operand_of : Source → ℕ → Operand
whole_operand_of x w = cond (is_immediate x w) (fixed (immediate (width (src_type x w)) w)) (direct (src_region x w))

unfoldable pub whole_operand : ℕ → List ℕ → Source → ℕ → Element
whole_operand w bytes x n =
    record {
      kind = src_type x w;
      modifier = cond (is_immediate x w) 0 (src_modifier x w);
      pattern = pattern_at bytes (whole_operand_of x w) n;
    }

abbrev pub whole_source_at : ℕ → Store → Source → ℕ → Element
whole_source_at w st x n = whole_operand w (file_in (src_is_a0 x w) st) x n

unfoldable pub whole_channel_stores : Plain → ℕ → Store → ℕ → ℕ
whole_channel_stores p w st n =
    whole_made p (cond_modifier w) (holds w st (channel_of w n)) (eqb (saturate w) 1) (dst_type w)
    (whole_source_at w st src0 n) (whole_source_at w st src1 n)

abbrev pub whole_written_to : Plain → ℕ → List Bool → Store → List ℕ → List ℕ
whole_written_to p w awake st bytes = scattered bytes (dst_element w) (dst_size w) (is_on p w awake st) (whole_channel_stores p w st) (channels w)

unfoldable pub whole_registers_after : Plain → ℕ → List Bool → Store → List ℕ
whole_registers_after p w awake st =
    let written = whole_written_to p w awake st st.registers in cond (is_null w || dst_is_a0 w) st.registers written

unfoldable pub whole_addresses_after : Plain → ℕ → List Bool → Store → List ℕ
whole_addresses_after p w awake st =
    let written = whole_written_to p w awake st st.addresses in cond (dst_is_a0 w) written st.addresses

unfoldable pub whole_finds : ℕ → Store → ℕ → Bool
whole_finds w st m =
    let n = m - channel_of w 0 in
    whole_meets (cond_modifier w) (whole_source_at w st src0 n) (whole_source_at w st src1 n)

unfoldable pub whole_compared_flag : ℕ → List Bool → Store → ℕ
whole_compared_flag w awake st =
    flag_after (chosen_flag w st) (channel_of w 0) (channels w) (enabled Plain.cmp w awake st) (whole_finds w st)

unfoldable pub whole_plain_effect : Plain → ℕ → List Bool → Store → Store
whole_plain_effect p w awake st =
    let flag = whole_compared_flag w awake st in
    with_flag w st (whole_registers_after p w awake st) (cond (traits p).compares flag (chosen_flag w st)) (whole_addresses_after p w awake st)

unfoldable pub whole_effect : ℕ → List Bool → Store → Store
whole_effect w awake st =
    elim (operation w) [ plain p ↦ whole_plain_effect p (settled p st.addresses w) awake st | nop ↦ st | branch b ↦ st | unlisted ↦ st ]

-- ---- a step

abbrev pub whole_pass : ℕ → Ways → Store → List Channel → State
whole_pass w ways st cs = record { store = whole_effect w (map is_awake cs) st; channels = cs; place = ways.next }

unfoldable pub whole_perform : Operation → ℕ → Ways → Store → List Channel → State
whole_perform (plain p) w ways st cs = whole_pass w ways st cs
whole_perform nop w ways st cs = whole_pass w ways st cs
whole_perform (branch b) w ways st cs = act b w ways st cs
whole_perform unlisted w ways st cs = whole_pass w ways st cs

abbrev pub whole_step : ℕ → ℕ → Ways → State → State
whole_step w here ways s = whole_perform (operation w) w ways s.store (map (wake here) s.channels)
