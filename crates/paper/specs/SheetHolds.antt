-- What it is for rows to hold, here and in crates `worked` and `computed`; and that those of the files above do. Assumes nothing.
use Rattle.std.specs.Prelude.{List, map, ◌≡◌, refl}
use Rattle.paper.specs.Bits.{number, number_at, bytes_of, put_at}
use Rattle.paper.specs.Word.{immediate_form}
use Rattle.paper.specs.Dictionary.{dictionary_of, table_width, fit_below}
use Rattle.paper.specs.Expand.{expand_low, expand_high, expand}
use Rattle.paper.specs.Operation.{operation_of}
use Rattle.paper.specs.Shorten.{first_from, index_of, short_word, shorten_immediate, shorten_register, shorten_halves, shorten}
use Rattle.paper.specs.Value.{value, least, greatest, mod_z, floor_z, modified, clamp_to, stored}
use Rattle.paper.specs.Element.{compares, result, result_of, made, meets}
use Rattle.paper.specs.Region.{element_at}
use Rattle.paper.specs.Legal.{reserved_set, control_served, dst_served, src_served, uses_a0, moves_words, uses_floats, floats_served, plain_served, branch_served, mixed, operand_rule_broken, hangs, shape_refused, shape_broken, alignment_broken, too_far, reach_broken, later, refusal_of}
use Rattle.paper.specs.Address.{dst_direct, src_direct, settled, some_outside, address_broken, address_stops}
use Rattle.paper.specs.Enable.{group_of, any_bit, all_bits, vote, predicate, holds, enabled, of_bits, flag_bit, flag_after}
use Rattle.paper.specs.Effect.{pattern_at, operand, channel_stores, scattered, registers_after, addresses_after, finds, compared_flag, plain_effect, effect}
use Rattle.paper.specs.Kernel.{judge_short, judge_long, judge_at, walk, parse}
use Rattle.paper.specs.Jump.{fetch, end_from, lands, first_astray, with_jumps}
use Rattle.paper.specs.Forward.{forward}
use Rattle.paper.specs.Machine.{wake, park, each, someone, onward, act, perform, step_on, run_with, start_from}
use Rattle.paper.specs.State.{channel_in, one_of_three, channels_in, state_of, all_three, waits_land, state_legal, mask_of, places_of, state_bytes}
use Rattle.paper.specs.Packing.{index, start_of, aimed, lay_from, relay}
use Rattle.paper.specs.Calls.{deliver, judged_kernel, accepted, check_call, forward_call, pack_call, unpack_call, one_word, shorten_call, expand_call, decode_at, decode_call, decode_part, start_call, step_call, run_call}
use Rattle.paper.specs.Assembler.{dwords, to, from0, from1, immediate0, immediate1, op, structured_to, jmpi_to, leave_to, nop_word, long, copies, numbers, zeros, blank_dictionary, dictionary_a, clear, ramp, begin}
use Rattle.paper.specs.SheetMore.{loads, rows_load, stores, rows_store, rows_operation, says, rows_compare, one, r4, masks, sevens, against, ran_over, state_is}
use Rattle.paper.specs.SheetRefusals.{second_bytes, second_word, mov_with, add_with, rows_form, rows_word, mov_by, rows_shape}
use Rattle.paper.specs.SheetVotes.{predicates, rows_vote, votes_at, branch_votes, sel_votes, rows_vote_refused}
use Rattle.paper.specs.SheetLeaving.{aims, rows_aim, rows_leave_refused}
use Rattle.paper.specs.Sheet.{Row, ◌gives◌, shown, written, whole, count, room, long_a, short_a, stored_w, rows_cdef, rows_g, kernel_i}

-- All rows of a list hold: what is computed is what is said. To open this definition is to open all that a row computes with.
unfoldable pub Hold : List Row → Type 0
unfolding number number_at bytes_of put_at immediate_form dictionary_of table_width fit_below expand_low expand_high expand operation_of first_from index_of short_word shorten_immediate shorten_register shorten_halves shorten value least greatest mod_z floor_z modified clamp_to stored compares result element_at dst_direct src_direct settled some_outside address_broken address_stops reserved_set control_served dst_served src_served uses_a0 moves_words plain_served branch_served operand_rule_broken hangs shape_refused shape_broken alignment_broken too_far reach_broken later refusal_of group_of any_bit all_bits vote predicate holds enabled of_bits flag_bit flag_after made meets pattern_at operand channel_stores scattered registers_after addresses_after finds compared_flag plain_effect effect judge_short judge_long judge_at walk parse fetch end_from lands first_astray with_jumps forward wake park each someone onward act perform step_on run_with start_from channel_in one_of_three channels_in state_of all_three waits_land state_legal mask_of places_of state_bytes index start_of aimed lay_from relay deliver judged_kernel accepted check_call forward_call pack_call unpack_call one_word shorten_call expand_call decode_at decode_call decode_part start_call step_call run_call dwords to from0 from1 immediate0 immediate1 op structured_to jmpi_to leave_to nop_word long copies numbers zeros blank_dictionary dictionary_a clear ramp begin ◌gives◌ shown written whole count room long_a short_a stored_w rows_cdef rows_g kernel_i loads rows_load stores rows_store rows_operation says rows_compare one r4 masks sevens against ran_over state_is second_bytes second_word mov_with add_with rows_form rows_word mov_by rows_shape predicates rows_vote votes_at branch_votes sel_votes rows_vote_refused aims rows_aim rows_leave_refused result_of uses_floats floats_served mixed
Hold rows = map (λ r. r.got) rows ≡ map (λ r. r.want) rows

pub rows_cdef_hold : Hold rows_cdef
unfolding Hold
rows_cdef_hold = refl

pub rows_g_hold : Hold rows_g
unfolding Hold
rows_g_hold = refl

pub rows_load_hold : Hold rows_load
unfolding Hold
rows_load_hold = refl

pub rows_store_hold : Hold rows_store
unfolding Hold
rows_store_hold = refl

pub rows_operation_hold : Hold rows_operation
unfolding Hold
rows_operation_hold = refl

pub rows_compare_hold : Hold rows_compare
unfolding Hold
rows_compare_hold = refl

pub rows_form_hold : Hold rows_form
unfolding Hold
rows_form_hold = refl

pub rows_word_hold : Hold rows_word
unfolding Hold
rows_word_hold = refl

pub rows_shape_hold : Hold rows_shape
unfolding Hold
rows_shape_hold = refl

pub rows_vote_hold : Hold rows_vote
unfolding Hold
rows_vote_hold = refl

pub rows_vote_refused_hold : Hold rows_vote_refused
unfolding Hold
rows_vote_refused_hold = refl

pub rows_aim_hold : Hold rows_aim
unfolding Hold
rows_aim_hold = refl

pub rows_leave_refused_hold : Hold rows_leave_refused
unfolding Hold
rows_leave_refused_hold = refl
