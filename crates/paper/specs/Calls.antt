-- What every exported call answers and leaves in what it was lent, for all inputs: refusals in the table's order, a refusal changes nothing
-- (the paper, "When the bench says no", "How tightly an answer is held"). Assumes nothing.
use Rattle.std.specs.Prelude.{Bool, not, cond, ◌&&◌, ◌||◌, List, [], ◌++◌, ℕ, ◌+◌, ◌*◌, ◌^◌, eqb, ltb, leb, length, take, drop, replicate}
use Rattle.std.proofs.Math.Option.{Option, none, some}
use Rattle.paper.specs.Bits.{bytes_of, number_at}
use Rattle.paper.specs.Limits.{register_bytes, dictionary_bytes, address_bytes, state_length, kernel_bytes, budget_limit}
use Rattle.paper.specs.Dictionary.{dictionary_of, in_range}
use Rattle.paper.specs.Expand.{is_short, expand}
use Rattle.paper.specs.Shorten.{shorten}
use Rattle.paper.specs.Operation.{operation, is_listed, is_branch}
use Rattle.paper.specs.Store.{Store}
use Rattle.paper.specs.Enable.{digit}
use Rattle.paper.specs.Kernel.{Instr, Forms, long_and_short, long_only, Judged, refused, passed, judge_at, Parsed, bad, good, parse}
use Rattle.paper.specs.Jump.{with_jumps}
use Rattle.paper.specs.Forward.{forward}
use Rattle.paper.specs.Machine.{State, step, stops, Outcome, run, start}
use Rattle.paper.specs.State.{state_of, state_legal, state_bytes}
use Rattle.paper.specs.Packing.{Form, relay}
use Rattle.paper.specs.Program.{program, agreed}

-- ---- answers

-- A verdict: a number of the paper's list and a count. A refusal: its number and the byte offset of the refused instruction. A refusal that counts: its number,
-- the offset, or what the call says in its place, and a count.
pub data Answer : Type 0 where
  verdict : ℕ → ℕ → Answer
  refusal : ℕ → ℕ → Answer
  refusal_with : ℕ → ℕ → ℕ → Answer

-- The one number in which an answer crosses to C.
unfoldable pub as_number : Answer → ℕ
as_number (verdict number count) = number + 2 ^ 32 * count
as_number (refusal number offset) = number + 2 ^ 8 * offset
as_number (refusal_with number offset count) = number + 2 ^ 8 * offset + 2 ^ 32 * count

-- Its three parts; what an answer does not tell is 0.
abbrev pub number_of : Answer → ℕ
number_of (verdict number count) = number
number_of (refusal number offset) = number
number_of (refusal_with number offset count) = number

abbrev pub offset_of : Answer → ℕ
offset_of (verdict number count) = 0
offset_of (refusal number offset) = offset
offset_of (refusal_with number offset count) = offset

abbrev pub count_of : Answer → ℕ
count_of (verdict number count) = count
count_of (refusal number offset) = 0
count_of (refusal_with number offset count) = count

-- An answer and what one lent buffer then holds.
pub record Written : Type 0 where
  pub answer : Answer
  pub output : List ℕ

-- Refused: the buffer holds what it held.
abbrev pub kept : Answer → List ℕ → Written
kept answer out = record { answer = answer; output = out }

-- The result as the buffer's first bytes, the rest untouched; 14 if it is shorter than the result.
unfoldable pub deliver : List ℕ → List ℕ → Written
deliver result out =
    cond (ltb (length out) (length result)) (kept (refusal 14 0) out)
    (record { answer = verdict 0 (length result); output = result ++ drop (length result) out })

-- ---- the kernel: 2, then 17 to 11 instruction by instruction, then 12

unfoldable pub judged_kernel : Forms → List ℕ → List ℕ → Parsed
judged_kernel forms dictionary kernel =
    let D = dictionary_of dictionary in
    cond (in_range D) (with_jumps (parse forms D kernel)) (bad 2 0)

-- 1 of a dictionary and a kernel.
abbrev pub sized : List ℕ → List ℕ → Bool
sized dictionary kernel = eqb (length dictionary) dictionary_bytes && leb (length kernel) kernel_bytes

-- 1, then the kernel's own refusals.
unfoldable pub accepted : Forms → List ℕ → List ℕ → Parsed
accepted forms dictionary kernel = cond (sized dictionary kernel) (judged_kernel forms dictionary kernel) (bad 1 0)

-- ---- check: how many instructions

abbrev pub checked_as : Parsed → Answer
checked_as (bad number offset) = refusal number offset
checked_as (good k) = verdict 0 (length k)

unfoldable pub check_call : List ℕ → List ℕ → Answer
check_call dictionary kernel = checked_as (accepted long_and_short dictionary kernel)

-- ---- forward: what check refuses; of an accepted kernel, 1 if every jump goes forward, 0 if one does not

abbrev pub forward_as : Parsed → Answer
forward_as (bad number offset) = refusal number offset
forward_as (good k) = verdict 0 (digit (forward k))

unfoldable pub forward_call : List ℕ → List ℕ → Answer
forward_call dictionary kernel = forward_as (accepted long_and_short dictionary kernel)

-- ---- pack and unpack: how many bytes, and the bytes

abbrev pub relaid : Form → List ℕ → Parsed → Written
relaid form out (bad number offset) = kept (refusal number offset) out
relaid form out (good k) = deliver (relay form k) out

-- Packing takes long words only.
unfoldable pub pack_call : List ℕ → List ℕ → List ℕ → Written
pack_call dictionary kernel out = relaid (shorten (dictionary_of dictionary)) out (accepted long_only dictionary kernel)

unfoldable pub unpack_call : List ℕ → List ℕ → List ℕ → Written
unpack_call dictionary kernel out = relaid (λ _. none) out (accepted long_and_short dictionary kernel)

-- ---- a long kernel and one that was sent for it (02 §11): the count is the length of the part to load

-- Two accepted kernels: 0 if they have the same program, else 31 with the number of the first instruction that differs, or the smaller number of
-- instructions, in place of the offset. The sent kernel is to be loaded, or the long one.
abbrev pub compared_as : List ℕ → List ℕ → List Instr → List Instr → Answer
compared_as long sent k l =
    let same = agreed (program k) (program l) in
    cond (eqb same (length k) && eqb same (length l)) (verdict 0 (length sent)) (refusal_with 31 same (length long))

-- The long kernel's refusal comes first, and nothing is to be loaded; then the sent one's, and the long one is.
abbrev pub paired_as : List ℕ → List ℕ → Parsed → Parsed → Answer
paired_as long sent (bad number offset) q = refusal number offset
paired_as long sent (good k) (bad number offset) = refusal_with number offset (length long)
paired_as long sent (good k) (good l) = compared_as long sent k l

-- The long kernel must be all long words.
unfoldable pub pair_call : List ℕ → List ℕ → List ℕ → Answer
pair_call dictionary long sent = paired_as long sent (accepted long_only dictionary long) (accepted long_and_short dictionary sent)

-- What an answer of the pair loads.
abbrev pub loaded_by : List ℕ → List ℕ → Answer → List ℕ
loaded_by long sent (verdict number count) = sent
loaded_by long sent (refusal number offset) = []
loaded_by long sent (refusal_with number offset count) = long

-- The kernel to load, as a part of one of the two: the sent one if the pair is accepted, else the long one; none of it where the long one is refused.
unfoldable pub load_part : List ℕ → List ℕ → List ℕ → List ℕ
load_part dictionary long sent = loaded_by long sent (pair_call dictionary long sent)

-- ---- one word: 1, 2, 4, 5, 13, 14

-- 1, 2 and 4 of a single word, given as its number and whether its bytes are as many as its job needs; then what its form says.
unfoldable pub one_word : List ℕ → Bool → ℕ → List ℕ → Written → Written
one_word dictionary fits w out further =
    cond (not (eqb (length dictionary) dictionary_bytes && fits)) (kept (refusal 1 0) out)
    (cond (not (in_range (dictionary_of dictionary))) (kept (refusal 2 0) out)
    (cond (not (is_listed (operation w))) (kept (refusal 4 0) out)
    further))

abbrev pub shortened : Option ℕ → List ℕ → Written
shortened none out = kept (refusal 13 0) out
shortened (some s) out = deliver (bytes_of 8 s) out

-- A short word where long is asked is 5; 13 where no short word expands to it.
unfoldable pub shorten_call : List ℕ → List ℕ → List ℕ → Written
shorten_call dictionary word out =
    let w = number_at word 0 16 in
    one_word dictionary (eqb (length word) 16) w out
    (cond (is_short w) (kept (refusal 5 0) out) (shortened (shorten (dictionary_of dictionary) w) out))

-- A long word where short is asked, or a short branch, is 5.
unfoldable pub expand_call : List ℕ → List ℕ → List ℕ → Written
expand_call dictionary word out =
    let s = number_at word 0 8 in
    one_word dictionary (eqb (length word) 8) s out
    (cond (not (is_short s) || is_branch (operation s)) (kept (refusal 5 0) out)
    (deliver (bytes_of 16 (expand (dictionary_of dictionary) s)) out))

-- ---- decode at a place: 1, 2 and 3 to 11

-- A refusal with its offset, or an instruction's size in places and its word.
pub data Decoded : Type 0 where
  undecoded : ℕ → ℕ → Decoded
  decoded : ℕ → ℕ → Decoded

abbrev pub judged_as : ℕ → Judged → Decoded
judged_as offset (refused number) = undecoded number offset
judged_as offset (passed size w) = decoded size w

-- A place at or past the end is 3 with offset 0.
unfoldable pub decode_at : List ℕ → List ℕ → ℕ → Decoded
decode_at dictionary kernel place =
    let D = dictionary_of dictionary in
    let from = 8 * place in
    cond (not (sized dictionary kernel)) (undecoded 1 0)
    (cond (not (in_range D)) (undecoded 2 0)
    (cond (leb (length kernel) from) (undecoded 3 0)
    (judged_as from (judge_at long_and_short D kernel from))))

abbrev pub decoded_as : Decoded → Answer
decoded_as (undecoded number offset) = refusal number offset
decoded_as (decoded size w) = verdict 0 (8 * size)

-- How many bytes the instruction has.
unfoldable pub decode_call : List ℕ → List ℕ → ℕ → Answer
decode_call dictionary kernel place = decoded_as (decode_at dictionary kernel place)

abbrev pub part_of : List ℕ → ℕ → Decoded → List ℕ
part_of kernel from (undecoded number offset) = []
part_of kernel from (decoded size w) = take (8 * size) (drop from kernel)

-- Its bytes, as a part of the kernel; empty on refusal.
unfoldable pub decode_part : List ℕ → List ℕ → ℕ → List ℕ
decode_part dictionary kernel place = part_of kernel (8 * place) (decode_at dictionary kernel place)

-- ---- start, step and run

-- Registers and flags as they are given, and a0 all zeros.
abbrev pub fresh_store : List ℕ → ℕ → ℕ → Store
fresh_store registers flag0 flag1 = record { registers = registers; flag0 = flag0; flag1 = flag1; addresses = replicate address_bytes 0 }

unfoldable pub start_call : ℕ → ℕ → ℕ → List ℕ → Written
start_call mask flag0 flag1 bytes =
    cond (eqb (length bytes) state_length)
    (record { answer = verdict 0 0; output = state_bytes (start (fresh_store [] flag0 flag1) mask) })
    (kept (refusal 1 0) bytes)

-- An answer and what registers and state then hold.
pub record Changed : Type 0 where
  pub answer : Answer
  pub registers : List ℕ
  pub state : List ℕ

abbrev pub unchanged : Answer → List ℕ → List ℕ → Changed
unchanged answer registers bytes = record { answer = answer; registers = registers; state = bytes }

abbrev pub changed_to : Answer → State → Changed
changed_to answer s = record { answer = answer; registers = s.store.registers; state = state_bytes s }

-- 1 of all that is lent to a step or a run.
abbrev pub all_sized : List ℕ → List ℕ → List ℕ → List ℕ → Bool
all_sized dictionary kernel registers bytes =
    sized dictionary kernel && (eqb (length registers) register_bytes && eqb (length bytes) state_length)

-- 15, then what is done with an accepted kernel's instructions and the state.
abbrev pub on_state : List ℕ → List ℕ → (List Instr → State → Changed) → Parsed → Changed
on_state registers bytes go (bad number offset) = unchanged (refusal number offset) registers bytes
on_state registers bytes go (good k) =
    let done = go k (state_of registers bytes) in
    cond (state_legal k registers bytes) done (unchanged (refusal 15 0) registers bytes)

-- The answer of what is stopped at a place by a verdict after so many steps: 22 is a refusal that names its instruction.
abbrev pub stopped_as : ℕ → ℕ → ℕ → Answer
stopped_as number place steps = cond (eqb number 22) (refusal_with 22 (8 * place) steps) (verdict number steps)

-- 20 at the end and 22 at a broken address, where nothing changes; 0 for any other step.
abbrev pub stepped_as : Option ℕ → List ℕ → List ℕ → State → State → Changed
stepped_as none registers bytes before after = changed_to (verdict 0 0) after
stepped_as (some number) registers bytes before after = unchanged (stopped_as number before.place 0) registers bytes

unfoldable pub step_call : List ℕ → List ℕ → List ℕ → List ℕ → Changed
step_call dictionary kernel registers bytes =
    let judged = judged_kernel long_and_short dictionary kernel in
    cond (all_sized dictionary kernel registers bytes)
    (on_state registers bytes (λ k s. stepped_as (stops k s) registers bytes s (step k s)) judged)
    (unchanged (refusal 1 0) registers bytes)

-- A run that a broken address stops keeps the steps that it made.
abbrev pub ran_as : Outcome → Changed
ran_as o = changed_to (stopped_as o.verdict o.state.place o.steps) o.state

-- 16: a budget over the limit.
unfoldable pub run_call : List ℕ → List ℕ → ℕ → List ℕ → List ℕ → Changed
run_call dictionary kernel budget registers bytes =
    let judged = judged_kernel long_and_short dictionary kernel in
    cond (not (all_sized dictionary kernel registers bytes)) (unchanged (refusal 1 0) registers bytes)
    (cond (ltb budget_limit budget) (unchanged (refusal 16 0) registers bytes)
    (on_state registers bytes (λ k s. ran_as (run k budget s)) judged))
