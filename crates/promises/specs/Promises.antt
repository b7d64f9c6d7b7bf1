-- The promises of the exported calls, for all that can be lent to them. Read this file first, and after it what it names: the contracts (Contracts and OneOutcome
-- of the crate `contracts`) and the lists of numbers (Numbers of `answers`). It states them and proves none: `demand_1` of RefusalsHold, `demand_2` of
-- PackingHolds, `demand_3` of RunningHolds, `pairs` of PairsHold and `logs` of LogsHold are the theorems. Finishing goes on from here, with when a kernel must finish
-- and what a step may change, Listings with listings, Placements with where tiles go, and Before with what passed before a request. A hypothesis such as `PackPromise dictionary kernel out r out'` says: spokeshaver_pack, lent
-- these, answered r and left out' in its output; that is the contract of the call, proved with its code. `number_in`, `offset_in` and `count_in` take an answer
-- apart as the header's macros do. Demands 2 and 3 ask besides that what is lent is bytes (`are_bytes`) and 16-bit numbers, as the types in C say.
use Rattle.std.specs.Prelude.{Bool, true, List, [], ◌∷◌, ◌++◌, map, ◌⊎◌, ◌≡◌, ℕ, suc, ◌+◌, ◌*◌, ◌^◌, ◌<◌, ◌≤◌, length, take, drop}
use Rattle.std.proofs.Math.Pow.{are_bytes}
use Rattle.paper.specs.Limits.{register_bytes, state_length, budget_limit}
use Rattle.paper.specs.Bits.{number_at}
use Rattle.paper.specs.Dictionary.{dictionary_of}
use Rattle.paper.specs.Expand.{expand}
use Rattle.paper.specs.Shorten.{Shortens, Least}
use Rattle.paper.specs.Kernel.{Instr, long_and_short, long_only, good, bad}
use Rattle.paper.specs.State.{half, addresses_in, channels_in, all_three, state_legal}
use Rattle.paper.specs.Packing.{index}
use Rattle.paper.specs.Calls.{Answer, accepted, check_call, forward_call, pack_call, unpack_call, pair_call, load_part, shorten_call, expand_call, decode_call, decode_part, start_call, step_call, run_call, number_of, offset_of, count_of}
use Rattle.paper.specs.Log.{Entry, entry, entry_legal, record_text, log_text, all_legal, Beginning, log_sized, log_read_call, log_runs_call, log_part, log_append_call, log_run_call, awake_among, awake_count}
use Rattle.paper.specs.Listing.{list_call, read_call}
use Rattle.paper.specs.Placing.{place_call, place_kernel_call, place_load_call}
use Rattle.paper.specs.Program.{program}
use Rattle.laws.specs.Names.{rename_c}
use Rattle.laws.specs.Items.{Item, all_bytes, instrs_from}
use Rattle.laws.specs.Packing.{AllShortest}
use Rattle.contracts.specs.Contracts.{number_in, offset_in, count_in, CheckPromise, ForwardPromise, PackPromise, UnpackPromise, PairPromise, ShortenPromise, ExpandPromise, DecodePromise, StartPromise, StepPromise, RunPromise}
use Rattle.contracts.specs.Contracts.{LogAppendPromise, LogReadPromise, LogRunsPromise, LogRunPromise, ListPromise, ReadPromise, PlacePromise, PlaceKernelPromise, PlaceLoadPromise}
use Rattle.contracts.specs.OneOutcome.{OneOutcome}
use Rattle.answers.specs.Numbers.{check_numbers, forward_numbers, pack_numbers, unpack_numbers, pair_numbers, shorten_numbers, expand_numbers, decode_numbers, start_numbers, step_numbers, run_numbers, log_read_numbers, log_append_numbers, list_numbers, read_numbers, place_numbers, place_kernel_numbers, place_load_numbers}

-- ==== demand 1: one outcome, from the paper's list, and a refusal changes nothing

-- An answer says what the paper's answer says: the number is one of a list, and number, offset and count are the paper's, none spoilt by another.
pub record Told (numbers : ℕ → Bool) (a : Answer) (r : ℕ) : Type 0 where
  pub listed : numbers (number_in r) ≡ true
  pub number : number_in r ≡ number_of a
  pub offset : offset_in r ≡ offset_of a
  pub count : count_in r ≡ count_of a

-- Each call's answer is so, with the call's own list (Numbers).
pub record Answers : Type 0 where
  pub check : (dictionary kernel : List ℕ) (r : ℕ) → CheckPromise dictionary kernel r → Told check_numbers (check_call dictionary kernel) r
  pub forward : (dictionary kernel : List ℕ) (r : ℕ) → ForwardPromise dictionary kernel r → Told forward_numbers (forward_call dictionary kernel) r
  pub pack : (dictionary kernel out : List ℕ) (r : ℕ) (out' : List ℕ) → PackPromise dictionary kernel out r out'
      → Told pack_numbers (pack_call dictionary kernel out).answer r
  pub unpack : (dictionary kernel out : List ℕ) (r : ℕ) (out' : List ℕ) → UnpackPromise dictionary kernel out r out'
      → Told unpack_numbers (unpack_call dictionary kernel out).answer r
  pub pair : (dictionary long sent : List ℕ) (r : ℕ) → PairPromise dictionary long sent r → Told pair_numbers (pair_call dictionary long sent) r
  pub shorten : (dictionary word out : List ℕ) (r : ℕ) (out' : List ℕ) → ShortenPromise dictionary word out r out'
      → Told shorten_numbers (shorten_call dictionary word out).answer r
  pub expand : (dictionary word out : List ℕ) (r : ℕ) (out' : List ℕ) → ExpandPromise dictionary word out r out'
      → Told expand_numbers (expand_call dictionary word out).answer r
  pub decode : (dictionary kernel : List ℕ) (place r : ℕ) → DecodePromise dictionary kernel place r
      → Told decode_numbers (decode_call dictionary kernel place) r
  pub start : (mask flag0 flag1 : ℕ) (state : List ℕ) (r : ℕ) (state' : List ℕ) → StartPromise mask flag0 flag1 state r state'
      → Told start_numbers (start_call mask flag0 flag1 state).answer r
  pub step : (dictionary kernel registers state : List ℕ) (r : ℕ) (registers' state' : List ℕ)
      → StepPromise dictionary kernel registers state r registers' state' → Told step_numbers (step_call dictionary kernel registers state).answer r
  pub run : (dictionary kernel : List ℕ) (budget : ℕ) (registers state : List ℕ) (r : ℕ) (registers' state' : List ℕ)
      → RunPromise dictionary kernel budget registers state r registers' state' → Told run_numbers (run_call dictionary kernel budget registers state).answer r
  pub log_append : (log : List ℕ) (count v steps place awake r : ℕ) (log' : List ℕ) → LogAppendPromise log count v steps place awake r log'
      → Told log_append_numbers (log_append_call log count (entry v steps place awake)).answer r
  pub log_read : (log : List ℕ) (count r : ℕ) → LogReadPromise log count r → Told log_read_numbers (log_read_call log count) r
  pub log_runs : (log : List ℕ) (count r : ℕ) → LogRunsPromise log count r → Told log_read_numbers (log_runs_call log count) r
  pub log_run : (log : List ℕ) (count answer : ℕ) (state : List ℕ) (r : ℕ) (log' : List ℕ) → LogRunPromise log count answer state r log'
      → Told log_append_numbers (log_run_call log count answer state).answer r
  pub list : (dictionary kernel out : List ℕ) (r : ℕ) (out' : List ℕ) → ListPromise dictionary kernel out r out'
      → Told list_numbers (list_call dictionary kernel out).answer r
  pub read : (dictionary text out : List ℕ) (r : ℕ) (out' : List ℕ) → ReadPromise dictionary text out r out'
      → Told read_numbers (read_call dictionary text out).answer r
  pub place : (order : ℕ) (six : List ℕ) (x y : ℕ) (out : List ℕ) (r : ℕ) (out' : List ℕ) → PlacePromise order six x y out r out'
      → Told place_numbers (place_call order six (record { x = x; y = y }) out).answer r
  pub place_kernel : (out : List ℕ) (r : ℕ) (out' : List ℕ) → PlaceKernelPromise out r out' → Told place_kernel_numbers (place_kernel_call out).answer r
  pub place_load : (six registers : List ℕ) (r : ℕ) (registers' : List ℕ) → PlaceLoadPromise six registers r registers'
      → Told place_load_numbers (place_load_call six registers).answer r

-- What a call leaves of the output that it was lent: all of it unless the answer's number is 0; what lies past the count's bytes, and the length, always.
pub record Kept (out : List ℕ) (r : ℕ) (out' : List ℕ) : Type 0 where
  pub refused : (number_in r ≡ 0 → ⊥) → out' ≡ out
  pub fits : count_in r ≤ length out
  pub rest : drop (count_in r) out' ≡ drop (count_in r) out
  pub same : length out' ≡ length out

-- A refusal changes nothing. A step changes nothing at the end (20) and at a broken address (22) either, not even who is awake; a run's verdicts are 20, 21 and 22,
-- and a run keeps the steps that it made.
pub record Refusals : Type 0 where
  pub pack : (dictionary kernel out : List ℕ) (r : ℕ) (out' : List ℕ) → PackPromise dictionary kernel out r out' → Kept out r out'
  pub unpack : (dictionary kernel out : List ℕ) (r : ℕ) (out' : List ℕ) → UnpackPromise dictionary kernel out r out' → Kept out r out'
  pub shorten : (dictionary word out : List ℕ) (r : ℕ) (out' : List ℕ) → ShortenPromise dictionary word out r out' → Kept out r out'
  pub expand : (dictionary word out : List ℕ) (r : ℕ) (out' : List ℕ) → ExpandPromise dictionary word out r out' → Kept out r out'
  pub start : (mask flag0 flag1 : ℕ) (state : List ℕ) (r : ℕ) (state' : List ℕ) → StartPromise mask flag0 flag1 state r state'
      → (number_in r ≡ 0 → ⊥) → state' ≡ state
  pub step : (dictionary kernel registers state : List ℕ) (r : ℕ) (registers' state' : List ℕ)
      → StepPromise dictionary kernel registers state r registers' state' → (number_in r ≡ 0 → ⊥) → (registers' ≡ registers) × (state' ≡ state)
  pub run : (dictionary kernel : List ℕ) (budget : ℕ) (registers state : List ℕ) (r : ℕ) (registers' state' : List ℕ)
      → RunPromise dictionary kernel budget registers state r registers' state' → (number_in r ≡ 20 → ⊥) → (number_in r ≡ 21 → ⊥)
      → (number_in r ≡ 22 → ⊥) → (registers' ≡ registers) × (state' ≡ state)
  pub log_append : (log : List ℕ) (count v steps place awake r : ℕ) (log' : List ℕ) → LogAppendPromise log count v steps place awake r log' → Kept log r log'
  pub log_run : (log : List ℕ) (count answer : ℕ) (state : List ℕ) (r : ℕ) (log' : List ℕ) → LogRunPromise log count answer state r log' → Kept log r log'
  pub list : (dictionary kernel out : List ℕ) (r : ℕ) (out' : List ℕ) → ListPromise dictionary kernel out r out' → Kept out r out'
  pub read : (dictionary text out : List ℕ) (r : ℕ) (out' : List ℕ) → ReadPromise dictionary text out r out' → Kept out r out'
  pub place : (order : ℕ) (six : List ℕ) (x y : ℕ) (out : List ℕ) (r : ℕ) (out' : List ℕ) → PlacePromise order six x y out r out' → Kept out r out'
  pub place_kernel : (out : List ℕ) (r : ℕ) (out' : List ℕ) → PlaceKernelPromise out r out' → Kept out r out'
  pub place_load : (six registers : List ℕ) (r : ℕ) (registers' : List ℕ) → PlaceLoadPromise six registers r registers' → (number_in r ≡ 0 → ⊥) → registers' ≡ registers

-- A part of the kernel beside an answer of decode: the bytes from the place on, as many as the answer counts; empty exactly where the answer refuses.
pub record Part (kernel : List ℕ) (place r : ℕ) (bytes : List ℕ) : Type 0 where
  pub are : bytes ≡ take (count_in r) (drop (8 * place) kernel)
  pub counted : length bytes ≡ count_in r
  pub empty : (number_in r ≡ 0 → ⊥) → bytes ≡ []
  pub whole : bytes ≡ [] → number_in r ≡ 0 → ⊥

pub record Demand1 : Type 0 where
  pub one_outcome : OneOutcome
  pub answers : Answers
  pub refusals : Refusals
  -- A decoded instruction has 8 or 16 bytes, and they lie inside the kernel from the place on.
  pub decodes_inside : (dictionary kernel : List ℕ) (place r : ℕ) → DecodePromise dictionary kernel place r → number_in r ≡ 0
      → ((count_in r ≡ 8) ⊎ (count_in r ≡ 16)) × (8 * place + count_in r ≤ length kernel)
  -- `decode_part` is what decoding hands back inside Rattle (`part` of the crate `kernel`): those bytes, and none on refusal.
  pub decodes_part : (dictionary kernel : List ℕ) (place r : ℕ) → DecodePromise dictionary kernel place r
      → Part kernel place r (decode_part dictionary kernel place)

-- ==== demand 2: the smallest short word, and back; packing and unpacking

-- What a call wrote: the first bytes of the output, as many as it counts.
abbrev pub result : ℕ → List ℕ → List ℕ
result r out' = take (count_in r) out'

-- The bytes are items one after the other without gaps, each the smallest short word of its instruction, or the long word where no short word expands
-- to it; check takes them for these instructions; and they are the kernel's instructions in their order, each jump reaching the same one.
pub record Packed (dictionary kernel bytes : List ℕ) : Type 0 where
  pub instrs : List Instr
  pub given : accepted long_only dictionary kernel ≡ good instrs
  pub items : List Item
  pub laid : bytes ≡ all_bytes items
  pub shortest : AllShortest (dictionary_of dictionary) items
  pub taken : accepted long_and_short dictionary bytes ≡ good (instrs_from 0 items)
  pub same : program (instrs_from 0 items) ≡ program instrs

-- The bytes are long words only, so that packing takes them; and they are the kernel's instructions in their order, each jump reaching the same one.
pub record Unpacked (dictionary kernel bytes : List ℕ) : Type 0 where
  pub instrs : List Instr
  pub given : accepted long_and_short dictionary kernel ≡ good instrs
  pub longer : List Instr
  pub taken : accepted long_only dictionary bytes ≡ good longer
  pub same : program longer ≡ program instrs

pub record Demand2 : Type 0 where
  -- If shorten answers 0, then the first eight bytes of the output are the smallest short word that expands to the word: a number of 64 bits with bit 29
  -- set whose opcode is no branch, and at most every other such number that expands to it.
  pub least : (dictionary word out : List ℕ) → are_bytes word ≡ true → (r : ℕ) (out' : List ℕ) → ShortenPromise dictionary word out r out'
      → number_in r ≡ 0 → Least (dictionary_of dictionary) (number_at word 0 16) (number_at out' 0 8)
  -- If it answers 13, then no short word expands to the word.
  pub never : (dictionary word out : List ℕ) → are_bytes word ≡ true → (r : ℕ) (out' : List ℕ) → ShortenPromise dictionary word out r out'
      → number_in r ≡ 13 → (t : ℕ) → Shortens (dictionary_of dictionary) (number_at word 0 16) t → ⊥
  -- If expand answers 0, then the first sixteen bytes of the output are the long word that the short word stands for.
  pub expands : (dictionary word out : List ℕ) (r : ℕ) (out' : List ℕ) → ExpandPromise dictionary word out r out' → number_in r ≡ 0
      → number_at out' 0 16 ≡ expand (dictionary_of dictionary) (number_at word 0 8)
  -- Expand of what shorten wrote gives the word's bytes back, if they have room; what lies behind them stays.
  pub expands_back : (dictionary word out : List ℕ) → are_bytes word ≡ true → (r : ℕ) (out' : List ℕ) → ShortenPromise dictionary word out r out'
      → number_in r ≡ 0 → (back : List ℕ) → 16 ≤ length back
      → (u : ℕ) (back' : List ℕ) → ExpandPromise dictionary (result r out') back u back'
      → (number_in u ≡ 0) × (count_in u ≡ 16) × (back' ≡ word ++ drop 16 back)
  -- Pack answers 0 to every kernel that check answers with 0 and that has 16 bytes for each instruction that check counts, so that all its words are long, if
  -- the output is as long as the kernel.
  pub packs : (dictionary kernel out : List ℕ) → are_bytes kernel ≡ true → (c : ℕ) → CheckPromise dictionary kernel c → number_in c ≡ 0
      → length kernel ≡ 16 * count_in c
      → length kernel ≤ length out → (r : ℕ) (out' : List ℕ) → PackPromise dictionary kernel out r out' → number_in r ≡ 0
  -- With such an output it never answers 14, whatever the kernel.
  pub pack_room : (dictionary kernel out : List ℕ) → are_bytes kernel ≡ true → length kernel ≤ length out → (r : ℕ) (out' : List ℕ)
      → PackPromise dictionary kernel out r out' → number_in r ≡ 14 → ⊥
  -- If pack answers 0, then every instruction that can be shortened is, to its smallest short word, in order and without gaps.
  pub packed : (dictionary kernel out : List ℕ) → are_bytes kernel ≡ true → (r : ℕ) (out' : List ℕ) → PackPromise dictionary kernel out r out'
      → number_in r ≡ 0 → Packed dictionary kernel (result r out')
  -- Check accepts what was packed, with the same answer as the kernel itself.
  pub checked : (dictionary kernel out : List ℕ) → are_bytes kernel ≡ true → (r : ℕ) (out' : List ℕ) → PackPromise dictionary kernel out r out'
      → number_in r ≡ 0 → (a b : ℕ) → CheckPromise dictionary kernel a → CheckPromise dictionary (result r out') b → (number_in b ≡ 0) × (a ≡ b)
  -- Unpack of what was packed gives the kernel's bytes back, if they have room; what lies behind them stays.
  pub unpacks_back : (dictionary kernel out : List ℕ) → are_bytes kernel ≡ true → (r : ℕ) (out' : List ℕ) → PackPromise dictionary kernel out r out'
      → number_in r ≡ 0 → (back : List ℕ) → length kernel ≤ length back
      → (u : ℕ) (back' : List ℕ) → UnpackPromise dictionary (result r out') back u back'
      → (number_in u ≡ 0) × (count_in u ≡ length kernel) × (back' ≡ kernel ++ drop (length kernel) back)
  -- Unpack answers 0 to every kernel that check answers with 0 if the output has 16 bytes for each instruction that check counts.
  pub unpacks : (dictionary kernel out : List ℕ) (c : ℕ) → CheckPromise dictionary kernel c → number_in c ≡ 0
      → 16 * count_in c ≤ length out → (r : ℕ) (out' : List ℕ) → UnpackPromise dictionary kernel out r out' → number_in r ≡ 0
  -- With an output that is twice as long as the kernel it never answers 14, whatever the kernel.
  pub unpack_room : (dictionary kernel out : List ℕ) → are_bytes kernel ≡ true → 2 * length kernel ≤ length out → (r : ℕ) (out' : List ℕ)
      → UnpackPromise dictionary kernel out r out' → number_in r ≡ 14 → ⊥
  -- If unpack answers 0, then every word is long, in order and without gaps.
  pub unpacked : (dictionary kernel out : List ℕ) → are_bytes kernel ≡ true → (r : ℕ) (out' : List ℕ) → UnpackPromise dictionary kernel out r out'
      → number_in r ≡ 0 → Unpacked dictionary kernel (result r out')

-- ==== demand 3: a run is its steps, and long and packed run alike

-- So many steps of a kernel, each made by the call from what the one before it left, and each answered with 0.
pub data Steps (dictionary kernel : List ℕ) : ℕ → List ℕ → List ℕ → List ℕ → List ℕ → Type 0 where
  nothing : {registers state : List ℕ} → Steps dictionary kernel 0 registers state registers state
  onward : {n r : ℕ} {registers state registers₁ state₁ registers' state' : List ℕ}
      → StepPromise dictionary kernel registers state r registers₁ state₁ → number_in r ≡ 0
      → Steps dictionary kernel n registers₁ state₁ registers' state' → Steps dictionary kernel (suc n) registers state registers' state'

-- The numbers with which a run that is not refused answers.
abbrev pub RunVerdict : ℕ → Type 0
RunVerdict number = (number ≡ 20) ⊎ ((number ≡ 21) ⊎ (number ≡ 22))

-- What an answered run was: as many steps as it counts, each made by spokeshaver_step and answered with 0, so none of them at the end or at a broken address, and no
-- more than the budget. Where the run says 20 a further step says 20, the end. Where it says 21 the whole budget is spent, and a further step would be made or would
-- say 22. Where it says 22 budget is left, a further step says 22 at the same byte, and that byte is where the instruction at the state's place starts.
pub record WasSteps (dictionary kernel : List ℕ) (budget : ℕ) (registers state : List ℕ) (r : ℕ) (registers' state' : List ℕ) : Type 0 where
  pub steps : Steps dictionary kernel (count_in r) registers state registers' state'
  pub within : count_in r ≤ budget
  pub ended : number_in r ≡ 20 → (a : ℕ) (registers'' state'' : List ℕ) → StepPromise dictionary kernel registers' state' a registers'' state'' → number_in a ≡ 20
  pub spent : number_in r ≡ 21 → count_in r ≡ budget
  pub short : number_in r ≡ 21 → (a : ℕ) (registers'' state'' : List ℕ) → StepPromise dictionary kernel registers' state' a registers'' state''
      → (number_in a ≡ 0) ⊎ (number_in a ≡ 22)
  pub left : number_in r ≡ 22 → count_in r < budget
  pub astray : number_in r ≡ 22 → (a : ℕ) (registers'' state'' : List ℕ) → StepPromise dictionary kernel registers' state' a registers'' state''
      → (number_in a ≡ 22) × (offset_in a ≡ offset_in r)
  pub names : number_in r ≡ 22 → offset_in r ≡ 8 * half state' 4

-- What start left, with any mask and flags, in whatever it was lent; and registers of the right size.
pub record Begun (state registers : List ℕ) : Type 0 where
  pub mask : ℕ
  pub flag0 : ℕ
  pub flag1 : ℕ
  pub small0 : flag0 < 2 ^ 16
  pub small1 : flag1 < 2 ^ 16
  pub lent : List ℕ
  pub answer : ℕ
  pub begin : StartPromise mask flag0 flag1 lent answer state
  pub zero : number_in answer ≡ 0
  pub whole : length registers ≡ register_bytes

-- Registers and a state from which a kernel with the instructions k runs: of the right sizes, the state of bytes, its place and each waiting channel's an
-- instruction's start or the end, each channel one of the three.
pub record Legal (k : List Instr) (registers state : List ℕ) : Type 0 where
  pub registers_whole : length registers ≡ register_bytes
  pub state_whole : length state ≡ state_length
  pub bytes : are_bytes state ≡ true
  pub legal : state_legal k registers state ≡ true

-- Such registers and state of a kernel with the instructions k, and of one with the instructions l, name the same: the registers, the flags and a0 are equal; the
-- same channels are awake and wait; and the place, and each channel's waiting place, name the same instruction by its number, the end being one past the last.
pub record Same (k l : List Instr) (registers state registers' state' : List ℕ) : Type 0 where
  pub legal : Legal k registers state
  pub legal' : Legal l registers' state'
  pub same_registers : registers ≡ registers'
  pub same_flag0 : half state 0 ≡ half state' 0
  pub same_flag1 : half state 2 ≡ half state' 2
  pub same_addresses : addresses_in state ≡ addresses_in state'
  pub same_place : index k (half state 4) ≡ index l (half state' 4)
  pub same_channels : map (rename_c (index k)) (channels_in state 0 16) ≡ map (rename_c (index l)) (channels_in state' 0 16)

-- Two runs were alike: the same verdict, 20, 21 or 22 and no refusal, after the same number of steps; and what they left names the same. Where the verdict is not 22 the
-- answers are equal. Where it is, each names the byte at which the instruction at its own place starts: by `left` that is the same instruction of both kernels.
pub record RanAlike (k l : List Instr) (r : ℕ) (registers state : List ℕ) (r' : ℕ) (registers' state' : List ℕ) : Type 0 where
  pub same_number : number_in r ≡ number_in r'
  pub same_count : count_in r ≡ count_in r'
  pub answered : RunVerdict (number_in r)
  pub same_answer : (number_in r ≡ 22 → ⊥) → r ≡ r'
  pub names : number_in r ≡ 22 → (offset_in r ≡ 8 * half state 4) × (offset_in r' ≡ 8 * half state' 4)
  pub left : Same k l registers state registers' state'

-- Two kernels run alike. The bench takes them for the instructions k and l. From registers and states that name the same, runs with the same budget, up to
-- 1,000,000, are alike; and since they leave what names the same, they can go on. A start names the same to both; so from a start their runs are alike.
pub record Alike (dictionary kernel kernel' : List ℕ) : Type 0 where
  pub k : List Instr
  pub l : List Instr
  pub taken : accepted long_and_short dictionary kernel ≡ good k
  pub taken' : accepted long_and_short dictionary kernel' ≡ good l
  pub runs : (registers state registers' state' : List ℕ) → Same k l registers state registers' state' → (budget : ℕ) → budget ≤ budget_limit
      → (r : ℕ) (registers₁ state₁ : List ℕ) → RunPromise dictionary kernel budget registers state r registers₁ state₁
      → (q : ℕ) (registers₂ state₂ : List ℕ) → RunPromise dictionary kernel' budget registers' state' q registers₂ state₂
      → RanAlike k l r registers₁ state₁ q registers₂ state₂
  pub starts : (state registers : List ℕ) → Begun state registers → Same k l registers state registers state
  pub from_start : (state registers : List ℕ) → Begun state registers → (budget : ℕ) → budget ≤ budget_limit
      → (r : ℕ) (registers₁ state₁ : List ℕ) → RunPromise dictionary kernel budget registers state r registers₁ state₁
      → (q : ℕ) (registers₂ state₂ : List ℕ) → RunPromise dictionary kernel' budget registers state q registers₂ state₂
      → RanAlike k l r registers₁ state₁ q registers₂ state₂

pub record Demand3 : Type 0 where
  -- Every run is the steps that it counts, from any registers and state, for every budget up to 1,000,000; a refused one is no step.
  pub was_steps : (dictionary kernel registers state : List ℕ) → are_bytes kernel ≡ true → are_bytes state ≡ true → (budget : ℕ) → budget ≤ budget_limit
      → (r : ℕ) (registers' state' : List ℕ) → RunPromise dictionary kernel budget registers state r registers' state'
      → WasSteps dictionary kernel budget registers state r registers' state'
  -- Where a step answers 0, a run of n + 1 steps is that step and then the run of n from what the step left.
  pub one_more : (dictionary kernel registers state : List ℕ) → are_bytes kernel ≡ true → are_bytes state ≡ true
      → (a : ℕ) (registers₁ state₁ : List ℕ) → StepPromise dictionary kernel registers state a registers₁ state₁ → number_in a ≡ 0
      → (n : ℕ) → suc n ≤ budget_limit → (b : ℕ) (registers₂ state₂ : List ℕ) → RunPromise dictionary kernel n registers₁ state₁ b registers₂ state₂
      → (c : ℕ) (registers₃ state₃ : List ℕ) → RunPromise dictionary kernel (suc n) registers state c registers₃ state₃
      → (number_in c ≡ number_in b) × (offset_in c ≡ offset_in b) × (count_in c ≡ suc (count_in b)) × (registers₃ ≡ registers₂) × (state₃ ≡ state₂)
  -- Where a step answers anything else, 20 at the end, 22 at a broken address or a refusal, a run with any budget up to 1,000,000 answers the same and changes nothing;
  -- but at a broken address a budget of 0 is spent, which is 21 (was_steps).
  pub no_more : (dictionary kernel registers state : List ℕ) → are_bytes kernel ≡ true → are_bytes state ≡ true
      → (a : ℕ) (registers₁ state₁ : List ℕ) → StepPromise dictionary kernel registers state a registers₁ state₁ → (number_in a ≡ 0 → ⊥)
      → (budget : ℕ) → budget ≤ budget_limit → (number_in a ≡ 22 → 0 < budget)
      → (r : ℕ) (registers' state' : List ℕ) → RunPromise dictionary kernel budget registers state r registers' state'
      → (r ≡ a) × (registers' ≡ registers) × (state' ≡ state)
  -- What check accepts, runs: from a start, with any budget up to 1,000,000, the answer is 20, 21 or 22, no refusal of the kernel or of what is lent.
  pub runs : (state registers : List ℕ) → Begun state registers → (dictionary kernel : List ℕ) → are_bytes kernel ≡ true
      → (c : ℕ) → CheckPromise dictionary kernel c → number_in c ≡ 0 → (budget : ℕ) → budget ≤ budget_limit
      → (r : ℕ) (registers' state' : List ℕ) → RunPromise dictionary kernel budget registers state r registers' state' → RunVerdict (number_in r)
  -- A kernel that pack answered with 0, and the bytes that it wrote, run alike.
  pub alike : (dictionary kernel out : List ℕ) → are_bytes kernel ≡ true → (p : ℕ) (out' : List ℕ) → PackPromise dictionary kernel out p out'
      → number_in p ≡ 0 → Alike dictionary kernel (result p out')
  -- So do a kernel that unpack answered with 0, and the bytes that it wrote.
  pub alike_unpacked : (dictionary kernel out : List ℕ) → are_bytes kernel ≡ true → (p : ℕ) (out' : List ℕ) → UnpackPromise dictionary kernel out p out'
      → number_in p ≡ 0 → Alike dictionary kernel (result p out')

-- ==== a long kernel and one that was sent for it

-- A part beside an answer of pair: as many bytes as the answer counts. It is the sent kernel where the answer's number is 0, else the long one, and nothing where
-- the long one is refused.
pub record Loads (dictionary long sent : List ℕ) (r : ℕ) (bytes : List ℕ) : Type 0 where
  pub counted : length bytes ≡ count_in r
  pub the_sent : number_in r ≡ 0 → bytes ≡ sent
  pub the_long : (number_in r ≡ 0 → ⊥) → (k : List Instr) → accepted long_only dictionary long ≡ good k → bytes ≡ long
  pub nothing : (number offset : ℕ) → accepted long_only dictionary long ≡ bad number offset → bytes ≡ []

pub record Pairs : Type 0 where
  -- If pair answers 0, then unpack of the sent kernel, with room for the long one, answers 0 and writes the long one's bytes.
  pub unpacks : (dictionary long sent : List ℕ) → are_bytes long ≡ true → are_bytes sent ≡ true → (r : ℕ) → PairPromise dictionary long sent r → number_in r ≡ 0
      → (out : List ℕ) → length long ≤ length out → (u : ℕ) (out' : List ℕ) → UnpackPromise dictionary sent out u out'
      → (number_in u ≡ 0) × (result u out' ≡ long)
  -- And only then: if unpack of the sent kernel answers 0 and writes the long one's bytes, then pair answers 0, whoever packed it.
  pub accepts : (dictionary long sent : List ℕ) → are_bytes sent ≡ true → (out : List ℕ) (u : ℕ) (out' : List ℕ) → UnpackPromise dictionary sent out u out'
      → number_in u ≡ 0 → result u out' ≡ long → (r : ℕ) → PairPromise dictionary long sent r → (number_in r ≡ 0) × (count_in r ≡ length sent)
  -- It answers 0 to a kernel and what pack wrote for it.
  pub packed : (dictionary kernel out : List ℕ) → are_bytes kernel ≡ true → (p : ℕ) (out' : List ℕ) → PackPromise dictionary kernel out p out' → number_in p ≡ 0
      → (r : ℕ) → PairPromise dictionary kernel (result p out') r → (number_in r ≡ 0) × (count_in r ≡ count_in p)
  -- Two kernels that it answers with 0 run alike, just as a kernel and what pack wrote for it do.
  pub alike : (dictionary long sent : List ℕ) → are_bytes long ≡ true → are_bytes sent ≡ true → (r : ℕ) → PairPromise dictionary long sent r → number_in r ≡ 0
      → Alike dictionary long sent
  -- `load_part` is what is handed back inside Rattle (`load` of the crate `pair`).
  pub loads : (dictionary long sent : List ℕ) (r : ℕ) → PairPromise dictionary long sent r → Loads dictionary long sent r (load_part dictionary long sent)

-- ==== logs (02 §12): power may go after any byte

-- The first bytes of a buffer are the log of some runs, legal entries all, and of one more record its first bytes, which may be none and are not all.
pub record CutLog (log : List ℕ) (count : ℕ) (entries : List Entry) : Type 0 where
  pub sized : log_sized log count ≡ true
  pub legal : all_legal entries ≡ true
  pub next : Entry
  pub next-legal : entry_legal next ≡ true
  pub bytes : ℕ
  pub short : bytes < length (record_text (length entries) next)
  pub is : take count log ≡ log_text 0 entries ++ take bytes (record_text (length entries) next)

pub record Logs : Type 0 where
  -- What is left after a cut reads as exactly the records that were whole: their bytes, and their number.
  pub reads_back : (log : List ℕ) (count : ℕ) (entries : List Entry) → CutLog log count entries → (r : ℕ) → LogReadPromise log count r
      → (number_in r ≡ 0) × (result r log ≡ log_text 0 entries)
  pub counts_back : (log : List ℕ) (count : ℕ) (entries : List Entry) → CutLog log count entries → (r : ℕ) → LogRunsPromise log count r
      → (number_in r ≡ 0) × (count_in r ≡ length entries)
  -- Every beginning of a log is such a cut, so it is read; and nothing else is.
  pub reads : (log : List ℕ) (count : ℕ) → log_sized log count ≡ true → Beginning (take count log) → (r : ℕ) → LogReadPromise log count r → number_in r ≡ 0
  pub reads_only : (log : List ℕ) (count r : ℕ) → LogReadPromise log count r → number_in r ≡ 0 → Beginning (take count log)
  -- Appending goes on as if nothing else had been there: the log is then that of the whole records and the new one.
  pub goes_on : (log : List ℕ) (count : ℕ) (entries : List Entry) → CutLog log count entries
      → (v steps place awake : ℕ) → entry_legal (entry v steps place awake) ≡ true → length (log_text 0 (entries ++ (entry v steps place awake ∷ []))) ≤ length log
      → (r : ℕ) (log' : List ℕ) → LogAppendPromise log count v steps place awake r log'
      → (number_in r ≡ 0) × (result r log' ≡ log_text 0 (entries ++ (entry v steps place awake ∷ [])))
  -- `log_part` is what reading hands back inside Rattle (`whole` of the crate `log`): the buffer's first bytes, as many as log_read counts, so none on refusal.
  pub part : (log : List ℕ) (count r : ℕ) → LogReadPromise log count r → log_part log count ≡ result r log
  -- Logging a run is appending its verdict, steps, place and awake mask's ones; of a state whose every channel is one of the three these are the awake channels.
  pub logs_run : (log : List ℕ) (count answer : ℕ) (state : List ℕ) (r : ℕ) (log' : List ℕ) → LogRunPromise log count answer state r log' → length state ≡ state_length
      → LogAppendPromise log count (number_in answer) (count_in answer) (half state 4) (awake_count state) r log'
  pub awake : (state : List ℕ) → all_three state 16 ≡ true → awake_count state ≡ awake_among (channels_in state 0 16)
