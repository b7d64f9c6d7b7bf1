-- The promises about what passed before a request, each of which says that a request only added, or moved a limit. Goes on from Promises, in its words; like it, it states and proves
-- nothing. `passed_before` of PassedHolds and `still_answered` of LongerHolds are the theorems.
use Rattle.std.specs.Prelude.{true, List, ◌++◌, ◌≡◌, ℕ, length, replicate}
use Rattle.paper.specs.Limits.{address_bytes, state_length}
use Rattle.paper.specs.Kernel.{Forms, long_and_short, long_only}
use Rattle.paper.specs.Machine.{Ways, State}
use Rattle.paper.specs.State.{addresses_in}
use Rattle.paper.specs.Calls.{verdict, refusal, as_number}
use Rattle.laws.specs.Otherwise.{judge_at_by, Judgement, check_call_by, pack_call_by, unpack_call_by, step_call_by, run_call_by}
use Rattle.laws.specs.VotesBefore.{refusal_before, step_at_before}
use Rattle.laws.specs.LeavingBefore.{former_judge, former_step}
use Rattle.laws.specs.Leaving.{Leaves, word_at}
use Rattle.laws.specs.AddressesBefore.{direct_judge, direct_start_call, direct_step_call, direct_run_call}
use Rattle.laws.specs.AddressesStay.{former_bytes, and_addresses}
use Rattle.laws.specs.FloatsBefore.{whole_refusal, whole_step}
use Rattle.laws.specs.Longer.{bytes_before, instructions_before, Settled, sized_within, accepted_within, check_within, pack_within, unpack_within, decode_within, step_within, run_within}
use Rattle.contracts.specs.Contracts.{Wrote, Left, CheckPromise, PackPromise, UnpackPromise, DecodePromise, StartPromise, StepPromise, RunPromise}

-- ==== kernels that passed before

-- check, unpack, step and run of a kernel answer, and leave, what they do by other rules for one instruction: `judge` in the place of refusals 3 to 11, `act` in
-- the place of a step (Otherwise of `laws`).
pub record AsBy (judge : Judgement) (act : ℕ → ℕ → Ways → State → State) (dictionary kernel : List ℕ) : Type 0 where
  pub check : (r : ℕ) → CheckPromise dictionary kernel r → r ≡ as_number (check_call_by judge dictionary kernel)
  pub unpack : (out : List ℕ) (r : ℕ) (out' : List ℕ) → UnpackPromise dictionary kernel out r out' → Wrote (unpack_call_by judge dictionary kernel out) r out'
  pub step : (registers state : List ℕ) (r : ℕ) (registers' state' : List ℕ) → StepPromise dictionary kernel registers state r registers' state'
      → Left (step_call_by judge act dictionary kernel registers state) r registers' state'
  pub run : (budget : ℕ) (registers state : List ℕ) (r : ℕ) (registers' state' : List ℕ)
      → RunPromise dictionary kernel budget registers state r registers' state'
      → Left (run_call_by judge act dictionary kernel budget registers state) r registers' state'

-- check, unpack, step and run of a kernel answer, and leave, what they did before there was a0 (AddressesBefore of `laws`): step and run do it with the registers and the
-- first 42 bytes of the state, which are the state of then, so that they never answer 22; and a0's bytes behind them stay (`and_addresses`).
pub record AsDirect (dictionary kernel : List ℕ) : Type 0 where
  pub check : (r : ℕ) → CheckPromise dictionary kernel r → r ≡ as_number (check_call_by direct_judge dictionary kernel)
  pub unpack : (out : List ℕ) (r : ℕ) (out' : List ℕ) → UnpackPromise dictionary kernel out r out' → Wrote (unpack_call_by direct_judge dictionary kernel out) r out'
  pub step : (registers state : List ℕ) → length state ≡ state_length → (r : ℕ) (registers' state' : List ℕ)
      → StepPromise dictionary kernel registers state r registers' state'
      → Left (and_addresses (addresses_in state) (direct_step_call dictionary kernel registers (former_bytes state))) r registers' state'
  pub run : (budget : ℕ) (registers state : List ℕ) → length state ≡ state_length → (r : ℕ) (registers' state' : List ℕ)
      → RunPromise dictionary kernel budget registers state r registers' state'
      → Left (and_addresses (addresses_in state) (direct_run_call dictionary kernel budget registers (former_bytes state))) r registers' state'

-- 02 §2, §7, §8 and §9 only add. `refusal_before` and `step_at_before` are the rules before groups of channels could vote (VotesBefore of `laws`), `former_judge` and
-- `former_step` those before break and cont were listed (LeavingBefore of `laws`), `direct_judge` and its like those before there were a0 and addresses, `whole_refusal` and `whole_step` those before
-- there were floats (FloatsBefore of `laws`).
pub record PassedBefore : Type 0 where
  -- A kernel that check accepted without votes is accepted, and is checked, unpacked, stepped and run as it was.
  pub votes : (dictionary kernel : List ℕ) (n : ℕ) → check_call_by (judge_at_by refusal_before) dictionary kernel ≡ verdict 0 n
      → AsBy (judge_at_by refusal_before) step_at_before dictionary kernel
  -- One that pack accepted is packed to the same bytes.
  pub votes_packed : (dictionary kernel out : List ℕ) (n : ℕ) → (pack_call_by (judge_at_by refusal_before) dictionary kernel out).answer ≡ verdict 0 n
      → (r : ℕ) (out' : List ℕ) → PackPromise dictionary kernel out r out' → Wrote (pack_call_by (judge_at_by refusal_before) dictionary kernel out) r out'
  -- Without break and cont: whatever check answered, unless it was 4 at an instruction with one of their opcodes, it answers now, and the kernel is unpacked,
  -- stepped and run, or refused, as it was.
  pub leaving : (dictionary kernel : List ℕ) → ((at : ℕ) → check_call_by former_judge dictionary kernel ≡ refusal 4 at → Leaves (word_at kernel at) → ⊥)
      → AsBy former_judge former_step dictionary kernel
  -- So it is with pack.
  pub leaving_packed : (dictionary kernel out : List ℕ)
      → ((at : ℕ) → (pack_call_by former_judge dictionary kernel out).answer ≡ refusal 4 at → Leaves (word_at kernel at) → ⊥)
      → (r : ℕ) (out' : List ℕ) → PackPromise dictionary kernel out r out' → Wrote (pack_call_by former_judge dictionary kernel out) r out'
  -- Without a0 and addresses: a kernel that check accepted is accepted, and is checked, unpacked, stepped and run as it was.
  pub addresses : (dictionary kernel : List ℕ) (n : ℕ) → check_call_by direct_judge dictionary kernel ≡ verdict 0 n → AsDirect dictionary kernel
  -- One that pack accepted is packed to the same bytes.
  pub addresses_packed : (dictionary kernel out : List ℕ) (n : ℕ) → (pack_call_by direct_judge dictionary kernel out).answer ≡ verdict 0 n
      → (r : ℕ) (out' : List ℕ) → PackPromise dictionary kernel out r out' → Wrote (pack_call_by direct_judge dictionary kernel out) r out'
  -- A start leaves the 42 bytes that it left, and zeros in a0.
  pub addresses_start : (mask flag0 flag1 : ℕ) (state : List ℕ) → length state ≡ state_length
      → (r : ℕ) (state' : List ℕ) → StartPromise mask flag0 flag1 state r state'
      → (let former = direct_start_call mask flag0 flag1 (former_bytes state) in (r ≡ as_number former.answer) × (state' ≡ former.output ++ replicate address_bytes 0))
  -- Without floats: a kernel that check accepted is accepted, and is checked, unpacked, stepped and run as it was.
  pub floats : (dictionary kernel : List ℕ) (n : ℕ) → check_call_by (judge_at_by whole_refusal) dictionary kernel ≡ verdict 0 n
      → AsBy (judge_at_by whole_refusal) whole_step dictionary kernel
  -- One that pack accepted is packed to the same bytes.
  pub floats_packed : (dictionary kernel out : List ℕ) (n : ℕ) → (pack_call_by (judge_at_by whole_refusal) dictionary kernel out).answer ≡ verdict 0 n
      → (r : ℕ) (out' : List ℕ) → PackPromise dictionary kernel out r out' → Wrote (pack_call_by (judge_at_by whole_refusal) dictionary kernel out) r out'

-- ==== longer kernels: what passed under lower limits is answered as it was

-- With at most 16,384 bytes and 1,024 instructions, as the limits were before they were raised, the kernel is accepted, or refused as anything but 1 and 17.
abbrev pub SettledBefore : Forms → List ℕ → List ℕ → Type 0
SettledBefore forms dictionary kernel = Settled (accepted_within bytes_before instructions_before forms dictionary kernel)

-- Each call's outcome on such a kernel is what it was; decode asks for its size only. `check_within` and its like are the paper's calls with 1 and 17 at given limits
-- (Longer of `laws`).
pub record StillAnswered : Type 0 where
  pub check : (dictionary kernel : List ℕ) → SettledBefore long_and_short dictionary kernel → (r : ℕ) → CheckPromise dictionary kernel r
      → r ≡ as_number (check_within bytes_before instructions_before dictionary kernel)
  pub pack : (dictionary kernel out : List ℕ) → SettledBefore long_only dictionary kernel → (r : ℕ) (out' : List ℕ) → PackPromise dictionary kernel out r out'
      → Wrote (pack_within bytes_before instructions_before dictionary kernel out) r out'
  pub unpack : (dictionary kernel out : List ℕ) → SettledBefore long_and_short dictionary kernel → (r : ℕ) (out' : List ℕ)
      → UnpackPromise dictionary kernel out r out' → Wrote (unpack_within bytes_before instructions_before dictionary kernel out) r out'
  pub decode : (dictionary kernel : List ℕ) (place : ℕ) → sized_within bytes_before dictionary kernel ≡ true → (r : ℕ) → DecodePromise dictionary kernel place r
      → r ≡ as_number (decode_within bytes_before instructions_before dictionary kernel place)
  pub step : (dictionary kernel registers state : List ℕ) → SettledBefore long_and_short dictionary kernel → (r : ℕ) (registers' state' : List ℕ)
      → StepPromise dictionary kernel registers state r registers' state'
      → Left (step_within bytes_before instructions_before dictionary kernel registers state) r registers' state'
  pub run : (dictionary kernel : List ℕ) (budget : ℕ) (registers state : List ℕ) → SettledBefore long_and_short dictionary kernel
      → (r : ℕ) (registers' state' : List ℕ) → RunPromise dictionary kernel budget registers state r registers' state'
      → Left (run_within bytes_before instructions_before dictionary kernel budget registers state) r registers' state'
