-- What each exported call promises of its answer r and of what it leaves in each buffer that it was lent, whatever it was lent: an equation with the
-- paper's definition of the call. The contracts of the crate `spokeshaver` are these; OneOutcome says that they leave nothing open, and Promises of the crate
-- `promises` what follows from them. Assumes nothing.
use Rattle.std.specs.Prelude.{◌≡◌, List, ℕ, ◌/◌, ◌%◌, ◌^◌}
use Rattle.paper.specs.Log.{entry, log_read_call, log_runs_call, log_append_call, log_run_call}
use Rattle.paper.specs.Listing.{list_call, read_call}
use Rattle.paper.specs.Placing.{place_call, place_kernel_call, place_load_call}
use Rattle.paper.specs.Calls.{as_number, Written, Changed, check_call, forward_call, pack_call, unpack_call, pair_call, shorten_call, expand_call, decode_call, start_call, step_call, run_call}

-- ---- an answer taken apart, as the header's macros do

-- The verdict's or the refusal's number.
abbrev pub number_in : ℕ → ℕ
number_in r = r % 2 ^ 8

-- The refused instruction's byte offset.
abbrev pub offset_in : ℕ → ℕ
offset_in r = r / 2 ^ 8 % 2 ^ 24

-- The count.
abbrev pub count_in : ℕ → ℕ
count_in r = r / 2 ^ 32

-- ---- what is left

-- The answer is r, and the one lent buffer then holds out'.
abbrev pub Wrote : Written → ℕ → List ℕ → Type 0
Wrote w r out' = (r ≡ as_number w.answer) × (out' ≡ w.output)

-- The answer is r, and registers and state then hold registers' and state'.
abbrev pub Left : Changed → ℕ → List ℕ → List ℕ → Type 0
Left c r registers' state' = (r ≡ as_number c.answer) × (registers' ≡ c.registers) × (state' ≡ c.state)

-- ---- the calls

abbrev pub CheckPromise : List ℕ → List ℕ → ℕ → Type 0
CheckPromise dictionary kernel r = r ≡ as_number (check_call dictionary kernel)

abbrev pub ForwardPromise : List ℕ → List ℕ → ℕ → Type 0
ForwardPromise dictionary kernel r = r ≡ as_number (forward_call dictionary kernel)

abbrev pub PackPromise : List ℕ → List ℕ → List ℕ → ℕ → List ℕ → Type 0
PackPromise dictionary kernel out r out' = Wrote (pack_call dictionary kernel out) r out'

abbrev pub UnpackPromise : List ℕ → List ℕ → List ℕ → ℕ → List ℕ → Type 0
UnpackPromise dictionary kernel out r out' = Wrote (unpack_call dictionary kernel out) r out'

abbrev pub PairPromise : List ℕ → List ℕ → List ℕ → ℕ → Type 0
PairPromise dictionary long sent r = r ≡ as_number (pair_call dictionary long sent)

abbrev pub ShortenPromise : List ℕ → List ℕ → List ℕ → ℕ → List ℕ → Type 0
ShortenPromise dictionary word out r out' = Wrote (shorten_call dictionary word out) r out'

abbrev pub ExpandPromise : List ℕ → List ℕ → List ℕ → ℕ → List ℕ → Type 0
ExpandPromise dictionary word out r out' = Wrote (expand_call dictionary word out) r out'

abbrev pub DecodePromise : List ℕ → List ℕ → ℕ → ℕ → Type 0
DecodePromise dictionary kernel place r = r ≡ as_number (decode_call dictionary kernel place)

abbrev pub StartPromise : ℕ → ℕ → ℕ → List ℕ → ℕ → List ℕ → Type 0
StartPromise mask flag0 flag1 state r state' = Wrote (start_call mask flag0 flag1 state) r state'

abbrev pub StepPromise : List ℕ → List ℕ → List ℕ → List ℕ → ℕ → List ℕ → List ℕ → Type 0
StepPromise dictionary kernel registers state r registers' state' = Left (step_call dictionary kernel registers state) r registers' state'

abbrev pub RunPromise : List ℕ → List ℕ → ℕ → List ℕ → List ℕ → ℕ → List ℕ → List ℕ → Type 0
RunPromise dictionary kernel budget registers state r registers' state' =
    Left (run_call dictionary kernel budget registers state) r registers' state'

abbrev pub LogAppendPromise : List ℕ → ℕ → ℕ → ℕ → ℕ → ℕ → ℕ → List ℕ → Type 0
LogAppendPromise log count verdict steps place awake r log' = Wrote (log_append_call log count (entry verdict steps place awake)) r log'

abbrev pub LogReadPromise : List ℕ → ℕ → ℕ → Type 0
LogReadPromise log count r = r ≡ as_number (log_read_call log count)

abbrev pub LogRunsPromise : List ℕ → ℕ → ℕ → Type 0
LogRunsPromise log count r = r ≡ as_number (log_runs_call log count)

abbrev pub LogRunPromise : List ℕ → ℕ → ℕ → List ℕ → ℕ → List ℕ → Type 0
LogRunPromise log count answer state r log' = Wrote (log_run_call log count answer state) r log'

abbrev pub ListPromise : List ℕ → List ℕ → List ℕ → ℕ → List ℕ → Type 0
ListPromise dictionary kernel out r out' = Wrote (list_call dictionary kernel out) r out'

abbrev pub ReadPromise : List ℕ → List ℕ → List ℕ → ℕ → List ℕ → Type 0
ReadPromise dictionary text out r out' = Wrote (read_call dictionary text out) r out'

abbrev pub PlacePromise : ℕ → List ℕ → ℕ → ℕ → List ℕ → ℕ → List ℕ → Type 0
PlacePromise order six x y out r out' = Wrote (place_call order six (record { x = x; y = y }) out) r out'

abbrev pub PlaceKernelPromise : List ℕ → ℕ → List ℕ → Type 0
PlaceKernelPromise out r out' = Wrote (place_kernel_call out) r out'

abbrev pub PlaceLoadPromise : List ℕ → List ℕ → ℕ → List ℕ → Type 0
PlaceLoadPromise six registers r registers' = Wrote (place_load_call six registers) r registers'
