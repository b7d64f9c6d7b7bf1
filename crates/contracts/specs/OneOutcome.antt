-- What the contracts leave open: nothing. States it and proves nothing; OneOutcomeHolds does. A contract that left an answer, an output or a state unsaid would
-- break it.
use Rattle.std.specs.Prelude.{List, ◌≡◌, ℕ}
use Rattle.contracts.specs.Contracts.{CheckPromise, ForwardPromise, PackPromise, UnpackPromise, PairPromise, ShortenPromise, ExpandPromise}
use Rattle.contracts.specs.Contracts.{DecodePromise, StartPromise, StepPromise, RunPromise}
use Rattle.contracts.specs.Contracts.{LogAppendPromise, LogReadPromise, LogRunsPromise, LogRunPromise, ListPromise, ReadPromise}
use Rattle.contracts.specs.Contracts.{PlacePromise, PlaceKernelPromise, PlaceLoadPromise}

-- The contract of each call admits one outcome only: one answer, and one final content of each buffer that is lent for writing.
pub record OneOutcome : Type 0 where
  pub check : (dictionary kernel : List ℕ) (r s : ℕ) → CheckPromise dictionary kernel r → CheckPromise dictionary kernel s → r ≡ s
  pub forward : (dictionary kernel : List ℕ) (r s : ℕ) → ForwardPromise dictionary kernel r → ForwardPromise dictionary kernel s → r ≡ s
  pub pack : (dictionary kernel out : List ℕ) (r s : ℕ) (out' out'' : List ℕ)
      → PackPromise dictionary kernel out r out' → PackPromise dictionary kernel out s out'' → (r ≡ s) × (out' ≡ out'')
  pub unpack : (dictionary kernel out : List ℕ) (r s : ℕ) (out' out'' : List ℕ)
      → UnpackPromise dictionary kernel out r out' → UnpackPromise dictionary kernel out s out'' → (r ≡ s) × (out' ≡ out'')
  pub pair : (dictionary long sent : List ℕ) (r s : ℕ) → PairPromise dictionary long sent r → PairPromise dictionary long sent s → r ≡ s
  pub shorten : (dictionary word out : List ℕ) (r s : ℕ) (out' out'' : List ℕ)
      → ShortenPromise dictionary word out r out' → ShortenPromise dictionary word out s out'' → (r ≡ s) × (out' ≡ out'')
  pub expand : (dictionary word out : List ℕ) (r s : ℕ) (out' out'' : List ℕ)
      → ExpandPromise dictionary word out r out' → ExpandPromise dictionary word out s out'' → (r ≡ s) × (out' ≡ out'')
  pub decode : (dictionary kernel : List ℕ) (place r s : ℕ) → DecodePromise dictionary kernel place r → DecodePromise dictionary kernel place s → r ≡ s
  pub start : (mask flag0 flag1 : ℕ) (state : List ℕ) (r s : ℕ) (state' state'' : List ℕ)
      → StartPromise mask flag0 flag1 state r state' → StartPromise mask flag0 flag1 state s state'' → (r ≡ s) × (state' ≡ state'')
  pub step : (dictionary kernel registers state : List ℕ) (r s : ℕ) (registers' registers'' state' state'' : List ℕ)
      → StepPromise dictionary kernel registers state r registers' state' → StepPromise dictionary kernel registers state s registers'' state''
      → (r ≡ s) × (registers' ≡ registers'') × (state' ≡ state'')
  pub run : (dictionary kernel : List ℕ) (budget : ℕ) (registers state : List ℕ) (r s : ℕ) (registers' registers'' state' state'' : List ℕ)
      → RunPromise dictionary kernel budget registers state r registers' state' → RunPromise dictionary kernel budget registers state s registers'' state''
      → (r ≡ s) × (registers' ≡ registers'') × (state' ≡ state'')
  pub log_append : (log : List ℕ) (count verdict steps place awake r s : ℕ) (log' log'' : List ℕ)
      → LogAppendPromise log count verdict steps place awake r log' → LogAppendPromise log count verdict steps place awake s log'' → (r ≡ s) × (log' ≡ log'')
  pub log_read : (log : List ℕ) (count r s : ℕ) → LogReadPromise log count r → LogReadPromise log count s → r ≡ s
  pub log_runs : (log : List ℕ) (count r s : ℕ) → LogRunsPromise log count r → LogRunsPromise log count s → r ≡ s
  pub log_run : (log : List ℕ) (count answer : ℕ) (state : List ℕ) (r s : ℕ) (log' log'' : List ℕ)
      → LogRunPromise log count answer state r log' → LogRunPromise log count answer state s log'' → (r ≡ s) × (log' ≡ log'')
  pub list : (dictionary kernel out : List ℕ) (r s : ℕ) (out' out'' : List ℕ)
      → ListPromise dictionary kernel out r out' → ListPromise dictionary kernel out s out'' → (r ≡ s) × (out' ≡ out'')
  pub read : (dictionary text out : List ℕ) (r s : ℕ) (out' out'' : List ℕ)
      → ReadPromise dictionary text out r out' → ReadPromise dictionary text out s out'' → (r ≡ s) × (out' ≡ out'')
  pub place : (order : ℕ) (six : List ℕ) (x y : ℕ) (out : List ℕ) (r s : ℕ) (out' out'' : List ℕ)
      → PlacePromise order six x y out r out' → PlacePromise order six x y out s out'' → (r ≡ s) × (out' ≡ out'')
  pub place_kernel : (out : List ℕ) (r s : ℕ) (out' out'' : List ℕ) → PlaceKernelPromise out r out' → PlaceKernelPromise out s out'' → (r ≡ s) × (out' ≡ out'')
  pub place_load : (six registers : List ℕ) (r s : ℕ) (registers' registers'' : List ℕ)
      → PlaceLoadPromise six registers r registers' → PlaceLoadPromise six registers s registers'' → (r ≡ s) × (registers' ≡ registers'')
