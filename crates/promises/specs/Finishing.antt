-- The promises of 02 §14 of the exported calls: when a kernel must finish, when it never does, and what a step may change. Goes on from Promises, in its words; like it,
-- it states and proves nothing. `finishing` of FinishingHolds is the theorem.
use Rattle.std.specs.Prelude.{Bool, true, List, map, ◌⊎◌, ◌≡◌, ℕ, ◌+◌, ◌<◌, ◌≤◌, length, get_or}
use Rattle.std.proofs.Math.Option.{some}
use Rattle.std.proofs.Math.Pow.{are_bytes}
use Rattle.paper.specs.Limits.{budget_limit}
use Rattle.paper.specs.Bits.{bit}
use Rattle.paper.specs.Word.{we_ctrl, flag_choice}
use Rattle.paper.specs.Operation.{Plain, plain, operation}
use Rattle.paper.specs.Region.{dst_size}
use Rattle.paper.specs.Store.{Store}
use Rattle.paper.specs.Enable.{channel_of, digit}
use Rattle.paper.specs.Kernel.{Instr, long_and_short, good}
use Rattle.paper.specs.Jump.{fetch}
use Rattle.paper.specs.Forward.{forward}
use Rattle.paper.specs.Machine.{Channel, off, awake, waiting, wake, is_awake}
use Rattle.paper.specs.State.{half, channels_in, addresses_in}
use Rattle.paper.specs.Calls.{accepted}
use Rattle.laws.specs.AddressWrites.{Moves}
use Rattle.laws.specs.Changes.{Writes, Sets, written_from, stores_bytes}
use Rattle.contracts.specs.Contracts.{number_in, offset_in, count_in, CheckPromise, ForwardPromise, PackPromise, UnpackPromise, StepPromise, RunPromise}
use Rattle.promises.specs.Promises.{result, Steps, Begun, Legal}

-- ==== when a kernel must finish

-- Every jump goes forward: spokeshaver_forward answered 0 and counted 1. `count` is how many instructions spokeshaver_check counts.
pub record Ahead (dictionary kernel : List ℕ) (count : ℕ) : Type 0 where
  pub answer : ℕ
  pub asked : ForwardPromise dictionary kernel answer
  pub zero : number_in answer ≡ 0
  pub every : count_in answer ≡ 1
  pub check : ℕ
  pub checked : CheckPromise dictionary kernel check
  pub counts : count_in check ≡ count

-- From these registers and state, each run with a budget from `count` to 1,000,000 ends: it answers 20, or 22 at a broken address, within `count` steps.
abbrev pub Ends : List ℕ → List ℕ → ℕ → List ℕ → List ℕ → Type 0
Ends dictionary kernel count registers state =
    (budget : ℕ) → count ≤ budget → budget ≤ budget_limit → (r : ℕ) (registers' state' : List ℕ)
    → RunPromise dictionary kernel budget registers state r registers' state' → ((number_in r ≡ 20) ⊎ (number_in r ≡ 22)) × (count_in r ≤ count)

-- So it does from every start: whatever the registers, the flags and the mask.
abbrev pub EndsFromStart : List ℕ → List ℕ → ℕ → Type 0
EndsFromStart dictionary kernel count = (state registers : List ℕ) → Begun state registers → Ends dictionary kernel count registers state

-- ==== what a step may change

-- Channel m of a state is awake or waits at the state's own place, so that a step finds it awake. Any other is off, or waits elsewhere.
abbrev pub Up : List ℕ → ℕ → Type 0
Up state m = let c : Channel = get_or (channels_in state 0 16) m off in (c ≡ awake) ⊎ (c ≡ waiting (half state 4))

-- The channels that a step finds awake.
abbrev pub woken_in : List ℕ → List Bool
woken_in state = map is_awake (map (wake (half state 4)) (channels_in state 0 16))

-- Registers, flags and a0 as they are lent.
abbrev pub store_in : List ℕ → List ℕ → Store
store_in registers state = record { registers = registers; flag0 = half state 0; flag1 = half state 2; addresses = addresses_in state }

-- What a step that answered 0 changed. It made instruction `instr`, which starts at the state's place.
pub record Stepped (dictionary kernel registers state registers' state' : List ℕ) : Type 0 where
  pub instrs : List Instr
  pub taken : accepted long_and_short dictionary kernel ≡ good instrs
  pub instr : Instr
  pub here : fetch instrs (half state 4) ≡ some instr
  -- Each register byte that changed lies in the destination element of an enabled channel, by address in the one that a0 names (Writes, Sets, stores_bytes and
  -- written_from: Changes of `laws`).
  pub bytes : (b : ℕ) → (get_or registers' b 0 ≡ get_or registers b 0 → ⊥) → Writes instr.word (woken_in state) (store_in registers state) b
  -- With WECtrl 0 that channel was awake or waited at this place,
  pub masked : we_ctrl instr.word ≡ 0 → (b : ℕ) (differs : get_or registers' b 0 ≡ get_or registers b 0 → ⊥) → Up state (channel_of instr.word (bytes b differs).channel)
  -- and a channel that is off, or waits elsewhere, writes nothing, by address neither: each byte of its destination element stays.
  pub idle : we_ctrl instr.word ≡ 0 → (p : Plain) → operation instr.word ≡ plain p → stores_bytes p instr.word (store_in registers state) ≡ true
      → (n : ℕ) → (Up state (channel_of instr.word n) → ⊥)
      → (b : ℕ) → written_from p instr.word (store_in registers state) n ≤ b → b < written_from p instr.word (store_in registers state) n + dst_size instr.word
      → get_or registers' b 0 ≡ get_or registers b 0
  -- There are as many register bytes.
  pub whole : length registers' ≡ length registers
  -- Each bit of a flag that changed was set by a cmp that chooses the flag, and is one of its enabled channels'.
  pub flag0 : (m : ℕ) → m < 16 → (bit (half state' 0) m ≡ bit (half state 0) m → ⊥)
      → (flag_choice instr.word ≡ 0) × Sets instr.word (woken_in state) (store_in registers state) m
  pub flag1 : (m : ℕ) → m < 16 → (bit (half state' 2) m ≡ bit (half state 2) m → ⊥)
      → (flag_choice instr.word ≡ 0 → ⊥) × Sets instr.word (woken_in state) (store_in registers state) m
  -- Each byte of a0 that changed lies in the destination element of an enabled channel of a mov to a0 (Moves: AddressWrites of `laws`). So nothing else changes a0.
  pub addresses : (b : ℕ) → (get_or (addresses_in state') b 0 ≡ get_or (addresses_in state) b 0 → ⊥) → Moves instr.word (woken_in state) (store_in registers state) b
  -- With WECtrl 0 that channel was awake or waited at this place.
  pub addresses_masked : we_ctrl instr.word ≡ 0 → (b : ℕ) (differs : get_or (addresses_in state') b 0 ≡ get_or (addresses_in state) b 0 → ⊥)
      → Up state (channel_of instr.word (addresses b differs).channel)

-- ==== all of it

pub record Finishing : Type 0 where
  -- Forward refuses what check refuses, with the same number and offset, and nothing else.
  pub refuses : (dictionary kernel : List ℕ) (f : ℕ) → ForwardPromise dictionary kernel f → (c : ℕ) → CheckPromise dictionary kernel c
      → (number_in f ≡ number_in c) × (offset_in f ≡ offset_in c)
  -- Of a kernel that is accepted as the instructions k it counts 1 if every jump goes forward, and 0 if one does not.
  pub tells : (dictionary kernel : List ℕ) (k : List Instr) → accepted long_and_short dictionary kernel ≡ good k
      → (f : ℕ) → ForwardPromise dictionary kernel f → (number_in f ≡ 0) × (count_in f ≡ digit (forward k))
  -- Where every jump goes forward a run ends, from every start
  pub ends : (dictionary kernel : List ℕ) → are_bytes kernel ≡ true → (count : ℕ) → Ahead dictionary kernel count → EndsFromStart dictionary kernel count
  -- and from whatever registers and state are legal for the kernel, wherever its channels wait.
  pub ends_anywhere : (dictionary kernel : List ℕ) → are_bytes kernel ≡ true → (count : ℕ) → Ahead dictionary kernel count
      → (k : List Instr) → accepted long_and_short dictionary kernel ≡ good k
      → (registers state : List ℕ) → Legal k registers state → Ends dictionary kernel count registers state
  -- Forward answers the same of a kernel and of what pack made of it; so that ends too.
  pub packed : (dictionary kernel out : List ℕ) → are_bytes kernel ≡ true → (p : ℕ) (out' : List ℕ) → PackPromise dictionary kernel out p out' → number_in p ≡ 0
      → (f g : ℕ) → ForwardPromise dictionary kernel f → ForwardPromise dictionary (result p out') g → f ≡ g
  pub ends_packed : (dictionary kernel out : List ℕ) → are_bytes kernel ≡ true → (p : ℕ) (out' : List ℕ) → PackPromise dictionary kernel out p out' → number_in p ≡ 0
      → (count : ℕ) → Ahead dictionary kernel count → EndsFromStart dictionary (result p out') count
  -- The same of what unpack made of it.
  pub unpacked : (dictionary kernel out : List ℕ) → are_bytes kernel ≡ true → (p : ℕ) (out' : List ℕ) → UnpackPromise dictionary kernel out p out' → number_in p ≡ 0
      → (f g : ℕ) → ForwardPromise dictionary kernel f → ForwardPromise dictionary (result p out') g → f ≡ g
  pub ends_unpacked : (dictionary kernel out : List ℕ) → are_bytes kernel ≡ true → (p : ℕ) (out' : List ℕ) → UnpackPromise dictionary kernel out p out' → number_in p ≡ 0
      → (count : ℕ) → Ahead dictionary kernel count → EndsFromStart dictionary (result p out') count
  -- A run that comes back never ends. If a run of at least one step answers 21 and leaves registers and state as they were lent, then from them as many steps as one
  -- likes are made, each answered with 0,
  pub comes_back : (dictionary kernel registers state : List ℕ) → are_bytes kernel ≡ true → are_bytes state ≡ true
      → (budget : ℕ) → 0 < budget → budget ≤ budget_limit → (r : ℕ) → RunPromise dictionary kernel budget registers state r registers state → number_in r ≡ 21
      → (m : ℕ) → (registers' : List ℕ) × (state' : List ℕ) × Steps dictionary kernel m registers state registers' state'
  -- and no run answers 20 or 22.
  pub never_ends : (dictionary kernel registers state : List ℕ) → are_bytes kernel ≡ true → are_bytes state ≡ true
      → (budget : ℕ) → 0 < budget → budget ≤ budget_limit → (r : ℕ) → RunPromise dictionary kernel budget registers state r registers state → number_in r ≡ 21
      → (other : ℕ) → other ≤ budget_limit → (q : ℕ) (registers' state' : List ℕ) → RunPromise dictionary kernel other registers state q registers' state'
      → (number_in q ≡ 20) ⊎ (number_in q ≡ 22) → ⊥
  -- What a step that answers 0 may change; a step that answers anything else changes nothing (Promises, Refusals).
  pub changes : (dictionary kernel registers state : List ℕ) → are_bytes kernel ≡ true → are_bytes state ≡ true
      → (r : ℕ) (registers' state' : List ℕ) → StepPromise dictionary kernel registers state r registers' state' → number_in r ≡ 0
      → Stepped dictionary kernel registers state registers' state'
