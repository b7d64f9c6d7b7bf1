-- Steps and runs (the paper, "What the bench holds", "How the road forks"). Assumes nothing.
use Rattle.std.specs.Prelude.{Bool, true, false, not, cond, ◌&&◌, ◌||◌, List, [], ◌∷◌, map, ℕ, zero, suc, eqb}
use Rattle.std.proofs.Math.Option.{Option, none, some}
use Rattle.paper.specs.Bits.{bit}
use Rattle.paper.specs.Operation.{Branch, jmpi, if, else, endif, while, break, cont, Operation, plain, nop, branch, unlisted, operation}
use Rattle.paper.specs.Store.{Store}
use Rattle.paper.specs.Enable.{holds}
use Rattle.paper.specs.Address.{address_stops}
use Rattle.paper.specs.Effect.{effect}
use Rattle.paper.specs.Kernel.{Instr}
use Rattle.paper.specs.Jump.{next_of, targets_of, place_of, fetch}

-- A channel is off for good, awake, or waiting at a place.
pub data Channel : Type 0 where
  off : Channel
  awake : Channel
  waiting : ℕ → Channel

pub record State : Type 0 where
  pub store : Store
  pub channels : List Channel
  pub place : ℕ

-- ---- channels

abbrev pub is_awake : Channel → Bool
is_awake off = false
is_awake awake = true
is_awake (waiting q) = false

abbrev pub waits_at : ℕ → Channel → Bool
waits_at p off = false
waits_at p awake = false
waits_at p (waiting q) = eqb p q

-- A channel that waits at place p wakes.
unfoldable pub wake : ℕ → Channel → Channel
wake p off = off
wake p awake = awake
wake p (waiting q) = cond (eqb p q) awake (waiting q)

-- An awake channel for which the test is true waits at place p.
unfoldable pub park : Bool → ℕ → Channel → Channel
park b p off = off
park b p awake = cond b (waiting p) awake
park b p (waiting q) = waiting q

-- f of each channel and its number, the first channel's being n.
unfoldable pub each : (ℕ → Channel → Channel) → ℕ → List Channel → List Channel
each f n [] = []
each f n (c ∷ cs) = f n c ∷ each f (suc n) cs

-- Some channel passes the test f of its number and itself.
unfoldable pub someone : (ℕ → Channel → Bool) → ℕ → List Channel → Bool
someone f n [] = false
someone f n (c ∷ cs) = f n c || someone f (suc n) cs

-- ---- one instruction

-- Where an instruction leads: the place after it, where it jumps to, and where the channels wait that it parks.
pub record Ways : Type 0 where
  pub next : ℕ
  pub jump : ℕ
  pub wait : ℕ

-- To the next place, but to the jump if no channel is awake and none waits at the next place.
unfoldable pub onward : Ways → List Channel → ℕ
onward ways cs = cond (someone (λ _ c. is_awake c || waits_at ways.next c) 0 cs) ways.next ways.jump

abbrev pub fork : Ways → Store → List Channel → State
fork ways st cs = record { store = st; channels = cs; place = onward ways cs }

-- break and cont, which act alike: awake channels whose predicate holds wait at UIP; then to the next place, or to JIP if no channel is awake and none waits
-- at the next place.
abbrev pub leave : ℕ → Ways → Store → List Channel → State
leave w ways st cs = fork ways st (each (λ n. park (holds w st n) ways.wait) 0 cs)

-- A branch, once the channels that wait at its place are awake.
unfoldable pub act : Branch → ℕ → Ways → Store → List Channel → State
-- awake channels whose predicate fails wait at the target
act if w ways st cs = fork ways st (each (λ n. park (not (holds w st n)) ways.wait) 0 cs)
-- all awake channels wait there
act else w ways st cs = fork ways st (each (λ _. park true ways.wait) 0 cs)
-- none do
act endif w ways st cs = fork ways st cs
-- if any awake channel's predicate holds, the other awake ones wait at the next place and the target is taken; otherwise go on
act while w ways st cs =
    cond (someone (λ n c. is_awake c && holds w st n) 0 cs)
    (record { store = st; channels = each (λ n. park (not (holds w st n)) ways.next) 0 cs; place = ways.jump })
    (record { store = st; channels = cs; place = ways.next })
act break w ways st cs = leave w ways st cs
act cont w ways st cs = leave w ways st cs
-- taken if it has no predicate or flag bit 0, after inversion, is 1; it looks at no mask
act jmpi w ways st cs = record { store = st; channels = cs; place = cond (holds w st 0) ways.jump ways.next }

-- What is no branch acts on registers, flags and a0, and goes on.
abbrev pub pass : ℕ → Ways → Store → List Channel → State
pass w ways st cs = record { store = effect w (map is_awake cs) st; channels = cs; place = ways.next }

unfoldable pub perform : Operation → ℕ → Ways → Store → List Channel → State
perform (plain p) w ways st cs = pass w ways st cs
perform nop w ways st cs = pass w ways st cs
perform (branch b) w ways st cs = act b w ways st cs
perform unlisted w ways st cs = pass w ways st cs

-- Each step first wakes the channels that wait at the current place, `here`.
abbrev pub step_at : ℕ → ℕ → Ways → State → State
step_at w here ways s = perform (operation w) w ways s.store (map (wake here) s.channels)

-- ---- steps

-- The last of the places t and ts.
abbrev pub last_of : ℕ → List ℕ → ℕ
last_of t [] = t
last_of t (u ∷ ts) = last_of u ts

-- The ways of an instruction with these targets: it jumps to the first, of break and cont JIP, and the channels that it parks wait at the last, UIP. One that
-- has none leads to the next place alone, and the other two are written 0.
abbrev pub leads : ℕ → List ℕ → Ways
leads next [] = record { next = next; jump = 0; wait = 0 }
leads next (t ∷ ts) = record { next = next; jump = t; wait = last_of t ts }

abbrev pub ways_of : Instr → Ways
ways_of i = leads (next_of i) (map place_of (targets_of i))

-- At the end, where no instruction starts, a step changes nothing.
unfoldable pub step_on : Option Instr → State → State
step_on none s = s
step_on (some i) s = step_at i.word i.place (ways_of i) s

abbrev pub step : List Instr → State → State
step k s = step_on (fetch k s.place) s

-- ---- runs

-- The verdict with which a state stops a run, by the instruction at its place: 20 at the end; 22 where an address is broken, which is judged before anything
-- wakes.
abbrev pub stops_on : Option Instr → List ℕ → Option ℕ
stops_on none addresses = some 20
stops_on (some i) addresses = cond (address_stops addresses i.word) (some 22) none

abbrev pub stops : List Instr → State → Option ℕ
stops k s = stops_on (fetch k s.place) s.store.addresses

-- The verdict of a run whose budget is spent: 20 at the end, else 21, whatever the next step would say.
abbrev pub or_spent : Option ℕ → ℕ
or_spent none = 21
or_spent (some v) = cond (eqb v 20) 20 21

pub record Outcome : Type 0 where
  pub verdict : ℕ
  pub steps : ℕ
  pub state : State

-- A run makes the budget's steps unless a state stops it first: the end, or a broken address. 21: budget spent short of the end.
unfoldable pub run_with : (State → Option ℕ) → (State → State) → ℕ → State → Outcome
run_with stop next zero s = record { verdict = or_spent (stop s); steps = 0; state = s }
run_with stop next (suc n) s =
    elim (stop s) [
      | some v ↦ record { verdict = v; steps = 0; state = s }
      | none ↦ let o : Outcome = run_with stop next n (next s) in record { verdict = o.verdict; steps = suc o.steps; state = o.state }
    ]

abbrev pub run : List Instr → ℕ → State → Outcome
run k n s = run_with (stops k) (step k) n s

-- ---- the start: place 0, and 16 channels, awake where the mask has 1, off for good where it has 0

-- c channels, the first being number n.
unfoldable pub start_from : ℕ → ℕ → ℕ → List Channel
start_from mask n zero = []
start_from mask n (suc c) = cond (bit mask n) awake off ∷ start_from mask (suc n) c

abbrev pub start : Store → ℕ → State
start st mask = record { store = st; channels = start_from mask 0 16; place = 0 }
