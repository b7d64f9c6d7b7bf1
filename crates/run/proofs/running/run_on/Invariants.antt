-- The loop's invariant: the run stands at a state of each kernel that the table has, to which the whole run leads. Its measure: the budget left. Assumes nothing.
use mathlib.Core.List.{List}
use mathlib.Core.Path.{◌≡◌}
use Prim.Native.Nat.{◌-◌, ◌≤◌}
use lib.ListN.{length}
use Rattle.paper.specs.Kernel.{Instr}
use Rattle.paper.specs.Machine.{State}
use Rattle.run.specs.Running.{Running}
use Rattle.run.specs.Tables.{Tabled}
use Rattle.run.specs.Outcomes.{Leads}
use Rattle.run.proofs.running.run_on.Given as goal

abbrev pub invariant-loop-s : goal.invariant-loop-s
invariant-loop-s l =
    (l.steps ≤ l.budget) × ((k : List Instr) (t : State) → Running k l.initial.registers l.initial.addresses l.initial.here l.initial.s t → Tabled k l.end l.budget l.initial.s.place l.table → (u : State) × Running k l.registers l.addresses l.here l.s u × Leads k l.budget t l.steps u)
    × (length l.here ≡ length l.initial.here)
    × (l.steps ≡ 0 → l.s.place ≡ l.initial.s.place)

abbrev pub decreases-loop-s : goal.decreases-loop-s
decreases-loop-s l = l.budget - l.steps
