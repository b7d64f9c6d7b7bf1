-- The loop's invariant: those that are left go forward just if all do. Assumes nothing.
use mathlib.Core.Path.{◌≡◌}
use Rattle.paper.specs.Forward.{forward}
use Rattle.kernel.specs.Instructions.{instrs_left}
use Rattle.kernel.proofs.forward.all_forward.Given as goal

abbrev pub invariant-loop-i : goal.invariant-loop-i
invariant-loop-i l = forward (instrs_left l.i-iterator) ≡ forward (instrs_left l.fn.all)
