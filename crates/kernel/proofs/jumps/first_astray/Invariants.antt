-- The loop's invariant: those that are left have the answer of all. Assumes nothing.
use mathlib.Core.Path.{◌≡◌}
use Rattle.kernel.specs.Instructions.{instrs_left}
use Rattle.kernel.specs.Jumps.{first_out}
use Rattle.kernel.specs.Marks.{marked}
use Rattle.kernel.proofs.jumps.first_astray.Given as goal

abbrev pub invariant-loop-i : goal.invariant-loop-i
invariant-loop-i l = first_out (marked l.marks) (instrs_left l.i-iterator) ≡ first_out (marked l.marks) (instrs_left l.fn.all)
