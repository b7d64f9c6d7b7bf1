-- The kernel is filled from its first byte on. Assumes nothing.
use Rattle.kernel.proofs.instructions.Instructions.of.Goals as goal

pub invariant_of-result : goal.invariant_of-result
invariant_of-result c = record { bounded = c.requires.bounded; whole = c.requires.whole }
