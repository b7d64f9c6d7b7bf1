-- The loop's invariant: where the pass stands, and that all before it is the same. Assumes nothing.
use mathlib.Core.Bool.{true, false}
use Rattle.kernel.specs.Instructions.{Over}
use Rattle.packer.specs.Forms.{kernel_of}
use Rattle.pair.specs.Comparing.{Reached}
use Rattle.pair.proofs.common.common.Given as goal

abbrev pub invariant-loop-i : goal.invariant-loop-i
invariant-loop-i l =
    record {
      over : Over l.dictionary l.sent l.i-iterator;
      reached : Reached (kernel_of true l.dictionary l.long) (kernel_of false l.dictionary l.sent) l.i-iterator.from l.n;
    }
