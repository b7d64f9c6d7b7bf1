-- The loop's invariant: where the pass stands, and the places stored so far. Assumes nothing.
use mathlib.Core.Bool.{false}
use Prim.Native.Nat.{◌/◌}
use Rattle.laws.specs.Names.{long_form}
use Rattle.kernel.specs.Instructions.{Over}
use Rattle.packer.specs.Forms.{kernel_of}
use Rattle.packer.specs.Stages.{Stage, PlacedTo}
use Rattle.pair.proofs.place.place_long.Given as goal

abbrev pub invariant-loop-i : goal.invariant-loop-i
invariant-loop-i l =
    let k = kernel_of false l.dictionary l.kernel in
    let from = l.i-iterator.from in
    record {
      over : Over l.dictionary l.kernel l.i-iterator;
      stage : Stage long_form k from l.to;
      placed : PlacedTo long_form k l.places (from / 8);
    }
