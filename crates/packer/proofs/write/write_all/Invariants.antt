-- The loop's invariant: where the pass stands, and what it has written. Assumes nothing.
use Rattle.std.proofs.Common.{◌≡◌, ◌≤◌, ◌+◌, ◌/◌, length}
use Rattle.paper.specs.Limits.{instruction_limit}
use Rattle.paper.specs.Dictionary.{dictionary_of}
use Rattle.paper.specs.Packing.{index}
use Rattle.kernel.specs.Instructions.{Over, instrs_left}
use Rattle.packer.specs.Forms.{form_of, kernel_of}
use Rattle.packer.specs.Stages.{Stage}
use Rattle.packer.specs.Written.{Holds}
use Rattle.packer.proofs.write.write_all.Given as goal

abbrev pub invariant-loop-n : goal.invariant-loop-n
invariant-loop-n l =
    let form = form_of l.packs (dictionary_of l.dictionary) in
    let k = kernel_of l.packs l.dictionary l.kernel in
    let from = l.n-iterator.iter.from in
    record {
      asked : (goal.iterator-loop-n).can_next l.n-iterator;
      left : l.n-iterator.count + length (instrs_left l.n-iterator.iter) ≤ instruction_limit;
      over : Over l.dictionary l.kernel l.n-iterator.iter;
      stage : Stage form k from l.to;
      written : Holds form k l.initial.out from l.to l.out;
      number : l.n-iterator.count ≡ index k (from / 8);
    }
