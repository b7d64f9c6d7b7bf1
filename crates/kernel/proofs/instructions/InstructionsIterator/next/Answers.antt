-- The next instruction is what its bytes say. Assumes nothing.
use mathlib.Core.Path.{refl, ap}
use lib.ListN.{length}
use native.Mathlib.Omega.{arith}
use Rattle.paper.specs.Dictionary.{dictionary_of}
use Rattle.kernel.specs.Reading.{filled_next, instrs_none, instrs_here}
use Rattle.kernel.proofs.instructions.InstructionsIterator.next.Goals as goal

pub returns-then-self-from-clause-steps : goal.returns-then-self-from-clause-steps
returns-then-self-from-clause-steps c =
    let s = c.args.self.now in
    let none = instrs_none (dictionary_of s.dictionary.now) s.kernel.now s.from c.if-self-from.true in
    (none, none, c.if-self-from.true)

pub word_at-f-requires : goal.word_at-f-requires
word_at-f-requires c =
    let s = c.args.self.now in
    (filled_next (λ _. 0) s.kernel.now s.from s.whole c.if-self-from.false).0

pub invariant_of-self : goal.invariant_of-self
invariant_of-self c =
    let s = c.args.self.now in
    record {
      bounded = s.bounded;
      whole = rw c.word_at-f.ensures.size_is (filled_next (λ _. 0) s.kernel.now s.from s.whole c.if-self-from.false).1;
    }

pub returns-clause-steps : goal.returns-clause-steps
returns-clause-steps c =
    let s = c.args.self.now in
    let f = c.word_at-f.ensures in
    let inside = c.if-self-from.false in
    (instrs_here (dictionary_of s.dictionary.now) s.kernel.now s.from inside _ _ f, inside, refl, f, refl, refl, refl)

pub returns-clause-goes : goal.returns-clause-goes
returns-clause-goes c =
    let s = c.args.self.now in
    let f = c.word_at-f.ensures in
    let fewer = ap length (instrs_here (dictionary_of s.dictionary.now) s.kernel.now s.from c.if-self-from.false _ _ f) in
    record { on = λ _. (tt, tt, omega (arith, fewer)); keeps = tt; rests = λ _. tt }
