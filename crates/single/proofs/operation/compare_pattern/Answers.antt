-- The arms of the match are the tests of `compares_floats`. Assumes nothing.
use Rattle.std.proofs.Common.{ne_eqb}
use Rattle.paper.specs.Single.{compares_floats}
use Rattle.single.proofs.operation.compare_pattern.Goals as goal

pub returns-in-1 : goal.returns-in-1
unfolding compares_floats
returns-in-1 c = rw c.in-1.is cc

pub returns-in-2 : goal.returns-in-2
unfolding compares_floats
returns-in-2 c = rw c.in-2.is cc

pub returns-in-3 : goal.returns-in-3
unfolding compares_floats
returns-in-3 c = rw c.in-3.is cc

pub returns-in-4 : goal.returns-in-4
unfolding compares_floats
returns-in-4 c = rw c.in-4.is cc

pub returns-in-5 : goal.returns-in-5
unfolding compares_floats
returns-in-5 c = rw c.in-5.is cc

pub returns-in_default : goal.returns-in_default
unfolding compares_floats
returns-in_default c =
    let r = c.in_default.in_default-own.rest in
    simp (ne_eqb _ _ r.1, ne_eqb _ _ r.0.1, ne_eqb _ _ r.0.0.1, ne_eqb _ _ r.0.0.0.1, ne_eqb _ _ r.0.0.0.0.1) cc
