-- The arms of the match are the tests of `sign_modified`. Assumes nothing.
use Rattle.std.proofs.Common.{ne_eqb}
use Rattle.paper.specs.Single.{sign_modified}
use Rattle.single.proofs.sign.modify_pattern.Goals as goal

pub returns-in-1 : goal.returns-in-1
unfolding sign_modified
returns-in-1 c = rw c.in-1.is

pub returns-in-2 : goal.returns-in-2
unfolding sign_modified
returns-in-2 c = rw c.in-2.is cc

pub returns-in-3 : goal.returns-in-3
unfolding sign_modified
returns-in-3 c = rw c.in-3.is

pub returns-in_default : goal.returns-in_default
unfolding sign_modified
returns-in_default c =
    let r = c.in_default.in_default-own.rest in
    simp (ne_eqb _ _ r.1, ne_eqb _ _ r.0.1, ne_eqb _ _ r.0.0.1)
