-- What is served on floats has its loop, and the others copy. Assumes nothing.
use Rattle.execute.specs.Floats.{copied, others_copy}
use Rattle.execute.proofs.floats.reckon_all.Goals as goal

pub returns-in_default : goal.returns-in_default
returns-in_default c =
    copied _ _ _ _ _ c.told-first (others_copy c.args.p c.in_default.not-Cmp c.in_default.not-Add c.in_default.not-Mul)
