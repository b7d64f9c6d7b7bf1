-- What is not clamped has the low bits of what it stands for. Assumes nothing.
use mathlib.Core.Path.{refl}
use lib.ListN.{get_or}
use Rattle.execute.specs.Results.{Kept, kept_stays}
use Rattle.execute.proofs.clamp.clamp_all.Goals as goal

pub returns-else-saturated : goal.returns-else-saturated
unfolding Kept
returns-else-saturated c =
    rw c.if-saturated.false (record {
      sixteen = c.told-values;
      done = λ k h. kept_stays c.args.kind (get_or c.args.values.now k 0);
      kept = λ k h. refl;
    })
