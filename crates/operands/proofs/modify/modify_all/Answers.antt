-- No modifier changes nothing. Assumes nothing.
use mathlib.Core.Path.{refl, sym}
use lib.ListN.{get_or}
use Rattle.element.specs.Biased.{ex}
use Rattle.element.specs.Operands.{modified_none}
use Rattle.operands.proofs.modify.modify_all.Goals as goal

pub returns-else-modifier-ne0 : goal.returns-else-modifier-ne0
returns-else-modifier-ne0 c =
    record {
      sixteen = c.told-values;
      done = λ k h. (rw c.if-modifier-ne0.false (sym (modified_none (ex (get_or c.args.values.now k 0)))), λ j q. q);
      kept = λ k h. refl;
    }
