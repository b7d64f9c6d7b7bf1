-- Targets lie after a place where they land by the test of what lies after it. Assumes nothing.
use borrow.Author.Rules.{rules}
use mathlib.Core.Path.{◌∙◌}
use lib.Dec.{ltb}
use Rattle.paper.specs.Jump.{targets_of}
use Rattle.kernel.specs.Instructions.{instr_is}
use Rattle.kernel.specs.Forward.{after_lands}
use Rattle.kernel.proofs.forward.leads_forward.Goals as goal

pub returns : goal.returns
returns c =
    let i = c.args.i in
    c.each_lands.ensures (ltb i.place) (λ p b q h. search rules) ∙ after_lands i.place (targets_of (instr_is i))
