-- Each arm knows which case the answer is, and the answer is the call's. Assumes nothing.
use mathlib.Core.Path.{sym, ap, ◌∙◌}
use Rattle.words.specs.Answer.{answer_is, refused_as}
use Rattle.pair.specs.Answers.{load_as}
use Rattle.pair.proofs.load.load.Goals as goal

pub returns-in-Ok : goal.returns-in-Ok
returns-in-Ok c =
    load_as c.args.dictionary.now c.args.long.now c.args.sent.now _ (sym (ap answer_is c.in-Ok.is) ∙ c.pair.ensures)

pub returns-in-None : goal.returns-in-None
returns-in-None c =
    load_as c.args.dictionary.now c.args.long.now c.args.sent.now _
    (sym (ap (refused_as _ _) c.in-None.is) ∙ sym (ap answer_is c.in-Err.is) ∙ c.pair.ensures)

pub returns-in-Some : goal.returns-in-Some
returns-in-Some c =
    load_as c.args.dictionary.now c.args.long.now c.args.sent.now _
    (sym (ap (refused_as _ _) c.in-Some.is) ∙ sym (ap answer_is c.in-Err.is) ∙ c.pair.ensures)
