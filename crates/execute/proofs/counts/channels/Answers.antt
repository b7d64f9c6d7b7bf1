-- The count is that of the ExecSize code. Assumes nothing.
use mathlib.Core.Path.{◌≡◌, ap, ◌∙◌}
use Rattle.paper.specs.Region.{count_of, channels}
use Rattle.words.specs.Words.{to_word}
use Rattle.operands.specs.Sources.{count-channels}
use Rattle.execute.proofs.counts.channels.Goals as goal

pub returns : goal.returns
returns c =
    let w = to_word c.args.w in
    let e : c.count_of.result ≡ channels w = c.count_of.ensures.0 ∙ ap count_of c.exec_size.ensures.0 in
    (e, rw e (count-channels w c.requires))
