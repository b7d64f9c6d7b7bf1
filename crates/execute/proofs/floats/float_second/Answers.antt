-- Where src1 is not read, the zeros that were there are patterns. Assumes nothing.
use mathlib.Core.Path.{sym, ◌∙◌, ap}
use Rattle.paper.specs.Word.{src1}
use Rattle.paper.specs.Legal.{bytes_in}
use Rattle.laws.specs.Sources.{second_source}
use Rattle.words.specs.Operations.{plain_is}
use Rattle.words.specs.Words.{to_word}
use Rattle.execute.specs.Readable.{not_source, float_registers, legal-floats}
use Rattle.execute.specs.Floats.{second_told}
use Rattle.execute.proofs.floats.float_second.Goals as goal

pub floats_of-requires : goal.floats_of-requires
floats_of-requires c =
    let p = plain_is c.args.p in
    let w = to_word c.args.w in
    let two = sym c.reads_two.ensures ∙ c.if-reads_two.true in
    let direct = not_source p w (float_registers p w c.requires.0) src1 (second_source p two) in
    (legal-floats p w c.requires.0 src1 (second_source p two), c.requires.1, c.told-registers ∙ ap bytes_in (sym direct), direct)

pub returns-then-reads_two : goal.returns-then-reads_two
returns-then-reads_two c = second_told _ _ _ _ _ _ c.floats_of.ensures
