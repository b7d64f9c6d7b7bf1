-- The stages one after the other: patterns, results, what is stored. Assumes nothing.
use mathlib.Core.Path.{sym, ap, ◌∙◌}
use Rattle.paper.specs.Word.{src0}
use Rattle.paper.specs.Legal.{bytes_in}
use Rattle.laws.specs.Sources.{first_source}
use Rattle.words.specs.Operations.{plain_is}
use Rattle.words.specs.Words.{to_word}
use Rattle.execute.specs.Readable.{legal-count, not_source, float_registers, legal-floats}
use Rattle.execute.specs.Floats.{floats_made}
use Rattle.execute.proofs.floats.float_results.Goals as goal

pub channels-n-requires : goal.channels-n-requires
channels-n-requires c = legal-count _ _ c.requires.acting

pub floats_of-requires : goal.floats_of-requires
floats_of-requires c =
    let p = plain_is c.args.p in
    let w = to_word c.args.w in
    let direct = not_source p w (float_registers p w c.requires) src0 (first_source p) in
    (legal-floats p w c.requires src0 (first_source p), c.channels-n.ensures.0, c.told-registers ∙ ap bytes_in (sym direct), direct)

pub returns : goal.returns
returns c =
    floats_made (plain_is c.args.p) (to_word c.args.w) c.requires c.args.registers.now _ _ _ _ c.floats_of.ensures c.float_second.ensures _ _
    c.channels-n.ensures.0 c.cond_modifier.ensures.0 c.reckon_all.ensures
