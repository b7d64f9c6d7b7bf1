-- The masks, the result, registers and flags that are made are those of which the effect consists (`Executed`). Assumes nothing.
-- The word can be executed.
use mathlib.Core.Path.{sym, ap, ◌∙◌}
use Rattle.paper.specs.Word.{src0}
use Rattle.paper.specs.Legal.{bytes_in}
use Rattle.laws.specs.Sources.{first_source}
use Rattle.words.specs.Words.{to_word}
use Rattle.words.specs.Operations.{plain_is}
use Rattle.operands.specs.Single.{alone}
use Rattle.execute.specs.Readable.{not-destination, not_source, legal_writable}
use Rattle.execute.proofs.Executed.{Made, direct_registers, direct_flags}
use Rattle.execute.proofs.one.execute_one.Goals as goal

pub result_of-v-requires : goal.result_of-v-requires
result_of-v-requires c =
    (c.requires.0, (c.told-registers ∙ ap bytes_in (sym (not_source (plain_is c.args.p) (to_word c.args.w) c.requires.1 src0 (first_source (plain_is c.args.p))))), c.requires.2, c.requires.1)

pub store-requires : goal.store-requires
store-requires c =
    (legal_writable (plain_is c.args.p) (to_word c.args.w) c.requires.0.acting, (c.told-registers ∙ ap bytes_in (sym (not-destination (plain_is c.args.p) (to_word c.args.w) c.requires.1))), c.requires.2, not-destination (plain_is c.args.p) (to_word c.args.w) c.requires.1)

pub returns : goal.returns
returns c =
    let p = plain_is c.args.p in
    let w = to_word c.args.w in
    let registers = c.args.registers.now in
    let made : Made p w c.args.awake registers c.args.flags c.qtr_ctrl-quarter.result c.predicate_of-predicate.result c.enable_of-enable.result c.quarter_mask.result c.quarter_mask-2.result (alone c.result_of-v.result) =
    record {
      of_word = c.qtr_ctrl-quarter.ensures.0;
      holds = rw c.wide.ensures at c.predicate_of-predicate.ensures;
      enables = c.enable_of-enable.ensures;
      own-holds = c.quarter_mask.ensures;
      own-enables = c.quarter_mask-2.ensures;
      makes = c.result_of-v.ensures;
    } in record { by_index = direct_registers p w c.args.awake registers c.args.flags _ _ _ _ _ _ c.requires.0.acting c.requires.1 made _ c.store.ensures; by_index_2 = direct_flags p w c.args.awake registers c.args.flags _ _ _ _ _ _ c.requires.0.acting c.requires.1 made _ c.flags_of_one.ensures }
