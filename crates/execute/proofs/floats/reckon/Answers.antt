-- The masks, results, registers and flags that are made are those of which the effect consists (`Executed`). Assumes nothing.
use mathlib.Core.Path.{refl, sym, ap, ◌∙◌}
use Rattle.paper.specs.Legal.{bytes_in}
use Rattle.words.specs.Operations.{plain_is}
use Rattle.words.specs.Words.{to_word}
use Rattle.lanes.specs.Masks.{awake_list, quarter_mask}
use Rattle.execute.specs.Stores.{store_of}
use Rattle.execute.specs.Readable.{legal_writable, not-destination, float_registers, float_destination}
use Rattle.execute.proofs.Executed.{Made, direct_registers, direct_flags, addresses_still}
use Rattle.execute.proofs.floats.reckon.Goals as goal

pub write_floats-requires : goal.write_floats-requires
write_floats-requires c =
    let p = plain_is c.args.p in
    let w = to_word c.args.w in
    let direct = not-destination p w (float_registers p w c.requires) in
    (legal_writable p w c.requires.acting, c.told-registers ∙ ap bytes_in (sym direct), direct, float_destination p w c.requires)

pub returns : goal.returns
returns c =
    let p = plain_is c.args.p in
    let w = to_word c.args.w in
    let registers = c.args.registers.now in
    let quarter = c.qtr_ctrl-quarter.result in
    let predicate = c.predicate_of-predicate.result in
    let made : Made p w c.args.awake registers c.args.flags quarter predicate c.enable_of-enable.result (quarter_mask predicate quarter) c.quarter_mask.result c.float_results.new.made =
    record {
      of_word = c.qtr_ctrl-quarter.ensures.0;
      holds = rw c.wide.ensures at c.predicate_of-predicate.ensures;
      enables = c.enable_of-enable.ensures;
      own-holds = refl;
      own-enables = c.quarter_mask.ensures;
      makes = c.float_results.ensures (quarter_mask predicate quarter);
    } in
    let legal = c.requires.acting in
    let none = float_registers p w c.requires in record {
      by_index = λ addresses. (
        direct_registers p w c.args.awake registers c.args.flags _ _ _ _ _ _ legal none made _ c.write_floats.ensures addresses,
        addresses_still p w (awake_list c.args.awake) (store_of registers c.args.flags addresses) (not-destination p w none),
      );
      by_index_2 = direct_flags p w c.args.awake registers c.args.flags _ _ _ _ _ _ legal none made _ c.float_flags.ensures;
    }
