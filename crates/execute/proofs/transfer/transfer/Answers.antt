-- The masks, results and stores are those of which the effect consists (`Executed`). Assumes nothing.
use Rattle.paper.specs.Word.{src0, src_is_a0}
use Rattle.paper.specs.Operation.{Plain}
use Rattle.paper.specs.Effect.{file_in}
use mathlib.Core.Path.{refl}
use Rattle.words.specs.Words.{to_word}
use Rattle.lanes.specs.Masks.{awake_list, quarter_mask}
use Rattle.execute.specs.Stores.{store_of}
use Rattle.execute.specs.Readable.{legal_writable}
use Rattle.execute.proofs.Executed.{Made, transferred, mov_flag0, mov_flag1}
use Rattle.execute.proofs.transfer.transfer.Goals as goal

pub write_either-requires : goal.write_either-requires
write_either-requires c =
    (legal_writable _ (to_word c.args.w) c.requires.0.acting, c.requires.1)

pub returns : goal.returns
returns c =
    let w = to_word c.args.w in
    let registers = c.args.registers.now in
    let addresses = c.args.addresses.now in
    let quarter = c.qtr_ctrl-quarter.result in
    let predicate = c.predicate_of-predicate.result in
    let made : Made Plain.mov w c.args.awake (file_in (src_is_a0 src0 w) (store_of registers c.args.flags addresses)) c.args.flags
    quarter predicate c.enable_of-enable.result (quarter_mask predicate quarter) c.quarter_mask.result c.moved.new.made =
    record {
      of_word = c.qtr_ctrl-quarter.ensures.0;
      holds = c.predicate_of-predicate.ensures;
      enables = c.enable_of-enable.ensures;
      own-holds = refl;
      own-enables = c.quarter_mask.ensures;
      makes = c.moved.ensures (quarter_mask predicate quarter);
    } in
    let st = store_of registers c.args.flags addresses in
    record { registers_after = transferred w c.args.awake registers c.args.flags addresses _ _ _ _ _ _ c.requires.0.acting made _ _ c.write_either.ensures.0 c.write_either.ensures.1; flag0_value = (mov_flag0 w (awake_list c.args.awake) st, mov_flag1 w (awake_list c.args.awake) st) }
