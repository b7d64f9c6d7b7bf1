-- One channel has ExecSize code 0; a0 stays. Assumes nothing.
use Rattle.words.specs.Words.{to_word}
use Rattle.words.specs.Operations.{plain_is}
use Rattle.lanes.specs.Masks.{awake_list}
use Rattle.execute.specs.Stores.{store_of}
use Rattle.execute.specs.Readable.{not-destination}
use Rattle.execute.proofs.Executed.{addresses_still}
use Rattle.execute.proofs.execute.execute.Goals as goal

pub returns-then-exec_size-eq0 : goal.returns-then-exec_size-eq0
returns-then-exec_size-eq0 c =
    let p = plain_is c.args.p in
    let w = to_word c.args.w in
    record { by_index = λ addresses. (c.execute_one.ensures.by_index addresses, addresses_still p w (awake_list c.args.awake) (store_of c.args.registers.now c.args.flags addresses) (not-destination p w c.requires.1)); by_index_2 = c.execute_one.ensures.by_index_2 }

pub returns-else-exec_size-eq0 : goal.returns-else-exec_size-eq0
returns-else-exec_size-eq0 c =
    let p = plain_is c.args.p in
    let w = to_word c.args.w in
    record { by_index = λ addresses. (c.execute_many.ensures.by_index addresses, addresses_still p w (awake_list c.args.awake) (store_of c.args.registers.now c.args.flags addresses) (not-destination p w c.requires.1)); by_index_2 = c.execute_many.ensures.by_index_2 }
