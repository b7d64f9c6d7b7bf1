-- What passed under the limits before they were raised is answered as it was: each law of Longer, through the contract of its call. Assumes nothing.
use Rattle.std.proofs.Common.{ap, ◌∙◌, subst, arith}
use Rattle.paper.specs.Calls.{as_number, Written, Changed}
use Rattle.contracts.specs.Contracts.{Wrote, Left}
use Rattle.laws.specs.Longer.{bytes_before, instructions_before, check_same, pack_same, unpack_same, decode_same, step_same, run-same}
use Rattle.promises.specs.Before.{StillAnswered}

pub still_answered : StillAnswered
still_answered =
    record {
      check = λ dictionary kernel s r p. p ∙ ap as_number (check_same bytes_before instructions_before (omega arith) (omega arith) dictionary kernel s);
      pack = λ dictionary kernel out s r out' p.
          subst (λ (w : Written). Wrote w r out') (pack_same bytes_before instructions_before (omega arith) (omega arith) dictionary kernel out s) p;
      unpack = λ dictionary kernel out s r out' p.
          subst (λ (w : Written). Wrote w r out') (unpack_same bytes_before instructions_before (omega arith) (omega arith) dictionary kernel s out) p;
      decode = λ dictionary kernel place s r p.
          p ∙ ap as_number (decode_same bytes_before instructions_before (omega arith) (omega arith) dictionary kernel place s);
      step = λ dictionary kernel registers state s r registers' state' p.
          subst (λ (c : Changed). Left c r registers' state')
          (step_same bytes_before instructions_before (omega arith) (omega arith) dictionary kernel s registers state) p;
      run = λ dictionary kernel budget registers state s r registers' state' p.
          subst (λ (c : Changed). Left c r registers' state')
          (run-same bytes_before instructions_before (omega arith) (omega arith) dictionary kernel s budget registers state) p;
    }
