-- The first bytes of an input stand for all of it.
use Rattle.std.proofs.Common.{arith}
use Rattle.std.specs.Io.KnownBytes.{Appends}
use Rattle.paper.specs.Calls.{Written}
use Rattle.front.specs.Streams.{AppendsPart}
use Rattle.front.proofs.Said.{on_ok, on_err, of_err, known_by, all_unasked}
use Rattle.restorer.specs.Restored.{output_of, errors_of, restored, restored_cut, restored_output, restored_errors}
use Rattle.restorer.proofs.restore.restore.Goals as goal

pub returns-in_err-n-clause-output_err : goal.returns-in_err-n-clause-output_err
returns-in_err-n-clause-output_err g c = of_err _ (all_unasked (g.R.Read.remaining c.args.reader.now) (g.W.Write.contents c.args.output.now) restored_output)

pub returns-clause-output : goal.returns-clause-output
returns-clause-output g c =
    let A : Written → Type 0 = λ (w : Written). Appends (g.W.Write.contents c.args.output.now) (g.W.Write.contents c.put_restored.new.output) (output_of w) in
    on_ok _ (known_by restored 287233 restored_cut _ A _ _ (omega (arith, c.read_full.auto.bytes)) c.in_ok-n.ensures.first) c.put_restored.ensures.output

pub returns-clause-output_err : goal.returns-clause-output_err
returns-clause-output_err g c =
    let A : Written → Type 0 = λ (w : Written). AppendsPart (g.W.Write.contents c.args.output.now) (g.W.Write.contents c.put_restored.new.output) (output_of w) in
    on_err _ (known_by restored 287233 restored_cut _ A _ _ (omega (arith, c.read_full.auto.bytes)) c.in_ok-n.ensures.first) c.put_restored.ensures.output_err

pub returns-in_err-n-clause-errors_err : goal.returns-in_err-n-clause-errors_err
returns-in_err-n-clause-errors_err g c = of_err _ (all_unasked (g.R.Read.remaining c.args.reader.now) (g.E.Write.contents c.args.errors.now) restored_errors)

pub returns-clause-errors : goal.returns-clause-errors
returns-clause-errors g c =
    let A : Written → Type 0 = λ (w : Written). Appends (g.E.Write.contents c.args.errors.now) (g.E.Write.contents c.put_restored.new.errors) (errors_of w) in
    on_ok _ (known_by restored 287233 restored_cut _ A _ _ (omega (arith, c.read_full.auto.bytes)) c.in_ok-n.ensures.first) c.put_restored.ensures.errors

pub returns-clause-errors_err : goal.returns-clause-errors_err
returns-clause-errors_err g c =
    let A : Written → Type 0 = λ (w : Written). AppendsPart (g.E.Write.contents c.args.errors.now) (g.E.Write.contents c.put_restored.new.errors) (errors_of w) in
    on_err _ (known_by restored 287233 restored_cut _ A _ _ (omega (arith, c.read_full.auto.bytes)) c.in_ok-n.ensures.first) c.put_restored.ensures.errors_err
