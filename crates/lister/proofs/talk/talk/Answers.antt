-- The first bytes of an input stand for all of it.
use Rattle.std.proofs.Common.{List, ℕ, arith}
use Rattle.std.specs.Io.KnownBytes.{Appends}
use Rattle.front.specs.Streams.{AppendsPart}
use Rattle.front.proofs.Said.{on_ok, on_err, of_err, known_by, all_unasked}
use Rattle.lister.specs.Shown.{input_shown, shown_input_cut}
use Rattle.lister.proofs.talk.talk.Goals as goal

pub returns-in_err-n-clause-err : goal.returns-in_err-n-clause-err
returns-in_err-n-clause-err g c = of_err _ (all_unasked (g.R.Read.remaining c.args.reader.now) (g.W.Write.contents c.args.writer.now) input_shown)

pub returns-clause-ok : goal.returns-clause-ok
returns-clause-ok g c =
    let A : List ℕ → Type 0 = λ (w : List ℕ). Appends (g.W.Write.contents c.args.writer.now) (g.W.Write.contents c.put_shown.new.writer) w in
    on_ok _ (known_by input_shown 66049 shown_input_cut _ A _ _ (omega (arith, c.read_full.auto.bytes)) c.in_ok-n.ensures.first) c.put_shown.ensures.ok

pub returns-clause-err : goal.returns-clause-err
returns-clause-err g c =
    let A : List ℕ → Type 0 = λ (w : List ℕ). AppendsPart (g.W.Write.contents c.args.writer.now) (g.W.Write.contents c.put_shown.new.writer) w in
    on_err _ (known_by input_shown 66049 shown_input_cut _ A _ _ (omega (arith, c.read_full.auto.bytes)) c.in_ok-n.ensures.first) c.put_shown.ensures.err
