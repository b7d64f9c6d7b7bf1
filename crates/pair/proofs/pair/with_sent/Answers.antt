-- What is said of the sent kernel refuses it, or it is compared. Assumes nothing.
use mathlib.Core.Bool.{true, false}
use Rattle.packer.specs.Forms.{kernel_of}
use Rattle.pair.specs.Answers.{said_bad, said_good, said_taken, said_count, sent_bad, sent_good}
use Rattle.pair.proofs.pair.with_sent.Goals as goal

pub compare-requires : goal.compare-requires
compare-requires c =
    let d = c.args.dictionary.now in
    let sent = c.args.sent.now in
    let says = c.accept.ensures in
    let e = c.in-Ok.is in
    record { taken = (c.requires.0, said_taken false d sent _ _ says _ e); ours_value = (c.requires.1, said_count false d sent _ _ says _ e) }

pub returns-in-Ok : goal.returns-in-Ok
returns-in-Ok c =
    let d = c.args.dictionary.now in
    let long = c.args.long.now in
    let sent = c.args.sent.now in
    let e = said_good false d sent _ _ c.accept.ensures _ c.in-Ok.is in
    sent_good d long sent (kernel_of true d long) (kernel_of false d sent) e _ c.compare.ensures

pub returns-in-Err : goal.returns-in-Err
returns-in-Err c =
    let d = c.args.dictionary.now in
    let long = c.args.long.now in
    let sent = c.args.sent.now in
    sent_bad d long sent (kernel_of true d long) _ _ (said_bad false d sent _ _ c.accept.ensures _ c.in-Err.is).0
