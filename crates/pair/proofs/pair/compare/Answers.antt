-- The first difference is the end of both, or it is not. Assumes nothing.
use mathlib.Core.Bool.{true, false}
use Rattle.packer.specs.Forms.{kernel_of}
use Rattle.pair.specs.Answers.{compared_longer, compared_shorter, compared_whole}
use Rattle.pair.proofs.pair.compare.Goals as goal
use Rattle.pair.proofs.pair.compare.Goals.{then-same-ours-via-then-same-ours, then-same-ours-via-else-same-ours+then-same-theirs}

pub place_long-requires : goal.place_long-requires
place_long-requires c = c.requires.taken.1

pub common-same-requires : goal.common-same-requires
common-same-requires c = record { taken = c.requires.taken; placed = c.place_long.ensures }

pub returns-then-same-ours : goal.returns-then-same-ours
returns-then-same-ours c =
    let d = c.args.dictionary.now in
    let long = c.args.long.now in
    let sent = c.args.sent.now in
    let k = kernel_of true d long in
    let l = kernel_of false d sent in
    let ours = c.requires.ours_value.0 in
    let theirs = c.requires.ours_value.1 in
    elim c.then-same-ours.branch [
      | then-same-ours-via-then-same-ours w ↦ compared_longer long sent k l c.args.ours c.args.theirs ours theirs _ c.common-same.ensures w.if-same-ours.true
      | then-same-ours-via-else-same-ours+then-same-theirs w ↦
          compared_shorter long sent k l c.args.ours c.args.theirs ours theirs _ c.common-same.ensures w.if-same-ours.false w.if-same-theirs.true
    ]

pub returns : goal.returns
returns c =
    let d = c.args.dictionary.now in
    let long = c.args.long.now in
    let sent = c.args.sent.now in
    rw c.accepted.ensures (compared_whole long sent (kernel_of true d long) (kernel_of false d sent) c.args.ours c.args.theirs c.requires.ours_value.0 c.requires.ours_value.1 _ c.common-same.ensures c.if-same-ours.false c.if-same-theirs.false)
