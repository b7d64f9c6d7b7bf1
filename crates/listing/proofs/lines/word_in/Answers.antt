-- Four dwords, in halves. Assumes nothing.
use Rattle.listing.specs.Reading.{word_halves}
use Rattle.listing.proofs.lines.word_in.Goals as goal

pub returns : goal.returns
returns c =
    let a = c.args in
    word_halves a.text.now a.from _ _ _ _ c.digits_at-a.ensures.0 c.digits_at-b.ensures.0 c.digits_at-c.ensures.0 c.digits_at-d.ensures.0
