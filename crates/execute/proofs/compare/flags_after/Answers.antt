-- cmp's flag is made of its results' lowest bits; what the others leave is what was there. Assumes nothing.
use mathlib.Core.Path.{ap, ◌∙◌}
use Rattle.words.specs.Words.{to_word}
use Rattle.execute.specs.Stores.{flags_kept}
use Rattle.execute.specs.Readable.{legal-count, legal-channels}
use Rattle.execute.specs.Compared.{lowest_bits}
use Rattle.execute.specs.Effects.{flag_made}
use Rattle.execute.proofs.compare.flags_after.Goals as goal

pub channels-requires : goal.channels-requires
channels-requires c = legal-count _ _ c.requires

pub compared-requires : goal.compared-requires
compared-requires c = (legal-count _ _ c.requires, legal-channels _ _ c.requires, c.lowest_bits.ensures.1)

pub returns-then-compares : goal.returns-then-compares
unfolding flag_made
returns-then-compares c =
    rw (← c.compares.ensures, c.if-compares.true) (c.compared.ensures _ (c.lowest_bits.ensures.0 ∙ ap (lowest_bits _) c.channels.ensures.0))

pub returns-else-compares : goal.returns-else-compares
unfolding flag_made
returns-else-compares c = rw (← c.compares.ensures, c.if-compares.false) (flags_kept (to_word c.args.w) c.args.flags)
