-- cmp's flag is made of its result's lowest bit; what the others leave is what was there. Assumes nothing.
use native.Mathlib.Omega.{arith}
use Rattle.words.specs.Words.{to_word}
use Rattle.execute.specs.Stores.{flags_kept}
use Rattle.execute.specs.Readable.{legal-count, legal-channels}
use Rattle.execute.specs.Effects.{flag_made}
use Rattle.execute.specs.Single.{lowest_alone}
use Rattle.execute.proofs.compare.flags_of_one.Goals as goal

pub compared-requires : goal.compared-requires
compared-requires c = (legal-count _ _ c.requires.0, legal-channels _ _ c.requires.0, omega arith)

pub returns-then-compares : goal.returns-then-compares
unfolding flag_made
returns-then-compares c =
    rw (← c.compares.ensures, c.if-compares.true) (c.compared.ensures _ (lowest_alone (to_word c.args.w) c.args.v c.requires.1))

pub returns-else-compares : goal.returns-else-compares
unfolding flag_made
returns-else-compares c = rw (← c.compares.ensures, c.if-compares.false) (flags_kept (to_word c.args.w) c.args.flags)
