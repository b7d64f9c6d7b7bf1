-- What `all` answers is what the definition counts. Assumes nothing.
use mathlib.Core.Path.{refl, ◌∙◌}
use Prim.Native.Nat.{ℕ, ◌+◌}
use lib.Dec.{ltb}
use borrow.Author.Rules.{rules}
use borrow.Author.Tests.{tests}
use Rattle.std.proofs.lemmas.Iterator.{YieldsList-from_range}
use Rattle.std.proofs.lemmas.Iterator.Search.{all_from_yields_List}
use Rattle.paper.specs.Dictionary.{dictionary_of}
use Rattle.short.specs.Ranges.{all_fits}
use Rattle.short.proofs.dictionary.table_fits.Goals as goal

pub returns : goal.returns
returns c =
    all_from_yields_List (λ (i : ℕ). ltb (dictionary_of c.args.dictionary.now (c.args.base + i)) c.args.most) _ _ _ c.all.ensures.ran
    (YieldsList-from_range 0 32 32 refl refl) (λ x b q k. search (rules, tests))
    ∙ all_fits _ _ _ 32
