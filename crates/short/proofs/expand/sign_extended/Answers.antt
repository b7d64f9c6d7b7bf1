-- The test is that of `extended`. Assumes nothing.
use borrow.Author.Tests.{lt-ltb, le-ltb}
use borrow.Author.Rules.{rules}
use Rattle.short.proofs.expand.sign_extended.Goals as goal

pub returns-then-v-lt4096 : goal.returns-then-v-lt4096
returns-then-v-lt4096 c = (simp (lt-ltb _ _ c.if-v-lt4096.true), search rules)

pub returns : goal.returns
returns c = (simp (le-ltb _ _ c.if-v-lt4096.false), search rules)
