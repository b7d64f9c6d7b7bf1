-- What is returned is the first index, of which there is only one. Assumes nothing.
use native.Mathlib.Omega.{arith}
use mathlib.Core.Path.{◌≡◌}
use Prim.Native.Nat.{ℕ, ◌+◌, ◌^◌}
use borrow.Author.Rules.{rules}
use borrow.Author.Count.{below_more}
use Rattle.paper.specs.Dictionary.{dictionary_of}
use Rattle.short.proofs.Shortening.{index_found, index_none}
use Rattle.short.proofs.shorten.walked_index.Goals as goal

pub loop-i-init : goal.loop-i-init
loop-i-init c = λ k h e. absurd (omega arith)

pub returns-then-number-modulus : goal.returns-then-number-modulus
returns-then-number-modulus c = index_found _ _ _ _ (search rules) c.loop-i.invariant (cc)

pub loop-i-preserved : goal.loop-i-preserved
loop-i-preserved c = below_more _ _ c.loop-i.invariant (λ e. c.if-number-modulus.false (cc))

pub returns : goal.returns
returns c =
    let all : c.loop-i.i ≡ 32 = omega (arith, c.loop-i.auto.i-end, c.loop-i-test.false) in
    index_none (λ (i : ℕ). dictionary_of c.args.dictionary.now (c.args.base + i)) (2 ^ c.args.width) c.args.key (rw all at c.loop-i.invariant)
