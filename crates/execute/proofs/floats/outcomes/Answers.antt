-- The loop's invariant: the mask has the bits of the results passed. Assumes nothing.
use Prim.Native.Nat.{ℕ, ◌+◌}
use Rattle.execute.specs.Compared.{lowest_bits, lowest_more, lowest_less}
use mathlib.Core.Path.{◌≡◌, refl}
use native.Mathlib.Omega.{arith}
use Rattle.paper.specs.Enable.{of_bits}
use Rattle.execute.proofs.floats.outcomes.Goals as goal

pub loop-k-init : goal.loop-k-init
unfolding lowest_bits of_bits
loop-k-init c = refl

pub overflow_add-mask : goal.overflow_add-mask
overflow_add-mask c =
    let results = c.args.results.now in
    let k : ℕ = c.loop-k.k in
    rw (c.loop-k.invariant, c.from.ensures, lowest_more results k (omega arith)) (omega (arith, lowest_less results (k + 1) (omega arith)))

pub loop-k-preserved : goal.loop-k-preserved
loop-k-preserved c = rw (c.loop-k.invariant, c.from.ensures) (lowest_more c.args.results.now c.loop-k.k (omega arith))

pub returns : goal.returns
returns c =
    let results = c.args.results.now in
    let e : c.loop-k.k ≡ c.args.n = omega arith in
    let made = rw e at c.loop-k.invariant in
    (made, rw made (lowest_less results c.args.n (omega arith)))
