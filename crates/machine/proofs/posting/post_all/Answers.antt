-- The channels passed are posted. Assumes nothing.
use mathlib.Core.Path.{◌≡◌, ◌∙◌, subst}
use Prim.Native.Nat.{ℕ, ◌<◌}
use native.Mathlib.Omega.{arith}
use Rattle.machine.specs.Posting.{PostedTo, posted_one, posted_all}
use Rattle.machine.proofs.posting.post_all.Goals as goal

pub loop-n-preserved : goal.loop-n-preserved
loop-n-preserved c =
    let l = c.loop-n in
    let h : l.n < 16 = c.loop-n-test.true in
    let e = posted_one c.args.c l.n l.here _ l.invariant.3 l.invariant.2 h (λ w. rw l.invariant.1 (c.requires.2 l.n h w)) c.post_one.ensures in
    (omega arith, e.2 ∙ l.invariant.1, e.1, e.0)

pub returns : goal.returns
returns c =
    let l = c.loop-n in
    let e : l.n ≡ 16 = omega (arith, c.loop-n-test.false, l.invariant.0) in
    (posted_all c.args.c l.here c.requires.0 l.invariant.2 (subst (λ (n : ℕ). PostedTo c.args.c n l.here) e l.invariant.3), l.invariant.1)
