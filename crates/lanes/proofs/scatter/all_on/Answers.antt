-- A mask whose n low bits are those of 2^n - 1 has them all. Assumes nothing.
use mathlib.Core.Path.{◌≡◌, sym, ap, ◌∙◌}
use Prim.Native.Nat.{ℕ, ◌+◌, ◌-◌, ◌%◌, ◌^◌}
use native.Mathlib.Omega.{arith}
use lib.Dec.{eqb}
use borrow.Author.Tests.{eqb-true}
use Rattle.paper.specs.Bits.{bit, bits}
use Rattle.laws.specs.Bits.{bits_below}
use Rattle.lanes.specs.BitLaws.{bit-ones}
use Rattle.lanes.proofs.Laws.{one_shl}
use Rattle.lanes.proofs.scatter.all_on.Goals as goal

pub returns : goal.returns
returns c =
    let n = c.args.n in
    let enable = c.args.enable in
    rw (one_shl n (omega arith)) (λ e k h.
    let all : enable % 2 ^ n ≡ 2 ^ n - 1 = eqb-true _ _ e in
    let width : k + 1 + (n - k - 1) ≡ n = omega arith in
    let low : bits (enable % 2 ^ n) k 1 ≡ bits enable k 1 = rw width at (bits_below k 1 (n - k - 1) enable) in
    ap (λ (x : ℕ). eqb x 1) (sym low) ∙ ap (λ (m : ℕ). bit m k) all ∙ bit-ones n k h)
