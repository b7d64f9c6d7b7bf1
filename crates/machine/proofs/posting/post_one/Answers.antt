-- The test is the choice of the contract. Assumes nothing.
use mathlib.Core.Path.{sym, ap, ◌∙◌}
use Prim.Native.Nat.{ℕ, ◌^◌}
use native.Mathlib.Omega.{arith}
use lib.ListN.{get_or}
use lib.Pow.{pow_mono}
use Rattle.paper.specs.Bits.{bit}
use Rattle.machine.specs.Together.{or_either, one_channel}
use Rattle.machine.proofs.posting.post_one.Goals as goal

pub returns-then-bit : goal.returns-then-bit
returns-then-bit c =
    let a = c.args in
    rw (
      ap (λ (x : ℕ). bit x a.n) (sym c.from.ensures) ∙ sym c.bit.ensures ∙ c.if-bit.true,
      one_channel a.n c.requires.0,
      or_either (get_or a.here.now a.place 0) (2 ^ a.n) (omega arith) (omega (arith, pow_mono {i = a.n} {j = 15} (omega (arith, c.requires.0)))),
    )
