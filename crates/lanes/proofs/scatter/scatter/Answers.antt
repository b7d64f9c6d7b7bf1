-- A mask that enables all channels has the bits of one that has every bit. Assumes nothing.
use mathlib.Core.Path.{refl, sym, ◌∙◌}
use native.Mathlib.Omega.{arith}
use Rattle.laws.specs.Scatter.{scattered_same}
use Rattle.lanes.specs.BitLaws.{bit-ones}
use Rattle.lanes.proofs.scatter.scatter.Goals as goal

pub returns-then-is_whole : goal.returns-then-is_whole
returns-then-is_whole c =
    let plain = c.is_whole.ensures c.if-is_whole.true in
    rw plain.0 (c.lay_sized.ensures
    ∙ scattered_same _ _ _ _ _ _ _ _ (λ k h. bit-ones 64 k (omega (arith, c.requires.size.1)) ∙ sym (plain.1 k h)) (λ k h. refl))
