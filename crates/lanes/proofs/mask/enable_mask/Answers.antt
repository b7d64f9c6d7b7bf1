-- The `&` of two numbers made of bits is made of the bits that both have. Assumes nothing.
use mathlib.Core.Path.{refl}
use Rattle.lanes.specs.MaskLaws.{enable_mask_less, unmasked_passed}
use Rattle.lanes.proofs.mask.enable_mask.Goals as goal

pub returns : goal.returns
returns c =
    let a = c.args in
    rw (c.unmasked.ensures, c.passed.ensures, unmasked_passed a.force a.masks a.awake a.predicate)
    (refl, enable_mask_less a.force a.masks a.awake a.predicate)
