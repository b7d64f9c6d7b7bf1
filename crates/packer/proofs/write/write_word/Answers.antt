-- Eight bytes or sixteen, stored inside the output. Assumes nothing.
use mathlib.Core.Path.{ap, ◌∙◌}
use native.Mathlib.Omega.{arith}
use Rattle.paper.specs.Packing.{places_taken}
use Rattle.words.specs.Bytes.{inside_put}
use Rattle.packer.specs.Forms.{recalled-none, recalled-some}
use Rattle.packer.proofs.write.write_word.Goals as goal

pub write16-requires : goal.write16-requires
write16-requires c =
    let p = ap places_taken (recalled-none _ c.if-short-eq0.true) in
    omega (arith, p, c.requires)

pub write-requires : goal.write-requires
write-requires c =
    let p = ap places_taken (recalled-some _ c.if-short-eq0.false) in
    omega (arith, p, c.requires)

pub returns-then-short-eq0 : goal.returns-then-short-eq0
returns-then-short-eq0 c =
    let e = recalled-none _ c.if-short-eq0.true in
    let p = ap places_taken e in
    rw e (c.write16.ensures ∙ inside_put 16 _ _ _ (omega (arith, p, c.requires)))

pub returns-else-short-eq0 : goal.returns-else-short-eq0
returns-else-short-eq0 c =
    let e = recalled-some _ c.if-short-eq0.false in
    let p = ap places_taken e in
    rw e (c.write.ensures ∙ inside_put 8 _ _ _ (omega (arith, p, c.requires)))
