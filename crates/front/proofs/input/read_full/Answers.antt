-- Each read adds what it took to what was read before.
use Rattle.std.proofs.Common.{rules, arith, ◌+◌, ◌-◌, ◌++◌, length, take, sym, ap, ◌∙◌, subst, le_refl}
use Rattle.std.proofs.lemmas.Slice.{take-put_mid_below}
use Rattle.std.specs.Io.KnownBytes.{Consumes}
use Rattle.std.proofs.KnownBytes.{Consumes-trans}
use borrow.Rule.Slice.PartMut.{put_mid}
use Rattle.front.proofs.Reading.{take_split, slice_range-put_mid}
use Rattle.front.proofs.input.read_full.Goals as goal

pub loop-at-preserved : goal.loop-at-preserved
loop-at-preserved g c =
    let from = c.loop-at.at in
    let room = length c.loop-at.bytes - from in
    let within = c.loop-at.invariant.1 in
    let part = slice_range-put_mid from room c.in_ok-n.n c.loop-at.bytes c.read.new.buf within c.in_ok-n.ensures.bound.0 in
    let joined = take_split from (from + c.in_ok-n.n) c.loop-at.bytes (put_mid from room c.loop-at.bytes c.read.new.buf) (omega arith) (take-put_mid_below _ _ _ _ _ (le_refl _) within) in
    (search rules, search rules, subst (Consumes _ _) (ap (λ l. take from c.loop-at.bytes ++ l) (sym part) ∙ joined) (Consumes-trans _ _ _ _ _ c.loop-at.invariant.2 c.in_ok-n.ensures.bytes.0))
