-- Each write adds what it took to what was written before.
use Rattle.std.proofs.Common.{rules, List, ℕ, ◌++◌, take, sym, ap, ◌∙◌, subst}
use Rattle.std.proofs.lemmas.List.{take_rest}
use Rattle.std.specs.Io.KnownBytes.{Appends}
use Rattle.std.proofs.KnownBytes.{Appends-trans}
use lib.Seq.{take-add}
use Rattle.front.proofs.output.write_full.Goals as goal

pub loop-at-preserved : goal.loop-at-preserved
loop-at-preserved g c =
    let bytes = c.args.bytes.now in
    let from = c.loop-at.at in
    let n = c.in_ok-n.n in
    let joined = ap (λ (l : List ℕ). take from bytes ++ take n l) (take_rest bytes from) ∙ sym (take-add from n bytes) in
    (search rules, subst (Appends _ _) joined (Appends-trans _ _ _ _ _ c.loop-at.invariant.1 c.in_ok-n.ensures.bytes))
