-- The sources stand in the high half. Assumes nothing.
use mathlib.Core.Path.{sym, ap, ◌∙◌}
use Prim.Native.Nat.{ℕ, ◌+◌, ◌*◌, ◌^◌}
use Rattle.paper.specs.Word.{shift_of}
use Rattle.paper.specs.Address.{named_directly}
use Rattle.words.specs.Words.{source_is}
use Rattle.address.specs.Halves.{named_upper}
use borrow.Author.Rules.{rules}
use Rattle.address.proofs.direct.src_named.Goals as goal

pub returns : goal.returns
returns c =
    let a = c.args in
    ap (λ (x : ℕ). a.w.lo + x * 2 ^ 64) (c.named_in.ensures ∙ ap (λ (k : ℕ). named_directly k a.byte a.w.hi) c.shift_of.ensures.0)
    ∙ sym (named_upper a.w.lo a.w.hi (shift_of (source_is a.x)) a.byte (search rules))
