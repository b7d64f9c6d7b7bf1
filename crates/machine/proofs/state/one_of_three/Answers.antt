-- The branches are those of the definition, with the bits read from the two masks. Assumes nothing.
use mathlib.Core.Path.{◌≡◌, sym, ap, ◌∙◌}
use mathlib.Core.Bool.{true, false}
use Prim.Native.Nat.{ℕ}
use Rattle.paper.specs.Bits.{bit}
use Rattle.paper.specs.State.{waiting_bit, one_of_three}
use Rattle.machine.proofs.state.one_of_three.Goals as goal

pub returns-then-bit : goal.returns-then-bit
unfolding one_of_three
returns-then-bit c =
    let a = c.args in
    let w : waiting_bit a.bytes.now a.n ≡ true =
    sym (c.bit.ensures ∙ ap (λ (x : ℕ). bit x a.n) c.read2-waiting.ensures.0) ∙ c.if-bit.true in
    rw (w, c.bit-then-bit.ensures, c.read2-awake.ensures.0)

pub returns-else-bit : goal.returns-else-bit
unfolding one_of_three
returns-else-bit c =
    let a = c.args in
    let w : waiting_bit a.bytes.now a.n ≡ false =
    sym (c.bit.ensures ∙ ap (λ (x : ℕ). bit x a.n) c.read2-waiting.ensures.0) ∙ c.if-bit.false in
    rw (w, c.read2.ensures.0)
