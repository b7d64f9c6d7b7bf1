-- A turn takes one digit.
use Rattle.std.proofs.Common.{◌≡◌, ◌+◌, sym, ◌∙◌, arith}
use Rattle.std.proofs.Math.Nat.{pow-le-pow_right}
use Rattle.std.proofs.Common.{pow-suc, add-one}
use Rattle.text.specs.Hexes.{hex_step, hex_done}
use Rattle.text.proofs.read.hex_digits.Goals as goal

pub overflow_mul-v : goal.overflow_mul-v
overflow_mul-v c = omega (arith, pow-le-pow_right {n = 16} (omega arith) {i = c.loop-k.k} {j = 7} (omega arith))

pub overflow_add-v : goal.overflow_add-v
overflow_add-v c = omega (arith, c.value_at.ensures.1, pow-le-pow_right {n = 16} (omega arith) {i = c.loop-k.k} {j = 7} (omega arith))

pub loop-k-preserved : goal.loop-k-preserved
loop-k-preserved c =
    let l = c.loop-k in
    let a = c.args in
    let n : a.at + (l.k + 1) ≡ a.at + l.k + 1 = omega arith in
    (rw (n, c.value_at.ensures.0) (sym (hex_step a.s.now l.v l.k (a.at + l.k) c.loop-k-test.true) ∙ l.invariant.0), rw (add-one l.k, pow-suc) (omega (arith, c.value_at.ensures.1)))

pub returns : goal.returns
returns c = sym (hex_done _ c.loop-k.v c.loop-k.k (omega arith)) ∙ c.loop-k.invariant.0
