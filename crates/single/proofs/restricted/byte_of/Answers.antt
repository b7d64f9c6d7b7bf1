-- The arms of the match are the four powers of 256; past them nothing is left of 32 bits. Assumes nothing.
use Rattle.std.proofs.Common.{◌≡◌, ℕ, ◌*◌, ◌%◌, ◌^◌, ◌<◌, ◌≤◌, sym, ap, arith, pow_mono, rules}
use native.Mathlib.Nat.{div-eq_of_lt}
use Rattle.paper.specs.Bits.{bits}
use Rattle.single.proofs.restricted.byte_of.Goals as goal

past : (x n : ℕ) → x < 2 ^ 32 → 4 ≤ n → bits x (8 * n) 8 ≡ 0
past x n h far =
    let more : 2 ^ 32 ≤ 2 ^ (8 * n) = pow_mono {i = 32} {j = 8 * n} (omega arith) in
    ap (λ (q : ℕ). q % 256) (div-eq_of_lt (omega arith))

pub returns-in_default : goal.returns-in_default
returns-in_default c =
    let a = c.args in
    let r = c.in_default.in_default-own.rest in
    let far : 4 ≤ a.channel = omega (arith, r.1, r.0.1, r.0.0.1, r.0.0.0.1) in
    sym (past a.immediate a.channel (search rules) far)
