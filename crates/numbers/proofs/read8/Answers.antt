-- The eight bytes as the library puts them together.
use Rattle.std.proofs.Common.{◌≡◌, ◌+◌, arith}
use Rattle.numbers.specs.Bytes.{four_read, parts_read}
use Rattle.numbers.proofs.read8.Goals as goal

pub returns : goal.returns
returns c =
    let b = c.args.bytes.now in
    let f = c.args.from in
    let p : f + 4 + 1 ≡ f + 5 = omega arith in
    let q : f + 4 + 2 ≡ f + 6 = omega arith in
    let r : f + 4 + 3 ≡ f + 7 = omega arith in
    omega (arith, parts_read b f 4 4 (omega arith), four_read b f, rw (p, q, r) at (four_read b (f + 4)), c.from_le_bytes.ensures)
