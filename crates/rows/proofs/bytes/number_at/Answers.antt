-- A turn puts the byte before what was read below it. Assumes nothing.
use Rattle.std.proofs.Common.{◌≡◌, ℕ, ◌+◌, ◌-◌, get_or, ap, ◌∙◌, arith}
use Rattle.std.proofs.Math.Nat.{pow-le-pow_right}
use Rattle.rows.specs.Room.{all_there, read_there, read_none}
use Rattle.rows.proofs.Numbers.{none_read, read_step, worth_step}
use Rattle.rows.proofs.bytes.number_at.Goals as goal

pub returns-then-not-has_room : goal.returns-then-not-has_room
returns-then-not-has_room g c = read_none _ _ _ _ c.has_room.ensures c.if-not-has_room.true

pub loop-i-init : goal.loop-i-init
loop-i-init g c = (none_read _ _, omega arith)

pub overflow_mul-v : goal.overflow_mul-v
overflow_mul-v g c = omega (arith, pow-le-pow_right {n = 256} (omega arith) {i = c.loop-i.i} {j = 7} (omega arith))

pub overflow_add-at : goal.overflow_add-at
overflow_add-at g c = omega (arith, all_there _ _ _ _ c.has_room.ensures c.if-not-has_room.false)

pub bounds-bytes-at : goal.bounds-bytes-at
bounds-bytes-at g c = omega (arith, all_there _ _ _ _ c.has_room.ensures c.if-not-has_room.false)

pub overflow_add-v : goal.overflow_add-v
overflow_add-v g c = omega (arith, pow-le-pow_right {n = 256} (omega arith) {i = c.loop-i.i} {j = 7} (omega arith), c.type_inv.bytes (c.args.at + (g.row.SIZE - 1 - c.loop-i.i)))

pub loop-i-preserved : goal.loop-i-preserved
loop-i-preserved g c =
    let m : g.row.SIZE - 1 - c.loop-i.i ≡ g.row.SIZE - (c.loop-i.i + 1) = omega arith in
    let e = c.from.ensures ∙ ap (λ (k : ℕ). get_or c.args.bytes.now (c.args.at + k) 0) m in
    (read_step _ _ _ _ _ _ _ (omega arith) e c.loop-i.invariant.0, worth_step _ _ _ c.loop-i.invariant.1 (omega (arith, c.type_inv.bytes (c.args.at + (g.row.SIZE - 1 - c.loop-i.i)))))

pub returns : goal.returns
returns g c =
    let l = c.loop-i in
    let e : l.i ≡ g.row.SIZE = omega arith in
    let z : c.args.at + (g.row.SIZE - l.i) ≡ c.args.at = omega arith in
    read_there _ _ _ _ c.has_room.ensures c.if-not-has_room.false _ (rw (z, e) at l.invariant.0)
