-- The loop's invariant: the places passed are stored. Its measure: the places left. Assumes nothing.
use mathlib.Core.Path.{◌≡◌, refl, ap, ◌∙◌}
use mathlib.Core.List.{List}
use Prim.Native.Nat.{ℕ, ◌+◌, ◌*◌}
use native.Mathlib.Omega.{arith}
use native.Mathlib.Numerals.{add-one}
use lib.ListN.{length, get_or}
use Rattle.paper.specs.Bits.{put_at}
use Rattle.laws.specs.Scatter.{length-put_at}
use Rattle.machine.specs.States.{places_put}
use Rattle.machine.proofs.state.write_places.Goals as goal

pub loop-n-init : goal.loop-n-init
unfolding places_put
loop-n-init c = (omega arith, refl, refl)

pub loop-n-preserved : goal.loop-n-preserved
unfolding places_put
loop-n-preserved c =
    let a = c.args in
    let l = c.loop-n in
    let e = c.write.ensures in
    let n : ℕ = l.n in (
      omega arith,
      ap length e ∙ length-put_at 2 _ _ _ ∙ l.invariant.1,
      rw (add-one n) (e ∙ ap (λ (x : List ℕ). put_at x (10 + 2 * n) 2 (get_or a.places.now n 0)) l.invariant.2),
    )

pub returns : goal.returns
returns c =
    let e : c.loop-n.n ≡ 16 = omega arith in
    rw e at c.loop-n.invariant.2
