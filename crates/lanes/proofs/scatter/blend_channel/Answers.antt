-- What is stored is the value, or what stands there, which changes nothing. Assumes nothing.
-- A store of one of two numbers is one of two stores.
use mathlib.Core.Path.{◌≡◌, refl, sym, ◌∙◌, ap}
use mathlib.Core.Bool.{Bool, true, false, cond}
use mathlib.Core.List.{List}
use Prim.Native.Nat.{ℕ, ◌<◌}
use lib.ListN.{get_or}
use Rattle.paper.specs.Bits.{bit, put_at, number_at}
use Rattle.laws.specs.Scatter.{put_at-number_at}
use Rattle.lanes.proofs.scatter.blend_channel.Goals as goal
use Rattle.lanes.proofs.scatter.blend_channel.Goals.{then-on, else-on}

blended : (l : List ℕ) (from size v : ℕ) (on : Bool) → ((i : ℕ) → get_or l i 0 < 256)
    → put_at l from size (cond on v (number_at l from size)) ≡ cond on (put_at l from size v) l
blended l from size v true bytes = refl
blended l from size v false bytes = put_at-number_at size l from bytes

pub returns : goal.returns
returns c =
    let a = c.args in
    let value : c.if-on.write_element ≡ cond (bit a.enable a.k) a.v (number_at a.registers.now a.from a.size) =
    elim c.if-on.branch [
      | then-on w ↦ (let on : bit a.enable a.k ≡ true = sym c.bit-on.ensures ∙ w.if-on.true in rw on w.write_element-is)
      | else-on w ↦ (let off : bit a.enable a.k ≡ false = sym c.bit-on.ensures ∙ w.if-on.false in rw off (w.write_element-is ∙ c.read_element-old.ensures))
    ] in
    c.write_element.ensures ∙ ap (put_at a.registers.now a.from a.size) value
    ∙ blended a.registers.now a.from a.size a.v (bit a.enable a.k) (λ i. (c.slice_known-1.given i).fits)
