-- Each float is read where it stands. Assumes nothing.
use Rattle.paper.specs.Placing.{placement_of}
use Rattle.placement.proofs.calls.record_of.Goals as goal

pub returns : goal.returns
unfolding placement_of
returns c = λ i. record {
  a = c.float_at-a.ensures i;
  b = c.float_at-b.ensures i;
  c = c.float_at-c.ensures i;
  d = c.float_at-d.ensures i;
  e = c.float_at-e.ensures i;
  f = c.float_at-f.ensures i;
}
