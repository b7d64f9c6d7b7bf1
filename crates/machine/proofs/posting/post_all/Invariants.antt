-- The loop's invariant: the channels passed are posted. Its measure: the channels left. Assumes nothing.
use mathlib.Core.Path.{◌≡◌}
use Prim.Native.Nat.{ℕ, ◌≤◌, ◌<◌}
use lib.ListN.{length, get_or}
use Rattle.machine.specs.Posting.{PostedTo}
use Rattle.machine.proofs.posting.post_all.Given as goal

abbrev pub invariant-loop-n : goal.invariant-loop-n
invariant-loop-n l = (l.n ≤ 16) × (length l.here ≡ length l.initial.here) × ((p : ℕ) → get_or l.here p 0 < 65536) × PostedTo l.c l.n l.here
