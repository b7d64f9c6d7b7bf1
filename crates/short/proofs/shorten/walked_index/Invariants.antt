-- The loop's invariant: at no index passed is the number the key. Assumes nothing.
use mathlib.Core.Path.{◌≡◌}
use Prim.Native.Nat.{ℕ, ◌+◌, ◌<◌, ◌%◌, ◌^◌}
use Rattle.paper.specs.Dictionary.{dictionary_of}
use Rattle.short.proofs.shorten.walked_index.Given as goal

abbrev pub invariant-loop-i : goal.invariant-loop-i
invariant-loop-i l = (k : ℕ) → k < l.i → dictionary_of l.dictionary (l.base + k) % 2 ^ l.width ≡ l.key → ⊥
