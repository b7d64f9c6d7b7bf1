-- A kernel of long words in its bytes: instruction n is the sixteen bytes from 16 × n on. Assumes nothing.
use Rattle.std.specs.Prelude.{◌≡◌, length}
use Rattle.std.proofs.lemmas.Bool.{false≢true}
use mathlib.Core.List.{List, [], ◌∷◌}
use Rattle.std.proofs.Math.Option.{none, some}
use Rattle.std.proofs.Math.Path.{refl, ap}
use Rattle.std.proofs.Common.{sym, ◌∙◌}
use Prim.Native.Nat.{ℕ, zero, suc, ◌+◌, ◌*◌, ◌/◌, ◌<◌, ◌≤◌}
use native.Mathlib.Omega.{arith}
use Rattle.std.proofs.Math.ListN.{get_elem?}
use Rattle.paper.specs.Bits.{number_at}
use Rattle.paper.specs.Dictionary.{Dictionary}
use Rattle.paper.specs.Kernel.{Instr, long_only, passed, judge_at}
use Rattle.laws.specs.Names.{AllLong}
use Rattle.laws.specs.Judged.{Passed, as_long, as_short, judge_passed}
use Rattle.kernel.specs.Standing.{Stands}
use Rattle.kernel.specs.Jumps.{instr_of}

module _ (D : Dictionary) (kernel : List ℕ) where
  -- An instruction that passes as a long word is the sixteen bytes at its offset.
  long_word : (from size w : ℕ) → from < length kernel → judge_at long_only D kernel from ≡ passed size w
      → (size ≡ 2) × (w ≡ number_at kernel from 16) × (from + 16 ≤ length kernel)
  long_word from size w inside e = go (judge_passed long_only D kernel from inside size w e)
    where
      go : {size w : ℕ} → Passed long_only D kernel from size w → (size ≡ 2) × (w ≡ number_at kernel from 16) × (from + 16 ≤ length kernel)
      go (as_long room form listed legal) = (refl, refl, room)
      go (as_short room form listed plain takes legal) = absurd (false≢true takes)

  -- So all are long.
  pub stands_long : (from : ℕ) (k : List Instr) → Stands long_only D kernel from k → AllLong k
  unfolding Stands AllLong
  stands_long from [] s = tt
  stands_long from (i ∷ k) s = ((long_word from i.size i.word s.0 s.2).0, stands_long (from + 8 * i.size) k s.3)

  -- Instruction n, where there are bytes for it,
  pub stands_at : (from : ℕ) (k : List Instr) → Stands long_only D kernel from k → (n : ℕ) → from + 16 * n < length kernel
      → (from + 16 * n + 16 ≤ length kernel) × (get_elem? k n ≡ some (instr_of (from / 8 + 2 * n) 2 (number_at kernel (from + 16 * n) 16)))
  unfolding Stands
  stands_at from [] s n h = absurd (omega (arith, s))
  stands_at from (i ∷ k) s zero h =
      let l = long_word from i.size i.word s.0 s.2 in
      let same : from + 16 * 0 ≡ from = omega arith in
      let place : i.place ≡ from / 8 + 2 * 0 = s.1 ∙ omega arith in
      (omega (arith, l.2), ap some (λ x. record { place = place x; size = l.0 x; word = (l.1 ∙ ap (λ (y : ℕ). number_at kernel y 16) (sym same)) x }))
  stands_at from (i ∷ k) s (suc n) h =
      let l = long_word from i.size i.word s.0 s.2 in
      let next : from + 8 * i.size + 16 * n ≡ from + 16 * suc n = omega (arith, l.0) in
      let place : (from + 8 * i.size) / 8 + 2 * n ≡ from / 8 + 2 * suc n = omega (arith, l.0) in
      let r = stands_at (from + 8 * i.size) k s.3 n (omega arith) in
      (omega (arith, r.0), r.1 ∙ ap some (λ x. record { place = place x; size = 2; word = number_at kernel (next x) 16 }))

  -- and none past the end.
  pub stands_none : (from : ℕ) (k : List Instr) → Stands long_only D kernel from k → (n : ℕ) → length kernel ≤ from + 16 * n → get_elem? k n ≡ none
  unfolding Stands
  stands_none from [] s n h = refl
  stands_none from (i ∷ k) s zero h = absurd (omega (arith, s.0))
  stands_none from (i ∷ k) s (suc n) h =
      let l = long_word from i.size i.word s.0 s.2 in stands_none (from + 8 * i.size) k s.3 n (omega (arith, l.0))
