-- How long packed and unpacked kernels are; and that a kernel which is as long as long words are has long words only. Assumes nothing.
use Rattle.std.specs.Prelude.{Bool, length}
use Rattle.std.proofs.Math.Bool.{true, false, cond}
use mathlib.Core.List.{List, [], ◌∷◌, map}
use Rattle.std.proofs.Math.Path.{◌≡◌, refl, ap, subst}
use Rattle.std.proofs.Common.{sym, ◌∙◌, arith, ltb-true}
use Prim.Native.Nat.{ℕ, zero, suc, ◌+◌, ◌*◌, ◌/◌, ◌<◌, ◌≤◌}
use Rattle.std.proofs.Math.Dec.{ltb}
use Rattle.std.proofs.lemmas.List.{length-map}
use Rattle.std.proofs.Math.Pow.{are_bytes}
use Rattle.paper.specs.Limits.{instruction_limit}
use Rattle.paper.specs.Dictionary.{Dictionary, dictionary_of}
use Rattle.paper.specs.Shorten.{shorten}
use Rattle.paper.specs.Kernel.{Instr, Forms, long_and_short, long_only, Judged, refused, passed, judge_at, Parsed, bad, good, prepend, enter, walk, parse}
use Rattle.paper.specs.Jump.{next_of, end_from}
use Rattle.paper.specs.Packing.{Form, piece, relay}
use Rattle.paper.specs.Calls.{judged_kernel, accepted}
use Rattle.laws.specs.Names.{Laid, AllLong, long_form}
use Rattle.laws.specs.Judged.{Passed, as_long, as_short, judge_passed, passed_judge}
use Rattle.laws.specs.Packing.{kernel_of_lem}
use Rattle.laws.specs.Moved.{end_near}
use Rattle.laws.specs.Relay.{relay-length}
use Rattle.laws.specs.Walk.{Each}
use Rattle.laws.specs.Parse.{WordAt, good_jumps}

-- Long words only take two places each, and any take at least one.
two_each : (kernel : List ℕ) (a : ℕ) (k : List Instr) → Laid a k → Each (WordAt long_only kernel) k → end_from a k ≡ a + 2 * length k
unfolding Laid Each end_from
two_each kernel a [] l e = omega arith
two_each kernel a (i ∷ k) l e =
    let rest = two_each kernel (next_of i) k l.2 e.1 in
    let here = l.0 in
    let two = e.0.two refl in
    omega arith

one_each : (a : ℕ) (k : List Instr) → Laid a k → a + length k ≤ end_from a k
unfolding Laid end_from
one_each a [] l = omega arith
one_each a (i ∷ k) l =
    let rest = one_each (next_of i) k l.2 in
    let here = l.0 in
    let nonempty = l.1 in
    omega arith

-- A relayout takes at most two places for each instruction.
pub relay_most : (form : Form) (k : List Instr) → length (relay form k) ≤ 16 * length k
relay_most form k =
    let l = relay-length form k in
    let n = end_near 0 (map (piece form) k) in
    let m = length-map k (piece form) in
    omega arith

-- What packing makes of an accepted kernel of long words is at most as long as the kernel,
pub pack_most : (dictionary kernel : List ℕ) → are_bytes kernel ≡ true → (k : List Instr) → accepted long_only dictionary kernel ≡ good k
    → length (relay (shorten (dictionary_of dictionary)) k) ≤ length kernel
pack_most dictionary kernel right k given =
    let h = kernel_of_lem long_only dictionary kernel right k given in
    let most = relay_most (shorten (dictionary_of dictionary)) k in
    let ends = two_each kernel 0 k h.sound.laid h.words in
    omega (arith, h.ends)

-- and what unpacking makes of any accepted kernel at most twice as long.
pub unpack_most : (dictionary kernel : List ℕ) → are_bytes kernel ≡ true → (k : List Instr) → accepted long_and_short dictionary kernel ≡ good k
    → length (relay long_form k) ≤ 2 * length kernel
unpack_most dictionary kernel right k given =
    let h = kernel_of_lem long_and_short dictionary kernel right k given in
    let most = relay_most long_form k in
    let ends = one_each 0 k h.sound.laid in
    omega (arith, h.ends)

-- ---- long words only

-- Instructions of at most two places that take two places each on the whole take two each.
two_most : (forms : Forms) (kernel : List ℕ) (a : ℕ) (k : List Instr) → Laid a k → Each (WordAt forms kernel) k → end_from a k ≤ a + 2 * length k
unfolding Laid Each end_from
two_most forms kernel a [] l e = omega arith
two_most forms kernel a (i ∷ k) l e =
    let rest = two_most forms kernel (next_of i) k l.2 e.1 in
    let here = l.0 in
    let small = e.0.small in
    omega arith

all_two : (forms : Forms) (kernel : List ℕ) (a : ℕ) (k : List Instr) → Laid a k → Each (WordAt forms kernel) k → end_from a k ≡ a + 2 * length k → AllLong k
unfolding Laid Each end_from AllLong
all_two forms kernel a [] l e h = tt
all_two forms kernel a (i ∷ k) l e h =
    let rest = two_most forms kernel (next_of i) k l.2 e.1 in
    let here = l.0 in
    let small = e.0.small in
    (omega arith, all_two forms kernel (next_of i) k l.2 e.1 (omega arith))

-- The kernel behind its first instruction.
opened : (i : Instr) (q : Parsed) (k : List Instr) → prepend i q ≡ good k → (r : List Instr) × (q ≡ good r) × (i ∷ r ≡ k)
opened i (bad number offset) k e = let z : ◌≡◌ {A = ℕ} 0 1 = cc in absurd (omega arith)
opened i (good r) k e = (r, refl, cc)

-- A judgement that agrees with another where that passes an instruction of two places accepts the same kernels of such instructions.
module _ (judge judge' : ℕ → Judged) (end : ℕ)
    (agree : (from size w : ℕ) → from < end → judge from ≡ passed size w → size ≡ 2 → judge' from ≡ passed size w) where
  walk_same : (n from : ℕ) (k : List Instr) → AllLong k → walk judge end n from ≡ good k → walk judge' end n from ≡ good k
  unfolding walk AllLong
  walk_same zero from k two e = e
  walk_same (suc n) from k two e = go (ltb from end) refl (judge from) refl (λ m r. walk_same n m r) e
    where
      go : (t : Bool) → ltb from end ≡ t → (v : Judged) → judge from ≡ v
          → ((m : ℕ) (r : List Instr) → AllLong r → walk judge end n m ≡ good r → walk judge' end n m ≡ good r)
          → cond t (enter from v (walk judge end n)) (good []) ≡ good k → cond t (enter from (judge' from) (walk judge' end n)) (good []) ≡ good k
      go false h v j ih e = e
      go true h (refused x) j ih e = let z : ◌≡◌ {A = ℕ} 0 1 = cc in absurd (omega arith)
      go true h (passed size w) j ih e =
          let i : Instr = record { place = from / 8; size = size; word = w } in
          let o = opened i (walk judge end n (from + 8 * size)) k e in
          let both = subst AllLong (sym o.2) two in
          rw (agree from size w (ltb-true from end h) j both.0)
          (ap (prepend i) (ih (from + 8 * size) o.0 both.1 o.1) ∙ ap good o.2)

-- A long word passes where short ones may not stand as where they may.
long_agrees : (D : Dictionary) (kernel : List ℕ) (from size w : ℕ) → from < length kernel → judge_at long_and_short D kernel from ≡ passed size w → size ≡ 2
    → judge_at long_only D kernel from ≡ passed size w
long_agrees D kernel from size w before e two =
    passed_judge long_only D kernel from before size w (go size w (judge_passed long_and_short D kernel from before size w e) two)
  where
    go : (size w : ℕ) → Passed long_and_short D kernel from size w → size ≡ 2 → Passed long_only D kernel from size w
    go size w (as_long room form listed legal) t = as_long room form listed legal
    go size w (as_short room form listed plain takes legal) t = absurd (omega arith)

-- An accepted kernel that has 16 bytes for each instruction is accepted where only long words may stand, as the same instructions.
pub all_long_accepted : (dictionary kernel : List ℕ) → are_bytes kernel ≡ true → (k : List Instr) → accepted long_and_short dictionary kernel ≡ good k
    → length kernel ≡ 16 * length k → accepted long_only dictionary kernel ≡ good k
unfolding accepted judged_kernel parse
all_long_accepted dictionary kernel right k given long =
    let D = dictionary_of dictionary in
    let h = kernel_of_lem long_and_short dictionary kernel right k given in
    let two = all_two long_and_short kernel 0 k h.sound.laid h.words (omega (arith, h.ends)) in
    let parses = walk_same (judge_at long_and_short D kernel) (judge_at long_only D kernel) (length kernel) (long_agrees D kernel) instruction_limit 0 k two h.parses in
    rw (h.sizes, h.range, parses) (good_jumps k h.sound.land)
