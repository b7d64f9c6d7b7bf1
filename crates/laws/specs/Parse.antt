-- What a kernel of bytes that parses holds: legal words of 128 bits with bit 29 clear, in instructions of one or two places that stand one after
-- the other and fill the kernel; and where long words only are taken, the bytes of those words and no others. Assumes nothing.
use Rattle.std.specs.Prelude.{Bool, true, false, cond, List, [], ◌∷◌, ◌++◌, ◌≡◌, ℕ, ◌+◌, ◌*◌, ◌^◌, ◌<◌, ◌≤◌, eqb, length, take, drop}
use Rattle.std.proofs.Common.{true≢false, sym, ap, ap₂, ◌∙◌, subst, arith, length-drop, take-append-drop, drop-drop}
use Rattle.std.proofs.Math.Option.{Option, none, some}
use Rattle.std.proofs.Math.Path.{refl}
use Rattle.std.proofs.Math.Seq.{drop-length}
use Rattle.std.proofs.Math.Pow.{are_bytes}
use Rattle.paper.specs.Bits.{bits, number_at, bytes_of}
use Rattle.paper.specs.Limits.{instruction_limit}
use Rattle.paper.specs.Dictionary.{Dictionary}
use Rattle.paper.specs.Expand.{is_short}
use Rattle.paper.specs.Operation.{is_listed}
use Rattle.paper.specs.Kernel.{Instr, Forms, long_only, takes_short, judge_at, Parsed, bad, good, parse}
use Rattle.paper.specs.Jump.{next_of, end_from, targets_of, targets_land, first_astray, astray, with_jumps}
use Rattle.laws.specs.Bytes.{number_lt, bytes_of-number, bytes_drop, number_at_halves}
use Rattle.laws.specs.Expand.{expand_fits, expand-operation, expand_reserved}
use Rattle.laws.specs.Names.{Laid, AllLand}
use Rattle.laws.specs.Walk.{Each, Walked, Brings, walked}
use Rattle.laws.specs.Judged.{Passed, as_long, as_short, judge_passed}
use Rattle.laws.specs.Items.{Legal}

-- What is known of the word of an instruction of `size` places at byte `from`.
pub record WordAt (forms : Forms) (kernel : List ℕ) (from size w : ℕ) : Type 0 where
  pub legal : Legal w
  pub fits : w < 2 ^ 128
  pub long : is_short w ≡ false
  pub small : size ≤ 2
  pub two : takes_short forms ≡ false → size ≡ 2
  pub bytes : size ≡ 2 → bytes_of 16 w ≡ take 16 (drop from kernel)

-- Bit 29 is the same in a long word's first eight bytes.
short_low : (lo hi : ℕ) → bits (lo + hi * 2 ^ 64) 29 1 ≡ bits lo 29 1
short_low lo hi = omega arith

module _ (forms : Forms) (D : Dictionary) (kernel : List ℕ) (bytes : are_bytes kernel ≡ true) where
  long-fits : (from : ℕ) → number_at kernel from 16 < 2 ^ 128
  unfolding number_at
  long-fits from = number_lt 16 (drop from kernel) (bytes_drop from kernel bytes)

  long_bytes_lem : (from : ℕ) → from + 16 ≤ length kernel → bytes_of 16 (number_at kernel from 16) ≡ take 16 (drop from kernel)
  unfolding number_at
  long_bytes_lem from h = bytes_of-number 16 (drop from kernel) (bytes_drop from kernel bytes) (rw (length-drop from kernel) (omega arith))

  word_at : (from size w : ℕ) → Passed forms D kernel from size w → (0 < size) × (from + 8 * size ≤ length kernel) × WordAt forms kernel from size w
  word_at from size w (as_long room form listed legal) = (
    omega arith,
    omega arith,
    record {
      legal = record { listed = listed; passes = legal };
      fits = long-fits from;
      long =
          ap is_short (number_at_halves kernel from (omega arith))
          ∙ ap (λ (x : ℕ). eqb x 1) (short_low (number_at kernel from 8) (number_at kernel (from + 8) 8)) ∙ form;
      small = omega arith;
      two = λ _. refl;
      bytes = λ _. long_bytes_lem from room;
    },
  )
  word_at from size w (as_short room form listed plain takes legal) = (
    omega arith,
    omega arith,
    record {
      legal = record { listed = ap is_listed (expand-operation D (number_at kernel from 8)) ∙ listed; passes = legal };
      fits = expand_fits D (number_at kernel from 8);
      long = ap (λ (x : ℕ). eqb x 1) (expand_reserved D (number_at kernel from 8)).bit-29;
      small = omega arith;
      two = λ e. absurd (true≢false (sym takes ∙ e));
      bytes = λ e. absurd (omega arith);
    },
  )

  brings : Brings (judge_at forms D kernel) (length kernel) (WordAt forms kernel)
  brings from size w inside e = word_at from size w (judge_passed forms D kernel from inside size w e)

  pub parsed : (k : List Instr) → parse forms D kernel ≡ good k → Walked (WordAt forms kernel) (length kernel) instruction_limit 0 k
  unfolding parse
  parsed k e = walked (WordAt forms kernel) (judge_at forms D kernel) (length kernel) brings instruction_limit 0 refl (omega arith) k e

-- ---- jumps

-- None goes astray exactly where all land.
all_land : (k rest : List Instr) → first_astray k rest ≡ none → AllLand k rest
unfolding first_astray AllLand
all_land k [] e = tt
all_land k (i ∷ rest) e = go (targets_land k (targets_of i)) refl (all_land k rest) e
  where
    go : (t : Bool) → targets_land k (targets_of i) ≡ t → (first_astray k rest ≡ none → AllLand k rest)
        → cond t (first_astray k rest) (some (8 * i.place)) ≡ none → (targets_land k (targets_of i) ≡ true) × AllLand k rest
    go true h ih e = (h, ih e)
    go false h ih e = let z : ◌≡◌ {A = ℕ} 0 1 = cc in absurd (omega arith)

none-astray : (k rest : List Instr) → AllLand k rest → first_astray k rest ≡ none
unfolding first_astray AllLand
none-astray k [] l = refl
none-astray k (i ∷ rest) l = rw l.0 (none-astray k rest l.1)

-- A kernel whose jumps are judged too.
pub jumps_good : (q : Parsed) (k : List Instr) → with_jumps q ≡ good k → (q ≡ good k) × AllLand k k
unfolding with_jumps
jumps_good (bad n from) k e = let z : ◌≡◌ {A = ℕ} 0 1 = cc in absurd (omega arith)
jumps_good (good r) k e = go (first_astray r r) refl e
  where
    go : (o : Option ℕ) → first_astray r r ≡ o → astray r o ≡ good k → (good r ≡ good k) × AllLand k k
    go none h e = (e, subst (λ (x : List Instr). AllLand x x) (same e) (all_land r r h))
      where
        same : good r ≡ good k → r ≡ k
        same e = cc
    go (some from) h e = let z : ◌≡◌ {A = ℕ} 0 1 = cc in absurd (omega arith)

pub good_jumps : (k : List Instr) → AllLand k k → with_jumps (good k) ≡ good k
unfolding with_jumps
good_jumps k l = rw (none-astray k k l)

-- ---- the bytes of a kernel of long words

-- The words one after the other.
unfoldable pub long_bytes : List Instr → List ℕ
long_bytes [] = []
long_bytes (i ∷ k) = bytes_of 16 i.word ++ long_bytes k

pub long_back : (kernel : List ℕ) (a : ℕ) (k : List Instr) → Laid a k → 8 * end_from a k ≡ length kernel → Each (WordAt long_only kernel) k
    → long_bytes k ≡ drop (8 * a) kernel
unfolding long_bytes Laid Each end_from
long_back kernel a [] laid ends each = sym (ap (λ (x : ℕ). drop x kernel) ends ∙ drop-length kernel)
long_back kernel a (i ∷ k) laid ends each =
    let at : i.place ≡ a = laid.0 in
    let two : i.size ≡ 2 = each.0.two refl in
    let next : 8 * a + 16 ≡ 8 * next_of i = omega arith in
    ap₂ (λ (x y : List ℕ). x ++ y) (each.0.bytes two ∙ ap (λ (x : ℕ). take 16 (drop (8 * x) kernel)) at)
    (long_back kernel (next_of i) k laid.2 ends each.1 ∙ ap (λ (x : ℕ). drop x kernel) (sym next) ∙ sym (drop-drop 16 (8 * a) kernel))
    ∙ take-append-drop 16 (drop (8 * a) kernel)
