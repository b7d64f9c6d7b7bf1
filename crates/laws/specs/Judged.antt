-- What it takes for one instruction to pass, read off the judgement; and the other way, that it passes where all that is given. Assumes nothing.
use Rattle.std.specs.Prelude.{Bool, ◌||◌, List, ◌≡◌, ℕ, ◌+◌, ◌-◌, ◌<◌, ◌≤◌, eqb, length}
use Rattle.std.proofs.Math.Bool.{true, false, not, cond}
use Rattle.std.proofs.Math.Path.{refl}
use Rattle.std.proofs.Common.{arith}
use Rattle.std.proofs.Math.Dec.{ltb}
use borrow.Author.Tests.{ltb-false, le-ltb, eqb-true, eq-eqb}
use Rattle.paper.specs.Bits.{number_at}
use Rattle.paper.specs.Dictionary.{Dictionary}
use Rattle.paper.specs.Expand.{expand, is_short}
use Rattle.paper.specs.Operation.{operation, is_listed, is_branch}
use Rattle.paper.specs.Legal.{refusal_of}
use Rattle.paper.specs.Kernel.{Forms, takes_short, refused, passed, judge_word, judge_short, judge_long, judge_at}

-- The two ways to pass: as a long word, the 16 bytes at the offset; or as a short word that expands to the word.
pub data Passed (forms : Forms) (D : Dictionary) (kernel : List ℕ) (from : ℕ) : ℕ → ℕ → Type 0 where
  as_long : from + 16 ≤ length kernel
      → is_short (number_at kernel from 8) ≡ false
      → is_listed (operation (number_at kernel from 16)) ≡ true
      → refusal_of (number_at kernel from 16) ≡ 0
      → Passed forms D kernel from 2 (number_at kernel from 16)
  as_short : from + 8 ≤ length kernel
      → is_short (number_at kernel from 8) ≡ true
      → is_listed (operation (number_at kernel from 8)) ≡ true
      → is_branch (operation (number_at kernel from 8)) ≡ false
      → takes_short forms ≡ true
      → refusal_of (expand D (number_at kernel from 8)) ≡ 0
      → Passed forms D kernel from 1 (expand D (number_at kernel from 8))

-- ---- from the judgement to what it rests on

-- No refusal is a pass.
clash {ℓ} : {A : Type ℓ} (n size w : ℕ) → refused n ≡ passed size w → A
clash n size w e = let z : ◌≡◌ {A = ℕ} 0 1 = cc in absurd (omega arith)

module _ (forms : Forms) (D : Dictionary) (kernel : List ℕ) (from : ℕ) (inside : from < length kernel) where
  abbrev Way : ℕ → ℕ → Type 0
  Way size w = Passed forms D kernel from size w

  -- size and word of a passed word are those that went in
  word_passed : (n v size w : ℕ) → judge_word n v ≡ passed size w → (refusal_of v ≡ 0) × (n ≡ size) × (v ≡ w)
  word_passed n v size w e = go (eqb (refusal_of v) 0) refl e
    where
      go : (t : Bool) → eqb (refusal_of v) 0 ≡ t → cond t (passed n v) (refused (refusal_of v)) ≡ passed size w → (refusal_of v ≡ 0) × (n ≡ size) × (v ≡ w)
      go true h e = (eqb-true (refusal_of v) 0 h, cc, cc)
      go false h e = clash (refusal_of v) size w e

  carry : {n v size w : ℕ} → Way n v → n ≡ size → v ≡ w → Way size w
  carry {n} {v} h p q = rw (← p, ← q) h

  long_passed : (size w : ℕ) → from + 16 ≤ length kernel → is_short (number_at kernel from 8) ≡ false
      → judge_long (number_at kernel from 16) ≡ passed size w → Way size w
  unfolding judge_long
  long_passed size w room form e = go (is_listed (operation (number_at kernel from 16))) refl e
    where
      go : (t : Bool) → is_listed (operation (number_at kernel from 16)) ≡ t
          → cond (not t) (refused 4) (judge_word 2 (number_at kernel from 16)) ≡ passed size w → Way size w
      go false h e = clash 4 size w e
      go true h e =
          let q = word_passed 2 (number_at kernel from 16) size w e in carry (as_long room form h q.0) q.1 q.2

  short_passed : (size w : ℕ) → from + 8 ≤ length kernel → is_short (number_at kernel from 8) ≡ true
      → judge_short forms D (number_at kernel from 8) ≡ passed size w → Way size w
  unfolding judge_short
  short_passed size w room form e =
      go (is_listed (operation (number_at kernel from 8))) refl (is_branch (operation (number_at kernel from 8))) refl (takes_short forms) refl e
    where
      go : (t : Bool) → is_listed (operation (number_at kernel from 8)) ≡ t → (b : Bool) → is_branch (operation (number_at kernel from 8)) ≡ b
          → (f : Bool) → takes_short forms ≡ f
          → cond (not t) (refused 4) (cond (b || not f) (refused 5) (judge_word 1 (expand D (number_at kernel from 8)))) ≡ passed size w → Way size w
      go false h b p f q e = clash 4 size w e
      go true h true p f q e = clash 5 size w e
      go true h false p false q e = clash 5 size w e
      go true h false p true q e =
          let r = word_passed 1 (expand D (number_at kernel from 8)) size w e in carry (as_short room form h p q r.0) r.1 r.2

  pub judge_passed : (size w : ℕ) → judge_at forms D kernel from ≡ passed size w → Way size w
  unfolding judge_at
  judge_passed size w e =
      go (ltb (length kernel - from) 8) refl (is_short (number_at kernel from 8)) refl (ltb (length kernel - from) 16) refl e
    where
      go : (a : Bool) → ltb (length kernel - from) 8 ≡ a → (b : Bool) → is_short (number_at kernel from 8) ≡ b
          → (c : Bool) → ltb (length kernel - from) 16 ≡ c
          → cond a (refused 3) (cond b (judge_short forms D (number_at kernel from 8)) (cond c (refused 3) (judge_long (number_at kernel from 16)))) ≡ passed size w
          → Way size w
      go true p b q c r e = clash 3 size w e
      go false p true q c r e = short_passed size w (omega (arith, ltb-false (length kernel - from) 8 p)) q e
      go false p false q true r e = clash 3 size w e
      go false p false q false r e = long_passed size w (omega (arith, ltb-false (length kernel - from) 16 r)) q e

  -- ---- and back
  word_passes : (size v : ℕ) → refusal_of v ≡ 0 → judge_word size v ≡ passed size v
  word_passes size v h = rw (eq-eqb (refusal_of v) 0 h)

  pub passed_judge : (size w : ℕ) → Way size w → judge_at forms D kernel from ≡ passed size w
  unfolding judge_at judge_short judge_long
  passed_judge size w (as_long room form listed legal) =
      rw (le-ltb (length kernel - from) 8 (omega arith), form, le-ltb (length kernel - from) 16 (omega arith), listed)
      (word_passes 2 (number_at kernel from 16) legal)
  passed_judge size w (as_short room form listed plain takes legal) =
      rw (le-ltb (length kernel - from) 8 (omega arith), form, listed, plain, takes)
      (word_passes 1 (expand D (number_at kernel from 8)) legal)
