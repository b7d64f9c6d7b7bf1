-- What the code's judgement of one instruction is in the paper's terms, and the judgement's cases. Assumes nothing.
use Rattle.std.specs.Prelude.{Result, Ok, Err, true, false, List, ◌≡◌, ℕ, ◌-◌, ◌<◌, ◌≤◌, length}
use borrow.Author.Tests.{lt-ltb, le-ltb}
use Rattle.paper.specs.Bits.{number_at}
use Rattle.paper.specs.Dictionary.{Dictionary}
use Rattle.paper.specs.Expand.{is_short, expand}
use Rattle.paper.specs.Operation.{operation, is_listed, is_branch}
use Rattle.paper.specs.Kernel.{long_and_short, long_only, takes_short, refused, passed, judge_word, judge_short, judge_long, judge_at}
use Rattle.paper.specs.Kernel as paper
use Rattle.words.specs.Words.{to_word}
use Rattle.words.specs.declared.refusal.Refusal.{Refusal}
use Rattle.words.specs.Refusals.{number}
use Rattle.kernel.specs.declared.fetch.Fetched.{Fetched}
use Rattle.kernel.specs.declared.forms.Forms.{Forms}
use Rattle.kernel.specs.declared.forms.Forms.TheVariants.{LongOnly, LongAndShort}

-- An instruction as it is fetched, or why it is refused.
abbrev pub judged_is : Result Fetched Refusal → paper.Judged
judged_is (Err r) = refused (number r)
judged_is (Ok f) = passed f.size (to_word f.word)

-- Which words are taken: long ones only, or both.
abbrev pub forms_is : Forms → paper.Forms
forms_is LongOnly = long_only
forms_is LongAndShort = long_and_short

-- ---- the judgement, case by case

module _ (forms : paper.Forms) (D : Dictionary) (s : ℕ) where
  pub short_unlisted : is_listed (operation s) ≡ false → judge_short forms D s ≡ refused 4
  unfolding judge_short
  short_unlisted h = rw h

  module _ (listed : is_listed (operation s) ≡ true) where
    pub short_branch : is_branch (operation s) ≡ true → judge_short forms D s ≡ refused 5
    unfolding judge_short
    short_branch h = rw (listed, h)

    module _ (plain : is_branch (operation s) ≡ false) where
      pub short_untaken : takes_short forms ≡ false → judge_short forms D s ≡ refused 5
      unfolding judge_short
      short_untaken h = rw (listed, plain, h)

      pub short_taken : takes_short forms ≡ true → judge_short forms D s ≡ judge_word 1 (expand D s)
      unfolding judge_short
      short_taken h = rw (listed, plain, h)

pub long_unlisted : (w : ℕ) → is_listed (operation w) ≡ false → judge_long w ≡ refused 4
unfolding judge_long
long_unlisted w h = rw h

pub long_listed : (w : ℕ) → is_listed (operation w) ≡ true → judge_long w ≡ judge_word 2 w
unfolding judge_long
long_listed w h = rw h

module _ (forms : paper.Forms) (D : Dictionary) (kernel : List ℕ) (from : ℕ) where
  pub at_none : length kernel - from < 8 → judge_at forms D kernel from ≡ refused 3
  unfolding judge_at
  at_none h = rw (lt-ltb _ _ h)

  module _ (room : 8 ≤ length kernel - from) where
    pub at_short : is_short (number_at kernel from 8) ≡ true → judge_at forms D kernel from ≡ judge_short forms D (number_at kernel from 8)
    unfolding judge_at
    at_short e = rw (le-ltb _ _ room, e)

    module _ (long : is_short (number_at kernel from 8) ≡ false) where
      pub at_cut : length kernel - from < 16 → judge_at forms D kernel from ≡ refused 3
      unfolding judge_at
      at_cut h = rw (le-ltb _ _ room, long, lt-ltb _ _ h)

      pub at_long : 16 ≤ length kernel - from → judge_at forms D kernel from ≡ judge_long (number_at kernel from 16)
      unfolding judge_at
      at_long h = rw (le-ltb _ _ room, long, le-ltb _ _ h)
