-- An accepted kernel: how the code comes to accept or refuse, and what is then known. Assumes nothing.
use Rattle.std.specs.Prelude as std
use Rattle.std.specs.Prelude.{Ok, Err, Bool, true, false, cond, List, ◌≡◌, ℕ, ◌*◌, ◌<◌, ◌≤◌, eqb, leb, length}
use Rattle.std.proofs.Math.Option.{Option, none, some}
use Rattle.std.proofs.Math.Path.{refl, ap}
use Rattle.std.proofs.Common.{sym, ap₂, ◌∙◌, subst, arith, eqb-true, leb-true, eq-eqb, ne_eqb, le-leb}
use Rattle.paper.specs.Limits.{instruction_limit, dictionary_bytes, kernel_bytes}
use Rattle.paper.specs.Dictionary.{Dictionary, dictionary_of, in_range}
use Rattle.paper.specs.Legal.{refusal_of}
use Rattle.paper.specs.Kernel.{Instr, Forms, passed, judge_at, Parsed, bad, good, parse}
use Rattle.paper.specs.Jump.{fetch, end_of, lands, astray, with_jumps}
use Rattle.paper.specs.Calls.{sized, judged_kernel, accepted}
use Rattle.laws.specs.Names.{Sound}
use Rattle.laws.specs.Judged.{Passed, as_long, as_short, judge_passed}
use Rattle.laws.specs.Walk.{walked}
use Rattle.laws.specs.Parse.{jumps_good}
use Rattle.words.specs.declared.refusal.Refusal.TheVariants.{WrongSize, WideDictionary, StrayJump}
use Rattle.words.specs.declared.answer.Refused.{Refused}
use Rattle.words.specs.Refusals.{number}
use Rattle.words.specs.Answer.{refused_at}
use Rattle.kernel.specs.Standing.{size_at, word_at, Whole, Fetches, fits, Stands, walk-stands, stands-fetch}
use Rattle.kernel.specs.Reading.{filled, instrs_from, stands_filled, stands_read}
use Rattle.kernel.specs.Marks.{Said, marked, Says, says_bad, says_refused, Accepts, says_accepted}
use Rattle.kernel.specs.Jumps.{instr_of, first_out, astray_is, out_astray}
use Rattle.laws.specs.Truth.{both_true}
use Rattle.kernel.specs.Standing.{Standing}

-- ---- 1

pub record RightSizes (dictionary kernel : List ℕ) : Type 0 where
  pub dictionary-is : length dictionary ≡ dictionary_bytes
  pub kernel-most : length kernel ≤ kernel_bytes

pub right_sizes : (dictionary kernel : List ℕ) → sized dictionary kernel ≡ true → RightSizes dictionary kernel
right_sizes dictionary kernel e =
    let p = both_true (eqb (length dictionary) dictionary_bytes) (leb (length kernel) kernel_bytes) e in
    record { dictionary-is = eqb-true _ _ p.0; kernel-most = leb-true _ _ p.1 }

pub right_sized : (dictionary kernel : List ℕ) → RightSizes dictionary kernel → sized dictionary kernel ≡ true
right_sized dictionary kernel s = rw (eq-eqb _ _ s.dictionary-is, le-leb _ _ s.kernel-most)

pub unsized : (dictionary kernel : List ℕ) → (length dictionary ≡ dictionary_bytes → ⊥) → sized dictionary kernel ≡ false
unsized dictionary kernel h = rw (ne_eqb _ _ h)

-- ---- a parse, and what is then known without its list

pub parse-stands : (forms : Forms) (dictionary kernel : List ℕ) (k : List Instr) → parse forms (dictionary_of dictionary) kernel ≡ good k
    → Stands forms (dictionary_of dictionary) kernel 0 k
unfolding parse
parse-stands forms dictionary kernel k e = walk-stands forms (dictionary_of dictionary) kernel instruction_limit 0 (omega arith) k e

pub parse_filled : (forms : Forms) (dictionary kernel marks : List ℕ) (r : Said) → Says (parse forms (dictionary_of dictionary) kernel) r marks
    → (count : ℕ) → r ≡ Ok count → filled kernel 0 ≡ true
parse_filled forms dictionary kernel marks r s count e =
    let a = says_accepted (parse forms (dictionary_of dictionary) kernel) r marks s count e in
    stands_filled (dictionary_of dictionary) kernel forms a.instrs (parse-stands forms dictionary kernel a.instrs a.judged)

-- ---- the answers, in the code's order

module _ (forms : Forms) (dictionary kernel marks : List ℕ) where
  -- What is said of an equal judgement.
  says_as : (p : Parsed) (r : Said) → accepted forms dictionary kernel ≡ p → Says p r marks → Says (accepted forms dictionary kernel) r marks
  says_as p r e s = rw e s

  pub accept_size : sized dictionary kernel ≡ false → Says (accepted forms dictionary kernel) (Err (refused_at WrongSize 0)) marks
  unfolding accepted
  accept_size h = rw h (says_bad WrongSize 0 marks)

  module _ (right : sized dictionary kernel ≡ true) where
    pub accept_range : in_range (dictionary_of dictionary) ≡ false → Says (accepted forms dictionary kernel) (Err (refused_at WideDictionary 0)) marks
    unfolding accepted judged_kernel
    accept_range h = rw (right, h) (says_bad WideDictionary 0 marks)

    module _ (range : in_range (dictionary_of dictionary) ≡ true) where
      accepted-parse : accepted forms dictionary kernel ≡ with_jumps (parse forms (dictionary_of dictionary) kernel)
      unfolding accepted judged_kernel
      accepted-parse = rw (right, range)

      module _ (walked : Said) (says : Says (parse forms (dictionary_of dictionary) kernel) walked marks) where
        -- The walk refuses.
        pub accept_refused : (f : Refused) → walked ≡ Err f → Says (accepted forms dictionary kernel) walked marks
        unfolding with_jumps
        accept_refused f e =
            let q = (says_refused (parse forms (dictionary_of dictionary) kernel) walked marks says f e).0 in
            says_as (bad (number f.refusal) f.offset) walked (accepted-parse ∙ ap with_jumps q) (rw q at says)

        module _ (count : ℕ) (told : walked ≡ Ok count) (o : std.Option ℕ)
            (out : astray_is o ≡ first_out (marked marks) (instrs_from (dictionary_of dictionary) kernel 0)) where
          abbrev walks : Accepts (parse forms (dictionary_of dictionary) kernel) marks
          walks = says_accepted (parse forms (dictionary_of dictionary) kernel) walked marks says count told

          -- What rule 12 then says.
          jumped : accepted forms dictionary kernel ≡ astray walks.instrs (astray_is o)
          unfolding with_jumps
          jumped =
              let k = walks.instrs in
              accepted-parse ∙ ap with_jumps walks.judged
              ∙ ap (astray k) (sym (out ∙ ap (first_out (marked marks)) (stands_read (dictionary_of dictionary) kernel forms k (parse-stands forms dictionary kernel k walks.judged)) ∙ out_astray (marked marks) k walks.land k))

          -- No jump goes astray.
          pub accept_good : o ≡ std.None → Says (accepted forms dictionary kernel) (Ok count) marks
          accept_good e =
              says_as (good walks.instrs) (Ok count) (jumped ∙ ap (λ (o : std.Option ℕ). astray walks.instrs (astray_is o)) e)
              (subst (λ (r : Said). Says (good walks.instrs) r marks) told (rw walks.judged at says))

          -- One does.
          pub accept_astray : (offset : ℕ) → o ≡ std.Some offset → Says (accepted forms dictionary kernel) (Err (refused_at StrayJump offset)) marks
          accept_astray offset e =
              says_as (bad 12 offset) (Err (refused_at StrayJump offset)) (jumped ∙ ap (λ (o : std.Option ℕ). astray walks.instrs (astray_is o)) e) (says_bad StrayJump offset marks)

-- ---- what is known of an accepted kernel

-- Its sizes are right; its instructions stand in its bytes, each of which passes; they stand one after the other from place 0 and fill the bytes;
-- they are not too many; and every jump lands.
pub record AcceptedKernel (forms : Forms) (dictionary kernel : List ℕ) (k : List Instr) : Type 0 where
  pub sizes : RightSizes dictionary kernel
  pub range : in_range (dictionary_of dictionary) ≡ true
  pub judged : judged_kernel forms dictionary kernel ≡ good k
  pub parses : parse forms (dictionary_of dictionary) kernel ≡ good k
  pub stands : Stands forms (dictionary_of dictionary) kernel 0 k
  pub sound : Sound k
  pub ends : 8 * end_of k ≡ length kernel
  pub few : length k ≤ instruction_limit

both_tests : (a b : Bool) (q : Parsed) (k : List Instr) → cond a (cond b q (bad 2 0)) (bad 1 0) ≡ good k
    → (a ≡ true) × (b ≡ true) × (cond b q (bad 2 0) ≡ good k) × (q ≡ good k)
both_tests true true q k e = (refl, refl, e, e)
both_tests true false q k e = let z : ◌≡◌ {A = ℕ} 0 1 = cc in absurd (omega arith)
both_tests false b q k e = let z : ◌≡◌ {A = ℕ} 0 1 = cc in absurd (omega arith)

pub accepted_kernel : (forms : Forms) (dictionary kernel : List ℕ) (k : List Instr) → accepted forms dictionary kernel ≡ good k
    → AcceptedKernel forms dictionary kernel k
unfolding accepted judged_kernel parse
accepted_kernel forms dictionary kernel k e =
    let D = dictionary_of dictionary in
    let t = both_tests (sized dictionary kernel) (in_range D) (with_jumps (parse forms D kernel)) k e in
    let j = jumps_good (parse forms D kernel) k t.3 in
    let v = walked (λ from size w. judge_at forms D kernel from ≡ passed size w) (judge_at forms D kernel) (length kernel)
    (λ from size w inside h. let f = fits forms D kernel from size w inside h in (f.some, f.room, h)) instruction_limit 0 refl (omega arith) k j.0 in
    record {
      sizes = right_sizes dictionary kernel t.0;
      range = t.1;
      judged = t.2;
      parses = j.0;
      stands = parse-stands forms dictionary kernel k j.0;
      sound = record { laid = v.laid; land = j.1 };
      ends = v.ends;
      few = v.few;
    }

-- ---- an instruction stands here

-- At place p an instruction of k starts: it lies in the bytes, whole; its size and its word are what those bytes say; and it passes.
pub record Here (forms : Forms) (D : Dictionary) (kernel : List ℕ) (k : List Instr) (p : ℕ) : Type 0 where
  pub inside : 8 * p < length kernel
  pub whole : Whole kernel (8 * p)
  pub fetched : fetch k p ≡ some (instr_of p (size_at kernel (8 * p)) (word_at D kernel (8 * p)))
  pub passes : judge_at forms D kernel (8 * p) ≡ passed (size_at kernel (8 * p)) (word_at D kernel (8 * p))

-- The same of its size and its word as the code finds them.
pub record Found (forms : Forms) (D : Dictionary) (kernel : List ℕ) (k : List Instr) (p size w : ℕ) : Type 0 where
  pub fetched : fetch k p ≡ some (instr_of p size w)
  pub legal : refusal_of w ≡ 0

module _ (forms : Forms) (D : Dictionary) (kernel : List ℕ) (k : List Instr) (p : ℕ) (h : Here forms D kernel k p) (size w : ℕ) (f : Fetches D kernel (8 * p) size w) where
  word_legal : {n v : ℕ} → Passed forms D kernel (8 * p) n v → refusal_of v ≡ 0
  word_legal (as_long room form listed legal) = legal
  word_legal (as_short room form listed plain takes legal) = legal

  pub found_here : Found forms D kernel k p size w
  found_here =
      record {
        fetched = rw (f.size_is, f.word-is) h.fetched;
        legal = rw f.word-is (word_legal (judge_passed forms D kernel (8 * p) h.inside _ _ h.passes));
      }

module _ (forms : Forms) (dictionary kernel : List ℕ) (k : List Instr) (h : AcceptedKernel forms dictionary kernel k) (p : ℕ) where
  -- One stands where one is fetched.
  here_fetched : (i : Instr) → fetch k p ≡ some i → Here forms (dictionary_of dictionary) kernel k p
  here_fetched i e =
      let D = dictionary_of dictionary in
      let s = stands-fetch forms D kernel 0 refl k h.stands p i e in
      let f = fits forms D kernel (8 * p) i.size i.word s.0 s.2 in
      record {
        inside = s.0;
        whole = omega (arith, f.room, f.size_is);
        fetched = e ∙ ap some (λ j. record { place = s.1 j; size = sym f.size_is j; word = sym f.word-is j });
        passes = s.2 ∙ ap₂ passed (sym f.size_is) (sym f.word-is);
      }

  -- At the end and past it none does.
  pub none_past : length kernel ≤ 8 * p → fetch k p ≡ none
  none_past past = go (fetch k p) refl
    where
      go : (o : Option Instr) → fetch k p ≡ o → o ≡ none
      go none e = refl
      go (some i) e = absurd (omega (arith, (here_fetched i e).inside))

  -- At a place that lands and is not the end one does.
  pub lands_here : lands k p ≡ true → (8 * p ≡ length kernel → ⊥) → Here forms (dictionary_of dictionary) kernel k p
  unfolding lands
  lands_here e away = go (fetch k p) refl
    where
      go : (o : Option Instr) → fetch k p ≡ o → Here forms (dictionary_of dictionary) kernel k p
      go none n = absurd (away (ap (λ (q : ℕ). 8 * q) (eqb-true p (end_of k) (rw n at e)) ∙ h.ends))
      go (some i) n = here_fetched i n

-- ---- what is known of a kernel that is accepted, by some instructions that stand in it

-- After a parse that accepts, some instructions stand in the whole of the bytes.
pub parse_standing : (forms : Forms) (dictionary kernel marks : List ℕ) (r : Said) → Says (parse forms (dictionary_of dictionary) kernel) r marks
    → (count : ℕ) → r ≡ Ok count → Standing (dictionary_of dictionary) kernel
parse_standing forms dictionary kernel marks r s count e =
    let a = says_accepted (parse forms (dictionary_of dictionary) kernel) r marks s count e in
    record { forms = forms; instrs = a.instrs; stands = parse-stands forms dictionary kernel a.instrs a.judged }
