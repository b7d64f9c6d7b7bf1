-- The numbers of the refusals, which are the paper's, and that no two refusals have one number. Assumes nothing.
use Rattle.std.specs.Prelude.{◌≡◌, refl, ℕ, cond, eqb}
use Rattle.std.proofs.Common.{sym, ap, ◌∙◌}
use Rattle.words.specs.declared.refusal.Refusal.{Refusal}
use Rattle.words.specs.declared.refusal.Refusal.TheVariants.{WrongSize, WideDictionary, CutShort, Unlisted, WrongForm, ReservedBits, NotServed, OperandRule, RegionShape}
use Rattle.words.specs.declared.refusal.Refusal.TheVariants.{Unaligned, OutOfReach, StrayJump, NoShortWord, OutputTooShort, BadState, BudgetOver, TooMany, BadAddress}
use Rattle.words.specs.declared.refusal.Refusal.TheVariants.{NoListing, Differs, NoLog}

abbrev pub number : Refusal → ℕ
number WrongSize = 1
number WideDictionary = 2
number CutShort = 3
number Unlisted = 4
number WrongForm = 5
number ReservedBits = 6
number NotServed = 7
number OperandRule = 8
number RegionShape = 9
number Unaligned = 10
number OutOfReach = 11
number StrayJump = 12
number NoShortWord = 13
number OutputTooShort = 14
number BadState = 15
number BudgetOver = 16
number TooMany = 17
number BadAddress = 22
number NoListing = 30
number Differs = 31
number NoLog = 32

-- The refusal of a number, where it is the number of one.
refusal_of : ℕ → Refusal
refusal_of n =
    cond (eqb n 1) WrongSize (cond (eqb n 2) WideDictionary (cond (eqb n 3) CutShort (cond (eqb n 4) Unlisted (cond (eqb n 5) WrongForm
    (cond (eqb n 6) ReservedBits (cond (eqb n 7) NotServed (cond (eqb n 8) OperandRule (cond (eqb n 9) RegionShape (cond (eqb n 10) Unaligned
    (cond (eqb n 11) OutOfReach (cond (eqb n 12) StrayJump (cond (eqb n 13) NoShortWord (cond (eqb n 14) OutputTooShort (cond (eqb n 15) BadState
    (cond (eqb n 16) BudgetOver (cond (eqb n 17) TooMany (cond (eqb n 22) BadAddress (cond (eqb n 30) NoListing (cond (eqb n 31) Differs NoLog)))))))))))))))))))

refusal_back : (r : Refusal) → refusal_of (number r) ≡ r
unfolding refusal_of
refusal_back WrongSize = refl
refusal_back WideDictionary = refl
refusal_back CutShort = refl
refusal_back Unlisted = refl
refusal_back WrongForm = refl
refusal_back ReservedBits = refl
refusal_back NotServed = refl
refusal_back OperandRule = refl
refusal_back RegionShape = refl
refusal_back Unaligned = refl
refusal_back OutOfReach = refl
refusal_back StrayJump = refl
refusal_back NoShortWord = refl
refusal_back OutputTooShort = refl
refusal_back BadState = refl
refusal_back BudgetOver = refl
refusal_back TooMany = refl
refusal_back BadAddress = refl
refusal_back NoListing = refl
refusal_back Differs = refl
refusal_back NoLog = refl

-- Refusals of one number are one refusal.
pub one_refusal : (r s : Refusal) → number r ≡ number s → r ≡ s
one_refusal r s e = sym (refusal_back r) ∙ ap refusal_of e ∙ refusal_back s
