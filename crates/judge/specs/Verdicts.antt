-- The paper's number of what the judge says. Assumes nothing.
use Rattle.std.specs.Prelude.{false, Result, Ok, Err, ◌≡◌, refl, ℕ, eqb}
use Rattle.std.specs.Result.{is_ok}
use Rattle.words.specs.Refusals.{number}
use Rattle.words.specs.declared.refusal.Refusal.{Refusal}
use Rattle.words.specs.declared.refusal.Refusal.TheVariants.{WrongSize, WideDictionary, CutShort, Unlisted, WrongForm, ReservedBits, NotServed, OperandRule, RegionShape, Unaligned, OutOfReach, StrayJump, NoShortWord, OutputTooShort, BadState, BudgetOver, TooMany, BadAddress, NoListing, Differs, NoLog}

-- The number of the rule that a word breaks; 0 where it passes.
abbrev pub number_of : Result (Unit {0}) Refusal → ℕ
number_of (Ok passed) = 0
number_of (Err refusal) = number refusal

-- No refusal has the number 0.
some_number : (f : Refusal) → false ≡ eqb (number f) 0
some_number WrongSize = refl
some_number WideDictionary = refl
some_number CutShort = refl
some_number Unlisted = refl
some_number WrongForm = refl
some_number ReservedBits = refl
some_number NotServed = refl
some_number OperandRule = refl
some_number RegionShape = refl
some_number Unaligned = refl
some_number OutOfReach = refl
some_number StrayJump = refl
some_number NoShortWord = refl
some_number OutputTooShort = refl
some_number BadState = refl
some_number BudgetOver = refl
some_number TooMany = refl
some_number BadAddress = refl
some_number NoListing = refl
some_number Differs = refl
some_number NoLog = refl

-- So a word passes where the number is 0.
pub passes_by : (r : Result (Unit {0}) Refusal) → is_ok r ≡ eqb (number_of r) 0
passes_by (Ok passed) = refl
passes_by (Err refusal) = some_number refusal
