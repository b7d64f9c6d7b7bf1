-- The one number in which an answer crosses to C: which answers fit in it, and that nothing of them is lost. Assumes nothing.
use Rattle.std.specs.Prelude.{◌≡◌, ℕ, ◌/◌, ◌%◌, ◌^◌, ◌<◌}
use Rattle.std.proofs.Common.{subst, arith}
use Rattle.paper.specs.Calls.{Answer, verdict, refusal, refusal_with, as_number, number_of, offset_of, count_of}

-- An answer fits: its number in 8 bits, its offset in 24, its count in 32.
pub record Small (a : Answer) : Type 0 where
  pub number : number_of a < 2 ^ 8
  pub offset : offset_of a < 2 ^ 24
  pub count : count_of a < 2 ^ 32

-- A refusal and a verdict fit if their parts do.
pub small_refusal : (number offset : ℕ) → number < 2 ^ 8 → offset < 2 ^ 24 → Small (refusal number offset)
small_refusal number offset n o = record { number = n; offset = o; count = omega arith }

pub small_verdict : (number count : ℕ) → number < 2 ^ 8 → count < 2 ^ 32 → Small (verdict number count)
small_verdict number count n c = record { number = n; offset = omega arith; count = c }

-- So does a refusal that counts.
pub small_counts : (number offset count : ℕ) → number < 2 ^ 8 → offset < 2 ^ 24 → count < 2 ^ 32 → Small (refusal_with number offset count)
small_counts number offset count n o c = record { number = n; offset = o; count = c }

-- What holds of an answer holds of an equal one.
pub small_as : (a b : Answer) → a ≡ b → Small a → Small b
small_as a b e s = subst Small e s

-- ---- taking the number apart, as C does

-- The low 8 bits are the number, the next 24 the offset, the high 32 the count.
pub number_back : (a : Answer) → Small a → as_number a % 2 ^ 8 ≡ number_of a
unfolding as_number
number_back (verdict number count) s = omega (arith, s.number)
number_back (refusal number offset) s = omega (arith, s.number)
number_back (refusal_with number offset count) s = omega (arith, s.number)

pub offset_back : (a : Answer) → Small a → as_number a / 2 ^ 8 % 2 ^ 24 ≡ offset_of a
unfolding as_number
offset_back (verdict number count) s = omega (arith, s.number)
offset_back (refusal number offset) s = omega (arith, s.number, s.offset)
offset_back (refusal_with number offset count) s = omega (arith, s.number, s.offset)

pub count_back : (a : Answer) → Small a → as_number a / 2 ^ 32 ≡ count_of a
unfolding as_number
count_back (verdict number count) s = omega (arith, s.number)
count_back (refusal number offset) s = omega (arith, s.number, s.offset)
count_back (refusal_with number offset count) s = omega (arith, s.number, s.offset)

-- The number has 64 bits.
pub number_fits : (a : Answer) → Small a → as_number a < 2 ^ 64
unfolding as_number
number_fits (verdict number count) s = omega (arith, s.number, s.count)
number_fits (refusal number offset) s = omega (arith, s.number, s.offset)
number_fits (refusal_with number offset count) s = omega (arith, s.number, s.offset, s.count)
