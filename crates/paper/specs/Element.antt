-- What each operation makes of one channel's elements: patterns in, a pattern out, whole numbers in between (the paper, "Operations"). Assumes nothing.
use Rattle.std.specs.Prelude.{Bool, not, cond, ℕ, ◌-◌, ◌^◌, eqb, ℤ, pos, nat_abs, ◌+ℤ◌, ◌-ℤ◌, ◌*ℤ◌}
use Rattle.std.specs.Int.Signed.{lt_z}
use Rattle.std.specs.Int.Bits.{bit_and, bit_or, bit_xor}
use Rattle.paper.specs.Value.{type_f, value, modified, mod_z, floor_z, stored}
use Rattle.paper.specs.Single.{sum, product, compares_floats, sign_modified}
use Rattle.paper.specs.Operation.{Plain}

-- (a + b + 1) / 2, rounded down.
abbrev pub average : ℤ → ℤ → ℤ
average a b = floor_z (a +ℤ b +ℤ pos 1) 2

-- Shifts multiply or divide by 2 to the count modulo 32, rounding down.
abbrev pub shift_left : ℤ → ℤ → ℤ
shift_left a count = a *ℤ pos (2 ^ mod_z count 32)

abbrev pub shift_right : ℤ → ℤ → ℤ
shift_right a count = floor_z a (2 ^ mod_z count 32)

-- Logic works on values modulo 2^32.
abbrev pub logic : (ℕ → ℕ → ℕ) → ℤ → ℤ → ℤ
logic f a b = pos (f (mod_z a (2 ^ 32)) (mod_z b (2 ^ 32)))

abbrev pub complement : ℤ → ℤ
complement a = pos (2 ^ 32 - 1 - mod_z a (2 ^ 32))

abbrev pub is_zero : ℤ → Bool
is_zero v = eqb (nat_abs v) 0

-- What condition code c says of v against 0: 1 z, 2 nz, 3 g, 4 ge, 5 l, 6 le.
unfoldable pub compares : ℕ → ℤ → Bool
compares c v =
    cond (eqb c 1) (is_zero v)
    (cond (eqb c 2) (not (is_zero v))
    (cond (eqb c 3) (lt_z (pos 0) v)
    (cond (eqb c 4) (not (lt_z v (pos 0)))
    (cond (eqb c 5) (lt_z v (pos 0))
    (not (lt_z (pos 0) v))))))

abbrev pub one_if : Bool → ℤ
one_if b = cond b (pos 1) (pos 0)

-- The result of an operation on src0's value a and src1's b. c is the condition code, which cmp reads; p the predicate, which sel reads.

unfoldable pub result : Plain → ℕ → Bool → ℤ → ℤ → ℤ
result Plain.mov c p a b = a
result Plain.sel c p a b = cond p a b
result Plain.not c p a b = complement a
result Plain.and c p a b = logic bit_and a b
result Plain.or c p a b = logic bit_or a b
result Plain.xor c p a b = logic bit_xor a b
result Plain.shr c p a b = shift_right a b
result Plain.shl c p a b = shift_left a b
result Plain.asr c p a b = shift_right a b
result Plain.cmp c p a b = one_if (compares c (a -ℤ b))
result Plain.add c p a b = a +ℤ b
result Plain.mul c p a b = a *ℤ b
result Plain.avg c p a b = average a b

-- ---- floats, by their patterns (02 §8)

abbrev pub is_float : ℕ → Bool
is_float kind = eqb kind type_f

-- What condition code c says of two floats themselves.
abbrev pub meets_floats : ℕ → ℤ → ℤ → Bool
meets_floats c a b = compares_floats c (nat_abs a) (nat_abs b)

-- The result of an operation on floats. mov copies bits, cmp gives the whole number 1 or 0; no operation but these four is served (7), and nobody acts by the
-- others.
unfoldable pub float_result : Plain → ℕ → ℤ → ℤ → ℤ
float_result Plain.mov c a b = a
float_result Plain.add c a b = pos (sum (nat_abs a) (nat_abs b))
float_result Plain.mul c a b = pos (product (nat_abs a) (nat_abs b))
float_result Plain.cmp c a b = one_if (meets_floats c a b)
float_result Plain.sel c a b = a
float_result Plain.not c a b = a
float_result Plain.and c a b = a
float_result Plain.or c a b = a
float_result Plain.xor c a b = a
float_result Plain.shr c a b = a
float_result Plain.shl c a b = a
float_result Plain.asr c a b = a
float_result Plain.avg c a b = a

-- ---- patterns in, a pattern out

-- What an operation takes from a source: a pattern, its type, and the modifier under which it is read.
pub record Element : Type 0 where
  pub kind : ℕ
  pub modifier : ℕ
  pub pattern : ℕ

-- The whole number that it stands for. A float's is its pattern, and a modifier acts on the sign bit.
abbrev pub meaning : Element → ℤ
meaning a =
    cond (is_float a.kind) (pos (sign_modified a.modifier a.pattern))
    (modified a.modifier (value a.kind a.pattern))

-- The result of an operation on elements a and b. Where one operand is a float all are (8).
unfoldable pub result_of : Plain → ℕ → Bool → Element → Element → ℤ
result_of p c holds a b =
    cond (is_float a.kind) (float_result p c (meaning a) (meaning b))
    (result p c holds (meaning a) (meaning b))

-- The pattern of type `kind` that an operation stores for its sources' elements a and b.
unfoldable pub made : Plain → ℕ → Bool → Bool → ℕ → Element → Element → ℕ
made p c holds saturated kind a b = stored saturated kind (result_of p c holds a b)

-- What cmp finds for them: src0 − src1 compared with 0; the two floats themselves.
unfoldable pub meets : ℕ → Element → Element → Bool
meets c a b =
    cond (is_float a.kind) (meets_floats c (meaning a) (meaning b))
    (compares c (meaning a -ℤ meaning b))
