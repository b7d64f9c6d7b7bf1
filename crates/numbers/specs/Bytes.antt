-- Laws of reading and storing numbers as bytes, part by part. Assumes nothing.
use Rattle.std.specs.Prelude.{List, ◌≡◌, refl, ℕ, zero, suc, ◌+◌, ◌*◌, ◌/◌, ◌%◌, ◌^◌, ◌≤◌, length, get_or, set, drop}
use Rattle.std.proofs.Common.{sym, ap, ◌∙◌, add-zero, zero-add, div-one, mul_comm, pow-suc, arith, length-drop, drop-drop}
use Rattle.std.proofs.Math.Nat.{div-div-eq-div-mul}
use Rattle.paper.specs.Bits.{number, number_at, put_at}
use Rattle.laws.specs.Bytes.{number-add, number_at-suc}

-- ---- reading

-- No bytes write 0.
none_read : (l : List ℕ) (from : ℕ) → number_at l from 0 ≡ 0
unfolding number_at number
none_read l from = refl

-- One byte.
pub one_read : (l : List ℕ) (from : ℕ) → number_at l from 1 ≡ get_or l from 0
one_read l from = omega (arith, number_at-suc l from 0, none_read l (from + 1))

-- Two bytes.
pub two_read : (l : List ℕ) (from : ℕ) → number_at l from 2 ≡ get_or l from 0 + get_or l (from + 1) 0 * 256
two_read l from = omega (arith, number_at-suc l from 1, number_at-suc l (from + 1) 0, none_read l (from + 1 + 1))

-- Four bytes.
pub four_read : (l : List ℕ) (from : ℕ)
    → number_at l from 4 ≡ get_or l from 0 + get_or l (from + 1) 0 * 256 + get_or l (from + 2) 0 * 65536 + get_or l (from + 3) 0 * 16777216
four_read l from =
    let s : from + 2 ≡ from + 1 + 1 = omega arith in
    let t : from + 3 ≡ from + 1 + 1 + 1 = omega arith in
    rw (s, t)
    (omega (arith, number_at-suc l from 3, number_at-suc l (from + 1) 2, number_at-suc l (from + 1 + 1) 1, number_at-suc l (from + 1 + 1 + 1) 0, none_read l (from + 1 + 1 + 1 + 1)))

-- Of m + n bytes: the number of the first m, and that of the other n above it.
pub parts_read : (l : List ℕ) (from m n : ℕ) → from + m ≤ length l → number_at l from (m + n) ≡ number_at l from m + number_at l (from + m) n * 256 ^ m
unfolding number_at
parts_read l from m n h =
    number-add m n (drop from l) (rw (length-drop from l) (omega arith))
    ∙ ap (λ (x : List ℕ). number m (drop from l) + 256 ^ m * number n x) (drop-drop m from l)
    ∙ ap (λ (x : ℕ). number m (drop from l) + x) (mul_comm (256 ^ m) (number n (drop (from + m) l)))

-- ---- storing

-- Storing m bytes, and then n more of what is above them, stores m + n.
pub parts_put : (l : List ℕ) (from m n v : ℕ) → put_at (put_at l from m v) (from + m) n (v / 256 ^ m) ≡ put_at l from (m + n) v
unfolding put_at
parts_put l from zero n v = rw (add-zero from, zero-add n, div-one v)
parts_put l from (suc m) n v =
    let next : from + suc m ≡ from + 1 + m = omega arith in
    let count : suc m + n ≡ suc (m + n) = omega arith in
    let above : v / 256 ^ suc m ≡ v / 256 / 256 ^ m =
    ap (λ (x : ℕ). v / x) (pow-suc 256 m ∙ mul_comm (256 ^ m) 256) ∙ sym (div-div-eq-div-mul v 256 (256 ^ m)) in
    rw (next, count, above) (parts_put (set l from (v % 256)) (from + 1) m n (v / 256))

-- One byte stored, and then the others.
pub put_step : (l : List ℕ) (at n m v : ℕ) → n ≡ suc m → put_at (set l at (v % 256)) (at + 1) m (v / 256) ≡ put_at l at n v
unfolding put_at
put_step l at n m v e = rw e
