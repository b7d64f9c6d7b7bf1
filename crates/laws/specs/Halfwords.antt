-- Numbers of 16 bits as bytes, two each, the lowest first: what is read back from them, and that bytes are made of the numbers that they write.
-- Assumes nothing.
use Rattle.std.specs.Prelude.{◌≡◌, refl, true, List, [], ◌∷◌, ◌++◌, ℕ, zero, suc, ◌+◌, ◌*◌, ◌/◌, ◌%◌, ◌^◌, ◌<◌, ltb, length, get_or}
use Rattle.std.proofs.Common.{mul-suc, mod-eq_of_lt, arith, lit<, ltb-true}
use Rattle.std.proofs.Math.Numerals.{add-two}
use Rattle.std.proofs.Math.Pow.{are_bytes}
use Rattle.paper.specs.Bits.{number, number_at, bytes_of}
use Rattle.paper.specs.State.{half}
use Rattle.laws.specs.Truth.{both_true}

-- The numbers of a list as bytes, two each.
unfoldable pub halves : List ℕ → List ℕ
halves [] = []
halves (v ∷ vs) = bytes_of 2 v ++ halves vs

-- They are twice as many.
pub length-halves : (vs : List ℕ) → length (halves vs) ≡ 2 * length vs
unfolding halves bytes_of
length-halves [] = refl
length-halves (v ∷ vs) = omega (arith, length-halves vs)

-- Past the end stands 0.
half-nil : (a : ℕ) → half [] a ≡ 0
unfolding number_at number
half-nil zero = refl
half-nil (suc a) = refl

-- The k-th number is read back, modulo 2^16.
pub half-halves : (vs : List ℕ) (k : ℕ) → half (halves vs) (2 * k) ≡ get_or vs k 0 % 2 ^ 16
unfolding halves bytes_of number_at number
half-halves [] k = half-nil (2 * k)
half-halves (v ∷ vs) zero = omega arith
half-halves (v ∷ vs) (suc k) = rw (mul-suc 2 k, add-two) (half-halves vs k)

-- ---- bytes below 256

-- The first byte of a list of bytes is below 256,
head_less : (b : ℕ) (bs : List ℕ) → are_bytes (b ∷ bs) ≡ true → b < 256
head_less b bs h = ltb-true b 256 (both_true (ltb b 256) (are_bytes bs) h).0

-- and the rest is a list of bytes.
tail_bytes : (b : ℕ) (bs : List ℕ) → are_bytes (b ∷ bs) ≡ true → are_bytes bs ≡ true
tail_bytes b bs h = (both_true (ltb b 256) (are_bytes bs) h).1

-- Two bytes write a number below 2^16.
pub half_less : (l : List ℕ) (a : ℕ) → are_bytes l ≡ true → half l a < 2 ^ 16
unfolding number_at number
half_less [] a h = rw (half-nil a) (lit< tt)
half_less (b ∷ []) zero h = omega (arith, head_less b [] h)
half_less (b ∷ c ∷ bs) zero h = omega (arith, head_less b (c ∷ bs) h, head_less c bs (tail_bytes b (c ∷ bs) h))
half_less (b ∷ bs) (suc a) h = half_less bs a (tail_bytes b bs h)

-- Bytes that write the numbers of a list, two for each and no more, are those numbers' bytes.
pub halves_back : (vs bytes : List ℕ) → length bytes ≡ 2 * length vs → are_bytes bytes ≡ true
    → ((k : ℕ) → k < length vs → half bytes (2 * k) ≡ get_or vs k 0) → halves vs ≡ bytes
unfolding halves bytes_of number_at number
halves_back [] [] e h f = refl
halves_back [] (b ∷ bs) e h f = absurd (omega arith)
halves_back (v ∷ vs) [] e h f = absurd (omega arith)
halves_back (v ∷ vs) (b ∷ []) e h f = absurd (omega arith)
halves_back (v ∷ vs) (b ∷ c ∷ bs) e h f =
    let hb : b < 256 = head_less b (c ∷ bs) h in
    let hc : c < 256 = head_less c bs (tail_bytes b (c ∷ bs) h) in
    let ev : b + 256 * c ≡ v = omega (arith, f 0 (omega arith)) in
    let eb : v % 256 ≡ b = omega arith in
    let eq : v / 256 ≡ c = omega arith in
    let ec : v / 256 % 256 ≡ c = rw eq (mod-eq_of_lt hc) in
    let er : halves vs ≡ bs =
    halves_back vs bs (omega arith) (tail_bytes c bs (tail_bytes b (c ∷ bs) h)) (λ k q. rw (mul-suc 2 k, add-two) at (f (suc k) (omega arith))) in
    cc
