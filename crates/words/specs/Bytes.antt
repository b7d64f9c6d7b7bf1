-- Where a stored number's bytes stand in the list, and a long word's two halves. Assumes nothing.
use Rattle.std.specs.Prelude.{List, [], ◌++◌, ◌≡◌, refl, ℕ, zero, suc, ◌+◌, ◌*◌, ◌/◌, ◌%◌, ◌^◌, ◌<◌, ◌≤◌, length, set, take, drop}
use Rattle.std.proofs.Common.{append_assoc, sym, ◌∙◌, add-zero, pow-suc, add-one, arith, length-set, take-append-drop, length-append, take-suc-set, drop-set-lt}
use Rattle.std.proofs.Math.Seq.{take-append_seam, drop-append-add}
use Rattle.paper.specs.Bits.{bytes_of, put_at}
use Rattle.laws.specs.Bits.{top_of}
use Rattle.numbers.specs.Bytes.{parts_put}

-- What stands above the n lowest bytes is not stored.
pub above_put : (n : ℕ) (l : List ℕ) (from v x : ℕ) → put_at l from n (v + x * 256 ^ n) ≡ put_at l from n v
unfolding put_at
above_put zero l from v x = refl
above_put (suc n) l from v x =
    let low : (v + x * 256 ^ suc n) % 256 ≡ v % 256 = rw (pow-suc 256 n) (omega arith) in
    let high : (v + x * 256 ^ suc n) / 256 ≡ v / 256 + x * 256 ^ n = rw (pow-suc 256 n) (omega arith) in
    rw (low, high) (above_put n (set l from (v % 256)) (from + 1) (v / 256) x)

-- A store inside the list: what stands before it, the bytes, what stands behind them.
pub inside_put : (n : ℕ) (l : List ℕ) (from v : ℕ) → from + n ≤ length l → put_at l from n v ≡ take from l ++ (bytes_of n v ++ drop (from + n) l)
unfolding put_at bytes_of
inside_put zero l from v h = rw (add-zero from) (sym (take-append-drop from l))
inside_put (suc n) l from v h =
    let next : from + suc n ≡ suc from + n = omega arith in
    let in_list : from < length l = omega arith in
    inside_put n (set l from (v % 256)) (from + 1) (v / 256) (rw (length-set l from (v % 256)) (omega arith))
    ∙ rw (add-one from, take-suc-set l from (v % 256) in_list, drop-set-lt (suc from + n) l from (v % 256) (omega arith), append_assoc, next)

-- A store right behind what is done.
pub next_put : (n : ℕ) (done rest : List ℕ) (v : ℕ) → n ≤ length rest → put_at (done ++ rest) (length done) n v ≡ done ++ (bytes_of n v ++ drop n rest)
next_put n done rest v h =
    inside_put n (done ++ rest) (length done) v (rw (length-append done rest) (omega arith))
    ∙ rw (take-append_seam done rest, drop-append-add done rest n)

-- A store at the list's start.
pub front_put : (n : ℕ) (l : List ℕ) (v : ℕ) → n ≤ length l → put_at l 0 n v ≡ bytes_of n v ++ drop n l
front_put n l v h = next_put n [] l v h

-- A long word is stored half by half.
pub halves_put : (l : List ℕ) (from lo hi : ℕ) → lo < 2 ^ 64 → put_at (put_at l from 8 lo) (from + 8) 8 hi ≡ put_at l from 16 (lo + hi * 2 ^ 64)
halves_put l from lo hi h =
    let low : put_at l from 8 (lo + hi * 2 ^ 64) ≡ put_at l from 8 lo = above_put 8 l from lo hi in
    let high : (lo + hi * 2 ^ 64) / 2 ^ 64 ≡ hi = top_of 64 hi h in
    rw (low, high) at (parts_put l from 8 8 (lo + hi * 2 ^ 64))
