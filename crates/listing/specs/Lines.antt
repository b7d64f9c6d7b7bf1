-- An instruction's six lines: what was listed is read, nothing else is, and how long they are. Assumes nothing.
use Rattle.std.specs.Prelude.{Bool, true, false, cond, ◌&&◌, List, [], ◌∷◌, ◌++◌, ◌≡◌, refl, ℕ, zero, suc, ◌+◌, ◌-◌, ◌*◌, ◌/◌, ◌%◌, ◌^◌, ◌<◌, ◌≤◌, eqb, ltb, leb, length, drop, get_or}
use Rattle.std.proofs.lemmas.Bool.{false≢true}
use Rattle.std.proofs.Common.{append_assoc, sym, ap, ◌∙◌, subst, arith, mod-lt, mul_assoc, length-append, get_or-drop, drop-drop, pow_pos, shr_lt, ltb-true}
use Rattle.std.proofs.Math.Option.{none, some}
use Rattle.std.proofs.Math.Nat.{div-div-eq-div-mul, pow-succ'}
use Rattle.paper.specs.Bits.{◌at◌}
use Rattle.paper.specs.Dictionary.{Dictionary}
use Rattle.paper.specs.Kernel.{Instr}
use Rattle.paper.specs.Text.{decimal, hexes, line, Found, whole, torn, other, found, hex_from, hex_value, value, answered, hex_at}
use Rattle.paper.specs.Log.{place_name}
use Rattle.paper.specs.Listing.{form_name, long_name, short_name, form_of, dword_name, dword, dword_line, instr_text, taken, dword_at, word_at, candidate, is_whole, instr_at}
use Rattle.text.specs.Decimals.{decimal_most}
use Rattle.text.specs.Reading.{found-whole, whole_is, after_text}
use Rattle.text.specs.Hexes.{hex_read}
use Rattle.text.specs.Steps.{length-hexes}
use Rattle.laws.specs.Bits.{halves, whole_lt}

-- ---- lines

pub length_lined : (name text : List ℕ) → length (line name text) ≡ length name + length text + 1
unfolding line
length_lined name text = omega (arith, length-append name (text ++ (10 ∷ [])), length-append text (10 ∷ []))

-- What stands after the name of a line that stands at a place, and after the line.
pub value_there : (s name text rest : List ℕ) (from : ℕ) → drop from s ≡ line name text ++ rest → drop (from + length name) s ≡ text ++ (10 ∷ rest)
unfolding line
value_there s name text rest from e =
    after_text s name (text ++ (10 ∷ rest)) from
    (e ∙ (append_assoc name (text ++ (10 ∷ [])) rest ∙ ap (λ (l : List ℕ). name ++ l) (append_assoc text (10 ∷ []) rest)))

-- The first of two texts that stand at a place, and the second.
first_there : (s a b rest : List ℕ) (from : ℕ) → drop from s ≡ (a ++ b) ++ rest → drop from s ≡ a ++ (b ++ rest)
first_there s a b rest from e = e ∙ append_assoc a b rest

second_there : (s a b rest : List ℕ) (from : ℕ) → drop from s ≡ (a ++ b) ++ rest → drop (from + length a) s ≡ b ++ rest
second_there s a b rest from e = after_text s a (b ++ rest) from (first_there s a b rest from e)

-- ---- dwords

-- A number that was read is the one that its digits make.
number_told : (v n a b : ℕ) (x : Found) → answered v a x ≡ value n b → v ≡ n
number_told v n a b whole e = cc
number_told v n a b torn e = absurd (let z : ◌≡◌ {A = ℕ} 0 1 = cc in omega arith)
number_told v n a b other e = absurd (let z : ◌≡◌ {A = ℕ} 0 1 = cc in omega arith)

digits_there : (s rest : List ℕ) (from n : ℕ) → n < 2 ^ 32 → drop from s ≡ hexes 8 n ++ rest → hex_from 0 8 (drop from s) ≡ n
unfolding hex_at
digits_there s rest from n h e =
    number_told (hex_from 0 8 (drop from s)) n (from + 8) (from + 8) (found (hexes 8 (hex_from 0 8 (drop from s))) (drop from s)) (hex_read s rest from n h e)

dword_lt : (w n : ℕ) → dword w n < 2 ^ 32
dword_lt w n = mod-lt (w / 2 ^ (32 * n)) (pow_pos 32)

pub length-dword : (w n : ℕ) → length (dword_line w n) ≡ 12
length-dword w n = length_lined (dword_name n) (hexes 8 (dword w n)) ∙ ap (λ (x : ℕ). 3 + x + 1) (length-hexes 8 (dword w n))

-- A dword's line tells it.
dword-there : (s rest : List ℕ) (from w n : ℕ) → drop from s ≡ dword_line w n ++ rest → hex_from 0 8 (drop (from + 3) s) ≡ dword w n
dword-there s rest from w n e =
    digits_there s (10 ∷ rest) (from + 3) (dword w n) (dword_lt w n) (value_there s (dword_name n) (hexes 8 (dword w n)) rest from e)

-- Four dwords make a word.
low_joined : (w : ℕ) → w / 1 % 2 ^ 32 + w / 2 ^ 32 % 2 ^ 32 * 2 ^ 32 ≡ w % 2 ^ 64
low_joined w = omega arith

high_joined : (v : ℕ) → v < 2 ^ 64 → v % 2 ^ 32 + v / 2 ^ 32 % 2 ^ 32 * 2 ^ 32 ≡ v
high_joined v h = omega arith

pub sum_joined : (a b c d l h : ℕ) → a + b * 2 ^ 32 ≡ l → c + d * 2 ^ 32 ≡ h → a + b * 2 ^ 32 + c * 2 ^ 64 + d * 2 ^ 96 ≡ l + h * 2 ^ 64
sum_joined a b c d l h p q = omega arith

joined : (w : ℕ) → w < 2 ^ 128 → dword w 0 + dword w 1 at 32 + dword w 2 at 64 + dword w 3 at 96 ≡ w
joined w h =
    let v = w / 2 ^ 64 in
    let e : w / 2 ^ 96 ≡ v / 2 ^ 32 = sym (div-div-eq-div-mul w (2 ^ 64) (2 ^ 32)) in
    let high : dword w 2 + dword w 3 * 2 ^ 32 ≡ v =
    ap (λ (x : ℕ). dword w 2 + x % 2 ^ 32 * 2 ^ 32) e ∙ high_joined v (shr_lt 64 64 h) in
    sum_joined (dword w 0) (dword w 1) (dword w 2) (dword w 3) (w % 2 ^ 64) v (low_joined w) high ∙ sym (halves w)

-- The four lines of a word.
abbrev word_lines : ℕ → List ℕ
word_lines w = dword_line w 0 ++ (dword_line w 1 ++ (dword_line w 2 ++ dword_line w 3))

word_there : (s rest : List ℕ) (from w : ℕ) → w < 2 ^ 128 → drop from s ≡ word_lines w ++ rest → word_at s from ≡ w
word_there s rest from w h e =
    let d0 = dword_line w 0 in
    let d1 = dword_line w 1 in
    let d2 = dword_line w 2 in
    let d3 = dword_line w 3 in
    let l1 : from + 12 ≡ from + length d0 = omega (arith, length-dword w 0) in
    let l2 : from + 24 ≡ from + 12 + length d1 = omega (arith, length-dword w 1) in
    let l3 : from + 36 ≡ from + 24 + length d2 = omega (arith, length-dword w 2) in
    let f1 : drop (from + 12) s ≡ (d1 ++ (d2 ++ d3)) ++ rest =
    ap (λ (x : ℕ). drop x s) l1 ∙ second_there s d0 (d1 ++ (d2 ++ d3)) rest from e in
    let f2 : drop (from + 24) s ≡ (d2 ++ d3) ++ rest = ap (λ (x : ℕ). drop x s) l2 ∙ second_there s d1 (d2 ++ d3) rest (from + 12) f1 in
    let f3 : drop (from + 36) s ≡ d3 ++ rest = ap (λ (x : ℕ). drop x s) l3 ∙ second_there s d2 d3 rest (from + 24) f2 in
    let at_0 : dword_at s from 0 ≡ dword w 0 =
    dword-there s ((d1 ++ (d2 ++ d3)) ++ rest) from w 0 (first_there s d0 (d1 ++ (d2 ++ d3)) rest from e) in
    let p1 : from + 15 ≡ from + 12 + 3 = omega arith in
    let at_1 : dword_at s from 1 ≡ dword w 1 =
    ap (λ (x : ℕ). hex_from 0 8 (drop x s)) p1 ∙ dword-there s ((d2 ++ d3) ++ rest) (from + 12) w 1 (first_there s d1 (d2 ++ d3) rest (from + 12) f1) in
    let p2 : from + 27 ≡ from + 24 + 3 = omega arith in
    let at_2 : dword_at s from 2 ≡ dword w 2 =
    ap (λ (x : ℕ). hex_from 0 8 (drop x s)) p2 ∙ dword-there s (d3 ++ rest) (from + 24) w 2 (first_there s d2 d3 rest (from + 24) f2) in
    let p3 : from + 39 ≡ from + 36 + 3 = omega arith in
    let at_3 : dword_at s from 3 ≡ dword w 3 = ap (λ (x : ℕ). hex_from 0 8 (drop x s)) p3 ∙ dword-there s rest (from + 36) w 3 f3 in
    rw (at_0, at_1, at_2, at_3) (joined w h)

-- ---- an instruction

-- An instruction as a listing has it: short or long, with a word of 128 bits.
pub record Shaped (i : Instr) : Type 0 where
  pub is_short : Bool
  pub size : i.size ≡ cond is_short 1 2
  pub fits : i.word < 2 ^ 128

-- Its form's first letter tells it, and how long the form is.
letter : (b : Bool) (rest : List ℕ) → eqb (get_or (form_of (cond b 1 2) ++ rest) 0 0) 115 ≡ b
letter true rest = refl
letter false rest = refl

-- The instruction whose lines stand there is the candidate.
candidate-there : (s rest : List ℕ) (p from : ℕ) (b : Bool) (w : ℕ) → w < 2 ^ 128
    → drop from s ≡ instr_text (record { place = p; size = cond b 1 2; word = w }) ++ rest
    → candidate s p from ≡ record { place = p; size = cond b 1 2; word = w }
unfolding candidate instr_text
candidate-there s rest p from b w h e =
    let P = line place_name (decimal p) in
    let form = form_of (cond b 1 2) in
    let F = line form_name form in
    let f1 : drop (from + length P) s ≡ (F ++ word_lines w) ++ rest = second_there s P (F ++ word_lines w) rest from e in
    let f2 : drop (from + length P + length F) s ≡ word_lines w ++ rest = second_there s F (word_lines w) rest (from + length P) f1 in
    let v : drop (from + length P + length form_name) s ≡ form ++ (10 ∷ (word_lines w ++ rest)) =
    value_there s form_name form (word_lines w ++ rest) (from + length P) (first_there s F (word_lines w) rest (from + length P) f1) in
    let z : from + length P + length form_name + 0 ≡ from + length P + length form_name = omega arith in
    let g : get_or s (from + length P + length form_name) 0 ≡ get_or (form ++ (10 ∷ (word_lines w ++ rest))) 0 0 =
    ap (λ (x : ℕ). get_or s x 0) (sym z) ∙ (sym (get_or-drop (from + length P + length form_name) s 0 0) ∙ ap (λ (l : List ℕ). get_or l 0 0) v) in
    let t : eqb (get_or s (from + length P + length form_name) 0) 115 ≡ b =
    ap (λ (x : ℕ). eqb x 115) g ∙ letter b (10 ∷ (word_lines w ++ rest)) in
    let n : from + length P + length form_name + length form + 1 ≡ from + length P + length F = omega (arith, length_lined form_name form) in
    let word : word_at s (from + length P + length form_name + length form + 1) ≡ w = ap (word_at s) n ∙ word_there s rest (from + length P + length F) w h f2 in
    rw (t, word)

-- ---- what is read

-- Digits make a number below their power of 16.
value_lt : (b : ℕ) → hex_value b < 16
value_lt b = go (leb 48 b) refl (ltb b 58) refl (leb 97 b) refl (ltb b 103) refl
  where
    go : (x : Bool) → leb 48 b ≡ x → (y : Bool) → ltb b 58 ≡ y → (z : Bool) → leb 97 b ≡ z → (t : Bool) → ltb b 103 ≡ t
        → cond (x && y) (b - 48) (cond (z && t) (b - 87) 0) < 16
    go true h true k z l t m = omega (arith, ltb-true b 58 k)
    go true h false k true l true m = omega (arith, ltb-true b 103 m)
    go true h false k true l false m = omega arith
    go true h false k false l t m = omega arith
    go false h y k true l true m = omega (arith, ltb-true b 103 m)
    go false h y k true l false m = omega arith
    go false h y k false l t m = omega arith

pub from_lt : (k v m : ℕ) (s : List ℕ) → v < m → hex_from v k s < m * 16 ^ k
unfolding hex_from
from_lt zero v m s h = omega arith
from_lt (suc k) v m [] h = rw (pow-succ' 16 k, ← mul_assoc m 16 (16 ^ k)) (from_lt k (v * 16 + 0) (m * 16) [] (omega arith))
from_lt (suc k) v m (b ∷ s) h =
    let d = value_lt b in
    rw (pow-succ' 16 k, ← mul_assoc m 16 (16 ^ k)) (from_lt k (v * 16 + hex_value b) (m * 16) s (omega arith))

read_lt : (s : List ℕ) (from n : ℕ) → dword_at s from n < 2 ^ 32
read_lt s from n = from_lt 8 0 1 (drop (from + (12 * n + 3)) s) (omega arith)

low_lt : (a b : ℕ) → a < 2 ^ 32 → b < 2 ^ 32 → a + b * 2 ^ 32 < 2 ^ 64
low_lt a b p q = omega arith

word_lt : (s : List ℕ) (from : ℕ) → word_at s from < 2 ^ 128
word_lt s from =
    let a = dword_at s from 0 in
    let b = dword_at s from 1 in
    let c = dword_at s from 2 in
    let d = dword_at s from 3 in
    rw (sum_joined a b c d (a + b * 2 ^ 32) (c + d * 2 ^ 32) refl refl)
    (whole_lt (a + b * 2 ^ 32) (c + d * 2 ^ 32) (low_lt a b (read_lt s from 0) (read_lt s from 1)) (low_lt c d (read_lt s from 2) (read_lt s from 3)))

-- The candidate has its place, and the shape of an instruction.
candidate-place : (s : List ℕ) (p from : ℕ) → (candidate s p from).place ≡ p
unfolding candidate
candidate-place s p from = refl

candidate-shaped : (s : List ℕ) (p from : ℕ) → Shaped (candidate s p from)
unfolding candidate
candidate-shaped s p from =
    let v = from + length (line place_name (decimal p)) + length form_name in
    let b = eqb (get_or s v 0) 115 in
    record { is_short = b; size = refl; fits = word_lt s (v + length (form_of (cond b 1 2)) + 1) }

-- What is known of an instruction that was read at place p, whose lines begin at a byte.
pub record ReadAt (D : Dictionary) (s : List ℕ) (p from : ℕ) (i : Instr) : Type 0 where
  pub place : i.place ≡ p
  pub shaped : Shaped i
  pub there : drop from s ≡ instr_text i ++ drop (from + length (instr_text i)) s
  pub takes : taken D i ≡ true

is_whole_lem : (x : Found) → is_whole x ≡ true → x ≡ whole
is_whole_lem whole e = refl
is_whole_lem torn e = absurd (false≢true e)
is_whole_lem other e = absurd (false≢true e)

-- Nothing else is read.
pub instr_only : (D : Dictionary) (s : List ℕ) (p from : ℕ) (i : Instr) → instr_at D s p from ≡ some i → ReadAt D s p from i
unfolding instr_at
instr_only D s p from i e =
    let c = candidate s p from in
    go (is_whole (found (instr_text c) (drop from s))) refl (taken D c) refl e
  where
    go : (x : Bool) → is_whole (found (instr_text (candidate s p from)) (drop from s)) ≡ x → (y : Bool) → taken D (candidate s p from) ≡ y
        → cond (x && y) (some (candidate s p from)) none ≡ some i → ReadAt D s p from i
    go true h true k e =
        let c = candidate s p from in
        let q : c ≡ i = cc in
        let f = whole_is (instr_text c) (drop from s) (is_whole_lem (found (instr_text c) (drop from s)) h) in
        subst (λ (i : Instr). ReadAt D s p from i) q
        (record {
          place = candidate-place s p from;
          shaped = candidate-shaped s p from;
          there = f ∙ ap (λ (l : List ℕ). instr_text c ++ l) (drop-drop (length (instr_text c)) from s);
          takes = k;
        })
    go true h false k e = let z : ◌≡◌ {A = ℕ} 0 1 = cc in absurd (omega arith)
    go false h y k e = let z : ◌≡◌ {A = ℕ} 0 1 = cc in absurd (omega arith)

-- What was listed is read.
shape_is : (i : Instr) (h : Shaped i) → record { place = i.place; size = cond h.is_short 1 2; word = i.word } ≡ i
shape_is i h = λ k. record { place = i.place; size = sym h.size k; word = i.word }

pub candidate_is : (s rest : List ℕ) (from : ℕ) (i : Instr) → Shaped i → drop from s ≡ instr_text i ++ rest → candidate s i.place from ≡ i
candidate_is s rest from i h e =
    candidate-there s rest i.place from h.is_short i.word h.fits (e ∙ ap (λ (i : Instr). instr_text i ++ rest) (sym (shape_is i h)))
    ∙ shape_is i h

pub instr_there : (D : Dictionary) (s rest : List ℕ) (from : ℕ) (i : Instr) → Shaped i → taken D i ≡ true → drop from s ≡ instr_text i ++ rest
    → instr_at D s i.place from ≡ some i
unfolding instr_at
instr_there D s rest from i h t e =
    let f : is_whole (found (instr_text i) (drop from s)) ≡ true =
    ap (λ (l : List ℕ). is_whole (found (instr_text i) l)) e ∙ ap is_whole (found-whole (instr_text i) rest) in
    rw (candidate_is s rest from i h e, f, t)

-- ---- how long

pub form_length : (size : ℕ) → length (form_of size) ≤ 5
form_length size = go (eqb size 1)
  where
    go : (b : Bool) → length (cond b short_name long_name) ≤ 5
    go true = omega arith
    go false = omega arith

-- Six lines have some bytes, and at most 70 where the place has at most four digits.
pub lines_length : (i : Instr) → length (instr_text i) ≡ 61 + length (decimal i.place) + length (form_of i.size)
unfolding instr_text
lines_length i =
    let w = i.word in
    let P = line place_name (decimal i.place) in
    let F = line form_name (form_of i.size) in
    omega (
      arith,
      length-append P (F ++ word_lines w),
      length-append F (word_lines w),
      length-append (dword_line w 0) (dword_line w 1 ++ (dword_line w 2 ++ dword_line w 3)),
      length-append (dword_line w 1) (dword_line w 2 ++ dword_line w 3),
      length-append (dword_line w 2) (dword_line w 3),
      length-dword w 0,
      length-dword w 1,
      length-dword w 2,
      length-dword w 3,
      length_lined place_name (decimal i.place),
      length_lined form_name (form_of i.size),
    )

pub lines_most : (i : Instr) → i.place < 10000 → length (instr_text i) ≤ 70
lines_most i h = omega (arith, lines_length i, decimal_most 3 i.place h, form_length i.size)
