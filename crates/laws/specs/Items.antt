-- Bytes that were laid out parse to the instructions that they were laid out from. Assumes nothing.
use Rattle.std.specs.Prelude.{true, false, ◌≡◌, eqb}
use mathlib.Core.List.{List, [], ◌∷◌, ◌++◌, append_assoc}
use Rattle.std.proofs.Math.Option.{Option, none, some}
use Rattle.std.proofs.Math.Path.{sym, ap}
use Rattle.std.proofs.Common.{◌∙◌, subst, mod-eq_of_lt, length-drop, drop-drop, drop_at, lt-ltb, le-ltb}
use Prim.Native.Nat.{ℕ, zero, suc, ◌+◌, ◌-◌, ◌*◌, ◌/◌, ◌%◌, ◌^◌, ◌<◌, ◌≤◌}
use native.Mathlib.Omega.{arith}
use Rattle.std.proofs.Math.ListN.{length, drop, length-append}
use Rattle.paper.specs.Bits.{bits, number, number_at, bytes_of}
use Rattle.paper.specs.Limits.{instruction_limit}
use Rattle.paper.specs.Dictionary.{Dictionary}
use Rattle.paper.specs.Expand.{expand, is_short}
use Rattle.paper.specs.Shorten.{Shortens}
use Rattle.paper.specs.Operation.{operation, is_listed, is_branch}
use Rattle.paper.specs.Legal.{refusal_of}
use Rattle.paper.specs.Kernel.{Instr, Forms, takes_short, passed, judge_at, good, walk, parse}
use Rattle.paper.specs.Packing.{places_taken, encode}
use Rattle.laws.specs.Bytes.{length-bytes_of, number-bytes_of, bytes_of-add}
use Rattle.laws.specs.Judged.{Passed, as_long, as_short, passed_judge}

-- A word and its short form, if it is laid out short.
pub record Item : Type 0 where
  pub short : Option ℕ
  pub word : ℕ

abbrev pub item_size : Item → ℕ
item_size i = places_taken i.short

abbrev pub item_bytes : Item → List ℕ
item_bytes i = encode i.short i.word

-- The bytes of items one after the other.
unfoldable pub all_bytes : List Item → List ℕ
all_bytes [] = []
all_bytes (i ∷ is) = item_bytes i ++ all_bytes is

-- The instructions that they are, the first at place a.
unfoldable pub instrs_from : ℕ → List Item → List Instr
instrs_from a [] = []
instrs_from a (i ∷ is) = record { place = a; size = item_size i; word = i.word } ∷ instrs_from (a + item_size i) is

-- A word that a kernel may hold: a listed operation that breaks none of rules 6 to 11.
pub record Legal (w : ℕ) : Type 0 where
  pub listed : is_listed (operation w) ≡ true
  pub passes : refusal_of w ≡ 0

-- Its form is right too: long, of 128 bits with bit 29 clear; or a short word for it, where short words are taken.
pub data Formed (forms : Forms) (D : Dictionary) (w : ℕ) : Option ℕ → Type 0 where
  is_long : w < 2 ^ 128 → is_short w ≡ false → Formed forms D w none
  is_shortened : {s : ℕ} → takes_short forms ≡ true → Shortens D w s → Formed forms D w (some s)

unfoldable pub AllFormed : Forms → Dictionary → List Item → Type 0
AllFormed forms D [] = Unit {0}
AllFormed forms D (i ∷ is) = Legal i.word × Formed forms D i.word i.short × AllFormed forms D is

-- ---- one item

pub length-encode : (short : Option ℕ) (w : ℕ) → length (encode short w) ≡ 8 * places_taken short
length-encode none w = length-bytes_of 16 w
length-encode (some s) w = length-bytes_of 8 s

-- What stands from an offset on begins with the bytes of v.
module _ (kernel : List ℕ) (from n v : ℕ) (rest : List ℕ) (e : drop from kernel ≡ bytes_of n v ++ rest) where
  number_there : number_at kernel from n ≡ v % 256 ^ n
  unfolding number_at
  number_there = ap (number n) e ∙ number-bytes_of n v rest

  room_there : from ≤ length kernel → from + n ≤ length kernel
  room_there h =
      let l : length kernel - from ≡ n + length rest =
      sym (length-drop from kernel) ∙ ap length e ∙ length-append (bytes_of n v) rest ∙ ap (λ (x : ℕ). x + length rest) (length-bytes_of n v) in
      omega arith

-- Bit 29 of a long word lies in its first eight bytes.
bit_29_low : (w : ℕ) → bits (w % 2 ^ 64) 29 1 ≡ bits w 29 1
bit_29_low w = omega arith

module _ (forms : Forms) (D : Dictionary) (same_operation : (s : ℕ) → operation (expand D s) ≡ operation s) (kernel : List ℕ) (from : ℕ) where
  long_there : (w : ℕ) (rest : List ℕ) → from ≤ length kernel → drop from kernel ≡ bytes_of 16 w ++ rest
      → Legal w → w < 2 ^ 128 → is_short w ≡ false → Passed forms D kernel from 2 w
  long_there w rest h e legal fits form =
      let n : number_at kernel from 16 ≡ w = number_there kernel from 16 w rest e ∙ mod-eq_of_lt fits in
      let cut : drop from kernel ≡ bytes_of 8 w ++ (bytes_of 8 (w / 256 ^ 8) ++ rest) =
      e ∙ ap (λ (l : List ℕ). l ++ rest) (bytes_of-add 8 8 w) ∙ append_assoc (bytes_of 8 w) (bytes_of 8 (w / 256 ^ 8)) rest in
      let b : is_short (number_at kernel from 8) ≡ false =
      ap is_short (number_there kernel from 8 w (bytes_of 8 (w / 256 ^ 8) ++ rest) cut) ∙ ap (λ (x : ℕ). eqb x 1) (bit_29_low w) ∙ form in
      subst (λ (x : ℕ). Passed forms D kernel from 2 x) n
      (as_long (room_there kernel from 16 w rest e h) b (ap (λ (x : ℕ). is_listed (operation x)) n ∙ legal.listed) (ap refusal_of n ∙ legal.passes))

  short_there : (w s : ℕ) (rest : List ℕ) → from ≤ length kernel → drop from kernel ≡ bytes_of 8 s ++ rest
      → Legal w → takes_short forms ≡ true → Shortens D w s → Passed forms D kernel from 1 w
  short_there w s rest h e legal takes is =
      let n : number_at kernel from 8 ≡ s = number_there kernel from 8 s rest e ∙ mod-eq_of_lt is.fits in
      let listed : is_listed (operation s) ≡ true =
      ap is_listed (sym (same_operation s)) ∙ ap (λ (x : ℕ). is_listed (operation x)) is.same ∙ legal.listed in
      subst (λ (x : ℕ). Passed forms D kernel from 1 x) (ap (expand D) n ∙ is.same)
      (as_short (room_there kernel from 8 s rest e h) (ap is_short n ∙ is.marked) (ap (λ (x : ℕ). is_listed (operation x)) n ∙ listed)
      (ap (λ (x : ℕ). is_branch (operation x)) n ∙ is.plain) takes (ap (λ (x : ℕ). refusal_of (expand D x)) n ∙ ap refusal_of is.same ∙ legal.passes))

  item_there : (short : Option ℕ) (w : ℕ) (rest : List ℕ) → from ≤ length kernel → drop from kernel ≡ encode short w ++ rest
      → Legal w → Formed forms D w short → Passed forms D kernel from (places_taken short) w
  item_there none w rest h e legal (is_long fits form) = long_there w rest h e legal fits form
  item_there (some s) w rest h e legal (is_shortened takes is) = short_there w s rest h e legal takes is

-- ---- all of them

size_positive : (short : Option ℕ) → 0 < places_taken short
size_positive none = omega arith
size_positive (some s) = omega arith

module _ (forms : Forms) (D : Dictionary) (same_operation : (s : ℕ) → operation (expand D s) ≡ operation s) (kernel : List ℕ) where
  -- what stands after the first item
  after : (from : ℕ) (short : Option ℕ) (w : ℕ) (rest : List ℕ) → drop from kernel ≡ encode short w ++ rest
      → drop (from + 8 * places_taken short) kernel ≡ rest
  after from short w rest e =
      sym (drop-drop (8 * places_taken short) from kernel) ∙ ap (drop (8 * places_taken short)) e
      ∙ drop_at (encode short w) rest (8 * places_taken short) (length-encode short w)

  pub walk_items : (n : ℕ) (is : List Item) (a : ℕ) → length is ≤ n → 8 * a ≤ length kernel → drop (8 * a) kernel ≡ all_bytes is → AllFormed forms D is
      → walk (judge_at forms D kernel) (length kernel) n (8 * a) ≡ good (instrs_from a is)
  unfolding walk all_bytes instrs_from AllFormed
  walk_items zero [] a few le e all =
      let l : length kernel - 8 * a ≡ 0 = sym (length-drop (8 * a) kernel) ∙ ap length e in
      rw (le-ltb (8 * a) (length kernel) (omega arith))
  walk_items zero (i ∷ is) a few le e all = absurd (omega arith)
  walk_items (suc n) [] a few le e all =
      let l : length kernel - 8 * a ≡ 0 = sym (length-drop (8 * a) kernel) ∙ ap length e in
      rw (le-ltb (8 * a) (length kernel) (omega arith))
  walk_items (suc n) (i ∷ is) a few le e all =
      let l : length kernel - 8 * a ≡ 8 * item_size i + length (all_bytes is) =
      sym (length-drop (8 * a) kernel) ∙ ap length e ∙ length-append (item_bytes i) (all_bytes is)
      ∙ ap (λ (x : ℕ). x + length (all_bytes is)) (length-encode i.short i.word) in
      let pos = size_positive i.short in
      let lt : 8 * a < length kernel = omega arith in
      let j : judge_at forms D kernel (8 * a) ≡ passed (item_size i) i.word =
      passed_judge forms D kernel (8 * a) lt (item_size i) i.word
      (item_there forms D same_operation kernel (8 * a) i.short i.word (all_bytes is) le e all.0 all.1) in
      let next : 8 * a + 8 * item_size i ≡ 8 * (a + item_size i) = omega arith in
      let place : 8 * a / 8 ≡ a = omega arith in
      let ih : walk (judge_at forms D kernel) (length kernel) n (8 * (a + item_size i)) ≡ good (instrs_from (a + item_size i) is) =
      walk_items n is (a + item_size i) (omega arith) (omega arith)
      (ap (λ (x : ℕ). drop x kernel) (sym next) ∙ after (8 * a) i.short i.word (all_bytes is) e) all.2 in
      rw (lt-ltb (8 * a) (length kernel) lt, j, next, place, ih)

  pub parse_items : (is : List Item) → length is ≤ instruction_limit → kernel ≡ all_bytes is → AllFormed forms D is
      → parse forms D kernel ≡ good (instrs_from 0 is)
  unfolding parse
  parse_items is few e all = walk_items instruction_limit is 0 few (omega arith) e all
