-- Laws of the four lines: how long they are, that lines written one after the other are the text, and that they are read as the four numbers. Assumes nothing.
use mathlib.Core.List.{List, [], ◌++◌, append-nil}
use Rattle.std.specs.Prelude.{◌≡◌}
use Rattle.std.proofs.Math.Path.{refl, sym, ap}
use Rattle.std.proofs.Common.{◌∙◌, arith, length-append}
use Prim.Native.Nat.{ℕ, ◌+◌, ◌<◌, ◌≤◌, ◌^◌}
use Rattle.std.proofs.Math.ListN.{length, drop}
use Rattle.std.proofs.lemmas.List.Edits.{sets, sets-eq}
use Rattle.paper.specs.Text.{decimal, line, value, line_at}
use Rattle.paper.specs.Log.{verdict_name}
use Rattle.text.specs.Decimals.{decimal_most}
use Rattle.text.specs.Written.{sets-append, length-line}
use Rattle.text.specs.Reading.{after_text, line_read}
use Rattle.front.specs.Printed.{Printed, at_name, instructions_name, bytes_name, printed_text}

-- The most bytes that four lines can have, with numbers below 2 ^ 64.
abbrev pub most_bytes : ℕ
most_bytes = 114

-- ---- lengths

-- By lines,
pub length_lines : (p : Printed) → length (printed_text p)
    ≡ length (line verdict_name (decimal p.verdict)) + (length (line at_name (decimal p.at))
    + (length (line instructions_name (decimal p.instructions)) + length (line bytes_name (decimal p.bytes))))
unfolding printed_text
length_lines p = simp length-append

line_digits : (name : List ℕ) (n : ℕ) → n < 2 ^ 64 → length (line name (decimal n)) ≤ length name + 21
line_digits name n h = omega (arith, length-line name n, decimal_most 19 n (omega arith))

-- Numbers below 2 ^ 64.
pub record Small (p : Printed) : Type 0 where
  pub verdict : p.verdict < 2 ^ 64
  pub at : p.at < 2 ^ 64
  pub instructions : p.instructions < 2 ^ 64
  pub bytes : p.bytes < 2 ^ 64

-- and at most.
pub length_most : (p : Printed) → Small p → length (printed_text p) ≤ most_bytes
length_most p s =
    omega (
      arith,
      length_lines p,
      line_digits verdict_name p.verdict s.verdict,
      line_digits at_name p.at s.at,
      line_digits instructions_name p.instructions s.instructions,
      line_digits bytes_name p.bytes s.bytes,
    )

-- ---- written

-- A text that is stored after another: both of them.
pub then_stored : (o l m t u : List ℕ) (i j : ℕ) → j ≡ i + length t → l ≡ sets o i t → m ≡ sets l j u → m ≡ sets o i (t ++ u)
then_stored o l m t u i j e a b =
    b ∙ (ap (λ (r : List ℕ). sets r j u) a ∙ (ap (λ (k : ℕ). sets (sets o i t) k u) e ∙ sets-append t u o i))

-- A text that is stored at the start stands first, and the rest stays.
pub first_stored : (o l t : List ℕ) (n : ℕ) → length t ≤ length o → n ≡ length t → l ≡ sets o 0 t → l ≡ t ++ drop n o
first_stored o l t n h e w =
    let k : 0 + length t ≡ n = omega arith in
    w ∙ (sets-eq t o 0 (omega arith) ∙ ap (λ (j : ℕ). t ++ drop j o) k)

-- ---- read

-- Read line by line, the text gives the four numbers, and then it is at its end.
pub record ReadAs (s : List ℕ) (p : Printed) : Type 0 where
  pub second : ℕ
  pub third : ℕ
  pub fourth : ℕ
  pub verdict : line_at s 0 verdict_name ≡ value p.verdict second
  pub at : line_at s second at_name ≡ value p.at third
  pub instructions : line_at s third instructions_name ≡ value p.instructions fourth
  pub bytes : line_at s fourth bytes_name ≡ value p.bytes (length s)

-- Numbers of up to ten digits, which a line may have to be read.
pub record TenDigits (p : Printed) : Type 0 where
  pub verdict : p.verdict < 10 ^ 10
  pub at : p.at < 10 ^ 10
  pub instructions : p.instructions < 10 ^ 10
  pub bytes : p.bytes < 10 ^ 10

module _ (p : Printed) where
  abbrev line1 : List ℕ
  line1 = line verdict_name (decimal p.verdict)

  abbrev line2 : List ℕ
  line2 = line at_name (decimal p.at)

  abbrev line3 : List ℕ
  line3 = line instructions_name (decimal p.instructions)

  abbrev line4 : List ℕ
  line4 = line bytes_name (decimal p.bytes)

  -- What was written is read.
  pub text_read : TenDigits p → ReadAs (printed_text p) p
  unfolding printed_text
  text_read small =
      let s : List ℕ = line1 ++ (line2 ++ (line3 ++ line4)) in
      let from2 : drop (0 + length line1) s ≡ line2 ++ (line3 ++ line4) = after_text s line1 (line2 ++ (line3 ++ line4)) 0 refl in
      let from3 : drop (0 + length line1 + length line2) s ≡ line3 ++ line4 = after_text s line2 (line3 ++ line4) (0 + length line1) from2 in
      let from4 : drop (0 + length line1 + length line2 + length line3) s ≡ line4 = after_text s line3 line4 (0 + length line1 + length line2) from3 in
      let last : 0 + length line1 + length line2 + length line3 + length line4 ≡ length s = omega (arith, length_lines p) in
      record {
        second = 0 + length line1;
        third = 0 + length line1 + length line2;
        fourth = 0 + length line1 + length line2 + length line3;
        verdict = line_read s verdict_name (line2 ++ (line3 ++ line4)) 0 p.verdict small.verdict refl;
        at = line_read s at_name (line3 ++ line4) (0 + length line1) p.at small.at from2;
        instructions = line_read s instructions_name line4 (0 + length line1 + length line2) p.instructions small.instructions from3;
        bytes =
            line_read s bytes_name [] (0 + length line1 + length line2 + length line3) p.bytes small.bytes (from4 ∙ sym (append-nil line4))
            ∙ ap (value p.bytes) last;
      }
