-- The four numbers that the checking program prints, and their text (the paper, "The checking program"). Assumes nothing.
use Rattle.std.proofs.Math.Bool.{and-false}
use Rattle.std.specs.Prelude.{Option, None, Some, List, [], ◌∷◌, ◌++◌, ◌≡◌, refl, ℕ, zero, suc, ◌+◌, ◌<◌, ◌≤◌, length, take, drop}
use Rattle.std.proofs.Common.{sym, ap, ◌∙◌, arith, ⊎_elim, length-take, take_all}
use Rattle.std.proofs.lemmas.List.{drop-take}
use Rattle.std.proofs.lemmas.Bool.{lt-leb}
use Rattle.paper.specs.Limits.{dictionary_bytes, kernel_bytes}
use Rattle.paper.specs.Text.{decimal, line}
use Rattle.text.specs.Decimals.{below}
use Rattle.paper.specs.Log.{verdict_name}
use Rattle.paper.specs.Calls.{Answer, verdict, refusal, refusal_with, check_call, accepted}
use Rattle.words.specs.Answer.{refused_as}
use Rattle.front.specs.declared.report.Report.{Report}

-- Named as the lines are.
pub record Printed : Type 0 where
  pub verdict : ℕ
  pub at : ℕ
  pub instructions : ℕ
  pub bytes : ℕ

-- The kernel's length stands last where it is accepted, and 0 where it is refused.
unfoldable pub printed_as : Answer → ℕ → Printed
printed_as (verdict number count) length = record { verdict = number; at = 0; instructions = count; bytes = length }
printed_as (refusal number offset) length = record { verdict = number; at = offset; instructions = 0; bytes = 0 }
printed_as (refusal_with number offset count) length = record { verdict = number; at = offset; instructions = 0; bytes = 0 }

-- A refusal is printed so, whether or not it counts.
pub printed_refused : (number offset : ℕ) (count : Option ℕ) (length : ℕ)
    → printed_as (refused_as number offset count) length ≡ record { verdict = number; at = offset; instructions = 0; bytes = 0 }
unfolding printed_as
printed_refused number offset None length = refl
printed_refused number offset (Some count) length = refl

unfoldable pub printed : List ℕ → List ℕ → Printed
printed dictionary kernel = printed_as (check_call dictionary kernel) (length kernel)

abbrev pub report_is : Report → Printed
report_is r = record { verdict = r.verdict; at = r.at; instructions = r.instructions; bytes = r.bytes }

-- ---- the text

-- `at=`, `instructions=` and `bytes=`; `verdict=` stands in logs too.
abbrev pub at_name : List ℕ
at_name = 97 ∷ 116 ∷ 61 ∷ []

abbrev pub instructions_name : List ℕ
instructions_name = 105 ∷ 110 ∷ 115 ∷ 116 ∷ 114 ∷ 117 ∷ 99 ∷ 116 ∷ 105 ∷ 111 ∷ 110 ∷ 115 ∷ 61 ∷ []

abbrev pub bytes_name : List ℕ
bytes_name = 98 ∷ 121 ∷ 116 ∷ 101 ∷ 115 ∷ 61 ∷ []

-- Four lines, a number on each.
unfoldable pub printed_text : Printed → List ℕ
printed_text p =
    line verdict_name (decimal p.verdict)
    ++ (line at_name (decimal p.at) ++ (line instructions_name (decimal p.instructions) ++ line bytes_name (decimal p.bytes)))

-- What the program writes for a dictionary and a kernel.
abbrev pub check_text : List ℕ → List ℕ → List ℕ
check_text dictionary kernel = printed_text (printed dictionary kernel)

-- What it writes for an input: the first bytes are the dictionary, what follows is the kernel.
unfoldable pub input_text : List ℕ → List ℕ
input_text input = check_text (take dictionary_bytes input) (drop dictionary_bytes input)

-- ---- laws

pub printed_by : (dictionary kernel : List ℕ) (a : Answer) → check_call dictionary kernel ≡ a → printed dictionary kernel ≡ printed_as a (length kernel)
unfolding printed
printed_by dictionary kernel a e = ap (λ x. printed_as x (length kernel)) e

-- A kernel that is too long is refused by 1, whatever it holds.
pub printed_over : (dictionary kernel : List ℕ) → kernel_bytes < length kernel
    → printed dictionary kernel ≡ record { verdict = 1; at = 0; instructions = 0; bytes = 0 }
unfolding printed printed_as check_call accepted
printed_over dictionary kernel h = rw (lt-leb _ _ h, and-false)

-- So the program, which reads one byte more than is allowed, prints what the whole input calls for.
pub printed_cut : (dictionary kernel : List ℕ) → kernel_bytes < length kernel → printed dictionary kernel ≡ printed dictionary (take (kernel_bytes + 1) kernel)
printed_cut dictionary kernel h =
    let most : kernel_bytes + 1 ≤ length kernel = omega arith in
    let still : kernel_bytes < length (take (kernel_bytes + 1) kernel) = simp length-take (omega arith) in
    printed_over dictionary kernel h ∙ sym (printed_over dictionary (take (kernel_bytes + 1) kernel) still)

pub take_in : (n k : ℕ) (l : List ℕ) → n ≤ k → take n (take k l) ≡ take n l
take_in zero k l h = refl
take_in (suc n) zero l h = absurd (omega arith)
take_in (suc n) (suc k) [] h = refl
take_in (suc n) (suc k) (x ∷ l) h = ap (λ (t : List ℕ). x ∷ t) (take_in n k l (omega arith))

-- Of a kernel one byte more than is allowed is enough.
printed_start : (dictionary kernel : List ℕ) → printed dictionary (take (kernel_bytes + 1) kernel) ≡ printed dictionary kernel
printed_start dictionary kernel =
    ⊎_elim
    (λ h. sym (printed_cut dictionary kernel h))
    (λ h. ap (printed dictionary) (take_all (kernel_bytes + 1) kernel (omega arith)))
    (below kernel_bytes (length kernel))

-- So what follows the first 66,049 bytes of an input changes nothing.
pub input_cut : (input : List ℕ) → input_text (take 66049 input) ≡ input_text input
unfolding input_text
input_cut input =
    ap (λ (d : List ℕ). check_text d (drop dictionary_bytes (take 66049 input))) (take_in dictionary_bytes 66049 input (omega arith))
    ∙ (ap (check_text (take dictionary_bytes input)) (drop-take dictionary_bytes (kernel_bytes + 1) input)
    ∙ ap printed_text (printed_start (take dictionary_bytes input) (drop dictionary_bytes input)))
