-- What the program that reads listings back writes, by what reading answers. Assumes nothing.
use Rattle.std.specs.Prelude.{Option, None, Some, refl, List, [], ◌≡◌, ℕ, ◌+◌, length, take, drop, replicate}
use Rattle.std.proofs.Common.{sym, ap, ◌∙◌, arith, ⊎_elim, take_all}
use Rattle.std.proofs.lemmas.List.{drop-take}
use Rattle.paper.specs.Limits.{dictionary_bytes, kernel_bytes}
use Rattle.paper.specs.Calls.{Answer, verdict, refusal, refusal_with, Written}
use Rattle.paper.specs.Listing.{read_call}
use Rattle.text.specs.Decimals.{below}
use Rattle.words.specs.Answer.{refused_as}
use Rattle.front.specs.Printed.{printed_text, take_in}
use Rattle.restorer.specs.Cut.{most_text, read_cut}

-- The four lines of a refusal.
unfoldable pub refusal_text : ℕ → ℕ → List ℕ
refusal_text number offset = printed_text (record { verdict = number; at = offset; instructions = 0; bytes = 0 })

-- To standard output the kernel, and nothing where the text is refused;
abbrev pub output_by : Answer → List ℕ → List ℕ
output_by (verdict number count) kernel = take count kernel
output_by (refusal number offset) kernel = []
output_by (refusal_with number offset count) kernel = []

-- to standard error the lines of a refusal.
abbrev pub errors_by : Answer → List ℕ
errors_by (verdict number count) = []
errors_by (refusal number offset) = refusal_text number offset
errors_by (refusal_with number offset count) = refusal_text number offset

-- Of a refusal, whether or not it counts, the lines alone are written.
pub refused_lines : (number offset : ℕ) (count : Option ℕ) (kernel : List ℕ)
    → (output_by (refused_as number offset count) kernel ≡ []) × (errors_by (refused_as number offset count) ≡ refusal_text number offset)
refused_lines number offset None kernel = (refl, refl)
refused_lines number offset (Some count) kernel = (refl, refl)

abbrev pub output_of : Written → List ℕ
output_of w = output_by w.answer w.output

abbrev pub errors_of : Written → List ℕ
errors_of w = errors_by w.answer

-- What is read of an input: its first bytes are the dictionary, what follows is the text.
unfoldable pub restored : List ℕ → Written
restored input = read_call (take dictionary_bytes input) (drop dictionary_bytes input) (replicate kernel_bytes 0)

abbrev pub restored_output : List ℕ → List ℕ
restored_output input = output_of (restored input)

abbrev pub restored_errors : List ℕ → List ℕ
restored_errors input = errors_of (restored input)

-- What follows the first 287,233 bytes of an input changes nothing.
pub restored_cut : (input : List ℕ) → restored (take 287233 input) ≡ restored input
unfolding restored
restored_cut input =
    ap (λ (d : List ℕ). read_call d (drop dictionary_bytes (take 287233 input)) (replicate kernel_bytes 0)) (take_in dictionary_bytes 287233 input (omega arith))
    ∙ (ap (λ (t : List ℕ). read_call (take dictionary_bytes input) t (replicate kernel_bytes 0)) (drop-take dictionary_bytes (most_text + 1) input)
    ∙ start (take dictionary_bytes input) (drop dictionary_bytes input) (replicate kernel_bytes 0))
  where
    start : (dictionary text out : List ℕ) → read_call dictionary (take (most_text + 1) text) out ≡ read_call dictionary text out
    start dictionary text out =
        ⊎_elim
        (λ h. sym (read_cut dictionary text out h))
        (λ h. ap (λ (t : List ℕ). read_call dictionary t out) (take_all (most_text + 1) text (omega arith)))
        (below most_text (length text))
