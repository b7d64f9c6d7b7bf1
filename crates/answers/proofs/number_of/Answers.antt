-- Each case of the answer is the number of what it means. Assumes nothing.
use Rattle.std.specs.Prelude.{◌≡◌, ℕ, ◌+◌, ◌*◌, ◌^◌, Option, None, Some}
use Rattle.std.specs.Option.{unwrap_or}
use Rattle.std.proofs.Common.{sym, ap, ◌∙◌, arith}
use Rattle.paper.specs.Calls.{as_number, verdict}
use Rattle.words.specs.Refusals.{number}
use Rattle.words.specs.Answer.{answer_is, refused_as}
use Rattle.answers.proofs.number_of.Goals as goal

told : (n count : ℕ) → n + 2 ^ 8 * 0 + 2 ^ 32 * count ≡ as_number (verdict n count)
unfolding as_number
told n count = omega arith

refused : (n offset : ℕ) (count : Option ℕ) → n + 2 ^ 8 * offset + 2 ^ 32 * unwrap_or count 0 ≡ as_number (refused_as n offset count)
unfolding as_number
refused n offset None = omega arith
refused n offset (Some count) = omega arith

pub returns-in-Ok : goal.returns-in-Ok
returns-in-Ok c =
    c.joined.ensures.sum ∙ ap (λ (n : ℕ). n + 2 ^ 8 * 0 + 2 ^ 32 * c.in-Ok.told.count) c.number.ensures.0 ∙ told _ c.in-Ok.told.count
    ∙ sym (ap as_number (ap answer_is c.in-Ok.is))

pub returns-in-Err : goal.returns-in-Err
returns-in-Err c =
    let r = c.in-Err.refused in
    rw c.in-Err.is
    (omega (arith, refused (number r.refusal) r.offset r.count, c.joined-in-Err.ensures.sum, c.number-in-Err.ensures, c.unwrap_or.ensures))
