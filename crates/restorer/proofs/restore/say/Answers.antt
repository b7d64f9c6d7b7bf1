-- What is written is the refusal's text, or a beginning of it.
use Rattle.std.proofs.Common.{ℕ, ap, ◌∙◌}
use Rattle.front.specs.Printed.{printed_text}
use Rattle.front.proofs.Said.{all_written, part_written, first_is}
use Rattle.restorer.specs.Restored.{refusal_text}
use Rattle.restorer.proofs.restore.say.Goals as goal

pub returns-clause-ok : goal.returns-clause-ok
unfolding refusal_text
returns-clause-ok g c =
    all_written _ _ _ _ _ (first_is _ _ _ _ c.put_report-n.ensures.0 c.put_report-n.ensures.2 ∙ ap printed_text (c.refused.ensures ∙ ap (λ (n : ℕ). record { verdict = n; at = c.args.refusing.offset; instructions = 0; bytes = 0 }) c.number.ensures.0)) c.write_full.ensures.ok

pub returns-clause-err : goal.returns-clause-err
unfolding refusal_text
returns-clause-err g c =
    part_written _ _ _ _ _ (first_is _ _ _ _ c.put_report-n.ensures.0 c.put_report-n.ensures.2 ∙ ap printed_text (c.refused.ensures ∙ ap (λ (n : ℕ). record { verdict = n; at = c.args.refusing.offset; instructions = 0; bytes = 0 }) c.number.ensures.0)) c.write_full.ensures.err
