-- Both file fields stand in the low half. Assumes nothing.
use mathlib.Core.Path.{sym, ◌∙◌}
use Rattle.laws.specs.Expand.{form_low}
use Rattle.words.proofs.fields.immediate_form.Goals as goal

pub returns : goal.returns
returns c = c.form_of.ensures ∙ sym (form_low c.args.w.lo c.args.w.hi)
