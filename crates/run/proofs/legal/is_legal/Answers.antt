-- The tests are the definition's, of the state that the bytes write. Assumes nothing.
use mathlib.Core.List.{[]}
use mathlib.Core.Path.{sym, ◌∙◌}
use Rattle.std.proofs.lemmas.Bool.{false≢true}
use Rattle.run.specs.Landing.{legal_misplaced, legal_unrested, legal_rested}
use Rattle.run.proofs.legal.is_legal.Goals as goal
use Rattle.run.proofs.legal.is_legal.Goals.{then-is_marked, else-is_marked}

pub returns-then-all_rest : goal.returns-then-all_rest
returns-then-all_rest c =
    elim c.if-is_marked.branch [
      | then-is_marked w ↦ c.three.ensures ∙ sym (legal_rested _ _ _ (c.read_state-s.ensures.0 []) (sym c.is_marked.ensures ∙ w.if-is_marked.true) (sym w.all_rest.ensures ∙ sym w.value-is ∙ c.if-all_rest.true))
      | else-is_marked w ↦ absurd (false≢true (sym w.if-is_marked.false ∙ sym w.value-is ∙ c.if-all_rest.true))
    ]

pub returns-else-all_rest : goal.returns-else-all_rest
returns-else-all_rest c =
    elim c.if-is_marked.branch [
      | then-is_marked w ↦ c.if-all_rest.false
          ∙ sym (legal_unrested _ _ _ (c.read_state-s.ensures.0 []) (sym c.is_marked.ensures ∙ w.if-is_marked.true) (sym w.all_rest.ensures ∙ sym w.value-is ∙ c.if-all_rest.false))
      | else-is_marked w ↦ c.if-all_rest.false ∙ sym (legal_misplaced _ _ _ (c.read_state-s.ensures.0 []) (sym c.is_marked.ensures ∙ w.if-is_marked.false))
    ]
