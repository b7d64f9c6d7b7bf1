-- An unusual word is settled where it has operands; else it acts as it stands. Assumes nothing.
use mathlib.Core.Logic.{inl, inr}
use mathlib.Core.Path.{refl, sym, ap, ◌∙◌}
use Rattle.laws.specs.Regions.{legal_plain}
use Rattle.words.specs.Words.{to_word}
use Rattle.words.specs.Operations.{operation_is}
use Rattle.run.specs.Acting.{acts_usual, acts_said, acts_other}
use Rattle.run.proofs.acting.acting.Goals as goal

pub returns-then-not-unusual : goal.returns-then-not-unusual
returns-then-not-unusual c = let p = c.requires in acts_usual _ _ p.0 (p.2 c.if-not-unusual.true)

pub settle-requires : goal.settle-requires
settle-requires c =
    let p = c.requires in
    (p.1, legal_plain _ _ (sym c.operation.ensures ∙ ap operation_is c.in-Makes.is) p.0)

pub returns-in-Makes : goal.returns-in-Makes
returns-in-Makes c =
    acts_said c.args.addresses.now (to_word c.args.w) _ (sym c.operation.ensures ∙ ap operation_is c.in-Makes.is) c.requires.0 c.settle.result c.settle.ensures c.told.result c.told.ensures

pub returns-in-Nop : goal.returns-in-Nop
returns-in-Nop c =
    elim c.in-Nop.is [
      | inl e ↦ acts_other _ _ _ (sym c.operation.ensures ∙ ap operation_is e) refl
      | inr other ↦ elim other [
        | inl jump ↦ acts_other _ _ _ (sym c.operation.ensures ∙ ap operation_is jump.1) refl
        | inr e ↦ acts_other _ _ _ (sym c.operation.ensures ∙ ap operation_is e) refl
      ]
    ]
