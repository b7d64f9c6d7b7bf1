-- What list answered tells whether the listing stands there, or the four lines are to be written.
use Rattle.std.proofs.Common.{List, ℕ, ◌++◌, length, drop, ap, ap₂, ◌∙◌, arith}
use Rattle.lister.specs.Shown.{shown_listed, shown_refused}
use Rattle.lister.proofs.show.show.Goals as goal

pub returns-in-Ok : goal.returns-in-Ok
returns-in-Ok c =
    let t = shown_listed c.args.dictionary.now c.args.kernel.now c.args.out.now c.requires _ _ c.in-Ok.ensures.0 in
    (t.0, t.1, c.in-Ok.ensures.1 ∙ t.2)

pub returns-in-Err : goal.returns-in-Err
returns-in-Err c =
    let t = shown_refused c.args.dictionary.now c.args.kernel.now c.args.out.now c.requires _ _ c.in-Err.field-0.count c.in-Err.ensures.0 in
    let p = c.lines_on in
    (p.ensures.0 ∙ ap length t.1, omega (arith, p.ensures.1), p.ensures.2 ∙ ap₂ (λ (s o : List ℕ). s ++ drop p.result o) t.1 (c.in-Err.ensures.1 ∙ t.0))
