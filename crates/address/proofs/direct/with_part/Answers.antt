-- The field is written by shifts. Assumes nothing.
use Rattle.address.specs.Halves.{field_fits, shifts_fit, shifts_put}
use borrow.Author.Rules.{rules}
use Rattle.address.proofs.direct.with_part.Goals as goal

pub overflow_add-result : goal.overflow_add-result
overflow_add-result c =
    let a = c.args in
    record { fits = field_fits a.x a.k a.n a.v (search rules) c.requires.3 c.requires.0 }

pub overflow_add-result-2 : goal.overflow_add-result-2
overflow_add-result-2 c =
    let a = c.args in
    record { fits = shifts_fit a.x a.k a.n a.v (search rules) c.requires.3 c.requires.0 c.part.result c.part.ensures.0 }

pub returns : goal.returns
returns c =
    let a = c.args in
    shifts_put a.x a.k a.n a.v (search rules) c.requires.3 c.requires.0 c.part.result c.part.ensures.0
