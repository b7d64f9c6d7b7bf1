-- An operation's row in the code says what the paper's does. Assumes nothing.
use Rattle.std.specs.Prelude.{◌≡◌}
use Rattle.paper.specs.Operation.{Plain, traits}
use Rattle.laws.specs.Sources.{reads_two}
use Rattle.words.specs.declared.traits.Row.{Row}

pub record Asked (p : Plain) (r : Row) : Type 0 where
  pub two : r.two ≡ reads_two p
  pub saturates : r.saturates ≡ (traits p).saturates
  pub modifiers : r.modifiers ≡ (traits p).modifiers
  pub floats : r.floats ≡ (traits p).floats
  pub compares : r.compares ≡ (traits p).compares
  pub masks : r.masks ≡ (traits p).masks
