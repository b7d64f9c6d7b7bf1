-- What is left after the place is compared with the size. Assumes nothing.
use Rattle.std.proofs.Common.{◌∙◌}
use borrow.Author.Tests.{lt-leb}
use Rattle.rows.specs.Room.{left_over, past_end}
use Rattle.rows.proofs.bytes.has_room.Goals as goal

pub returns-then-at-bytes : goal.returns-then-at-bytes
returns-then-at-bytes c = left_over _ _ _ c.if-at-bytes.true

pub returns-else-at-bytes : goal.returns-else-at-bytes
returns-else-at-bytes c = lt-leb _ _ c.if-at-bytes.false ∙ past_end _ _ _ c.if-at-bytes.false
