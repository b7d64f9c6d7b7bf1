-- It is written where there is room. Assumes nothing.
use Rattle.rows.specs.Room.{all_there, put_there, put_none}
use Rattle.rows.proofs.bytes.put_number.Goals as goal

pub returns-then-not-has_room-clause-after : goal.returns-then-not-has_room-clause-after
returns-then-not-has_room-clause-after g c = (put_none _ _ _ _ c.has_room.ensures c.if-not-has_room.true _).0

pub write-requires : goal.write-requires
write-requires g c = all_there _ _ _ _ c.has_room.ensures c.if-not-has_room.false

pub returns-clause-after : goal.returns-clause-after
returns-clause-after g c = (put_there _ _ _ _ c.has_room.ensures c.if-not-has_room.false _ _ c.write.ensures).0
