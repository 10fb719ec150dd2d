use Rattle.room_sql.proofs.Common.{was_inside, room_step, room_beside}
use Rattle.room_sql.proofs.tables.make_room.Goals as goal

pub returns-clause-ok : goal.returns-clause-ok
returns-clause-ok g c clean none =
    let inside = was_inside _ _ c.in_ok-execute.field-0 _ _ c.execute.ensures.ended c.in_ok-execute.was in
    room_step _ _ c.in_ok-execute.field-0 (c.in_ok-execute.ensures.runs clean inside) none

pub returns-clause-spares : goal.returns-clause-spares
returns-clause-spares g c clean =
    let inside = was_inside _ _ c.in_ok-execute.field-0 _ _ c.execute.ensures.ended c.in_ok-execute.was in
    room_beside _ _ c.in_ok-execute.field-0 (c.in_ok-execute.ensures.runs clean inside)
