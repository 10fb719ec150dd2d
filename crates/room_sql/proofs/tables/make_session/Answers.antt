use Rattle.room_sql.proofs.Common.{was_inside, session_step, session_beside}
use Rattle.room_sql.proofs.tables.make_session.Goals as goal

pub returns-clause-ok : goal.returns-clause-ok
returns-clause-ok g c clean =
    let inside = was_inside _ _ c.in_ok-execute.field-0 _ _ c.execute.ensures.ended c.in_ok-execute.was in
    session_step _ _ c.in_ok-execute.field-0 (c.in_ok-execute.ensures.runs clean inside)

pub returns-clause-spares : goal.returns-clause-spares
returns-clause-spares g c clean =
    let inside = was_inside _ _ c.in_ok-execute.field-0 _ _ c.execute.ensures.ended c.in_ok-execute.was in
    session_beside _ _ c.in_ok-execute.field-0
    (c.in_ok-execute.ensures.runs clean inside)
