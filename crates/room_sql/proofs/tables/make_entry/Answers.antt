use Rattle.room_sql.proofs.Common.{was_inside, entry_step, entry_beside}
use Rattle.room_sql.proofs.Frames.{inside_err, statement_ran}
use Rattle.room_sql.proofs.tables.make_entry.Goals as goal

pub returns-clause-ok : goal.returns-clause-ok
returns-clause-ok g c clean =
    let inside = was_inside _ _ c.in_ok-execute.field-0 _ _ c.execute.ensures.ended c.in_ok-execute.was in
    entry_step _ _ c.in_ok-execute.field-0 (c.in_ok-execute.ensures.runs clean inside)

pub returns-in_err-execute-clause-frame : goal.returns-in_err-execute-clause-frame
returns-in_err-execute-clause-frame g c =
    inside_err c.from_residual.ensures.0 (statement_ran _ _ c.execute.ensures.same_reference c.execute.ensures.ended
    c.execute.ensures.runs c.execute.ensures.survives)

pub returns-clause-spares : goal.returns-clause-spares
returns-clause-spares g c clean =
    let inside = was_inside _ _ c.in_ok-execute.field-0 _ _ c.execute.ensures.ended c.in_ok-execute.was in
    entry_beside _ _ c.in_ok-execute.field-0 (c.in_ok-execute.ensures.runs clean inside)
