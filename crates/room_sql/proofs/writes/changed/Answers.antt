use Rattle.room_sql.proofs.Frames.{statement_done, statement_ran}
use Rattle.room_sql.proofs.writes.changed.Goals as goal

pub returns-clause-frame : goal.returns-clause-frame
returns-clause-frame g c =
    statement_ran _ _ c.execute.ensures.same_reference c.execute.ensures.ended
    c.execute.ensures.runs c.execute.ensures.survives

pub returns-clause-done : goal.returns-clause-done
returns-clause-done g c clean =
    statement_done _ _ _ _ c.execute.result _ _ c.execute.ensures.ended (c.execute.ensures.runs clean)
