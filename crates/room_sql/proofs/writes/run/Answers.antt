use Rattle.room_sql.proofs.Common.{refl}
use Rattle.room_sql.proofs.Frames.{statement_ran, inside_ok, inside_err}
use Rattle.room_sql.proofs.writes.run.Goals as goal

pub returns-in-Ok-clause-frame : goal.returns-in-Ok-clause-frame
returns-in-Ok-clause-frame g c =
    inside_ok c.in-Ok.is (statement_ran _ _ c.execute.ensures.same_reference c.execute.ensures.ended
    c.execute.ensures.runs c.execute.ensures.survives)

pub returns-in-Err-clause-frame : goal.returns-in-Err-clause-frame
returns-in-Err-clause-frame g c =
    inside_err refl (statement_ran _ _ c.execute.ensures.same_reference c.execute.ensures.ended
    c.execute.ensures.runs c.execute.ensures.survives)
