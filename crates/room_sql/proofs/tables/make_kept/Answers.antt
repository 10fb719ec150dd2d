use Rattle.room_sql.proofs.Common.{executes_inside, kept_step, widens, kept_beside}
use Rattle.room_sql.proofs.Frames.{ok_then}
use Rattle.room_sql.proofs.tables.make_kept.Goals as goal

pub returns-clause-ok : goal.returns-clause-ok
returns-clause-ok g c clean =
    ok_then c.run.result (c.run.ensures.done clean) (λ ran. kept_step _ _ ran.0 ran.1)

pub returns-clause-beside : goal.returns-clause-beside
returns-clause-beside g c clean = ok_then c.run.result (c.run.ensures.done clean)
    (λ ran. ((executes_inside _ _ _ _ ran.0 ran.1).1.was_open, widens _ _ ran.0 ran.1))

pub returns-clause-spares : goal.returns-clause-spares
returns-clause-spares g c clean = ok_then c.run.result (c.run.ensures.done clean)
    (λ ran. kept_beside _ _ ran.0 ran.1)
