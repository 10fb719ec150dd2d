use Rattle.room_sql.proofs.Common.{copied, copied_one}
use Rattle.room_sql.proofs.Frames.{ok_then}
use Rattle.room_sql.proofs.upgrade.copy_row.Goals as goal

pub returns-clause-ok : goal.returns-clause-ok
returns-clause-ok g c clean =
    ok_then c.run.result (c.run.ensures.done clean) (λ ran before. copied before _ _ ran.0 ran.1)

pub returns-clause-fewer : goal.returns-clause-fewer
returns-clause-fewer g c clean =
    ok_then c.run.result (c.run.ensures.done clean) (λ ran before. copied_one before _ _ ran.0 ran.1)
